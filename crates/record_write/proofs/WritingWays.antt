-- The ways through a writing: what a settled or refused call answers, and what it leaves in the room.
use Rattle.std.specs.Prelude.{Ok, Err}
use mathlib.Core.Path.{◌≡◌, refl, ap, ◌∙◌}
use Prim.Native.Nat.{ℕ, ◌+◌, ◌≤◌, ◌<◌}
use mathlib.Core.List.{List, [], ◌++◌}
use native.Mathlib.Omega.{arith}
use lib.ListN.{length, drop, length-append}
use lib.Seq.{sets}
use borrow.Author.Tests.{le-leb, lt-leb}
use Rattle.endian.specs.Numbers.{digits}
use Rattle.endian.proofs.Laws.{length_digits}
use Rattle.refusal.specs.declared.Fault.{Fault}
use Rattle.refusal.specs.Faults.{result_of}
use Rattle.refusal.specs.Tests.{Told, done, refused, first}
use Rattle.refusal.proofs.TestLaws.{passed, failed, passes_done, done_passes, first_then, first_told}
use Rattle.record.specs.declared.Counts.{Counts}
use Rattle.record.specs.Layouts.{length_of}
use Rattle.record.specs.Writings.{written_of}
use Rattle.record.specs.Writers.{Writer, kind, counts_given, fields, length_stated, numbers_ahead, record_bytes, writing, answer, filled, writer, writes, room_after}
use Rattle.record.proofs.KindLaws.{known_small}
use Rattle.record.proofs.Lengths.{length_law, length_most}
use Rattle.record_fields.proofs.Copies.{sets_front}
use Rattle.record_given.specs.Settled.{settling, settled}
use Rattle.record_given.proofs.CountingWays.{refusal}
use Rattle.record_given.proofs.SettledAnswers.{Settled, settled_done, settled_refused, says}
use Rattle.record_given.proofs.SettlingWays.{any_room}
use Rattle.record_fill.specs.Bodies.{body_bytes}
use Rattle.record_write.specs.WrittenOut.{ToWrite, bytes_told}
use Rattle.record_fill.proofs.BodyBytes.{body_long}

module _ (w : Writer) (room : List ℕ) (room_is : w.room ≡ length room) where
  refuses : {k p : ℕ} → first writing w ≡ refused k p → (refusal k p ≡ bytes_told w) × (room ≡ room_after w room)
  unfolding bytes_told result_of room_after filled
  refuses told = rw told (refl, refl)

  -- what came to the writer makes no record
  pub pass_on : (f : Fault) → Err f ≡ settled (writer w.kind_number w.n w.m w.list []) → (Err f ≡ bytes_told w) × (room ≡ room_after w room)
  unfolding settling writing
  pass_on f is = refuses (first_told settling (drop 6 writing) w f.number f.place (settled_refused w f (is ∙ any_room w)))

  -- it makes one
  module _ (c : Counts) (is : Ok c ≡ settled (writer w.kind_number w.n w.m w.list [])) where
    its : Settled w c
    its = says w c (is ∙ any_room w)

    pub small : (c.n ≤ 16) × (c.m ≤ 64) × (c.ms ≤ 64)
    small = (its.variables, its.rows, its.stem_rows)

    then : first writing w ≡ first (drop 6 writing) w
    unfolding settling writing
    then = first_then settling (drop 6 writing) w (done_passes settling w (settled_done w c (is ∙ any_room w)))

    module _ (long : ℕ) (long_is : long ≡ length_of (kind w) c) where
      pub long_most : long ≤ 4914
      long_most = rw long_is (length_most (kind w) c its.variables its.rows its.stem_rows)

      stated : long ≡ length_stated w
      unfolding length_stated
      stated = long_is ∙ ap (length_of (kind w)) its.counts_are

      pub no_room : length room < 4 + long → (refusal 7 (4 + long) ≡ bytes_told w) × (room ≡ room_after w room)
      unfolding writing
      no_room h =
          let few : w.room < 4 + length_stated w = omega (arith, stated, room_is) in
          rw stated (refuses (then ∙ failed _ _ _ _ w (lt-leb _ _ few)))

      module _ (enough : 4 + long ≤ length room) where
        pub ready : ToWrite w.kind_number c long w.list room
        unfolding kind fields
        ready =
            record {
              fitting = record { variables = its.variables; rows = its.rows; counted = its.long; fit = its.fit };
              known = its.known;
              kind_fits = omega (arith, known_small w.kind_number its.known);
              long_is = long_is;
              long_fits = (
                omega (arith, long_is, length_law (kind w) c its.known),
                omega (arith, long_most),
              );
              room_for = enough;
            }

        -- the bytes of the record
        bytes : List ℕ
        bytes = digits 4 long ++ (digits 2 w.kind_number ++ body_bytes w.kind_number c w.list)

        bytes_are : bytes ≡ record_bytes w
        unfolding bytes record_bytes body_bytes numbers_ahead fields kind counts_given
        bytes_are = rw (its.counts_are, stated)

        bytes_long : length bytes ≡ 4 + long
        unfolding bytes kind
        bytes_long =
            simp (length-append, length_digits) (omega (arith, long_is, body_long w.kind_number c w.list ready.fitting ready.known))

        pub written : {last : List ℕ}
            → last ≡ sets room 0 (digits 4 long ++ (digits 2 w.kind_number ++ body_bytes w.kind_number c w.list))
            → (Ok (4 + long) ≡ bytes_told w) × (last ≡ room_after w room)
        unfolding bytes_told result_of room_after filled writing bytes
        written out =
            let enough_stated : 4 + length_stated w ≤ w.room = omega (arith, stated, room_is) in
            let told : first writing w ≡ done = then ∙ passed _ _ _ _ w (le-leb _ _ enough_stated) ∙ passes_done [] w tt in
            let last_is = out ∙ sets_front room bytes (omega (arith, bytes_long)) in
            rw (told, ← stated) (refl, rw (bytes_long, bytes_are) at last_is)

-- ---- the answer

told_answer : (w : Writer) (t : Told) → written_of (result_of t (4 + length_stated w)) ≡ answer t w
unfolding result_of answer
told_answer w done = refl
told_answer w (refused k p) = refl

pub answers : (w : Writer) → written_of (bytes_told w) ≡ writes w
unfolding bytes_told writes
answers w = told_answer w (first writing w)
