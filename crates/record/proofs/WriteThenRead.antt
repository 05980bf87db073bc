-- `write-then-read`: reading the bytes that were written, with the same n and m, gives the same kind and values, and of a loop the
-- same n and m.
use mathlib.Core.Path.{◌≡◌, refl, ◌∙◌}
use Prim.Native.Nat.{ℕ, ◌≤◌}
use mathlib.Core.Bool.{Bool, true, false, cond}
use mathlib.Core.List.{List, ◌++◌}
use lib.IntN.{ℤ}
use lib.ListN.{length, take, drop}
use lib.Seq.{take-append_seam}
use borrow.Author.Tests.{le-leb}
use Rattle.refusal.specs.Tests.{Told, done, refused, first, number}
use Rattle.refusal.proofs.TestLaws.{passes_done, done_passes, passes_append, zero_done}
use Rattle.record.specs.Layouts.{Kind, kind_of, is_loop}
use Rattle.record.specs.Readers as R
use Rattle.record.specs.Readers.{Reader, sound, enough_room, reading}
use Rattle.record.specs.Wants.{certificates_read}
use Rattle.record.specs.Writers as W
use Rattle.record.specs.Writers.{Writer, writing}
use Rattle.record.proofs.KindLaws.{no_loop, written_read}
use Rattle.record.proofs.WritableRecords.{Writable, writing_says}
use Rattle.record.proofs.WrittenBytes.{over, kind_read, bytes_long, counts_same, kind_same, list_same, passes_sound}

-- a reading is done: what it answers, and the list afterwards, which begins with these values and is as it was past them
pub record ReadsIn (r : Reader) (lent : List ℤ) (kind n m : ℕ) (zs : List ℤ) : Type 0 where
  pub answers : R.reads r ≡ record { number = 0; place = 0; kind = kind; n = n; m = m; count = length zs }
  pub list_holds : R.fills r lent ≡ zs ++ drop (length zs) lent

reads_over : (w : Writer) (wants : Kind → Bool) (lent : List ℤ) → Writable w → wants (W.kind w) ≡ true → length w.list ≤ length lent
    → ReadsIn (over w wants (length lent)) lent w.kind_number (cond (is_loop (W.kind w)) w.n 0) (cond (is_loop (W.kind w)) w.m 0) w.list
unfolding R.reads R.fills R.answer R.filled reading enough_room R.kind_number W.counts_given
reads_over w wants lent s wanted fits =
    let r = over w wants (length lent) in
    let same = list_same w s wants (length lent) in
    let there : length (R.list r) ≤ length lent = rw same fits in
    let told : first reading r ≡ done = passes_done reading r (passes_append sound enough_room r (passes_sound w s wants (length lent) wanted) (le-leb _ _ there, tt)) in
    record {
      answers = rw (told, kind_same w s wants (length lent), counts_same w s wants (length lent), same, kind_read w s);
      list_holds = rw (told, same);
    }

-- what a writing that tells 0 left in the room
pub record HasWritten (w : Writer) (room : List ℕ) : Type 0 where
  pub writable : Writable w
  pub bytes_told : take (W.writes w).written (W.room_after w room) ≡ W.record_bytes w

pub has_written : (w : Writer) (room : List ℕ) → (W.writes w).number ≡ 0 → HasWritten w room
unfolding W.writes W.room_after W.answer W.filled writing number
has_written w room zero_told =
    let told : first writing w ≡ done = zero_done writing w refl (number_told (first writing w) ∙ zero_told) in
    let s = writing_says w (done_passes writing w told) in
    record { writable = s; bytes_told = rw (told, ← bytes_long w s) (take-append_seam (W.record_bytes w) (drop (length (W.record_bytes w)) room)) }
  where
    number_told : (t : Told) → number t ≡ (W.answer t w).number
    number_told done = refl
    number_told (refused k p) = refl

-- of a loop: kind, n, m and values come back
pub write_then_read_loop : (n m : ℕ) (zs : List ℤ) (room : List ℕ) (lent : List ℤ) → length zs ≤ length lent
    → (W.writes (W.writer 1 n m zs room)).number ≡ 0
    → ReadsIn (R.loop_reader (take (W.writes (W.writer 1 n m zs room)).written (W.room_after (W.writer 1 n m zs room) room)) lent) lent 1 n m zs
unfolding W.writer R.loop_reader W.kind kind_of is_loop
write_then_read_loop n m zs room lent fits zero_told =
    let w = W.writer 1 n m zs room in
    let h = has_written w room zero_told in
    rw h.bytes_told (reads_over w is_loop lent h.writable refl fits)

-- of a certificate, read with the same n and m: kind and values come back
pub write_then_read_certificate : (kind n m : ℕ) (zs : List ℤ) (room : List ℕ) (lent : List ℤ) → (kind ≡ 1 → ⊥) → length zs ≤ length lent
    → (W.writes (W.writer kind n m zs room)).number ≡ 0
    → ReadsIn (R.certificate_reader (take (W.writes (W.writer kind n m zs room)).written (W.room_after (W.writer kind n m zs room) room)) n m lent) lent kind 0 0 zs
unfolding W.writer R.certificate_reader W.kind
write_then_read_certificate kind n m zs room lent not-one fits zero_told =
    let w = W.writer kind n m zs room in
    let h = has_written w room zero_told in
    let not_loop : is_loop (kind_of kind) ≡ false = no_loop kind not-one in
    rw h.bytes_told (rw not_loop at (reads_over w certificates_read lent h.writable (written_read _ h.writable.known not_loop) fits))
