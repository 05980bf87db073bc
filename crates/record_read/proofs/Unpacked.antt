-- Unpacking the record that a reader's check answered for is what the reader answers and what it leaves in the list.
use Rattle.std.specs.Prelude.{Ok, Err}
use mathlib.Core.Path.{◌≡◌, refl, sym, ◌∙◌}
use Prim.Native.Nat.{ℕ, ◌≤◌, ◌<◌}
use mathlib.Core.Bool.{cond}
use mathlib.Core.List.{List, ◌++◌}
use native.Mathlib.Omega.{arith}
use lib.Dec.{ltb}
use lib.IntN.{ℤ}
use lib.ListN.{length, drop}
use lib.Seq.{sets}
use borrow.Author.Tests.{le-leb, lt-leb, le-ltb, lt-ltb, ltb-true, ltb-false}
use Rattle.refusal.specs.declared.Fault.{Fault}
use Rattle.refusal.specs.Tests.{done, refused, first}
use Rattle.refusal.proofs.TestLaws.{either, passed, failed, passes_done, done_passes, first_then, first_told}
use Rattle.record.specs.Layouts.{kind_of, is_loop}
use Rattle.record.specs.Readers.{Reader, stated_length, kind_number, kind, counts_read, fields, list_start, list, sound, enough_room, reading, answer, filled, reads, fills}
use Rattle.record.proofs.FieldLaws.{length_values}
use Rattle.record_fields.specs.Runs.{value_count}
use Rattle.record.proofs.KindLaws.{no_loop}
use Rattle.record_fields.proofs.Copies.{sets_front}
use Rattle.record_fields.proofs.BodyParts.{count_law}
use Rattle.record_check.specs.declared.Checked.{Checked}
use Rattle.record_check.specs.Checks.{said, checks}
use Rattle.record.proofs.SoundRecords.{counts_small}
use Rattle.record_check.proofs.CheckAnswers.{accepted, accepted_is, refused_so, sound_record}
use Rattle.record_values.specs.ListsHeld.{list_of}
use Rattle.record_read.specs.Unpacks.{refusal, counts_of, Sized, unpacked, unpacks}

-- ---- the ways through `unpack`

module _ (bytes : List ℕ) (v : Checked) (lent : List ℤ) (count : ℕ) (is : count ≡ value_count (kind_of v.kind) (counts_of v)) where
  pub no_places : length lent < count → (refusal 7 count ≡ unpacked v lent) × (lent ≡ unpacks bytes v lent)
  unfolding unpacked unpacks
  no_places h = rw (← is, lt-ltb _ _ h) (refl, refl)

  module _ (enough : count ≤ length lent) (last : List ℤ) (filled_so : last ≡ sets lent 0 (list_of bytes v.kind (counts_of v))) where
    list_size : length (list_of bytes v.kind (counts_of v)) ≡ count
    unfolding list_of
    list_size = length_values _ _ ∙ count_law (kind_of v.kind) (counts_of v) ∙ sym is

    last_is : last ≡ list_of bytes v.kind (counts_of v) ++ drop count lent
    last_is = filled_so ∙ rw (← list_size) (sets_front lent (list_of bytes v.kind (counts_of v)) (omega (arith, list_size)))

    pub unpacked_loop : v.kind ≡ 1
        → (record { number = 0; place = 0; kind = v.kind; n = v.n; m = v.m; count = count } ≡ unpacked v lent) × (last ≡ unpacks bytes v lent)
    unfolding unpacked unpacks is_loop kind_of
    unpacked_loop one = rw (← is, le-ltb _ _ enough, one) (refl, rw one at last_is)

    pub unpacked_certificate : (v.kind ≡ 1 → ⊥)
        → (record { number = 0; place = 0; kind = v.kind; n = 0; m = 0; count = count } ≡ unpacked v lent) × (last ≡ unpacks bytes v lent)
    unfolding unpacked unpacks
    unpacked_certificate other = rw (← is, le-ltb _ _ enough, no_loop v.kind other) (refl, last_is)

-- ---- a reader's record

module _ (r : Reader) (lent : List ℤ) (room_is : r.room ≡ length lent) where
  list_long : length (list r) ≡ value_count (kind r) (counts_read r)
  unfolding list fields
  list_long = length_values (fields r) (drop (list_start r) r.bytes) ∙ count_law (kind r) (counts_read r)

  refuses : {k p : ℕ} → first reading r ≡ refused k p → (refusal k p ≡ reads r) × (lent ≡ fills r lent)
  unfolding reads fills answer filled
  refuses told = rw told (refl, refl)

  module _ (told : first sound r ≡ done) where
    then : first reading r ≡ first enough_room r
    unfolding reading
    then = first_then sound enough_room r (done_passes sound r told)

    no_room : length lent < value_count (kind r) (counts_read r) → (refusal 7 (value_count (kind r) (counts_read r)) ≡ reads r) × (lent ≡ fills r lent)
    unfolding enough_room
    no_room h =
        let few : r.room < length (list r) = omega (arith, list_long, room_is) in
        rw (← list_long) (refuses (then ∙ failed _ _ _ _ r (lt-leb _ _ few)))

    room : value_count (kind r) (counts_read r) ≤ length lent → first reading r ≡ done
    unfolding enough_room
    room h =
        let enough : length (list r) ≤ r.room = omega (arith, list_long, room_is) in
        then ∙ passed _ _ _ _ r (le-leb _ _ enough) ∙ passes_done _ r tt

    all_read : value_count (kind r) (counts_read r) ≤ length lent
        → (record {
          number = 0;
          place = 0;
          kind = kind_number r;
          n = cond (is_loop (kind r)) (counts_read r).n 0;
          m = cond (is_loop (kind r)) (counts_read r).m 0;
          count = value_count (kind r) (counts_read r);
        } ≡ reads r)
        × (list r ++ drop (value_count (kind r) (counts_read r)) lent ≡ fills r lent)
    unfolding reads fills answer filled
    all_read h = rw (← list_long, room h) (refl, refl)

  -- a record that was checked: it is as long as it says, and unpacking it is what the reader does
  module _ (v : Checked) (is : Ok v ≡ checks r) where
    pub sized : Sized r.bytes v
    unfolding said kind stated_length
    sized =
        let s = sound_record r v is in
        let small = counts_small r s in
        rw (accepted_is r v is)
        (record { variables = small.0; rows = small.1; stem_rows = small.2; long = omega (arith, s.whole, s.formula) })

    pub unpack_reads : (unpacked v lent ≡ reads r) × (unpacks r.bytes v lent ≡ fills r lent)
    unfolding unpacked unpacks said kind list fields list_start list_of reading
    unpack_reads =
        let told = accepted r v is in
        rw (accepted_is r v is)
        (either (ltb (length lent) (value_count (kind r) (counts_read r)))
        (λ few. rw few (no_room told (ltb-true _ _ few)))
        (λ enough. rw enough (all_read told (ltb-false _ _ enough))))

  -- and one that was refused
  pub refused_reads : (f : Fault) → Err f ≡ checks r → (refusal f.number f.place ≡ reads r) × (lent ≡ fills r lent)
  unfolding reading
  refused_reads f is = refuses (first_told sound enough_room r f.number f.place (refused_so r f is))
