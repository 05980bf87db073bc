-- What the two calls tell: a refusal of the record, 7 where it has no room, and else what was written.
use Rattle.std.specs.Prelude.{Result, Ok, Err}
use mathlib.Core.Path.{◌≡◌, refl, sym, ◌∙◌}
use Prim.Native.Nat.{ℕ, ◌+◌, ◌*◌, ◌≤◌, ◌<◌}
use mathlib.Core.Bool.{true, false}
use mathlib.Core.List.{List, [], ◌++◌}
use native.Mathlib.Omega.{arith}
use lib.ListN.{length, drop}
use borrow.Author.Tests.{le-leb, lt-leb}
use Rattle.refusal.specs.declared.Fault.{Fault}
use Rattle.refusal.specs.Faults.{result_of}
use Rattle.refusal.specs.Tests.{Told, done, refused, first}
use Rattle.refusal.proofs.FaultLaws.{told_refused, gives, refuses}
use Rattle.refusal.proofs.TestLaws.{passed, failed, passes_done, done_passes, first_then, first_told}
use Rattle.record.specs.declared.Wanted.{Wanted}
use Rattle.record.specs.Readers as R
use Rattle.record.specs.Readers.{sound}
use Rattle.record.specs.Writings.{written_of}
use Rattle.record.proofs.CountLimits.{rows_most}
use Rattle.record_check.specs.declared.Checked.{Checked}
use Rattle.record_check.specs.Checks.{checks, certificate_check}
use Rattle.record_check.proofs.CheckAnswers.{accepted, refused_so}
use Rattle.record_check.proofs.FrameWays.{stopped}
use Rattle.record_paths.specs.PathFields.{bytes_alone}
use Rattle.record_short.specs.Conversions.{ranking_given, triples_needed, short_bytes, shortening, lengthening, converted, put_first}
use Rattle.record_short.specs.Conversions.{shortening_told, lengthening_told, shortened_room, lengthened_room}
use Rattle.record_short.specs.ShortRecords.{sound_short, long_bytes}
use Rattle.record_short.proofs.LongRecords.{length_long}
use Rattle.record_short.proofs.LongSound.{long_sound}
use Rattle.record_short.proofs.ShortBytes.{length_short}
use Rattle.record_short.proofs.ShortSound.{ShortSound, sound_short_bytes}
use Rattle.record_short_write.specs.Rooms.{Lengthens, Lists}

-- what a call answers of what is told
pub converts : (told : Told) (record_bytes : List ℕ) (long : ℕ) → length record_bytes ≡ long → written_of (result_of told long) ≡ converted told record_bytes
unfolding result_of converted
converts done record_bytes long is = rw (← is)
converts (refused k p) record_bytes long is = refl

-- what a short record that is sound has for lengthening
pub sound_lengthens : (n m : ℕ) (bytes : List ℕ) → ShortSound n m bytes → Lengthens m bytes
sound_lengthens n m bytes s = record { few_rows = rows_most m s.m_fits; few = s.few; long = s.long; rows_below = s.rows_below }

module _ (bytes : List ℕ) (n m : ℕ) (room : List ℕ) where
  -- ---- kind 7 to kind 2

  abbrev Lengthened : Result ℕ Fault → List ℕ → Type 0
  Lengthened answer last = (answer ≡ result_of (lengthening_told bytes n m room) (6 + 4 * m)) × (last ≡ lengthened_room bytes n m room)

  lengthen_tells : {k p : ℕ} → lengthening_told bytes n m room ≡ refused k p → Lengthened (Err (record { number = k; place = p })) room
  unfolding lengthened_room put_first
  lengthen_tells told = (refuses (6 + 4 * m) told, rw told)

  same_tests : first (sound_short n m) (ranking_given bytes n m (length room)) ≡ first (sound_short n m) (bytes_alone bytes)
  unfolding ranking_given
  same_tests = sound_short_bytes n m (ranking_given bytes n m (length room))

  pub unsound_short : (f : Fault) → stopped f ≡ result_of (first (sound_short n m) (bytes_alone bytes)) tt → Lengthened (Err f) room
  unfolding lengthening_told lengthening
  unsound_short f is =
      lengthen_tells
      (first_told (sound_short n m) _ (ranking_given bytes n m (length room)) f.number f.place
      (same_tests ∙ told_refused (first (sound_short n m) (bytes_alone bytes)) tt f is))

  module _ (told : first (sound_short n m) (bytes_alone bytes) ≡ done) where
    past_tests : lengthening_told bytes n m room ≡ first (drop 12 (lengthening n m)) (ranking_given bytes n m (length room))
    unfolding lengthening_told lengthening sound_short
    past_tests =
        let r = ranking_given bytes n m (length room) in
        first_then (sound_short n m) _ r (done_passes (sound_short n m) r (same_tests ∙ told))

    pub long_refused : length room < 6 + 4 * m → Lengthened (Err (record { number = 7; place = 6 + 4 * m })) room
    unfolding lengthening sound_short ranking_given
    long_refused h = lengthen_tells (past_tests ∙ failed _ _ _ _ (ranking_given bytes n m (length room)) (lt-leb _ _ h))

    pub long_written : 6 + 4 * m ≤ length room → (last : List ℕ) → last ≡ long_bytes n m bytes ++ drop (6 + 4 * m) room → Lengthened (Ok (6 + 4 * m)) last
    unfolding lengthening sound_short ranking_given lengthened_room put_first
    long_written enough last written =
        let r = ranking_given bytes n m (length room) in
        let all : lengthening_told bytes n m room ≡ done = past_tests ∙ passed _ _ _ _ r (le-leb _ _ enough) ∙ passes_done [] r tt in
        (gives (6 + 4 * m) all, rw (all, length_long n m bytes) written)

  -- ---- kind 2 to kind 7

  abbrev Shortened : Result ℕ Fault → List ℕ → Type 0
  Shortened answer last = (answer ≡ result_of (shortening_told bytes n m room) (8 + 6 * triples_needed m bytes)) × (last ≡ shortened_room bytes n m room)

  shorten_tells : {k p : ℕ} → shortening_told bytes n m room ≡ refused k p → Shortened (Err (record { number = k; place = p })) room
  unfolding shortened_room put_first
  shorten_tells told = (refuses (8 + 6 * triples_needed m bytes) told, rw told)

  abbrev rankings : Wanted
  rankings = record { ranking = true; exclusion = false; lasso = false }

  -- the tests of a sound record don't ask for the room
  same_sound : first sound (certificate_check rankings bytes n m) ≡ first sound (ranking_given bytes n m (length room))
  unfolding
      first sound certificate_check ranking_given R.stated_length R.kind_number R.kind R.counts_read R.fields R.list_start R.count_list R.list
      R.arguments_fit
  same_sound = refl

  pub unsound_long : (f : Fault) → Err f ≡ checks (certificate_check rankings bytes n m) → Shortened (Err f) room
  unfolding shortening_told shortening
  unsound_long f is =
      shorten_tells
      (first_told sound _ (ranking_given bytes n m (length room)) f.number f.place (sym same_sound ∙ refused_so (certificate_check rankings bytes n m) f is))

  module _ (v : Checked) (is : Ok v ≡ checks (certificate_check rankings bytes n m)) where
    sound_told : first sound (ranking_given bytes n m (length room)) ≡ done
    sound_told = sym same_sound ∙ accepted (certificate_check rankings bytes n m) v is

    pub found_lists : Lists m bytes
    found_lists = let s = long_sound n m bytes (length room) sound_told in record { few_rows = rows_most m s.m_fits; long = s.long }

    past_sound : shortening_told bytes n m room ≡ first (drop 10 shortening) (ranking_given bytes n m (length room))
    unfolding shortening_told shortening sound
    past_sound =
        let r = ranking_given bytes n m (length room) in
        first_then sound _ r (done_passes sound r sound_told)

    module _ (count : ℕ) (counted : count ≡ triples_needed m bytes) where
      pub short_refused : length room < 8 + 6 * count → Shortened (Err (record { number = 7; place = 8 + 6 * count })) room
      unfolding shortening sound ranking_given
      short_refused h =
          let few : length room < 8 + 6 * triples_needed m bytes = omega arith in
          rw counted (shorten_tells (past_sound ∙ failed _ _ _ _ (ranking_given bytes n m (length room)) (lt-leb _ _ few)))

      pub short_written : 8 + 6 * count ≤ length room → (last : List ℕ) → last ≡ short_bytes m bytes ++ drop (8 + 6 * count) room
          → Shortened (Ok (8 + 6 * count)) last
      unfolding shortening sound ranking_given shortened_room put_first
      short_written enough last written =
          let r = ranking_given bytes n m (length room) in
          let fits : 8 + 6 * triples_needed m bytes ≤ length room = omega arith in
          let all : shortening_told bytes n m room ≡ done = past_sound ∙ passed _ _ _ _ r (le-leb _ _ fits) ∙ passes_done [] r tt in
          (rw counted (gives (8 + 6 * triples_needed m bytes) all), rw (all, length_short m bytes, ← counted) written)
