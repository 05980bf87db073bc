-- What a sound record of kind 2 has, `LongSound`: every test of a reading that wants rankings alone passes exactly when it has this.
use mathlib.Core.Path.{◌≡◌, refl}
use Prim.Native.Nat.{ℕ, zero, suc, ◌+◌, ◌*◌, ◌-◌, ◌≤◌}
use mathlib.Core.Bool.{true, false≢true}
use mathlib.Core.List.{List}
use native.Mathlib.Decide.{dec_lt}
use native.Mathlib.Omega.{arith}
use lib.IntN.{pos}
use lib.ListN.{length, drop, replicate, replicate-append-replicate}
use borrow.Author.Tests.{le-leb, eq-eqb}
use Rattle.endian.specs.Numbers.{little_at}
use Rattle.refusal.specs.Places.{Throughout}
use Rattle.refusal.specs.Tests.{done, first}
use Rattle.refusal.proofs.TestLaws.{Passes, passes_done, both_true, true_both}
use Rattle.record.specs.Fields.{widths, values, in_range}
use Rattle.record.specs.Layouts.{multiplier, ranking, kind_of, is_loop, counts, layout, length_of, ahead, listed}
use Rattle.record.specs.Ranges.{variables, rows, multipliers, within}
use Rattle.record.specs.Readers as R
use Rattle.record.specs.Readers.{sound}
use Rattle.record.specs.Wants.{wants_of}
use Rattle.record.proofs.KindLaws.{by_kind}
use Rattle.record.proofs.SoundRecords.{Sound, sound_says}
use Rattle.record_paths.proofs.RunFields.{within_both, run_fits}
use Rattle.record_short.specs.Conversions.{rankings_alone, ranking_given, long_Y, long_Z}
use Rattle.record_short.proofs.ShortSound.{first_so}

pub record LongSound (n m : ℕ) (bytes : List ℕ) : Type 0 where
  pub numbered : little_at 2 bytes 4 ≡ 2
  pub n_fits : within variables (pos n) ≡ true
  pub m_fits : within rows (pos m) ≡ true
  pub stated : little_at 4 bytes 0 ≡ 2 + 4 * m
  pub long : length bytes ≡ 6 + 4 * m
  pub Y-most : Throughout m (λ i. long_Y bytes i ≤ 60000)
  pub Z-most : Throughout m (λ i. long_Z m bytes i ≤ 60000)

-- the only kind that is wanted
ranking_number : (x : ℕ) → rankings_alone (kind_of x) ≡ true → x ≡ 2
unfolding wants_of
ranking_number x =
    by_kind (λ k. rankings_alone k ≡ true → x ≡ 2) x (λ e h. absurd (false≢true h)) (λ e h. e) (λ e h. absurd (false≢true h))
    (λ e h. absurd (false≢true h)) (λ h. absurd (false≢true h))

-- a run of multipliers
run_so : (bytes : List ℕ) (count place : ℕ) → Throughout count (λ i. little_at 2 bytes (place + 2 * i) ≤ 60000)
    → in_range (replicate count multiplier) (values (replicate count multiplier) (drop place bytes)) ≡ true
unfolding in_range multiplier multipliers
run_so bytes zero place h = refl
run_so bytes (suc count) place h =
    let here : place + 2 * 0 ≡ place = omega arith in
    first_so bytes multiplier (replicate count multiplier) 60000 place refl refl (rw here at (h 0 (omega arith)))
    (run_so bytes count (place + 2) (λ i below. let there : place + 2 * suc i ≡ place + 2 + 2 * i = omega arith in rw there at (h (suc i) (omega arith))))

module _ (n m : ℕ) (bytes : List ℕ) (room : ℕ) where
  -- kind 2 and all that follows from it
  module _ (two : little_at 2 bytes 4 ≡ 2) where
    of_kind : R.kind (ranking_given bytes n m room) ≡ ranking
    unfolding R.kind R.kind_number ranking_given kind_of
    of_kind = rw two

    fields_are : R.fields (ranking_given bytes n m room) ≡ replicate (m + m) multiplier
    unfolding R.fields R.counts_read ranking_given listed layout counts is_loop
    fields_are = rw of_kind (replicate-append-replicate m m multiplier)

    pub list_is : R.list (ranking_given bytes n m room) ≡ values (replicate (m + m) multiplier) (drop 6 bytes)
    unfolding R.list R.list_start ahead is_loop widths ranking_given
    list_is = rw (fields_are, of_kind)

  say : Sound (ranking_given bytes n m room) → LongSound n m bytes
  unfolding
      ranking_given R.stated_length R.kind R.kind_number R.arguments_fit R.counts_read is_loop length_of long_Y long_Z multiplier multipliers
  say s =
      let two : little_at 2 bytes 4 ≡ 2 = ranking_number (little_at 2 bytes 4) s.wanted in
      let arguments = both_true (within variables (pos n)) (within rows (pos m)) (rw (of_kind two) at s.arguments) in
      let formula : little_at 4 bytes 0 ≡ 2 + 4 * m = rw (of_kind two) at s.formula in
      let fit = run_fits multiplier (m + m) bytes 6 refl (rw (fields_are two, list_is two) at s.values_fit) in
      record {
        numbered = two;
        n_fits = arguments.0;
        m_fits = arguments.1;
        stated = formula;
        long = omega (arith, s.whole);
        Y-most = λ i below. (within_both 0 60000 _ (fit i (omega arith))).1;
        Z-most = λ i below. let at : 6 + 2 * (m + i) ≡ 6 + 2 * m + 2 * i = omega arith in rw at at (within_both 0 60000 _ (fit (m + i) (omega arith))).1;
      }

  pub long_sound : first sound (ranking_given bytes n m room) ≡ done → LongSound n m bytes
  long_sound told = say (sound_says (ranking_given bytes n m room) told)

  module _ (s : LongSound n m bytes) where
    values_fit : in_range (R.fields (ranking_given bytes n m room)) (R.list (ranking_given bytes n m room)) ≡ true
    unfolding long_Y long_Z
    values_fit =
        rw (fields_are s.numbered, list_is s.numbered)
        (run_so bytes (m + m) 6
        (λ i below.
        elim (dec_lt i m) [
          | yes early ↦ s.Y-most i early
          | no late ↦ let at : 6 + 2 * i ≡ 6 + 2 * m + 2 * (i - m) = omega arith in rw at (s.Z-most (i - m) (omega arith))
        ]))

    stated_is : R.stated_length (ranking_given bytes n m room) ≡ 2 + 4 * m
    unfolding R.stated_length ranking_given
    stated_is = s.stated

    bytes_are : length (ranking_given bytes n m room).bytes ≡ 6 + 4 * m
    unfolding ranking_given
    bytes_are = s.long

    wanted : (ranking_given bytes n m room).wants (R.kind (ranking_given bytes n m room)) ≡ true
    unfolding ranking_given wants_of
    wanted = rw (of_kind s.numbered)

    arguments : R.arguments_fit (ranking_given bytes n m room) ≡ true
    unfolding ranking_given R.arguments_fit is_loop
    arguments = rw (of_kind s.numbered) (true_both _ _ s.n_fits s.m_fits)

    no_counts : (2 + widths (counts (R.kind (ranking_given bytes n m room))) ≤ R.stated_length (ranking_given bytes n m room))
        × (in_range (counts (R.kind (ranking_given bytes n m room))) (R.count_list (ranking_given bytes n m room)) ≡ true)
    unfolding counts widths in_range
    no_counts = rw (of_kind s.numbered) (omega (arith, stated_is), refl)

    formula : R.stated_length (ranking_given bytes n m room) ≡ length_of (R.kind (ranking_given bytes n m room)) (R.counts_read (ranking_given bytes n m room))
    unfolding R.counts_read ranking_given length_of is_loop
    formula = rw (of_kind s.numbered) stated_is

    passes : Passes sound (ranking_given bytes n m room)
    unfolding sound
    passes =
        let r = ranking_given bytes n m room in
        let four : 4 ≤ length r.bytes = omega (arith, bytes_are) in
        let head : 2 ≤ R.stated_length r = omega (arith, stated_is) in
        let few : 4 + R.stated_length r ≤ length r.bytes = omega (arith, stated_is, bytes_are) in
        let many : length r.bytes ≤ 4 + R.stated_length r = omega (arith, stated_is, bytes_are) in (
          le-leb _ _ four,
          (
            le-leb _ _ head,
            (
              le-leb _ _ few,
              (
                le-leb _ _ many,
                (
                  wanted,
                  (
                    arguments,
                    (le-leb _ _ no_counts.0, (no_counts.1, (eq-eqb _ _ formula, (values_fit, tt)))),
                  ),
                ),
              ),
            ),
          ),
        )

  pub long_done : LongSound n m bytes → first sound (ranking_given bytes n m room) ≡ done
  long_done s = passes_done sound (ranking_given bytes n m room) (passes s)
