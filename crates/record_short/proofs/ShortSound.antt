-- What a sound record of kind 7 has, `ShortSound`: every test passes exactly when it has this. And that the tests read the bytes alone.
use mathlib.Core.Path.{◌≡◌, refl}
use Prim.Native.Nat.{ℕ, zero, suc, ◌+◌, ◌*◌, ◌-◌, ◌≤◌, ◌<◌}
use mathlib.Core.Bool.{true, false, not, ◌&&◌, ◌||◌}
use mathlib.Core.List.{List, [], ◌∷◌}
use native.Mathlib.Decide.{dec_lt}
use native.Mathlib.Omega.{arith}
use lib.Dec.{eqb, ltb, leb}
use lib.IntN.{pos}
use lib.ListN.{length, drop}
use lib.Seq.{drop-drop}
use borrow.Author.Tests.{le-leb, leb-true, lt-ltb, ltb-true, eq-eqb, eqb-true, ne_eqb}
use Rattle.endian.specs.Numbers.{little_at}
use Rattle.refusal.specs.Places.{Throughout}
use Rattle.refusal.specs.Tests as Tests
use Rattle.refusal.specs.Tests.{done, first}
use Rattle.refusal.proofs.PlaceLaws.{before_all, holds_before}
use Rattle.refusal.proofs.TestLaws.{Passes, done_passes, passes_done, zero_done, both_true, true_both, either}
use Rattle.record.specs.Fields.{u16, width, number, Field, values, in_range}
use Rattle.record.specs.Layouts.{multiplier}
use Rattle.record.specs.Ranges.{◌to◌, variables, rows, multipliers, within}
use Rattle.record.specs.Readers.{Reader, stated_length, kind_number}
use Rattle.record.proofs.CountLimits.{rows_most}
use Rattle.record_paths.specs.PathFields.{bytes_alone, is_kind, holds_counts, is_long, fields_fit}
use Rattle.record_paths.proofs.RunFields.{within_both, first_fits}
use Rattle.record_short.specs.ShortRecords.{triples_in, row_in, Y-in, Z-in, row_rises, has_weight, before_bad}
use Rattle.record_short.specs.ShortRecords.{triple_count, row_number, triples_fields, short_length, sound_short}

pub record ShortSound (n m : ℕ) (bytes : List ℕ) : Type 0 where
  pub numbered : little_at 2 bytes 4 ≡ 7
  pub n_fits : within variables (pos n) ≡ true
  pub m_fits : within rows (pos m) ≡ true
  pub stated : little_at 4 bytes 0 ≡ 4 + 6 * triples_in bytes
  pub long : length bytes ≡ 8 + 6 * triples_in bytes
  pub few : triples_in bytes ≤ 64
  pub few_by_rows : triples_in bytes ≤ m
  pub rows_below : Throughout (triples_in bytes) (λ k. row_in bytes k < m)
  pub rows_rise : (k : ℕ) → suc k < triples_in bytes → row_in bytes k < row_in bytes (suc k)
  pub weighty : Throughout (triples_in bytes) (λ k. (Y-in bytes k ≡ 0) × (Z-in bytes k ≡ 0) → ⊥)
  pub Y-most : Throughout (triples_in bytes) (λ k. Y-in bytes k ≤ 60000)
  pub Z-most : Throughout (triples_in bytes) (λ k. Z-in bytes k ≤ 60000)

-- ---- the tests of a triple

pub rises_so : (m : ℕ) (bytes : List ℕ) (k : ℕ) → row_rises m bytes k ≡ true
    → (row_in bytes k < m) × ((eqb k 0 || ltb (row_in bytes (k - 1)) (row_in bytes k)) ≡ true)
unfolding row_rises
rises_so m bytes k h =
    let both = both_true (ltb (row_in bytes k) m) (eqb k 0 || ltb (row_in bytes (k - 1)) (row_in bytes k)) h in
    (ltb-true _ _ both.0, both.1)

rises_after : (m : ℕ) (bytes : List ℕ) (k : ℕ) → row_rises m bytes (suc k) ≡ true → row_in bytes k < row_in bytes (suc k)
rises_after m bytes k h =
    let less : suc k - 1 ≡ k = omega arith in
    ltb-true _ _ (rw (ne_eqb (suc k) 0 (λ e. omega arith), less) at (rises_so m bytes (suc k) h).1)

pub so_rises : (m : ℕ) (bytes : List ℕ) (k : ℕ) → row_in bytes k < m → ((j : ℕ) → k ≡ suc j → row_in bytes j < row_in bytes (suc j))
    → row_rises m bytes k ≡ true
unfolding row_rises
so_rises m bytes zero below rise = rw (lt-ltb _ _ below)
so_rises m bytes (suc j) below rise =
    let less : suc j - 1 ≡ j = omega arith in
    rw (lt-ltb _ _ below, ne_eqb (suc j) 0 (λ e. omega arith), less, lt-ltb _ _ (rise j refl))

both_zero : (y z : ℕ) → not (eqb y 0 && eqb z 0) ≡ true → (y ≡ 0) × (z ≡ 0) → ⊥
both_zero y z h e = let wrong : false ≡ true = rw (e.0, e.1) at h in let no : ◌≡◌ {A = ℕ} 0 1 = cc in omega arith

pub not_both : (y z : ℕ) → ((y ≡ 0) × (z ≡ 0) → ⊥) → not (eqb y 0 && eqb z 0) ≡ true
not_both y z h =
    either (eqb y 0)
    (λ e. rw (e, ne_eqb z 0 (λ f. h (eqb-true y 0 e, f))))
    (λ e. rw e)

-- ---- the values of the triples

pub small_within : (most x : ℕ) → x ≤ most → within (0 to most) (pos x) ≡ true
unfolding within ◌to◌
small_within most x low = true_both (leb 0 x) (leb x most) (le-leb 0 x (omega arith)) (le-leb x most low)

module _ (bytes : List ℕ) where
  -- the three numbers of a triple that stands at a place, in range
  abbrev Ranged : ℕ → Type 0
  Ranged place = (little_at 2 bytes place ≤ 65535) × (little_at 2 bytes (place + 2) ≤ 60000) × (little_at 2 bytes (place + 4) ≤ 60000)

  abbrev Fitting : ℕ → ℕ → Type 0
  Fitting count place = in_range (triples_fields count) (values (triples_fields count) (drop place bytes)) ≡ true

  -- the first of some fields, where it is a u16 of a range from 0 on, and the rest
  pub first_so : (f : Field) (fs : List Field) (most place : ℕ) → f.form ≡ u16 → f.range ≡ (0 to most) → little_at 2 bytes place ≤ most
      → in_range fs (values fs (drop (place + 2) bytes)) ≡ true → in_range (f ∷ fs) (values (f ∷ fs) (drop place bytes)) ≡ true
  unfolding in_range values number width little_at
  first_so f fs most place form range low rest = rw (form, range, drop-drop) (true_both _ _ (small_within most _ low) rest)

  triples_so : (count place : ℕ) → Throughout count (λ k. Ranged (place + 6 * k)) → Fitting count place
  unfolding triples_fields row_number multiplier multipliers in_range
  triples_so zero place h = refl
  triples_so (suc count) place h =
      let here : place + 6 * 0 ≡ place = omega arith in
      let fit = rw here at (h 0 (omega arith)) in
      let rest = triples_so count (place + 6) (λ k below. let there : place + 6 * suc k ≡ place + 6 + 6 * k = omega arith in rw there at (h (suc k) (omega arith))) in
      let third : place + 2 + 2 ≡ place + 4 = omega arith in
      let fourth : place + 4 + 2 ≡ place + 6 = omega arith in
      first_so row_number (multiplier ∷ multiplier ∷ triples_fields count) 65535 place refl refl fit.0
      (first_so multiplier (multiplier ∷ triples_fields count) 60000 (place + 2) refl refl fit.1
      (rw third (first_so multiplier (triples_fields count) 60000 (place + 4) refl refl fit.2 (rw fourth rest))))

  module _ (count place : ℕ) (h : Fitting (suc count) place) where
    first_said : Ranged place × Fitting count (place + 6)
    unfolding triples_fields row_number multiplier multipliers
    first_said =
        let third : place + 2 + 2 ≡ place + 4 = omega arith in
        let fourth : place + 4 + 2 ≡ place + 6 = omega arith in
        let row = first_fits row_number (multiplier ∷ multiplier ∷ triples_fields count) bytes place refl h in
        let Y = first_fits multiplier (multiplier ∷ triples_fields count) bytes (place + 2) refl row.1 in
        let Z = first_fits multiplier (triples_fields count) bytes (place + 4) refl (rw third at Y.1) in (
          ((within_both 0 65535 _ row.0).1, (within_both 0 60000 _ Y.0).1, (within_both 0 60000 _ Z.0).1),
          rw fourth at Z.1,
        )

  triples_say : (count place : ℕ) → Fitting count place → Throughout count (λ k. Ranged (place + 6 * k))
  triples_say zero place h k below = absurd (omega arith)
  triples_say (suc count) place h zero below = let here : place + 6 * 0 ≡ place = omega arith in rw here (first_said count place h).0
  triples_say (suc count) place h (suc k) below =
      let there : place + 6 * suc k ≡ place + 6 + 6 * k = omega arith in
      rw there (triples_say count (place + 6) (first_said count place h).1 k (omega arith))

-- ---- the record

-- rows that rise strictly: row k is k at least, so there are as many rows as triples
module _ (m : ℕ) (bytes : List ℕ) (rise : (k : ℕ) → suc k < triples_in bytes → row_in bytes k < row_in bytes (suc k)) where
  at_least : (k : ℕ) → k < triples_in bytes → k ≤ row_in bytes k
  at_least zero below = omega arith
  at_least (suc k) below = omega (arith, at_least k (omega arith), rise k below)

  few_rows : Throughout (triples_in bytes) (λ k. row_in bytes k < m) → triples_in bytes ≤ m
  few_rows below_m =
      elim (dec_lt m (triples_in bytes)) [
        | yes more ↦ absurd (omega (arith, at_least m more, below_m m more))
        | no enough ↦ omega arith
      ]

module _ (n m : ℕ) (bytes : List ℕ) where
  -- the triples' tests, at each of them
  each_passes : before_bad m bytes ≡ triples_in bytes → Throughout (triples_in bytes) (λ k. (row_rises m bytes k && has_weight bytes k) ≡ true)
  unfolding before_bad
  each_passes all k below = holds_before (triples_in bytes) (λ i. row_rises m bytes i && has_weight bytes i) k (rw all below)

  triple_says : before_bad m bytes ≡ triples_in bytes → (k : ℕ) → k < triples_in bytes
      → (row_rises m bytes k ≡ true) × (has_weight bytes k ≡ true)
  triple_says all k below = both_true _ _ (each_passes all k below)

  say : Passes (sound_short n m) (bytes_alone bytes) → ShortSound n m bytes
  unfolding
      sound_short bytes_alone stated_length kind_number is_kind holds_counts is_long fields_fit triple_count rows short_length triples_in
      row_in Y-in Z-in has_weight
  say h =
      let few_bytes : 4 + little_at 4 bytes 0 ≤ length bytes = leb-true _ _ h.1.1.0 in
      let many_bytes : length bytes ≤ 4 + little_at 4 bytes 0 = leb-true _ _ h.1.1.1.0 in
      let arguments = both_true (within variables (pos n)) (within rows (pos m)) h.1.1.1.1.1.0 in
      let count = within_both 0 64 (little_at 2 bytes 6) (first_fits triple_count [] bytes 6 refl h.1.1.1.1.1.1.1.0).0 in
      let formula : little_at 4 bytes 0 ≡ 4 + 6 * triples_in bytes = eqb-true _ _ h.1.1.1.1.1.1.1.1.0 in
      let all : before_bad m bytes ≡ triples_in bytes = eqb-true _ _ h.1.1.1.1.1.1.1.1.1.1.0 in
      let ranged = triples_say bytes (triples_in bytes) 8 h.1.1.1.1.1.1.1.1.1.1.1.0 in
      let rise : (k : ℕ) → suc k < triples_in bytes → row_in bytes k < row_in bytes (suc k)
      = λ k below. rises_after m bytes k (triple_says all (suc k) below).0 in
      let below_m : (k : ℕ) → k < triples_in bytes → row_in bytes k < m = λ k below. (rises_so m bytes k (triple_says all k below).0).0 in
      record {
        numbered = eqb-true _ _ h.1.1.1.1.0;
        n_fits = arguments.0;
        m_fits = arguments.1;
        stated = formula;
        long = omega arith;
        few = count.1;
        few_by_rows = few_rows m bytes rise below_m;
        rows_below = below_m;
        rows_rise = rise;
        weighty = λ k below. both_zero _ _ (triple_says all k below).1;
        Y-most = λ k below. let at : 8 + 6 * k + 2 ≡ 10 + 6 * k = omega arith in rw at at (ranged k below).1;
        Z-most = λ k below. let at : 8 + 6 * k + 4 ≡ 12 + 6 * k = omega arith in rw at at (ranged k below).2;
      }

  pub short_sound : first (sound_short n m) (bytes_alone bytes) ≡ done → ShortSound n m bytes
  short_sound told = say (done_passes (sound_short n m) (bytes_alone bytes) told)

  module _ (s : ShortSound n m bytes) where
    all_pass : before_bad m bytes ≡ triples_in bytes
    unfolding before_bad has_weight
    all_pass =
        before_all (triples_in bytes) (λ i. row_rises m bytes i && has_weight bytes i)
        (λ k below. true_both _ _ (so_rises m bytes k (s.rows_below k below) (λ j is. s.rows_rise j (omega arith))) (not_both _ _ (s.weighty k below)))

    values_fit : in_range (triples_fields (triples_in bytes)) (values (triples_fields (triples_in bytes)) (drop 8 bytes)) ≡ true
    unfolding row_in Y-in Z-in
    values_fit =
        triples_so bytes (triples_in bytes) 8
        (λ k below.
        let Y-at : 8 + 6 * k + 2 ≡ 10 + 6 * k = omega arith in
        let Z-at : 8 + 6 * k + 4 ≡ 12 + 6 * k = omega arith in
        (omega (arith, s.rows_below k below, rows_most m s.m_fits), rw Y-at (s.Y-most k below), rw Z-at (s.Z-most k below)))

    passes : Passes (sound_short n m) (bytes_alone bytes)
    unfolding
        sound_short bytes_alone stated_length kind_number is_kind holds_counts is_long fields_fit triple_count rows short_length triples_in
        in_range values
    passes =
        let four : 4 ≤ length bytes = omega (arith, s.long) in
        let head : 2 ≤ little_at 4 bytes 0 = omega (arith, s.stated) in
        let there : 4 + little_at 4 bytes 0 ≤ length bytes = omega (arith, s.stated, s.long) in
        let ends : length bytes ≤ 4 + little_at 4 bytes 0 = omega (arith, s.stated, s.long) in
        let counts : 4 ≤ little_at 4 bytes 0 = omega (arith, s.stated) in
        let whole = eq-eqb _ _ all_pass in (
          le-leb _ _ four,
          (
            le-leb _ _ head,
            (
              le-leb _ _ there,
              (
                le-leb _ _ ends,
                (
                  eq-eqb _ _ s.numbered,
                  (
                    true_both _ _ s.n_fits s.m_fits,
                    (le-leb _ _ counts, (first_so bytes triple_count [] 64 6 refl refl s.few refl, (eq-eqb _ _ s.stated, (rw whole, (whole, (values_fit, tt)))))),
                  ),
                ),
              ),
            ),
          ),
        )

    pub sound_done : first (sound_short n m) (bytes_alone bytes) ≡ done
    sound_done = passes_done (sound_short n m) (bytes_alone bytes) passes

  -- 0 is told of a sound record alone
  pub short_named : Tests.number (first (sound_short n m) (bytes_alone bytes)) ≡ 0 → first (sound_short n m) (bytes_alone bytes) ≡ done
  unfolding sound_short is_kind holds_counts is_long fields_fit
  short_named = zero_done (sound_short n m) (bytes_alone bytes) refl

-- the tests read the bytes alone
pub sound_short_bytes : (n m : ℕ) (r : Reader) → first (sound_short n m) r ≡ first (sound_short n m) (bytes_alone r.bytes)
unfolding first sound_short bytes_alone stated_length kind_number is_kind holds_counts is_long fields_fit
sound_short_bytes n m r = refl
