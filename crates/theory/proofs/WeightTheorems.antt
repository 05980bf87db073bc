-- Rows without weight change nothing, and a common factor of the multipliers multiplies rank, start and fall by it. Both are one argument (`multiplied`):
-- a second loop and multipliers whose every weighted sum is k times the first's.
use Prim.Native.Nat.{ℕ, ◌≤◌, zero-le}
use mathlib.Core.Path.{◌≡◌, refl, sym, ap, ◌∙◌}
use mathlib.Core.Logic.{⊎_elim}
use mathlib.Core.List.{List}
use native.Mathlib.Omega.{arith}
use lib.IntN.{ℤ, pos, negsuc, ◌+ℤ◌, ◌-ℤ◌, ◌*ℤ◌, zero-*ℤ, *ℤ-zero, +ℤ_idl}
use lib.Signed.{◌≤ℤ◌, ◌<ℤ◌}
use Rattle.whole.specs.Sums.{dot, sum, scale, less}
use Rattle.whole.proofs.Solve.{v, ◌⊝◌, ◌⊗◌, solve, solve_le, solve_lt, eq_fact, le_fact, lt_fact}
use Rattle.whole.proofs.Ring.{one-*ℤ, *ℤ-neg, ≤ℤ-antisym, ≡-≤ℤ, ≤ℤ-or-<ℤ, pos_mono, mul_mono, mul_cancel}
use Rattle.whole.proofs.SumLaws.{scale_one, sum_scale_weights, sum_less_weights}
use Rattle.whole.proofs.Tables.{map_tabulate, tabulate_same}
use Rattle.theory.specs.Loops.{Row, A, A', b, Loop, over}
use Rattle.theory.specs.Rankings.{Ranking, RankingHolds, rank, start, fall}
use Rattle.theory.specs.Weights.{PutIn, none, old, new, times, Multiplied, Unchanged}

-- a positive factor comes off
equal_off : (k : ℕ) {x y : ℤ} → 1 ≤ k → pos k *ℤ x ≡ pos k *ℤ y → x ≡ y
equal_off k h e = ≤ℤ-antisym (mul_cancel (pos k) (pos_mono h) (≡-≤ℤ e)) (mul_cancel (pos k) (pos_mono h) (≡-≤ℤ (sym e)))

module _ (n k : ℕ) (rows rows' : List Row) (c c' : Ranking) (k_positive : 1 ≤ k)
    (Y-sums : (f : Row → ℤ) → sum c'.Y f rows' ≡ pos k *ℤ sum c.Y f rows)
    (Z-sums : (f : Row → ℤ) → sum c'.Z f rows' ≡ pos k *ℤ sum c.Z f rows) where
  abbrev loop : Loop
  loop = over n rows

  abbrev loop' : Loop
  loop' = over n rows'

  difference_sums : (f : Row → ℤ) → sum (less c'.Y c'.Z) f rows' ≡ pos k *ℤ sum (less c.Y c.Z) f rows
  difference_sums f =
      rw (sum_less_weights c'.Y c'.Z f rows', sum_less_weights c.Y c.Z f rows, Y-sums f, Z-sums f)
      (out (pos k) (sum c.Y f rows) (sum c.Z f rows))
    where
      out : (k y z : ℤ) → k *ℤ y -ℤ k *ℤ z ≡ k *ℤ (y -ℤ z)
      out k y z = solve (v k ⊗ v y ⊝ v k ⊗ v z) (v k ⊗ (v y ⊝ v z)) (omega arith)

  zero_there : {x y : ℤ} → y ≡ pos k *ℤ x → x ≡ pos 0 → y ≡ pos 0
  zero_there e h = e ∙ ap (λ t. pos k *ℤ t) h ∙ *ℤ-zero (pos k)

  zero_here : {x y : ℤ} → y ≡ pos k *ℤ x → y ≡ pos 0 → x ≡ pos 0
  zero_here e h = equal_off k k_positive (sym e ∙ h ∙ sym (*ℤ-zero (pos k)))

  conditions_there : RankingHolds loop c → RankingHolds loop' c'
  conditions_there h =
      record {
        first = λ j i. zero_there (Y-sums (A' j)) (h.first j i);
        second = λ j i. zero_there (difference_sums (A j)) (h.second j i);
        third = λ j i. zero_there (Z-sums (λ row. A j row +ℤ A' j row)) (h.third j i);
        fourth = below (sum c.Z b rows) _ (Z-sums b) h.fourth;
      }
    where
      below : (x y : ℤ) → y ≡ pos k *ℤ x → x <ℤ pos 0 → y <ℤ pos 0
      below x y e h =
          let minus_one : x ≤ℤ negsuc 0 = solve_le (v x) (v (negsuc 0)) (omega (arith, lt_fact (v x) (v (pos 0)) h)) in
          solve_lt (v y) (v (pos 0))
          (omega (
            arith,
            eq_fact (v y) (v (pos k) ⊗ v x) e,
            le_fact (v (pos k) ⊗ v x) (v (pos k) ⊗ v (negsuc 0)) (mul_mono (pos k) (pos_mono zero-le) minus_one),
          ))

  conditions_here : RankingHolds loop' c' → RankingHolds loop c
  conditions_here h =
      record {
        first = λ j i. zero_here (Y-sums (A' j)) (h.first j i);
        second = λ j i. zero_here (difference_sums (A j)) (h.second j i);
        third = λ j i. zero_here (Z-sums (λ row. A j row +ℤ A' j row)) (h.third j i);
        fourth = below (sum c.Z b rows) _ (Z-sums b) h.fourth;
      }
    where
      not_above : (x y : ℤ) → y ≡ pos k *ℤ x → y <ℤ pos 0 → pos 0 ≤ℤ x → ⊥
      not_above x y e h i =
          omega (
            arith,
            eq_fact (v y) (v (pos k) ⊗ v x) e,
            lt_fact (v y) (v (pos 0)) h,
            le_fact (v (pos k) ⊗ v (pos 0)) (v (pos k) ⊗ v x) (mul_mono (pos k) (pos_mono zero-le) i),
          )

      below : (x y : ℤ) → y ≡ pos k *ℤ x → y <ℤ pos 0 → x <ℤ pos 0
      below x y e h = ⊎_elim (λ i. absurd (not_above x y e h i)) (λ i. i) (≤ℤ-or-<ℤ (pos 0) x)

  multiplied : Multiplied k loop c loop' c'
  unfolding rank start fall scale
  multiplied =
      record {
        conditions = (conditions_there, conditions_here);
        same_rank = tabulate_same n _ _ (λ j h. Z-sums (A' j)) ∙ sym (map_tabulate n (λ j. sum c.Z (A' j) rows) (λ x. pos k *ℤ x));
        same_start = rw (Y-sums b, *ℤ-neg (pos k) (sum c.Y b rows));
        same_fall = rw (Z-sums b, *ℤ-neg (pos k) (sum c.Z b rows));
      }

-- multiplying Y and Z by a positive number leaves the four conditions equivalent, and multiplies rank, start and fall by it
pub common_factor : (loop : Loop) (c : Ranking) (k : ℕ) → 1 ≤ k → Multiplied k loop c loop (times k c)
common_factor loop c k h =
    multiplied loop.variables k loop.rows loop.rows c (times k c) h
    (λ f. sum_scale_weights (pos k) c.Y f loop.rows)
    (λ f. sum_scale_weights (pos k) c.Z f loop.rows)

same_sums : {rows rows' : List Row} {Y Z Y' Z' : List ℤ} (f : Row → ℤ) → PutIn rows Y Z rows' Y' Z' → (sum Y' f rows' ≡ sum Y f rows) × (sum Z' f rows' ≡ sum Z f rows)
unfolding sum dot
same_sums f none = (refl, refl)
same_sums f (old row y z p) = let h = same_sums f p in (ap (λ t. y *ℤ f row +ℤ t) h.0, ap (λ t. z *ℤ f row +ℤ t) h.1)
same_sums f (new row p) = let h = same_sums f p in (no_weight _ _ h.0, no_weight _ _ h.1)
  where
    no_weight : (x y : ℤ) → x ≡ y → pos 0 *ℤ f row +ℤ x ≡ y
    no_weight x y h = ap (λ t. t +ℤ x) (zero-*ℤ (f row)) ∙ +ℤ_idl x ∙ h

-- rows put in anywhere with zero multipliers leave the four conditions equivalent, and rank, start and fall equal
pub rows_without_weight : (n : ℕ) (rows rows' : List Row) (c c' : Ranking) → PutIn rows c.Y c.Z rows' c'.Y c'.Z
    → Unchanged (over n rows) c (over n rows') c'
rows_without_weight n rows rows' c c' p =
    record {
      conditions = once.conditions;
      same_rank = once.same_rank ∙ scale_one (rank (over n rows) c);
      same_start = once.same_start ∙ one-*ℤ (start (over n rows) c);
      same_fall = once.same_fall ∙ one-*ℤ (fall (over n rows) c);
    }
  where
    once : Multiplied 1 (over n rows) c (over n rows') c'
    once =
        multiplied n 1 rows rows' c c' (omega arith)
        (λ f. (same_sums f p).0 ∙ sym (one-*ℤ (sum c.Y f rows)))
        (λ f. (same_sums f p).1 ∙ sym (one-*ℤ (sum c.Z f rows)))
