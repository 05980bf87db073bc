-- A lasso's start and kept, in 01's words and as weighted rows: the same column by column, and at the right sides.
use Prim.Native.Nat.{ℕ}
use mathlib.Core.Path.{◌≡◌, sym, ◌∙◌}
use mathlib.Core.Logic.{◌↔◌}
use native.Mathlib.Omega.{arith}
use lib.IntN.{ℤ, pos, neg_ℤ, ◌+ℤ◌, ◌-ℤ◌, ◌*ℤ◌, +ℤ_invr, zero-*ℤ}
use lib.ListN.{get_or}
use lib.Signed.{◌≤ℤ◌}
use Rattle.whole.specs.Sums.{sum}
use Rattle.whole.proofs.Solve.{v, ◌⊕◌, ◌⊝◌, ◌⊗◌, solve_le, le_fact}
use Rattle.whole.proofs.Ring.{neg-*ℤ}
use Rattle.theory.specs.Loops.{A, A', b, Loop}
use Rattle.theory.specs.Lassos.{Lasso, LassoHolds, starting, keeping}
use Rattle.theory.specs.WeightedRows.{Weighs, sum_of, times_v}
use Rattle.theory.specs.Fails.{TBNone, TB'Carries, HACarries, HA'Carries, HbWithin}
use Rattle.theory.proofs.RankingTheorems.{no_difference}

module _ (loop : Loop) (c : Lasso) where
  -- column by column
  pub start_now : (j : ℕ) → TBNone c j ↔ (sum_of (starting c) (A j) ≡ times_v (starting c) (pos 0) j)
  start_now j = (λ h. h ∙ sym (zero-*ℤ (get_or c.s j (pos 0))), λ h. h ∙ zero-*ℤ (get_or c.s j (pos 0)))

  pub start_next : (j : ℕ) → TB'Carries c j ↔ (sum_of (starting c) (A' j) ≡ times_v (starting c) (neg_ℤ (pos c.k)) j)
  start_next j = (λ h. h ∙ sym (neg-*ℤ (pos c.k) (get_or c.s j (pos 0))), λ h. h ∙ neg-*ℤ (pos c.k) (get_or c.s j (pos 0)))

  pub kept_now : (j : ℕ) → HACarries loop c j ↔ (sum_of (keeping loop c) (A j) ≡ times_v (keeping loop c) (pos c.h0) j)
  kept_now j = (no_difference _ _, difference)
    where
      difference : {x y : ℤ} → x ≡ y → x -ℤ y ≡ pos 0
      difference {x} {y} h = rw h (+ℤ_invr y)

  pub kept_next : (j : ℕ) → HA'Carries loop c j ↔ (sum_of (keeping loop c) (A' j) ≡ times_v (keeping loop c) (neg_ℤ (pos c.k2)) j)
  kept_next j = (λ h. h ∙ sym (neg-*ℤ (pos c.k2) (get_or c.s j (pos 0))), λ h. h ∙ neg-*ℤ (pos c.k2) (get_or c.s j (pos 0)))

  -- the right sides of kept
  pub kept_right : HbWithin loop c ↔ (sum_of (keeping loop c) b ≤ℤ (keeping loop c).limit)
  kept_right = (apart (sum c.H b loop.rows) (pos c.h0) (pos c.k2) c.s0, together (sum c.H b loop.rows) (pos c.h0) (pos c.k2) c.s0)
    where
      apart : (Hb h0 k2 s0 : ℤ) → (Hb +ℤ h0 *ℤ s0) ≤ℤ (k2 *ℤ s0) → Hb ≤ℤ ((k2 -ℤ h0) *ℤ s0)
      apart Hb h0 k2 s0 h = solve_le (v Hb) ((v k2 ⊝ v h0) ⊗ v s0) (omega (arith, le_fact (v Hb ⊕ v h0 ⊗ v s0) (v k2 ⊗ v s0) h))

      together : (Hb h0 k2 s0 : ℤ) → Hb ≤ℤ ((k2 -ℤ h0) *ℤ s0) → (Hb +ℤ h0 *ℤ s0) ≤ℤ (k2 *ℤ s0)
      together Hb h0 k2 s0 h = solve_le (v Hb ⊕ v h0 ⊗ v s0) (v k2 ⊗ v s0) (omega (arith, le_fact (v Hb) ((v k2 ⊝ v h0) ⊗ v s0) h))

  -- all of it
  pub start_weighs : LassoHolds loop c → Weighs loop.variables (starting c)
  start_weighs h =
      record {
        over_A = λ j below. (start_now j).0 (h.start_now j below);
        over_A' = λ j below. (start_next j).0 (h.start_next j below);
        over_b = h.start_right;
      }

  pub kept_weighs : LassoHolds loop c → Weighs loop.variables (keeping loop c)
  kept_weighs h =
      record {
        over_A = λ j below. (kept_now j).0 (h.kept_now j below);
        over_A' = λ j below. (kept_next j).0 (h.kept_next j below);
        over_b = kept_right.0 h.kept_right;
      }
