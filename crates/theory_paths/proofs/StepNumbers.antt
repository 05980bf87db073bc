-- What the three conditions of a path say of whole numbers: a and a' are r·x before and after a step, d is δ0 or δ.
use native.Mathlib.Omega.{arith}
use lib.IntN.{ℤ, pos, negsuc, neg_ℤ, ◌+ℤ◌, ◌-ℤ◌, ◌*ℤ◌}
use lib.Signed.{◌≤ℤ◌}
use Rattle.whole.proofs.Solve.{v, ◌⊕◌, ◌⊝◌, ◌⊗◌, neg, solve_le, le_fact}

-- the own component is at least δ0
pub held_above : (a a' d : ℤ) → (negsuc 0 *ℤ a +ℤ pos 0 *ℤ a') ≤ℤ (pos 1 *ℤ neg_ℤ d) → d ≤ℤ a
held_above a a' d h = solve_le (v d) (v a) (omega (arith, le_fact (v (negsuc 0) ⊗ v a ⊕ v (pos 0) ⊗ v a') (v (pos 1) ⊗ neg (v d)) h))

-- and falls by δ
pub fallen_by : (a a' d : ℤ) → (negsuc 0 *ℤ a +ℤ pos 1 *ℤ a') ≤ℤ (pos 1 *ℤ neg_ℤ d) → d ≤ℤ (a -ℤ a')
fallen_by a a' d h = solve_le (v d) (v a ⊝ v a') (omega (arith, le_fact (v (negsuc 0) ⊗ v a ⊕ v (pos 1) ⊗ v a') (v (pos 1) ⊗ neg (v d)) h))

-- no earlier one rises
pub no_higher : (a a' : ℤ) → (negsuc 0 *ℤ a +ℤ pos 1 *ℤ a') ≤ℤ (pos 1 *ℤ pos 0) → a' ≤ℤ a
no_higher a a' h = solve_le (v a') (v a) (omega (arith, le_fact (v (negsuc 0) ⊗ v a ⊕ v (pos 1) ⊗ v a') (v (pos 1) ⊗ v (pos 0)) h))
