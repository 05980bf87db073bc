-- What the rise and the added row say of whole numbers: k is the rise's factor, a and a' are g·x before and after a step, t is the threshold.
use native.Mathlib.Omega.{arith}
use lib.IntN.{ℤ, pos, neg_ℤ, ◌+ℤ◌, ◌*ℤ◌}
use lib.Signed.{◌≤ℤ◌}
use Rattle.whole.proofs.Solve.{v, ◌⊕◌, ◌⊗◌, neg, solve_le, le_fact}

-- the rise: what falls by k when weighed rises by 1, k times
pub risen_by_one : (k a a' : ℤ) → (k *ℤ a +ℤ neg_ℤ k *ℤ a') ≤ℤ (pos 1 *ℤ neg_ℤ k) → (k *ℤ (a +ℤ pos 1)) ≤ℤ (k *ℤ a')
risen_by_one k a a' h =
    solve_le (v k ⊗ (v a ⊕ v (pos 1))) (v k ⊗ v a') (omega (arith, le_fact (v k ⊗ v a ⊕ neg (v k) ⊗ v a') (v (pos 1) ⊗ neg (v k)) h))

-- past the threshold the added row is met
pub past_threshold : (t a : ℤ) → t ≤ℤ a → pos 0 ≤ℤ (a +ℤ neg_ℤ t)
past_threshold t a s = solve_le (v (pos 0)) (v a ⊕ neg (v t)) (omega (arith, le_fact (v t) (v a) s))
