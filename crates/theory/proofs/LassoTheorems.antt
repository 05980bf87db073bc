-- A lasso bounds the runs that follow its stem: start and kept give the invariant at every state, so each step also meets the added row, and the
-- ranking argument runs over the longer loop (`AddedRow`).
use Prim.Native.Nat.{ℕ, ◌≤◌, zero-le}
use mathlib.Core.List.{List}
use native.Mathlib.Omega.{arith}
use lib.IntN.{ℤ, pos, neg_ℤ, ◌+ℤ◌, ◌-ℤ◌, ◌*ℤ◌}
use lib.Signed.{◌≤ℤ◌}
use Rattle.whole.specs.Sums.{dot}
use Rattle.whole.proofs.Solve.{v, ◌⊕◌, ◌⊝◌, ◌⊗◌, neg, solve_le, le_fact}
use Rattle.whole.proofs.Ring.{pos_mono, mul_mono, mul_cancel}
use Rattle.theory.specs.Loops.{Loop, Step}
use Rattle.theory.specs.Rankings.{rank, start, fall, Bounds}
use Rattle.theory.specs.Lassos.{Lasso, NonNegativeLasso, LassoHolds, stem_of, added, longer, starting, keeping, Invariant, LassoPromise}
use Rattle.theory.proofs.Steps.{weighed_step}
use Rattle.theory.proofs.LassoParts.{start_weighs, kept_weighs}
use Rattle.theory.proofs.AddedRow.{meets_added, keeps_all, kept_bounds_runs}

-- a scaled number that is not below 0
unscale : (k : ℕ) (z : ℤ) → 1 ≤ k → pos 0 ≤ℤ (pos k *ℤ z) → pos 0 ≤ℤ z
unscale k z h n =
    mul_cancel (pos k)
    (pos_mono h)
    (solve_le (v (pos k) ⊗ v (pos 0)) (v (pos k) ⊗ v z) (omega (arith, le_fact (v (pos 0)) (v (pos k) ⊗ v z) n)))

module _ (loop : Loop) (c : Lasso) (nonneg : NonNegativeLasso c) (k_positive : 1 ≤ c.k) (k2_positive : 1 ≤ c.k2) (holds : LassoHolds loop c) where
  -- start: k(s·x' + s0) >= 0 after a stem step
  starts : (x x' : List ℤ) → Step (stem_of loop c) 1 x x' → Invariant c x'
  starts x x' t =
      unscale c.k _ k_positive
      (scaled (pos c.k) c.s0 (dot c.s x) (dot c.s x')
      (weighed_step loop.variables (starting c) 1 x x' nonneg.0 (start_weighs loop c holds) t))
    where
      scaled : (k s0 s·x s·x' : ℤ) → (pos 0 *ℤ s·x +ℤ neg_ℤ k *ℤ s·x') ≤ℤ (pos 1 *ℤ (k *ℤ s0)) → pos 0 ≤ℤ (k *ℤ (s·x' +ℤ s0))
      scaled k s0 s·x s·x' h =
          solve_le (v (pos 0)) (v k ⊗ (v s·x' ⊕ v s0))
          (omega (arith, le_fact (v (pos 0) ⊗ v s·x ⊕ neg (v k) ⊗ v s·x') (v (pos 1) ⊗ (v k ⊗ v s0)) h))

  -- kept: k2(s·x' + s0) >= h0(s·x + s0) >= 0 after a loop step
  keeps : (x x' : List ℤ) → Invariant c x → Step loop 1 x x' → Invariant c x'
  keeps x x' i t =
      unscale c.k2 _ k2_positive
      (scaled (pos c.k2) (pos c.h0) c.s0 (dot c.s x) (dot c.s x')
      (weighed_step loop.variables (keeping loop c) 1 x x' nonneg.1 (kept_weighs loop c holds) t)
      (mul_mono (pos c.h0) (pos_mono zero-le) i))
    where
      scaled : (k2 h0 s0 s·x s·x' : ℤ) → (h0 *ℤ s·x +ℤ neg_ℤ k2 *ℤ s·x') ≤ℤ (pos 1 *ℤ ((k2 -ℤ h0) *ℤ s0))
          → (h0 *ℤ pos 0) ≤ℤ (h0 *ℤ (s·x +ℤ s0)) → pos 0 ≤ℤ (k2 *ℤ (s·x' +ℤ s0))
      scaled k2 h0 s0 s·x s·x' h i =
          solve_le (v (pos 0)) (v k2 ⊗ (v s·x' ⊕ v s0))
          (omega (
            arith,
            le_fact (v h0 ⊗ v s·x ⊕ neg (v k2) ⊗ v s·x') (v (pos 1) ⊗ ((v k2 ⊝ v h0) ⊗ v s0)) h,
            le_fact (v h0 ⊗ v (pos 0)) (v h0 ⊗ (v s·x ⊕ v s0)) i,
          ))

  -- the runs from states that meet the invariant are bounded
  bounded : Bounds loop (Invariant c) (rank (longer loop c) c.ranking) (start (longer loop c) c.ranking) (fall (longer loop c) c.ranking)
  bounded = kept_bounds_runs loop (Invariant c) keeps (added loop c) (meets_added loop.variables c.s c.s0) c.ranking nonneg.2 holds.ranked

  pub lasso_bounds_runs : LassoPromise loop c (rank (longer loop c) c.ranking) (start (longer loop c) c.ranking) (fall (longer loop c) c.ranking)
  lasso_bounds_runs =
      record {
        started = starts;
        kept = keeps_all loop (Invariant c) keeps;
        from_invariant = bounded;
        steps_after_stem = λ x x' ys t. bounded.steps x' ys (starts x x' t);
        ends_after_stem = λ x state t. bounded.ends state (starts x (state 0) t);
      }
