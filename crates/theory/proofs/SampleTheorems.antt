-- Theorems about loops of the sample sheet: the bound is attained (S14), an exclusion does not mean that a loop runs for ever (S7), and a loop may have
-- steps between fractions and none between whole numbers (S9).
use Prim.Native.Nat.{ℕ, zero, suc, ◌+◌, ◌*◌, ◌/◌, ◌≤◌, zero-le}
use mathlib.Core.Path.{◌≡◌, refl, sym, ◌∙◌}
use mathlib.Core.List.{List, [], ◌∷◌, map}
use native.Mathlib.Omega.{arith}
use borrow.Author.Tests.{le-ltb}
use lib.IntN.{ℤ, pos, negsuc, ◌+ℤ◌, ◌-ℤ◌, ◌*ℤ◌, +ℤ_idr}
use lib.ListN.{length, get_or}
use lib.Signed.{◌≤ℤ◌, le_z_yes}
use Rattle.whole.specs.Sums.{dot, sum, tabulate, less, add, scale, Each}
use Rattle.whole.proofs.Solve.{v, ◌⊕◌, ◌⊝◌, ◌⊗◌, solve, solve_le, solve_lt, eq_fact, le_fact}
use Rattle.whole.proofs.Ring.{pos_mono}
use Rattle.whole.proofs.Compare.{lt_true}
use Rattle.whole.proofs.SumLaws.{dot_cons}
use Rattle.theory.specs.Loops.{Step, Run}
use Rattle.theory.specs.Rankings.{rank, start, fall, bound}
use Rattle.theory.specs.Exclusions.{ExclusionHolds}
use Rattle.theory.specs.Samples.{S7-loop, S7, S9-loop, S14-loop, S14}
use Rattle.theory.specs.Table.{told, computed, whole_steps, computing}

-- the only variable
abbrev pub only : List ℤ → ℤ
only x = get_or x 0 (pos 0)

pub dot_only : (a : ℤ) (x : List ℤ) → dot (a ∷ []) x ≡ a *ℤ only x
unfolding dot
dot_only a x = dot_cons a [] x ∙ +ℤ_idr (a *ℤ only x)

-- ---- S7

-- a step of S7's loop: x >= 0 and 2x + x' = 10
S7-step : (x x' : List ℤ) → Step S7-loop 1 x x' → (pos 0 ≤ℤ only x) × (pos 2 *ℤ only x +ℤ only x' ≡ pos 10)
unfolding S7-loop Each
S7-step x x' t =
    plain (only x) (only x') (rw (dot_only (negsuc 0) x, dot_only (pos 0) x') at t.meets.0)
    (rw (dot_only (pos 2) x, dot_only (pos 1) x') at t.meets.1.0) (rw (dot_only (negsuc 1) x, dot_only (negsuc 0) x') at t.meets.1.1.0)
  where
    plain : (a c : ℤ) → (negsuc 0 *ℤ a +ℤ pos 0 *ℤ c) ≤ℤ (pos 1 *ℤ pos 0) → (pos 2 *ℤ a +ℤ pos 1 *ℤ c) ≤ℤ (pos 1 *ℤ pos 10)
        → (negsuc 1 *ℤ a +ℤ negsuc 0 *ℤ c) ≤ℤ (pos 1 *ℤ negsuc 9) → (pos 0 ≤ℤ a) × (pos 2 *ℤ a +ℤ c ≡ pos 10)
    plain a c h k l = (
      solve_le (v (pos 0)) (v a) (omega (arith, le_fact (v (negsuc 0) ⊗ v a ⊕ v (pos 0) ⊗ v c) (v (pos 1) ⊗ v (pos 0)) h)),
      solve (v (pos 2) ⊗ v a ⊕ v c) (v (pos 10))
          (omega (
            arith,
            le_fact (v (pos 2) ⊗ v a ⊕ v (pos 1) ⊗ v c) (v (pos 1) ⊗ v (pos 10)) k,
            le_fact (v (negsuc 1) ⊗ v a ⊕ v (negsuc 0) ⊗ v c) (v (pos 1) ⊗ v (negsuc 9)) l,
          )),
    )

-- a fifth step is too many: the fourth state is 30 - 8x, the fifth 16x - 50, and both would have to be 0 or more
no_fifth : (x a b c d : ℤ) → pos 2 *ℤ x +ℤ a ≡ pos 10 → pos 2 *ℤ a +ℤ b ≡ pos 10 → pos 2 *ℤ b +ℤ c ≡ pos 10 → pos 2 *ℤ c +ℤ d ≡ pos 10
    → pos 0 ≤ℤ c → pos 0 ≤ℤ d → ⊥
no_fifth x a b c d h i j k hc hd =
    omega (
      arith,
      eq_fact (v (pos 2) ⊗ v x ⊕ v a) (v (pos 10)) h,
      eq_fact (v (pos 2) ⊗ v a ⊕ v b) (v (pos 10)) i,
      eq_fact (v (pos 2) ⊗ v b ⊕ v c) (v (pos 10)) j,
      eq_fact (v (pos 2) ⊗ v c ⊕ v d) (v (pos 10)) k,
      le_fact (v (pos 0)) (v c) hc,
      le_fact (v (pos 0)) (v d) hd,
    )

pub S7-at-most-four-steps : (x : List ℤ) (ys : List (List ℤ)) → Run S7-loop x ys → length ys ≤ 4
unfolding Run
S7-at-most-four-steps x [] t = omega arith
S7-at-most-four-steps x (a ∷ []) t = omega arith
S7-at-most-four-steps x (a ∷ b ∷ []) t = omega arith
S7-at-most-four-steps x (a ∷ b ∷ c ∷ []) t = omega arith
S7-at-most-four-steps x (a ∷ b ∷ c ∷ d ∷ []) t = omega arith
S7-at-most-four-steps x (a ∷ b ∷ c ∷ d ∷ e ∷ ys) t =
    absurd
    (no_fifth (only x) (only a) (only b) (only c) (only d)
    (S7-step x a t.0).1
    (S7-step a b t.1.0).1
    (S7-step b c t.1.1.0).1
    (S7-step c d t.1.1.1.0).1
    (S7-step c d t.1.1.1.0).0
    (S7-step d e t.1.1.1.1.0).0)

pub S7-four-steps : Run S7-loop (pos 3 ∷ []) ((pos 4 ∷ []) ∷ (pos 2 ∷ []) ∷ (pos 6 ∷ []) ∷ (negsuc 1 ∷ []) ∷ [])
unfolding Run S7-loop Each dot
S7-four-steps = search

pub S7-excluded : ExclusionHolds S7-loop S7
unfolding S7-loop S7 Each dot less add scale
S7-excluded = search

-- ---- S9

pub S9-no-whole-step : (x x' : List ℤ) → Step S9-loop 1 x x' → ⊥
unfolding S9-loop Each
S9-no-whole-step x x' t =
    plain (only x) (only x') (rw (dot_only (pos 2) x, dot_only (pos 0) x') at t.meets.0) (rw (dot_only (negsuc 1) x, dot_only (pos 0) x') at t.meets.1.0)
  where
    plain : (a c : ℤ) → (pos 2 *ℤ a +ℤ pos 0 *ℤ c) ≤ℤ (pos 1 *ℤ pos 1) → (negsuc 1 *ℤ a +ℤ pos 0 *ℤ c) ≤ℤ (pos 1 *ℤ negsuc 0) → ⊥
    plain a c h k =
        omega (
          arith,
          le_fact (v (pos 2) ⊗ v a ⊕ v (pos 0) ⊗ v c) (v (pos 1) ⊗ v (pos 1)) h,
          le_fact (v (negsuc 1) ⊗ v a ⊕ v (pos 0) ⊗ v c) (v (pos 1) ⊗ v (negsuc 0)) k,
        )

pub S9-step-between-halves : Step S9-loop 2 (pos 1 ∷ []) (pos 1 ∷ [])
unfolding S9-loop Each dot
S9-step-between-halves = search

-- ---- S14

S14-step : (x x' : ℤ) → pos 0 ≤ℤ x → (x' -ℤ x) ≤ℤ negsuc 1 → Step S14-loop 1 (x ∷ []) (x' ∷ [])
unfolding S14-loop Each dot
S14-step x x' h k =
    record {
      before = refl;
      after = refl;
      meets = (
        solve_le (v (negsuc 0) ⊗ v x ⊕ v (pos 0) ⊕ (v (pos 0) ⊗ v x' ⊕ v (pos 0))) (v (pos 0)) (omega (arith, le_fact (v (pos 0)) (v x) h)),
        (
          solve_le (v (negsuc 0) ⊗ v x ⊕ v (pos 0) ⊕ (v (pos 1) ⊗ v x' ⊕ v (pos 0))) (v (negsuc 1)) (omega (arith, le_fact (v x' ⊝ v x) (v (negsuc 1)) k)),
          tt,
        ),
      );
    }

-- from n down by two, to below 0
down : (n : ℕ) → (ys : List (List ℤ)) × Run S14-loop (pos n ∷ []) ys × (length ys ≡ n / 2 + 1)
unfolding Run S14-loop
down zero = ((negsuc 1 ∷ []) ∷ [], (S14-step (pos 0) (negsuc 1) (le_z_yes tt) (le_z_yes tt), refl), refl)
down (suc zero) = ((negsuc 0 ∷ []) ∷ [], (S14-step (pos 1) (negsuc 0) (le_z_yes tt) (le_z_yes tt), refl), refl)
down (suc (suc n)) =
    let rest = down n in
    ((pos n ∷ []) ∷ rest.0, (S14-step (pos (suc (suc n))) (pos n) (pos_mono zero-le) (solve_le (v (pos n) ⊝ v (pos (suc (suc n)))) (v (negsuc 1)) (omega arith)), rest.1), omega (arith, rest.2))

-- the bound at n, and below 0
S14-bound : (n : ℕ) → bound (rank S14-loop S14) (start S14-loop S14) (fall S14-loop S14) (pos n ∷ []) ≡ n / 2 + 1
unfolding bound rank start fall S14-loop S14 sum dot tabulate
S14-bound n = rw (le-ltb (1 * n + 0) 0 (omega arith)) (omega arith)

S14-bound-below : (n : ℕ) → bound (rank S14-loop S14) (start S14-loop S14) (fall S14-loop S14) (negsuc n ∷ []) ≡ 0
unfolding bound rank start fall S14-loop S14 sum dot tabulate
S14-bound-below n = rw (lt_true (solve_lt (v (pos 1) ⊗ v (negsuc n) ⊕ v (pos 0)) (v (pos 0)) (omega arith)))

-- for every whole x, S14's loop has a run from x with exactly bound(x) steps
pub bound_is_attained : (x : ℤ)
    → (ys : List (List ℤ)) × Run S14-loop (x ∷ []) ys × (length ys ≡ bound (rank S14-loop S14) (start S14-loop S14) (fall S14-loop S14) (x ∷ []))
unfolding Run S14-loop
bound_is_attained (pos n) = let run = down n in (run.0, run.1, run.2 ∙ sym (S14-bound n))
bound_is_attained (negsuc n) = ([], refl, sym (S14-bound-below n))

-- ---- the tables of samples

pub samples_told : map (λ line. line.0) told ≡ map (λ line. line.1) told
unfolding computing
samples_told = refl

pub samples_computed : map (λ line. line.0) computed ≡ map (λ line. line.1) computed
unfolding computing
samples_computed = refl

pub whole_steps_told : map (λ line. line.0) whole_steps ≡ map (λ line. line.1) whole_steps
unfolding computing
whole_steps_told = refl
