-- Definitions that the theorems use only before an arrow or under a negation are pinned here: something is in each of them, and something is not. A
-- set of steps, runs or ranking functions that is made smaller (or larger) than 01 says then no longer passes, though every theorem about it still might.
use Prim.Native.Nat.{ℕ, suc, ◌≤◌}
use mathlib.Core.Bool.{true, false}
use mathlib.Core.Path.{◌≡◌, refl}
use mathlib.Core.List.{List, [], ◌∷◌}
use native.Mathlib.Omega.{arith}
use lib.IntN.{ℤ, pos, negsuc, ◌+ℤ◌, ◌-ℤ◌, ◌*ℤ◌}
use lib.ListN.{length}
use lib.Signed.{◌≤ℤ◌, le_z_yes}
use Rattle.whole.specs.Sums.{dot, less, add, scale, Each}
use Rattle.whole.proofs.Solve.{v, ◌⊕◌, ◌⊝◌, ◌⊗◌, solve_le, le_fact}
use Rattle.theory.specs.Loops.{Loop, over, Step, Run, Endless}
use Rattle.theory.specs.Rankings.{NonNegative, Ranks, RanksWhole, RanksFractions}
use Rattle.theory.specs.Exclusions.{OfSize, ExclusionHolds, divides, all_divided, step_is_whole}
use Rattle.theory.specs.Lassos.{stem_of, Invariant, NonNegativeLasso}
use Rattle.theory.specs.Samples.{row, P, S1, S7-loop, S7, S9-loop, S9, half_steps, half_step, never_below, odd_U, S10-loop, S10, S14-loop, upward}
use Rattle.theory.specs.Table.{computing}
use Rattle.theory.specs.Weights.{PutIn, none, new}
use Rattle.theory.proofs.Decisions.{lasso_decided}
use Rattle.theory.proofs.ExclusionTheorems.{exclusion_excludes}
use Rattle.theory.proofs.LassoTheorems.{lasso_bounds_runs}
use Rattle.theory.proofs.SampleTheorems.{only, dot_only, S9-no-whole-step}

-- ---- steps between fractions: S9's loop has one from 1/2 to 1/2 (`S9-step-between-halves`), and none from 0/2 to 0/2

pub S9-no-step-at-zero : Step S9-loop 2 (pos 0 ∷ []) (pos 0 ∷ []) → ⊥
unfolding S9-loop Each dot
S9-no-step-at-zero t = t.meets.1.0.le

-- states have one entry per variable
pub no_step_of_no_entries : Step (over 1 []) 1 [] [] → ⊥
no_step_of_no_entries t = omega (arith, t.before)

pub no_run_of_no_entries : Run (over 1 []) [] [] → ⊥
unfolding Run
no_run_of_no_entries e = omega (arith, e)

-- ---- endless runs: every sequence of states is one of a loop without rows; 0, 1, 2, .. is one of the loop x' >= x + 1, and 0, 0, 0, .. is not

pub no_rows_endless : (n : ℕ) (state : ℕ → List ℤ) → ((i : ℕ) → length (state i) ≡ n) → Endless (over n []) state
unfolding Each
no_rows_endless n state h i = record { before = h i; after = h (suc i); meets = tt }

rises : (a c : ℤ) → (a +ℤ pos 1) ≤ℤ c → Step upward 1 (a ∷ []) (c ∷ [])
unfolding upward Each dot
rises a c h =
    record {
      before = refl;
      after = refl;
      meets = (
        solve_le (v (pos 1) ⊗ v a ⊕ v (pos 0) ⊕ (v (negsuc 0) ⊗ v c ⊕ v (pos 0))) (v (negsuc 0)) (omega (arith, le_fact (v a ⊕ v (pos 1)) (v c) h)),
        tt,
      );
    }

pub upward_endless : Endless upward (λ i. pos i ∷ [])
upward_endless i = rises (pos i) (pos (suc i)) (solve_le (v (pos i) ⊕ v (pos 1)) (v (pos (suc i))) (omega arith))

pub upward_not_level : Endless upward (λ i. pos 0 ∷ []) → ⊥
unfolding upward Each dot
upward_not_level e = (e 0).meets.0.le

-- ---- the stem of S10: (5, 1) follows a stem step, which is no step of the loop, and (5, 0) follows none; the invariant holds at the one alone

pub S10-stem-step : Step (stem_of S10-loop S10) 1 (pos 0 ∷ pos 0 ∷ []) (pos 5 ∷ pos 1 ∷ [])
unfolding S10-loop S10 Each dot
S10-stem-step = search

pub S10-no-loop-step : Step S10-loop 1 (pos 0 ∷ pos 0 ∷ []) (pos 5 ∷ pos 1 ∷ []) → ⊥
unfolding S10-loop Each dot
S10-no-loop-step t = t.meets.1.0.le

-- T, H, Y and Z are not below 0
pub non_negative_lasso : NonNegativeLasso S10
unfolding S10 Each
non_negative_lasso = search

-- what the promise says after that step: no run from (5, 1) has more than 6 steps
pub S10-bounded : (ys : List (List ℤ)) → Run S10-loop (pos 5 ∷ pos 1 ∷ []) ys → length ys ≤ 6
unfolding computing
S10-bounded ys run =
    (lasso_bounds_runs S10-loop S10 non_negative_lasso (omega arith) (omega arith) ((lasso_decided S10-loop S10).0 refl)).steps_after_stem _ _ ys S10-stem-step run

pub S10-invariant : Invariant S10 (pos 5 ∷ pos 1 ∷ []) × (Invariant S10 (pos 5 ∷ pos 0 ∷ []) → ⊥)
unfolding S10 dot
S10-invariant = (le_z_yes tt, λ h. h.le)

-- ---- linear ranking functions: S14's loop has r 3 with start -5 and fall 4, which no multipliers give; a start of 1, a fall of 3 or of 0 it has not

-- a step of S14's loop between X/p and X'/p: X >= 0, and X' - X <= -2p
S14-step : (p : ℕ) (X X' : List ℤ) → Step S14-loop p X X' → (pos 0 ≤ℤ only X) × ((only X' -ℤ only X) ≤ℤ (pos p *ℤ negsuc 1))
unfolding S14-loop Each
S14-step p X X' t =
    plain (only X) (only X') (rw (dot_only (negsuc 0) X, dot_only (pos 0) X') at t.meets.0) (rw (dot_only (negsuc 0) X, dot_only (pos 1) X') at t.meets.1.0)
  where
    plain : (a c : ℤ) → (negsuc 0 *ℤ a +ℤ pos 0 *ℤ c) ≤ℤ (pos p *ℤ pos 0) → (negsuc 0 *ℤ a +ℤ pos 1 *ℤ c) ≤ℤ (pos p *ℤ negsuc 1)
        → (pos 0 ≤ℤ a) × ((c -ℤ a) ≤ℤ (pos p *ℤ negsuc 1))
    plain a c h k = (
      solve_le (v (pos 0)) (v a) (omega (arith, le_fact (v (negsuc 0) ⊗ v a ⊕ v (pos 0) ⊗ v c) (v (pos p) ⊗ v (pos 0)) h)),
      solve_le (v c ⊝ v a) (v (pos p) ⊗ v (negsuc 1)) (omega (arith, le_fact (v (negsuc 0) ⊗ v a ⊕ v (pos 1) ⊗ v c) (v (pos p) ⊗ v (negsuc 1)) k)),
    )

pub S14-ranks : RanksFractions S14-loop (pos 3 ∷ []) (negsuc 4) (pos 4)
unfolding S14-loop
S14-ranks p h =
    record {
      entries = refl;
      positive = le_z_yes tt;
      bounded = λ X X' t. rw (dot_only (pos 3) X) (above (only X) (S14-step p X X' t).0);
      falls = λ X X' t. rw (dot_only (pos 3) X, dot_only (pos 3) X') (below (only X) (only X') (S14-step p X X' t).1);
    }
  where
    above : (a : ℤ) → pos 0 ≤ℤ a → (pos p *ℤ negsuc 4) ≤ℤ (pos 3 *ℤ a)
    above a k = solve_le (v (pos p) ⊗ v (negsuc 4)) (v (pos 3) ⊗ v a) (omega (arith, le_fact (v (pos 0)) (v a) k))

    below : (a c : ℤ) → (c -ℤ a) ≤ℤ (pos p *ℤ negsuc 1) → (pos p *ℤ pos 4) ≤ℤ (pos 3 *ℤ a -ℤ pos 3 *ℤ c)
    below a c k =
        solve_le (v (pos p) ⊗ v (pos 4)) (v (pos 3) ⊗ v a ⊝ v (pos 3) ⊗ v c) (omega (arith, le_fact (v c ⊝ v a) (v (pos p) ⊗ v (negsuc 1)) k))

-- the step from 0 to -2
from_zero : Step S14-loop 1 (pos 0 ∷ []) (negsuc 1 ∷ [])
unfolding S14-loop Each dot
from_zero = search

pub S14-start-too-high : RanksWhole S14-loop (pos 1 ∷ []) (pos 1) (pos 1) → ⊥
unfolding dot
S14-start-too-high ranks = (ranks.bounded _ _ from_zero).le

pub S14-fall-too-large : RanksWhole S14-loop (pos 1 ∷ []) (pos 0) (pos 3) → ⊥
unfolding dot
S14-fall-too-large ranks = (ranks.falls _ _ from_zero).le

pub no_fall_of_zero : (loop : Loop) (p : ℕ) (r : List ℤ) (δ0 : ℤ) → Ranks loop p r δ0 (pos 0) → ⊥
no_fall_of_zero loop p r δ0 ranks = ranks.positive.le

-- where no step between whole numbers is, every r with an entry per variable ranks over whole numbers
no_step_ranked : (loop : Loop) → ((x x' : List ℤ) → Step loop 1 x x' → ⊥) → (r : List ℤ) (δ0 : ℤ) → length r ≡ loop.variables → RanksWhole loop r δ0 (pos 1)
no_step_ranked loop no_step r δ0 entries =
    record { entries = entries; positive = le_z_yes tt; bounded = λ X X' t. absurd (no_step X X' t); falls = λ X X' t. absurd (no_step X X' t) }

-- S9's loop has no such step, so every r ranks it over whole numbers; over fractions none does
pub S9-ranked-whole : (r δ0 : ℤ) → RanksWhole S9-loop (r ∷ []) δ0 (pos 1)
unfolding S9-loop
S9-ranked-whole r δ0 = no_step_ranked S9-loop S9-no-whole-step (r ∷ []) δ0 refl

S9-excluded : ExclusionHolds S9-loop S9
unfolding S9-loop S9 Each dot less add scale
S9-excluded = search

pub S9-not-ranked : (r : List ℤ) (δ0 δ : ℤ) → RanksFractions S9-loop r δ0 δ → ⊥
unfolding S9-loop S9
S9-not-ranked = (exclusion_excludes S9-loop S9 (record { U-entries = refl; V-entries = refl; W-entries = refl }) (omega arith) S9-excluded).0

-- ---- the whole grade's rule is no wider than it may be: where q divides V and not W (S9, above), and where it divides W and not V (`half_step`),
-- an exclusion holds of a loop that every r ranks over whole numbers

half_steps_no_whole_step : (x x' : List ℤ) → Step half_steps 1 x x' → ⊥
unfolding half_steps Each
half_steps_no_whole_step x x' t =
    plain (only x) (only x') (rw (dot_only (negsuc 1) x, dot_only (pos 2) x') at t.meets.0) (rw (dot_only (pos 2) x, dot_only (negsuc 1) x') at t.meets.1.0)
  where
    plain : (a c : ℤ) → (negsuc 1 *ℤ a +ℤ pos 2 *ℤ c) ≤ℤ (pos 1 *ℤ negsuc 0) → (pos 2 *ℤ a +ℤ negsuc 1 *ℤ c) ≤ℤ (pos 1 *ℤ pos 1) → ⊥
    plain a c h k =
        omega (
          arith,
          le_fact (v (negsuc 1) ⊗ v a ⊕ v (pos 2) ⊗ v c) (v (pos 1) ⊗ v (negsuc 0)) h,
          le_fact (v (pos 2) ⊗ v a ⊕ v (negsuc 1) ⊗ v c) (v (pos 1) ⊗ v (pos 1)) k,
        )

pub half_steps_ranked_whole : (r δ0 : ℤ) → RanksWhole half_steps (r ∷ []) δ0 (pos 1)
unfolding half_steps
half_steps_ranked_whole r δ0 = no_step_ranked half_steps half_steps_no_whole_step (r ∷ []) δ0 refl

pub by_V_alone_too_wide : ExclusionHolds S9-loop S9 × (all_divided S9.q S9.«V» ≡ true) × (step_is_whole S9 ≡ false)
unfolding S9 step_is_whole all_divided divides
by_V_alone_too_wide = (S9-excluded, refl, refl)

pub by_W_alone_too_wide : ExclusionHolds half_steps half_step × (all_divided half_step.q half_step.W ≡ true) × (step_is_whole half_step ≡ false)
unfolding half_steps half_step Each dot less add scale step_is_whole all_divided divides
by_W_alone_too_wide = (search, refl, refl)

-- nor narrower: U need not be divided
pub whole_with_odd_U : (r : List ℤ) (δ0 δ : ℤ) → RanksWhole never_below r δ0 δ → ⊥
unfolding never_below odd_U Each dot less add scale step_is_whole all_divided divides
whole_with_odd_U = (exclusion_excludes never_below odd_U (record { U-entries = refl; V-entries = refl; W-entries = refl }) (omega arith) (search)).1 refl

-- ---- what the theorems ask of a certificate's values

pub non_negative : NonNegative S1 × (NonNegative (record { Y = negsuc 0 ∷ []; Z = [] }) → ⊥) × (NonNegative (record { Y = []; Z = negsuc 0 ∷ [] }) → ⊥)
unfolding S1 Each
non_negative = (search, λ h. h.0.0.le, λ h. h.1.0.le)

pub of_size : OfSize S7-loop S7 × (OfSize P S7 → ⊥)
unfolding S7-loop S7 P
of_size = (record { U-entries = refl; V-entries = refl; W-entries = refl }, λ h. omega (arith, h.U-entries))

-- ---- rows put in: one before P's rows, with zero multipliers; a row with a multiplier is not put in

pub row_put_in : PutIn [] [] [] (row [] [] (pos 0) ∷ []) (pos 0 ∷ []) (pos 0 ∷ [])
row_put_in = new (row [] [] (pos 0)) none

pub row_not_put_in : PutIn [] [] [] (row [] [] (pos 0) ∷ []) (pos 1 ∷ []) (pos 0 ∷ []) → ⊥
row_not_put_in = elim [ ]
