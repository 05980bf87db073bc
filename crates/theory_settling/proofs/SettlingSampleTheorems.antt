-- Theorems about the samples. The curve has no linear rank that holds from the start, and yet no run of it is endless; its settling
-- bound is attained. And the tables of what is told and computed.
use mathlib.Core.Bool.{true}
use mathlib.Core.Path.{◌≡◌, refl}
use mathlib.Core.List.{List, [], ◌∷◌, map}
use Prim.Native.Nat.{ℕ}
use native.Mathlib.Omega.{arith}
use lib.IntN.{ℤ, pos}
use Rattle.refusal.specs.Tests.{done}
use Rattle.whole.specs.Sums.{dot, Each}
use Rattle.theory.specs.Conditions.{exclusion_told}
use Rattle.theory.specs.Exclusions.{OfSize, ExclusionHolds, step_is_whole}
use Rattle.theory.specs.Loops.{Run, Endless}
use Rattle.theory.specs.Rankings.{Ranking, NonNegative, RankingHolds, RanksWhole, RanksFractions}
use Rattle.theory.proofs.Decisions.{exclusion_decided}
use Rattle.theory.proofs.ExclusionTheorems.{exclusion_excludes, not_both}
use Rattle.theory_settling.specs.Settlings.{NonNegativeSettling, SettlingHolds, unsettled_steps, settling_bound}
use Rattle.theory_settling.specs.SettlingConditions.{settling_told}
use Rattle.theory_settling.specs.SettlingSamples.{curve, curve_settles, curve_excluded, curve_run}
use Rattle.theory_settling.specs.SettlingTable.{told, computed, settling_bounds, computing}
use Rattle.theory_settling.proofs.SettlingDecisions.{settling_decided}
use Rattle.theory_settling.proofs.SettlingTheorems.{settling_ends}

-- a settling and an exclusion may be accepted for one loop: there is no `never_both` of these two kinds
pub settled_and_excluded : (settling_told curve curve_settles ≡ done) × (exclusion_told curve curve_excluded ≡ done)
unfolding computing
settled_and_excluded = (refl, refl)

-- ---- no linear rank holds from the start, over fractions or whole numbers, so the curve has no ranking

curve_sized : OfSize curve curve_excluded
unfolding curve curve_excluded
curve_sized = record { U-entries = refl; V-entries = refl; W-entries = refl }

curve_is_excluded : ExclusionHolds curve curve_excluded
curve_is_excluded = (exclusion_decided curve curve_excluded).0 settled_and_excluded.1

pub curve_step_is_whole : step_is_whole curve_excluded ≡ true
unfolding computing
curve_step_is_whole = refl

pub no_rank_over_fractions : (r : List ℤ) (δ0 δ : ℤ) → RanksFractions curve r δ0 δ → ⊥
unfolding curve_excluded
no_rank_over_fractions = (exclusion_excludes curve curve_excluded curve_sized (omega arith) curve_is_excluded).0

pub no_rank_over_whole : (r : List ℤ) (δ0 δ : ℤ) → RanksWhole curve r δ0 δ → ⊥
unfolding curve_excluded
no_rank_over_whole = (exclusion_excludes curve curve_excluded curve_sized (omega arith) curve_is_excluded).1 curve_step_is_whole

pub no_ranking_of_it : (c : Ranking) → NonNegative c → RankingHolds curve c → ⊥
unfolding curve_excluded
no_ranking_of_it c nonneg holds = not_both curve c curve_excluded nonneg holds curve_sized (omega arith) curve_is_excluded

-- ---- and yet no run is endless

pub curve_non_negative : NonNegativeSettling curve_settles
unfolding curve_settles Each
curve_non_negative = search

pub curve_holds : SettlingHolds curve curve_settles
curve_holds = (settling_decided curve curve_settles).0 settled_and_excluded.0

pub settles_all_the_same : (state : ℕ → List ℤ) → Endless curve state → ⊥
unfolding curve_settles
settles_all_the_same = settling_ends curve curve_settles curve_non_negative (omega arith) curve_holds

-- ---- the settling bound is attained: of this run from (0, 5), which ends where x is negative, 6 steps are taken before the threshold

pub curve_runs : Run curve (pos 0 ∷ pos 5 ∷ []) curve_run
unfolding Run curve Each dot
curve_runs = (search, (search, (search, (search, (search, (search, (search, (search, (search, (search, (search, (search, refl))))))))))))

pub settling_bound_attained : (unsettled_steps curve_settles (pos 0 ∷ pos 5 ∷ []) curve_run ≡ 6)
    × (settling_bound curve_settles (pos 0 ∷ pos 5 ∷ []) ≡ 6)
unfolding computing
settling_bound_attained = (refl, refl)

-- ---- the tables

pub samples_told : map (λ line. line.0) told ≡ map (λ line. line.1) told
unfolding computing
samples_told = refl

pub samples_computed : map (λ line. line.0) computed ≡ map (λ line. line.1) computed
unfolding computing
samples_computed = refl

pub settling_bounds_computed : map (λ line. line.0) settling_bounds ≡ map (λ line. line.1) settling_bounds
unfolding computing
settling_bounds_computed = refl
