-- What the conditions of a pair of records tell: exactly the first that fails, with a number from 21 to 46 and a column or a row of
-- the loop. So 0 is told only when all of them hold, and no number of another test is told by them.
use mathlib.Core.Path.{◌≡◌, sym, ap, ◌∙◌}
use mathlib.Core.Logic.{◌↔◌}
use Prim.Native.Nat.{ℕ, ◌+◌, ◌≤◌, ◌<◌}
use native.Mathlib.Omega.{arith}
use lib.ListN.{length}
use Rattle.record.specs.Layouts.{Kind, loop, ranking, exclusion, lasso, other}
use Rattle.refusal.specs.Places.{FirstFailing}
use Rattle.refusal.specs.Tests.{refused, number}
use Rattle.refusal.proofs.FaultLaws.{Named}
use Rattle.refusal.proofs.TestLaws.{never}
use Rattle.theory.specs.Conditions.{ranking_told, exclusion_told, lasso_told}
use Rattle.theory.specs.Exclusions as Exclusions
use Rattle.theory.specs.Fails.{RankingFails, fails_21, fails_22, fails_23, fails_24, ExclusionFails, fails_31, fails_32}
use Rattle.theory.specs.Fails.{LassoFails, fails_41, fails_42, fails_43, fails_44, fails_45, fails_46, fails_ranked}
use Rattle.theory.specs.Lassos as Lassos
use Rattle.theory.specs.Loops.{Loop}
use Rattle.theory.specs.Rankings as Rankings
use Rattle.theory.proofs.Decisions.{told_exactly_ranking, told_exactly_exclusion, told_exactly_lasso}
use Rattle.verdict.specs.Claims.{ranking_claim, exclusion_claim, lasso_claim, no_claim}
use Rattle.verdict.specs.Contents.{loop_in, ranking_in, exclusion_in, lasso_in}
use Rattle.verdict.specs.Fails.{ConditionFails}
use Rattle.verdict.specs.Pairs.{Pair, pair_kind, claim, conditions}
use Rattle.verdict.proofs.StageLaws.{by_told}

-- ---- the conditions of each kind are its tests of the loop and the values that the bytes hold

module _ (p : Pair) where
  pub conditions_ranking : pair_kind p ≡ ranking → conditions p ≡ ranking_told (loop_in p.loop_is) (ranking_in p.certificate_is)
  unfolding conditions claim ranking_claim
  conditions_ranking e = ap (λ k. (claim k p).told) e

  pub conditions_exclusion : pair_kind p ≡ exclusion → conditions p ≡ exclusion_told (loop_in p.loop_is) (exclusion_in p.certificate_is)
  unfolding conditions claim exclusion_claim
  conditions_exclusion e = ap (λ k. (claim k p).told) e

  pub conditions_lasso : pair_kind p ≡ lasso → conditions p ≡ lasso_told (loop_in p.loop_is) (lasso_in p.certificate_is)
  unfolding conditions claim lasso_claim
  conditions_lasso e = ap (λ k. (claim k p).told) e

-- ---- exactly the first that fails

pub claim_told_exactly : (k : Kind) (p : Pair) (number place : ℕ)
    → ((claim k p).told ≡ refused number place) ↔ ConditionFails k p number place
unfolding claim ranking_claim exclusion_claim lasso_claim no_claim
claim_told_exactly loop p number place = (λ h. never (sym h), λ h. absurd h)
claim_told_exactly ranking p number place = told_exactly_ranking (loop_in p.loop_is) (ranking_in p.certificate_is) number place
claim_told_exactly exclusion p number place = told_exactly_exclusion (loop_in p.loop_is) (exclusion_in p.certificate_is) number place
claim_told_exactly lasso p number place = told_exactly_lasso (loop_in p.loop_is) (lasso_in p.certificate_is) number place
claim_told_exactly other p number place = (λ h. never (sym h), λ h. absurd h)

pub told_exactly_conditions : (p : Pair) (number place : ℕ)
    → (conditions p ≡ refused number place) ↔ ConditionFails (pair_kind p) p number place
unfolding conditions
told_exactly_conditions p number place = claim_told_exactly (pair_kind p) p number place

-- ---- the numbers are 21 to 46, and a place is a column or a row, or 0

pub record ConditionTold (most number place : ℕ) : Type 0 where
  pub beyond_20 : 20 < number
  pub no_more : number ≤ 46
  pub place_is : place < most

-- at the first place of n that fails, and at a right side
at_place : {most n k j : ℕ} {P : ℕ → Type 0} → 20 < k → k ≤ 46 → n ≤ most → FirstFailing n P j → ConditionTold most k j
at_place beyond no_more few f = record { beyond_20 = beyond; no_more = no_more; place_is = omega (arith, f.below) }

at_right : {most k : ℕ} → 20 < k → k ≤ 46 → 0 < most → ConditionTold most k 0
at_right beyond no_more some = record { beyond_20 = beyond; no_more = no_more; place_is = some }

pub ranking_told_lem : (most : ℕ) (l : Loop) (c : Rankings.Ranking) (k p : ℕ) → 0 < most → l.variables ≤ most → RankingFails l c k p
    → ConditionTold most k p
ranking_told_lem most l c k p some few (fails_21 f) = at_place (omega arith) (omega arith) few f
ranking_told_lem most l c k p some few (fails_22 g f) = at_place (omega arith) (omega arith) few f
ranking_told_lem most l c k p some few (fails_23 g h f) = at_place (omega arith) (omega arith) few f
ranking_told_lem most l c k p some few (fails_24 g h i f) = at_right (omega arith) (omega arith) some

exclusion_told_lem : (most : ℕ) (l : Loop) (c : Exclusions.Exclusion) (k p : ℕ) → length l.rows ≤ most → ExclusionFails l c k p
    → ConditionTold most k p
exclusion_told_lem most l c k p few (fails_31 f) = at_place (omega arith) (omega arith) few f
exclusion_told_lem most l c k p few (fails_32 g f) = at_place (omega arith) (omega arith) few f

lasso_told_lem : (most : ℕ) (l : Loop) (c : Lassos.Lasso) (k p : ℕ) → 0 < most → l.variables ≤ most → LassoFails l c k p
    → ConditionTold most k p
lasso_told_lem most l c k p some few (fails_41 f) = at_place (omega arith) (omega arith) few f
lasso_told_lem most l c k p some few (fails_42 g f) = at_place (omega arith) (omega arith) few f
lasso_told_lem most l c k p some few (fails_43 g h f) = at_right (omega arith) (omega arith) some
lasso_told_lem most l c k p some few (fails_44 s f) = at_place (omega arith) (omega arith) few f
lasso_told_lem most l c k p some few (fails_45 s g f) = at_place (omega arith) (omega arith) few f
lasso_told_lem most l c k p some few (fails_46 s g h f) = at_right (omega arith) (omega arith) some
lasso_told_lem most l c k p some few (fails_ranked s h f) = ranking_told_lem most (Lassos.longer l c) c.ranking k p some few f

-- of a loop of at most so many variables and rows
pub condition_told : (most : ℕ) (k : Kind) (p : Pair) (number place : ℕ) → 0 < most → (loop_in p.loop_is).variables ≤ most
    → length (loop_in p.loop_is).rows ≤ most → ConditionFails k p number place → ConditionTold most number place
condition_told most loop p number place some few few' h = absurd h
condition_told most ranking p number place some few few' h = ranking_told_lem most _ _ number place some few h
condition_told most exclusion p number place some few few' h = exclusion_told_lem most _ _ number place few' h
condition_told most lasso p number place some few few' h = lasso_told_lem most _ _ number place some few h
condition_told most other p number place some few few' h = absurd h

-- whatever the loop
pub condition_number : (k : Kind) (p : Pair) (number place : ℕ) → ConditionFails k p number place → (20 < number) × (number ≤ 46)
condition_number k p number place h =
    let v = (loop_in p.loop_is).variables in
    let m = length (loop_in p.loop_is).rows in
    let t = condition_told (1 + v + m) k p number place (omega arith) (omega arith) (omega arith) h in
    (t.beyond_20, t.no_more)

-- ---- so 0 is told only when the conditions hold, and no other number up to 20

module _ (k : Kind) (p : Pair) where
  number_told : (number place : ℕ) → (claim k p).told ≡ refused number place → (20 < number) × (number ≤ 46)
  number_told number place e = condition_number k p number place ((claim_told_exactly k p number place).0 e)

  pub claim_named : Named (claim k p).told
  unfolding number
  claim_named h =
      by_told (claim k p).told (λ e. e)
      (λ n place e. absurd (let zero_told : n ≡ 0 = sym (ap number e) ∙ h in omega (arith, (number_told n place e).0)))

  pub claim_silent : (n : ℕ) → (0 ≡ n → ⊥) → n ≤ 20 → number (claim k p).told ≡ n → ⊥
  unfolding number
  claim_silent n some low h =
      by_told (claim k p).told (λ e. some (sym (ap number e) ∙ h))
      (λ told place e. let same : told ≡ n = sym (ap number e) ∙ h in omega (arith, (number_told told place e).0))

module _ (p : Pair) where
  pub conditions_named : Named (conditions p)
  unfolding conditions
  conditions_named = claim_named (pair_kind p) p

  pub conditions_silent : (n : ℕ) → (0 ≡ n → ⊥) → n ≤ 20 → number (conditions p) ≡ n → ⊥
  unfolding conditions
  conditions_silent = claim_silent (pair_kind p) p
