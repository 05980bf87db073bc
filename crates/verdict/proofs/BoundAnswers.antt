-- When the bound call accepts, and what it then answers and promises: the bound is 01's formula, and no run from that state has more steps.
use mathlib.Core.Path.{◌≡◌, refl, sym, ap, ◌∙◌}
use mathlib.Core.Logic.{◌↔◌}
use Prim.Native.Nat.{ℕ}
use Rattle.whole.proofs.Compare.{true_le, le_true}
use Rattle.record.specs.Layouts.{Kind, ranking, lasso}
use Rattle.record.specs.Readers.{sound}
use Rattle.refusal.specs.Tests.{done, first}
use Rattle.refusal.proofs.TestLaws.{passes_done, done_passes, zero_done}
use Rattle.theory.specs.Lassos as Lassos
use Rattle.theory.specs.Rankings as Rankings
use Rattle.verdict.specs.Bounding.{Bounding, given_state, invariant, bounding, bounded, bounds}
use Rattle.verdict.specs.Contents.{loop_in, ranking_in, lasso_in}
use Rattle.verdict.specs.Claims.{ranking_claim, lasso_claim}
use Rattle.verdict.specs.Pairs.{pair_kind, claim, outcome_of}
use Rattle.verdict.specs.StateTests.{state_tests}
use Rattle.verdict.specs.Stages.{Said, agreed, refusal, said, verdict_of, shows}
use Rattle.verdict.specs.declared.Outcome.{Outcome}
use Rattle.verdict.specs.declared.Outcome.TheVariants.{Ranking, Lasso}
use Rattle.verdict.proofs.Accepted.{BothSound, ranking_conditions, lasso_conditions}
use Rattle.verdict.proofs.ConditionLaws.{conditions_named}
use Rattle.verdict.proofs.StatesInRange.{StateIn, state_fits}
use Rattle.verdict.proofs.StageLaws.{Agrees, agrees_said, said_agrees, number_said, Named, zero_agreed}

-- ---- the bound call

bounding_named : (b : Bounding) → Named bounding b
unfolding bounding sound state_tests invariant
bounding_named b = (
  zero_done sound b.records.loop_is refl,
  (
    zero_done sound b.records.certificate_is refl,
    (
      zero_done state_tests (given_state b) refl,
      (
        conditions_named b.records,
        (
          zero_done invariant b refl,
          tt,
        ),
      ),
    ),
  ),
)

pub bounded_number : (s : Said) (o : Outcome) (k : ℕ) → number_said s ≡ (bounded s o k).verdict.number
unfolding bounded verdict_of
bounded_number agreed o k = refl
bounded_number (refusal a n p) o k = refl

pub number_bounded : (b : Bounding) → number_said (said bounding b) ≡ (bounds b).verdict.number
unfolding bounds
number_bounded b = bounded_number (said bounding b) _ _

-- 0 is told exactly when every stage is done
pub bounds_agrees : (b : Bounding) → ((bounds b).verdict.number ≡ 0) ↔ Agrees bounding b
bounds_agrees b = (
  λ h. said_agrees bounding b (zero_agreed bounding b (bounding_named b) (number_bounded b ∙ h)),
  λ h. sym (number_bounded b) ∙ ap number_said (agrees_said bounding b h),
)

-- a lasso's state meets the invariant
pub invariant_holds : (b : Bounding) → pair_kind b.records ≡ lasso → (first invariant b ≡ done) ↔ Lassos.Invariant (lasso_in b.records.certificate_is) b.state
unfolding invariant claim lasso_claim
invariant_holds b e = (
  λ h. true_le _ _ (rw e at (done_passes invariant b h).0),
  λ h. passes_done invariant b (rw e (le_true h), tt),
)

-- ---- accepted exactly when

pub record RankingBounded (b : Bounding) : Type 0 where
  pub both_sound : BothSound b.records
  pub state_in : StateIn (given_state b)
  pub holds : Rankings.RankingHolds (loop_in b.records.loop_is) (ranking_in b.records.certificate_is)

pub record LassoBounded (b : Bounding) : Type 0 where
  pub both_sound : BothSound b.records
  pub state_in : StateIn (given_state b)
  pub holds : Lassos.LassoHolds (loop_in b.records.loop_is) (lasso_in b.records.certificate_is)
  pub starts : Lassos.Invariant (lasso_in b.records.certificate_is) b.state

pub bounded_exactly_when_ranking : (b : Bounding) → pair_kind b.records ≡ ranking → ((bounds b).verdict.number ≡ 0) ↔ RankingBounded b
unfolding bounding invariant claim ranking_claim
bounded_exactly_when_ranking b e =
    let conditions_hold = ranking_conditions b.records e in (
      λ h.
          let a = (bounds_agrees b).0 h in
          record {
            both_sound = record { loop_sound = a.0; certificate_sound = a.1.0 };
            state_in = (state_fits (given_state b)).0 a.1.1.0;
            holds = conditions_hold.0 a.1.1.1.0;
          },
      λ h.
          (bounds_agrees b).1 (
            h.both_sound.loop_sound,
            (
              h.both_sound.certificate_sound,
              (
                (state_fits (given_state b)).1 h.state_in,
                (
                  conditions_hold.1 h.holds,
                  (
                    passes_done invariant b (rw e, tt),
                    tt,
                  ),
                ),
              ),
            ),
          ),
    )

pub bounded_exactly_when_lasso : (b : Bounding) → pair_kind b.records ≡ lasso → ((bounds b).verdict.number ≡ 0) ↔ LassoBounded b
unfolding bounding
bounded_exactly_when_lasso b e =
    let conditions_hold = lasso_conditions b.records e in (
      λ h.
          let a = (bounds_agrees b).0 h in
          record {
            both_sound = record { loop_sound = a.0; certificate_sound = a.1.0 };
            state_in = (state_fits (given_state b)).0 a.1.1.0;
            holds = conditions_hold.0 a.1.1.1.0;
            starts = (invariant_holds b e).0 a.1.1.1.1.0;
          },
      λ h.
          (bounds_agrees b).1 (
            h.both_sound.loop_sound,
            (
              h.both_sound.certificate_sound,
              (
                (state_fits (given_state b)).1 h.state_in,
                (
                  conditions_hold.1 h.holds,
                  (
                    (invariant_holds b e).1 h.starts,
                    tt,
                  ),
                ),
              ),
            ),
          ),
    )

-- ---- what it answers

accepted_said : (b : Bounding) → (bounds b).verdict.number ≡ 0 → said bounding b ≡ agreed
accepted_said b h = agrees_said bounding b ((bounds_agrees b).0 h)

-- what its claim has: the outcome, and the bound at the state
pub claim_bounds : (b : Bounding) (k : Kind) → pair_kind b.records ≡ k → (bounds b).verdict.number ≡ 0
    → let c = claim k b.records in bounds b ≡ record { verdict = shows c.outcome; bound = c.bound b.state }
unfolding bounds bounded verdict_of outcome_of
claim_bounds b k e h =
    rw (accepted_said b h)
    (ap (λ k. record { verdict = shows (claim k b.records).outcome; bound = (claim k b.records).bound b.state }) e)

pub ranking_bound_is : (b : Bounding) → pair_kind b.records ≡ ranking → (bounds b).verdict.number ≡ 0
    → let l = loop_in b.records.loop_is in let c = ranking_in b.records.certificate_is in
    bounds b ≡ record {
      verdict = shows (Ranking (Rankings.start l c) (Rankings.fall l c));
      bound = Rankings.bound (Rankings.rank l c) (Rankings.start l c) (Rankings.fall l c) b.state;
    }
unfolding claim ranking_claim
ranking_bound_is b e h = claim_bounds b ranking e h

pub lasso_bound_is : (b : Bounding) → pair_kind b.records ≡ lasso → (bounds b).verdict.number ≡ 0
    → let c = lasso_in b.records.certificate_is in let l = Lassos.longer (loop_in b.records.loop_is) c in let r = c.ranking in
    bounds b ≡ record {
      verdict = shows (Lasso (Rankings.start l r) (Rankings.fall l r));
      bound = Rankings.bound (Rankings.rank l r) (Rankings.start l r) (Rankings.fall l r) b.state;
    }
unfolding claim lasso_claim
lasso_bound_is b e h = claim_bounds b lasso e h
