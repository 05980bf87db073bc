-- The whole answer of judging and of bound, by what a certificate of a kind claims: once both records are sound, and there is room for
-- the rank or a state in range, what the claim's conditions tell decides. Code that goes by the kind meets its contract with these.
use mathlib.Core.Path.{◌≡◌, refl, ap, ◌∙◌}
use Prim.Native.Nat.{ℕ}
use mathlib.Core.Bool.{true, false}
use mathlib.Core.List.{List, [], ◌++◌}
use lib.IntN.{ℤ}
use lib.ListN.{length, drop}
use Rattle.record.specs.Layouts.{Kind}
use Rattle.refusal.specs.Tests.{done, refused, first}
use Rattle.refusal.proofs.TestLaws.{passes_done, failed}
use Rattle.verdict.specs.Bounding.{Bounding, given_state, invariant, bounding, bounded, bounds}
use Rattle.verdict.specs.Claims.{Claim}
use Rattle.verdict.specs.Judging.{Judging, rank_room, judging, judges, ranks, rank_after}
use Rattle.verdict.specs.Pairs.{pair_kind, claim, conditions}
use Rattle.verdict.specs.StateTests.{state_tests}
use Rattle.verdict.specs.Stages.{refusal, said, shows, refusal_of, verdict_of}
use Rattle.verdict.proofs.Accepted.{BothSound, accepts_agrees, claim_answers}
use Rattle.verdict.proofs.BoundAnswers.{bounds_agrees, claim_bounds}
use Rattle.verdict.proofs.StageLaws.{stage_done, stage_refused}

-- ---- judging

module _ (j : Judging) (lent : List ℤ) (k : Kind) (both : BothSound j.records) (kind_is : pair_kind j.records ≡ k)
    (room : first rank_room j ≡ done) where
  abbrev judged_claim : Claim
  judged_claim = claim k j.records

  told_by_claim : conditions j.records ≡ judged_claim.told
  unfolding conditions
  told_by_claim = ap (λ k. (claim k j.records).told) kind_is

  -- the conditions hold
  pub judged_agreed : judged_claim.told ≡ done
      → (judges j ≡ shows judged_claim.outcome) × (rank_after j lent ≡ judged_claim.rank ++ drop (length judged_claim.rank) lent)
  unfolding judging
  judged_agreed h =
      claim_answers j lent k kind_is
      ((accepts_agrees j).1 (both.loop_sound, (both.certificate_sound, (room, (told_by_claim ∙ h, tt)))))

  -- one fails
  said_fails : (number place : ℕ) → judged_claim.told ≡ refused number place → said judging j ≡ refusal 2 number place
  unfolding judging
  said_fails number place h =
      stage_done 1 _ _ j both.loop_sound ∙
      stage_done 2 _ _ j both.certificate_sound ∙
      stage_done 0 _ _ j room ∙
      stage_refused 2 _ [] j number place (told_by_claim ∙ h)

  pub judged_fails : (number place : ℕ) → judged_claim.told ≡ refused number place
      → (judges j ≡ refusal_of 2 number place) × (rank_after j lent ≡ lent)
  unfolding judges rank_after verdict_of ranks
  judged_fails number place h = rw (said_fails number place h) (refl, refl)

-- ---- bound

module _ (b : Bounding) (k : Kind) (both : BothSound b.records) (kind_is : pair_kind b.records ≡ k)
    (state_told : first state_tests (given_state b) ≡ done) where
  abbrev bounded_claim : Claim
  bounded_claim = claim k b.records

  bound_told_by_claim : conditions b.records ≡ bounded_claim.told
  unfolding conditions
  bound_told_by_claim = ap (λ k. (claim k b.records).told) kind_is

  speaks_by_claim : (claim (pair_kind b.records) b.records).speaks_of b.state ≡ bounded_claim.speaks_of b.state
  speaks_by_claim = ap (λ k. (claim k b.records).speaks_of b.state) kind_is

  -- the conditions hold, and the bound is for this state
  pub bounded_agreed : bounded_claim.told ≡ done → bounded_claim.speaks_of b.state ≡ true
      → bounds b ≡ record { verdict = shows bounded_claim.outcome; bound = bounded_claim.bound b.state }
  unfolding bounding invariant
  bounded_agreed h speaks =
      claim_bounds b k kind_is
      ((bounds_agrees b).1 (
        both.loop_sound,
        (
          both.certificate_sound,
          (
            state_told,
            (bound_told_by_claim ∙ h, (passes_done invariant b (speaks_by_claim ∙ speaks, tt), tt)),
          ),
        ),
      ))

  -- it is for other states
  said_outside : bounded_claim.told ≡ done → bounded_claim.speaks_of b.state ≡ false → said bounding b ≡ refusal 2 11 0
  unfolding bounding invariant
  said_outside h outside =
      stage_done 1 _ _ b both.loop_sound ∙
      stage_done 2 _ _ b both.certificate_sound ∙
      stage_done 0 _ _ b state_told ∙
      stage_done 2 _ _ b (bound_told_by_claim ∙ h) ∙
      stage_refused 2 _ [] b 11 0 (failed 11 _ _ [] b (speaks_by_claim ∙ outside))

  pub bounded_outside : bounded_claim.told ≡ done → bounded_claim.speaks_of b.state ≡ false
      → bounds b ≡ record { verdict = refusal_of 2 11 0; bound = 0 }
  unfolding bounds bounded verdict_of
  bounded_outside h outside = rw (said_outside h outside)

  -- a condition fails
  said_fails_bound : (number place : ℕ) → bounded_claim.told ≡ refused number place → said bounding b ≡ refusal 2 number place
  unfolding bounding
  said_fails_bound number place h =
      stage_done 1 _ _ b both.loop_sound ∙
      stage_done 2 _ _ b both.certificate_sound ∙
      stage_done 0 _ _ b state_told ∙
      stage_refused 2 _ _ b number place (bound_told_by_claim ∙ h)

  pub bounded_fails : (number place : ℕ) → bounded_claim.told ≡ refused number place
      → bounds b ≡ record { verdict = refusal_of 2 number place; bound = 0 }
  unfolding bounds bounded verdict_of
  bounded_fails number place h = rw (said_fails_bound number place h)
