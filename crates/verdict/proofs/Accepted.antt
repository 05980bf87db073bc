-- `accepted-exactly-when`, for each kind: judging accepts if and only if both records are sound, the rank list has room (kinds 2 and 4), and the published
-- conditions hold of the rows and values that the bytes hold. And what an accepted judging and an accepted bound call then answer.
use mathlib.Core.Path.{◌≡◌, refl, sym, ap, ◌∙◌}
use mathlib.Core.Logic.{◌↔◌}
use Prim.Native.Nat.{◌≤◌}
use mathlib.Core.Bool.{true, false}
use mathlib.Core.List.{List, ◌++◌}
use lib.IntN.{ℤ}
use lib.ListN.{length, drop}
use borrow.Author.Tests.{leb-true, le-leb}
use Rattle.record.specs.Layouts.{Kind, ranking, exclusion, lasso, has_rank}
use Rattle.record.specs.Readers.{sound}
use Rattle.refusal.specs.Tests.{done, first}
use Rattle.refusal.proofs.TestLaws.{passes_done, done_passes, zero_done}
use Rattle.theory.specs.Exclusions as Exclusions
use Rattle.theory.specs.Lassos as Lassos
use Rattle.theory.specs.Rankings as Rankings
use Rattle.theory.proofs.Decisions.{ranking_decided, exclusion_decided, lasso_decided}
use Rattle.whole.proofs.Tables.{length_tabulate}
use Rattle.verdict.specs.Contents.{loop_in, ranking_in, exclusion_in, lasso_in}
use Rattle.verdict.specs.Judging.{Judging, rank_room, judging, judges, ranks, rank_after}
use Rattle.verdict.specs.Outcomes.{grade_of}
use Rattle.verdict.specs.Claims.{ranking_claim, exclusion_claim, lasso_claim}
use Rattle.verdict.specs.Pairs.{Pair, pair_kind, variables_of, claim, conditions, rank_of, outcome_of}
use Rattle.verdict.specs.declared.Outcome.{Outcome}
use Rattle.verdict.specs.declared.Outcome.TheVariants.{Ranking, Exclusion, Lasso}
use Rattle.verdict.specs.Stages.{agreed, said, shows, verdict_of}
use Rattle.verdict.proofs.ConditionLaws.{conditions_ranking, conditions_exclusion, conditions_lasso, conditions_named}
use Rattle.verdict.proofs.StageLaws.{Agrees, agrees_said, said_agrees, number_said, verdict_number, Named, zero_agreed}

-- both records of a pair are sound
pub record BothSound (p : Pair) : Type 0 where
  pub loop_sound : first sound p.loop_is ≡ done
  pub certificate_sound : first sound p.certificate_is ≡ done

-- ---- the conditions of each kind, as the theory states them

pub ranking_conditions : (p : Pair) → pair_kind p ≡ ranking
    → (conditions p ≡ done) ↔ Rankings.RankingHolds (loop_in p.loop_is) (ranking_in p.certificate_is)
ranking_conditions p e = rw (conditions_ranking p e) (ranking_decided (loop_in p.loop_is) (ranking_in p.certificate_is))

pub exclusion_conditions : (p : Pair) → pair_kind p ≡ exclusion
    → (conditions p ≡ done) ↔ Exclusions.ExclusionHolds (loop_in p.loop_is) (exclusion_in p.certificate_is)
exclusion_conditions p e = rw (conditions_exclusion p e) (exclusion_decided (loop_in p.loop_is) (exclusion_in p.certificate_is))

pub lasso_conditions : (p : Pair) → pair_kind p ≡ lasso
    → (conditions p ≡ done) ↔ Lassos.LassoHolds (loop_in p.loop_is) (lasso_in p.certificate_is)
lasso_conditions p e = rw (conditions_lasso p e) (lasso_decided (loop_in p.loop_is) (lasso_in p.certificate_is))

-- ---- judging

judging_named : (j : Judging) → Named judging j
unfolding judging sound rank_room
judging_named j = (zero_done sound j.records.loop_is refl, (zero_done sound j.records.certificate_is refl, (zero_done rank_room j refl, (conditions_named j.records, tt))))

-- 0 is told exactly when every stage is done
pub accepts_agrees : (j : Judging) → ((judges j).number ≡ 0) ↔ Agrees judging j
unfolding judges
accepts_agrees j = (
  λ h. said_agrees judging j (zero_agreed judging j (judging_named j) (verdict_number (said judging j) _ ∙ h)),
  λ h. sym (verdict_number (said judging j) _) ∙ ap number_said (agrees_said judging j h),
)

-- room for the rank, which kinds 2 and 4 need
pub room_there : (j : Judging) → has_rank (pair_kind j.records) ≡ true → (first rank_room j ≡ done) ↔ (variables_of j.records ≤ j.room)
unfolding rank_room
room_there j e = (
  λ h. leb-true _ _ (rw e at (done_passes rank_room j h).0),
  λ h. passes_done rank_room j (rw e (le-leb _ _ h), tt),
)

pub no_room_needed : (j : Judging) → has_rank (pair_kind j.records) ≡ false → first rank_room j ≡ done
unfolding rank_room
no_room_needed j e = passes_done rank_room j (rw e, tt)

-- what an accepted ranking, exclusion and lasso are
pub record RankingAccepted (j : Judging) : Type 0 where
  pub both_sound : BothSound j.records
  pub room : variables_of j.records ≤ j.room
  pub holds : Rankings.RankingHolds (loop_in j.records.loop_is) (ranking_in j.records.certificate_is)

pub record ExclusionAccepted (j : Judging) : Type 0 where
  pub both_sound : BothSound j.records
  pub holds : Exclusions.ExclusionHolds (loop_in j.records.loop_is) (exclusion_in j.records.certificate_is)

pub record LassoAccepted (j : Judging) : Type 0 where
  pub both_sound : BothSound j.records
  pub room : variables_of j.records ≤ j.room
  pub holds : Lassos.LassoHolds (loop_in j.records.loop_is) (lasso_in j.records.certificate_is)

pub accepted_exactly_when_ranking : (j : Judging) → pair_kind j.records ≡ ranking → ((judges j).number ≡ 0) ↔ RankingAccepted j
unfolding judging has_rank
accepted_exactly_when_ranking j e =
    let room = room_there j (rw e) in
    let conditions_hold = ranking_conditions j.records e in (
      λ h.
          let a = (accepts_agrees j).0 h in
          record { both_sound = record { loop_sound = a.0; certificate_sound = a.1.0 }; room = room.0 a.1.1.0; holds = conditions_hold.0 a.1.1.1.0 },
      λ h. (accepts_agrees j).1 (h.both_sound.loop_sound, (h.both_sound.certificate_sound, (room.1 h.room, (conditions_hold.1 h.holds, tt)))),
    )

pub accepted_exactly_when_exclusion : (j : Judging) → pair_kind j.records ≡ exclusion → ((judges j).number ≡ 0) ↔ ExclusionAccepted j
unfolding judging has_rank
accepted_exactly_when_exclusion j e =
    let conditions_hold = exclusion_conditions j.records e in (
      λ h.
          let a = (accepts_agrees j).0 h in
          record { both_sound = record { loop_sound = a.0; certificate_sound = a.1.0 }; holds = conditions_hold.0 a.1.1.1.0 },
      λ h. (accepts_agrees j).1 (h.both_sound.loop_sound, (h.both_sound.certificate_sound, (no_room_needed j (rw e), (conditions_hold.1 h.holds, tt)))),
    )

pub accepted_exactly_when_lasso : (j : Judging) → pair_kind j.records ≡ lasso → ((judges j).number ≡ 0) ↔ LassoAccepted j
unfolding judging has_rank
accepted_exactly_when_lasso j e =
    let room = room_there j (rw e) in
    let conditions_hold = lasso_conditions j.records e in (
      λ h.
          let a = (accepts_agrees j).0 h in
          record { both_sound = record { loop_sound = a.0; certificate_sound = a.1.0 }; room = room.0 a.1.1.0; holds = conditions_hold.0 a.1.1.1.0 },
      λ h. (accepts_agrees j).1 (h.both_sound.loop_sound, (h.both_sound.certificate_sound, (room.1 h.room, (conditions_hold.1 h.holds, tt)))),
    )

-- ---- what an accepted judging answers: -Yb, -Zb, ZA' of the loop, of a lasso's over the loop with the added row; a grade

accepted_said : (j : Judging) → (judges j).number ≡ 0 → said judging j ≡ agreed
accepted_said j h = agrees_said judging j ((accepts_agrees j).0 h)

-- what its claim has: the outcome, and the rank in front of the list
pub claim_answers : (j : Judging) (lent : List ℤ) (k : Kind) → pair_kind j.records ≡ k → (judges j).number ≡ 0
    → let c = claim k j.records in (judges j ≡ shows c.outcome) × (rank_after j lent ≡ c.rank ++ drop (length c.rank) lent)
unfolding judges verdict_of rank_after ranks outcome_of rank_of
claim_answers j lent k e h =
    rw (accepted_said j h) (
      ap (λ k. shows (claim k j.records).outcome) e,
      ap (λ k. (claim k j.records).rank ++ drop (length (claim k j.records).rank) lent) e,
    )

-- the first n of the list are r, the rest stays
pub record AnswersRank (j : Judging) (lent : List ℤ) (outcome : Outcome) (r : List ℤ) : Type 0 where
  pub verdict_is : judges j ≡ shows outcome
  pub list_is : rank_after j lent ≡ r ++ drop (variables_of j.records) lent

pub ranking_answers : (j : Judging) (lent : List ℤ) → pair_kind j.records ≡ ranking → (judges j).number ≡ 0
    → let l = loop_in j.records.loop_is in let c = ranking_in j.records.certificate_is in
    AnswersRank j lent (Ranking (Rankings.start l c) (Rankings.fall l c)) (Rankings.rank l c)
unfolding claim ranking_claim variables_of Rankings.rank loop_in
ranking_answers j lent e h =
    let a = claim_answers j lent ranking e h in
    record { verdict_is = a.0; list_is = rw length_tabulate at a.1 }

pub lasso_answers : (j : Judging) (lent : List ℤ) → pair_kind j.records ≡ lasso → (judges j).number ≡ 0
    → let c = lasso_in j.records.certificate_is in let l = Lassos.longer (loop_in j.records.loop_is) c in
    AnswersRank j lent (Lasso (Rankings.start l c.ranking) (Rankings.fall l c.ranking)) (Rankings.rank l c.ranking)
unfolding claim lasso_claim variables_of Rankings.rank loop_in
lasso_answers j lent e h =
    let a = claim_answers j lent lasso e h in
    record { verdict_is = a.0; list_is = rw length_tabulate at a.1 }

pub exclusion_answers : (j : Judging) (lent : List ℤ) → pair_kind j.records ≡ exclusion → (judges j).number ≡ 0
    → (judges j ≡ shows (Exclusion (grade_of (exclusion_in j.records.certificate_is)))) × (rank_after j lent ≡ lent)
unfolding claim exclusion_claim
exclusion_answers j lent e h = claim_answers j lent exclusion e h
