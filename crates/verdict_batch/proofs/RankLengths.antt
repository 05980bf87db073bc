-- Judging leaves a rank list as long as it was, whatever the records' kinds.
use mathlib.Core.Path.{◌≡◌, refl, ◌∙◌}
use Prim.Native.Nat.{ℕ, ◌≤◌}
use mathlib.Core.Bool.{true, not, ◌||◌}
use mathlib.Core.List.{List}
use native.Mathlib.Omega.{arith}
use lib.Dec.{leb}
use lib.IntN.{ℤ}
use lib.ListN.{length, length-append, length-drop}
use borrow.Author.Tests.{leb-true}
use Rattle.record.specs.Layouts.{Kind, loop, ranking, exclusion, lasso, other, has_rank}
use Rattle.refusal.proofs.TestLaws.{either, done_passes}
use Rattle.theory.specs.Lassos as Lassos
use Rattle.theory_settling.specs.Settlings.{longer}
use Rattle.verdict.specs.Claims.{ranking_claim, exclusion_claim, lasso_claim, no_claim}
use Rattle.verdict.specs.Contents.{loop_in, lasso_in, ranking_in}
use Rattle.verdict.specs.Judging.{Judging, rank_room, judging, ranks, rank_after, judge_of}
use Rattle.verdict.specs.Pairs.{Pair, pair_kind, variables_of, claim, rank_of}
use Rattle.verdict.specs.Stages.{Said, agreed, refusal, said}
use Rattle.verdict.proofs.StageLaws.{said_agrees}
use Rattle.verdict.proofs.SumsFit.{rank_length}
use Rattle.verdict_paths.specs.JudgingByLoop.{of_paths, rank_judged}
use Rattle.verdict_settling.specs.AnswersByKind.{settles, judging_of, rank_by_kind}
use Rattle.verdict_settling.specs.SettlingJudging as Settling
use Rattle.verdict_short.specs.Answers.{is_short, rank_answered}
use Rattle.verdict_short.specs.ShortJudging.{ShortPair, short_records, short_pair, of_short, short_ranked, ranked_or_short}

-- a rank that has room is put at the front of the list
ranks_keep : (s : Said) (r lent : List ℤ) → (s ≡ agreed → length r ≤ length lent) → length (ranks s r lent) ≡ length lent
unfolding ranks
ranks_keep agreed r lent fits = length-append r _ ∙ omega (arith, fits refl, length-drop (length r) lent)
ranks_keep (refusal about number place) r lent fits = refl

-- ---- of a loop of kind 1

-- n is the length of a rank, whichever kind has one
claim_fits : (k : Kind) (p : Pair) (room : ℕ) → (not (has_rank k) || leb (variables_of p) room) ≡ true → length (claim k p).rank ≤ room
unfolding claim ranking_claim exclusion_claim lasso_claim no_claim variables_of loop_in has_rank
claim_fits loop p room e = omega arith
claim_fits ranking p room e = omega (arith, rank_length (loop_in p.loop_is) (ranking_in p.certificate_is), leb-true (variables_of p) room e)
claim_fits exclusion p room e = omega arith
claim_fits lasso p room e =
    let c = lasso_in p.certificate_is in
    omega (arith, rank_length (Lassos.longer (loop_in p.loop_is) c) c.ranking, leb-true (variables_of p) room e)
claim_fits other p room e = omega arith

agreed_fits : (j : Judging) → said judging j ≡ agreed → length (rank_of j.records) ≤ j.room
unfolding judging rank_room rank_of
agreed_fits j e =
    let passes = done_passes rank_room j (said_agrees judging j e).1.1.0 in
    claim_fits (pair_kind j.records) j.records j.room passes.0

rows_keep : (loopbytes certificate : List ℕ) (lent : List ℤ) → length (rank_after (judge_of loopbytes certificate lent) lent) ≡ length lent
unfolding rank_after judge_of
rows_keep loopbytes certificate lent =
    let j = judge_of loopbytes certificate lent in
    ranks_keep (said judging j) (rank_of j.records) lent (agreed_fits j)

-- ---- of a settling

settling_fits : (j : Settling.SettlingJudging) → said Settling.settling_judging j ≡ agreed → length (Settling.settling_rank j.records) ≤ j.room
unfolding Settling.settling_judging Settling.rank_room Settling.settling_rank Settling.variables_of Settling.loop_of loop_in
settling_fits j e =
    let passes = done_passes Settling.rank_room j (said_agrees Settling.settling_judging j e).1.1.0 in
    let c = Settling.settling_of j.records in
    omega (arith, rank_length (longer (Settling.loop_of j.records) c) c.ranking, leb-true (Settling.variables_of j.records) j.room passes.0)

settling_keeps : (loopbytes certificate : List ℕ) (lent : List ℤ) → length (Settling.settling_rank_after (judging_of loopbytes certificate lent) lent) ≡ length lent
unfolding Settling.settling_rank_after
settling_keeps loopbytes certificate lent =
    let j = judging_of loopbytes certificate lent in
    ranks_keep (said Settling.settling_judging j) (Settling.settling_rank j.records) lent (settling_fits j)

-- ---- of any

short_keeps : (s : Said) (p : ShortPair) (lent : List ℤ) → length (short_ranked s p lent) ≡ length lent
unfolding short_ranked
short_keeps agreed p lent = rows_keep p.loopbytes _ lent
short_keeps (refusal about number place) p lent = refl

or_short_keeps : (loopbytes certificate : List ℕ) (lent : List ℤ) → length (ranked_or_short loopbytes certificate lent) ≡ length lent
unfolding ranked_or_short
or_short_keeps loopbytes certificate lent =
    let p = short_pair loopbytes certificate in
    either (of_short certificate) (λ e. rw e (short_keeps (said short_records p) p lent)) (λ e. rw e (rows_keep loopbytes certificate lent))

by_kind_keeps : (loopbytes certificate : List ℕ) (lent : List ℤ) → length (rank_by_kind loopbytes certificate lent) ≡ length lent
unfolding rank_by_kind rank_judged
by_kind_keeps loopbytes certificate lent =
    either (settles loopbytes certificate)
    (λ e. rw e (settling_keeps loopbytes certificate lent))
    (λ e. either (of_paths loopbytes) (λ paths. rw (e, paths)) (λ rows. rw (e, rows) (rows_keep loopbytes certificate lent)))

pub rank_keeps : (loopbytes certificate : List ℕ) (lent : List ℤ) → length (rank_answered loopbytes certificate lent) ≡ length lent
unfolding rank_answered
rank_keeps loopbytes certificate lent =
    either (is_short loopbytes certificate) (λ e. rw e (or_short_keeps loopbytes certificate lent)) (λ e. rw e (by_kind_keeps loopbytes certificate lent))
