-- The answers by the kinds of the records, case by case: what is a settling is answered as one, and all else as before it came. So what
-- crates `verdict` and `verdict_paths` prove of `judged`, `rank_judged` and `bounds` is said of the public calls' answers.
use mathlib.Core.Path.{◌≡◌, refl, ◌∙◌}
use Prim.Native.Nat.{ℕ}
use mathlib.Core.Bool.{true, false, false≢true}
use mathlib.Core.List.{List}
use lib.IntN.{ℤ}
use Rattle.refusal.proofs.TestLaws.{either}
use Rattle.verdict.specs.Bounding.{bounds, bound_of}
use Rattle.verdict.specs.Judging.{judges, rank_after, judge_of}
use Rattle.verdict_paths.specs.JudgingByLoop.{of_paths, judged, rank_judged}
use Rattle.verdict_paths.specs.PathJudging.{path_judges}
use Rattle.verdict_paths.proofs.PathDemands.{by_paths, by_rows}
use Rattle.verdict_settling.specs.AnswersByKind.{of_settling, settles, judging_of, bounding_of}
use Rattle.verdict_settling.specs.AnswersByKind.{judged_by_kind, rank_by_kind, bounded_by_kind}
use Rattle.verdict_settling.specs.SettlingJudging.{settling_judges, settling_rank_after, settling_bounds}

-- ---- which of them is a settling

module _ (loopbytes certificate : List ℕ) where
  pub settles_when : of_paths loopbytes ≡ false → of_settling certificate ≡ true → settles loopbytes certificate ≡ true
  unfolding settles
  settles_when p e = rw (p, e)

  pub no_settling_no_settles : of_settling certificate ≡ false → settles loopbytes certificate ≡ false
  unfolding settles
  no_settling_no_settles e = either (of_paths loopbytes) (λ p. rw p) (λ p. rw (p, e))

  pub paths_no_settles : of_paths loopbytes ≡ true → settles loopbytes certificate ≡ false
  unfolding settles
  paths_no_settles p = rw p

  pub settles_says : settles loopbytes certificate ≡ true → (of_paths loopbytes ≡ false) × (of_settling certificate ≡ true)
  unfolding settles
  settles_says e =
      either (of_paths loopbytes)
      (λ p. absurd (false≢true (rw p at e)))
      (λ p. (p, rw p at e))

-- ---- judging

module _ (loopbytes certificate : List ℕ) (lent : List ℤ) where
  pub judged_settling : settles loopbytes certificate ≡ true
      → (judged_by_kind loopbytes certificate lent ≡ settling_judges (judging_of loopbytes certificate lent))
      × (rank_by_kind loopbytes certificate lent ≡ settling_rank_after (judging_of loopbytes certificate lent) lent)
  unfolding judged_by_kind rank_by_kind
  judged_settling e = rw e (refl, refl)

  pub judged_as_before : settles loopbytes certificate ≡ false
      → (judged_by_kind loopbytes certificate lent ≡ judged loopbytes certificate lent)
      × (rank_by_kind loopbytes certificate lent ≡ rank_judged loopbytes certificate lent)
  unfolding judged_by_kind rank_by_kind
  judged_as_before e = rw e (refl, refl)

  -- a loop of several paths; and a loop record of another kind with a certificate that is no settling
  pub judged_of_paths : of_paths loopbytes ≡ true
      → (judged_by_kind loopbytes certificate lent ≡ path_judges (record { loopbytes = loopbytes; certificate = certificate }))
      × (rank_by_kind loopbytes certificate lent ≡ lent)
  judged_of_paths p =
      let before = judged_as_before (paths_no_settles loopbytes certificate p) in
      let by = by_paths loopbytes certificate lent p in
      (before.0 ∙ by.0, before.1 ∙ by.1)

  pub judged_of_rows : of_paths loopbytes ≡ false → of_settling certificate ≡ false
      → (judged_by_kind loopbytes certificate lent ≡ judges (judge_of loopbytes certificate lent))
      × (rank_by_kind loopbytes certificate lent ≡ rank_after (judge_of loopbytes certificate lent) lent)
  judged_of_rows p e =
      let before = judged_as_before (no_settling_no_settles loopbytes certificate e) in
      let by = by_rows loopbytes certificate lent p in
      (before.0 ∙ by.0, before.1 ∙ by.1)

-- ---- bound

module _ (loopbytes certificate : List ℕ) (state : List ℤ) where
  pub bounded_settling : of_settling certificate ≡ true
      → bounded_by_kind loopbytes certificate state ≡ settling_bounds (bounding_of loopbytes certificate state)
  unfolding bounded_by_kind
  bounded_settling e = rw e

  pub bounded_as_before : of_settling certificate ≡ false
      → bounded_by_kind loopbytes certificate state ≡ bounds (bound_of loopbytes certificate state)
  unfolding bounded_by_kind
  bounded_as_before e = rw e
