-- The public answers case by case: what is judged as a short ranking is answered as one, and all else as before it came. So what crates `verdict`,
-- `verdict_paths` and `verdict_settling` prove is said of the public calls' answers.
use mathlib.Core.Path.{◌≡◌, refl, ◌∙◌}
use Prim.Native.Nat.{ℕ}
use mathlib.Core.Bool.{true, false, false≢true}
use mathlib.Core.List.{List}
use lib.IntN.{ℤ}
use Rattle.refusal.proofs.TestLaws.{either}
use Rattle.verdict.specs.Bounding.{bounds, bound_of}
use Rattle.verdict.specs.Judging.{judges, rank_after, judge_of}
use Rattle.verdict_paths.specs.JudgingByLoop.{of_paths}
use Rattle.verdict_paths.specs.PathJudging.{path_judges}
use Rattle.verdict_settling.specs.AnswersByKind.{of_settling, judged_by_kind, rank_by_kind, bounded_by_kind}
use Rattle.verdict_settling.proofs.SettlingBridges as Before
use Rattle.verdict_short.specs.Answers.{is_short, answered, rank_answered, bounded_answered}
use Rattle.verdict_short.specs.ShortJudging.{of_short, judged_or_short, ranked_or_short, bounded_or_short}

-- ---- which of them is judged as a short ranking

module _ (loopbytes certificate : List ℕ) where
  pub short_when : of_paths loopbytes ≡ false → of_short certificate ≡ true → is_short loopbytes certificate ≡ true
  unfolding is_short
  short_when p e = rw (p, e)

  pub long_not_short : of_short certificate ≡ false → is_short loopbytes certificate ≡ false
  unfolding is_short
  long_not_short e = either (of_paths loopbytes) (λ p. rw p) (λ p. rw (p, e))

  pub paths_not_short : of_paths loopbytes ≡ true → is_short loopbytes certificate ≡ false
  unfolding is_short
  paths_not_short p = rw p

  pub short_says : is_short loopbytes certificate ≡ true → (of_paths loopbytes ≡ false) × (of_short certificate ≡ true)
  unfolding is_short
  short_says e =
      either (of_paths loopbytes)
      (λ p. absurd (false≢true (rw p at e)))
      (λ p. (p, rw p at e))

-- ---- judging

module _ (loopbytes certificate : List ℕ) (lent : List ℤ) where
  pub answered_short : is_short loopbytes certificate ≡ true
      → (answered loopbytes certificate lent ≡ judged_or_short loopbytes certificate lent)
      × (rank_answered loopbytes certificate lent ≡ ranked_or_short loopbytes certificate lent)
  unfolding answered rank_answered
  answered_short e = rw e (refl, refl)

  pub answered_as_before : is_short loopbytes certificate ≡ false
      → (answered loopbytes certificate lent ≡ judged_by_kind loopbytes certificate lent)
      × (rank_answered loopbytes certificate lent ≡ rank_by_kind loopbytes certificate lent)
  unfolding answered rank_answered
  answered_as_before e = rw e (refl, refl)

  -- a loop of several paths, whatever the certificate
  pub answered_of_paths : of_paths loopbytes ≡ true
      → (answered loopbytes certificate lent ≡ path_judges (record { loopbytes = loopbytes; certificate = certificate }))
      × (rank_answered loopbytes certificate lent ≡ lent)
  answered_of_paths p =
      let before = answered_as_before (paths_not_short loopbytes certificate p) in
      let by = Before.judged_of_paths loopbytes certificate lent p in
      (before.0 ∙ by.0, before.1 ∙ by.1)

  -- a certificate of kinds 2 to 4, or of none that is known
  pub answered_of_rows : of_paths loopbytes ≡ false → of_settling certificate ≡ false → of_short certificate ≡ false
      → (answered loopbytes certificate lent ≡ judges (judge_of loopbytes certificate lent))
      × (rank_answered loopbytes certificate lent ≡ rank_after (judge_of loopbytes certificate lent) lent)
  answered_of_rows p s e =
      let before = answered_as_before (long_not_short loopbytes certificate e) in
      let by = Before.judged_of_rows loopbytes certificate lent p s in
      (before.0 ∙ by.0, before.1 ∙ by.1)

-- ---- bound

module _ (loopbytes certificate : List ℕ) (state : List ℤ) where
  pub bounded_short : of_short certificate ≡ true
      → bounded_answered loopbytes certificate state ≡ bounded_or_short loopbytes certificate state
  unfolding bounded_answered
  bounded_short e = rw e

  pub bounded_as_before : of_short certificate ≡ false
      → bounded_answered loopbytes certificate state ≡ bounded_by_kind loopbytes certificate state
  unfolding bounded_answered
  bounded_as_before e = rw e

  pub bounded_of_rows : of_settling certificate ≡ false → of_short certificate ≡ false
      → bounded_answered loopbytes certificate state ≡ bounds (bound_of loopbytes certificate state)
  bounded_of_rows s e = bounded_as_before e ∙ Before.bounded_as_before loopbytes certificate state s
