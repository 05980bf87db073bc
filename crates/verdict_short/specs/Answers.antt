-- What the public judge and bound answer, and what the rank list holds afterwards, on every pair of byte strings, every list and
-- every state: a short ranking (kind 7) with a loop of other kinds than 5 is judged as the record that it stands for; all else by
-- the kinds of the records as before (crate `verdict_settling`).
use Rattle.std.specs.Prelude.{ℕ, Bool, cond, not, ◌&&◌, List, ℤ}
use Rattle.verdict.specs.declared.Bounded.{Bounded}
use Rattle.verdict.specs.declared.Verdict.{Verdict}
use Rattle.verdict_paths.specs.JudgingByLoop.{of_paths}
use Rattle.verdict_settling.specs.AnswersByKind.{judged_by_kind, rank_by_kind, bounded_by_kind}
use Rattle.verdict_short.specs.ShortJudging.{of_short, judged_or_short, ranked_or_short, bounded_or_short}

-- it is judged as a short ranking
unfoldable pub is_short : List ℕ → List ℕ → Bool
is_short loopbytes certificate = not (of_paths loopbytes) && of_short certificate

unfoldable pub answered : List ℕ → List ℕ → List ℤ → Verdict
answered loopbytes certificate lent =
    cond (is_short loopbytes certificate) (judged_or_short loopbytes certificate lent) (judged_by_kind loopbytes certificate lent)

unfoldable pub rank_answered : List ℕ → List ℕ → List ℤ → List ℤ
rank_answered loopbytes certificate lent =
    cond (is_short loopbytes certificate) (ranked_or_short loopbytes certificate lent) (rank_by_kind loopbytes certificate lent)

unfoldable pub bounded_answered : List ℕ → List ℕ → List ℤ → Bounded
bounded_answered loopbytes certificate state =
    cond (of_short certificate) (bounded_or_short loopbytes certificate state) (bounded_by_kind loopbytes certificate state)
