-- What the judge answers, and what the rank list holds afterwards, on every pair of byte strings and every list: judging goes by the loop's
-- kind. A loop of kind 5 is judged with a certificate of kind 6, every other loop record as 01 says (crate `verdict`).
use Rattle.std.specs.Prelude.{ℕ, Bool, cond, List, eqb, ℤ}
use Rattle.endian.specs.Numbers.{little_at}
use Rattle.verdict.specs.Judging.{judges, rank_after, judge_of}
use Rattle.verdict.specs.declared.Verdict.{Verdict}
use Rattle.verdict_paths.specs.PathJudging.{path_judges}

-- the loop record's kind is 5
unfoldable pub of_paths : List ℕ → Bool
of_paths loopbytes = eqb (little_at 2 loopbytes 4) 5

unfoldable pub judged : List ℕ → List ℕ → List ℤ → Verdict
judged loopbytes certificate lent =
    cond (of_paths loopbytes)
    (path_judges (record { loopbytes = loopbytes; certificate = certificate }))
    (judges (judge_of loopbytes certificate lent))

unfoldable pub rank_judged : List ℕ → List ℕ → List ℤ → List ℤ
rank_judged loopbytes certificate lent = cond (of_paths loopbytes) lent (rank_after (judge_of loopbytes certificate lent) lent)
