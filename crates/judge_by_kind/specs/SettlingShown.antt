-- What the judge's functions answer of a certificate of kind 8: a verdict and the rank list afterwards are those of judging.
use Rattle.std.specs.Prelude.{ℕ, ◌≡◌, List, ℤ}
use Rattle.verdict.specs.declared.Verdict.{Verdict}
use Rattle.verdict_settling.specs.AnswersByKind.{judging_of}
use Rattle.verdict_settling.specs.SettlingJudging.{settling_judges, settling_rank_after}

abbrev pub SettlingJudged : List ℕ → List ℕ → List ℤ → Verdict → List ℤ → Type 0
SettlingJudged loopbytes certificate lent verdict after =
    (verdict ≡ settling_judges (judging_of loopbytes certificate lent))
    × (after ≡ settling_rank_after (judging_of loopbytes certificate lent) lent)
