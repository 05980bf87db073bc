-- What judging and the bound call answer, and what the rank list holds afterwards, on every pair of byte strings, every list and every
-- state, by the kinds of the records: a certificate of kind 8 with a loop of other kinds than 5 is a settling; all else is judged by the
-- loop's kind (crate `verdict_paths`), and bounded as 01 says (crate `verdict`).
use Rattle.std.specs.Prelude.{ℕ, Bool, cond, not, ◌&&◌, List, eqb, ℤ, length}
use Rattle.endian.specs.Numbers.{little_at}
use Rattle.verdict.specs.Bounding.{bounds, bound_of}
use Rattle.verdict.specs.declared.Bounded.{Bounded}
use Rattle.verdict.specs.declared.Verdict.{Verdict}
use Rattle.verdict_paths.specs.JudgingByLoop.{of_paths, judged, rank_judged}
use Rattle.verdict_settling.specs.SettlingJudging.{SettlingPair, SettlingJudging, SettlingBounding}
use Rattle.verdict_settling.specs.SettlingJudging.{settling_judges, settling_rank_after, settling_bounds}

-- the certificate's kind is 8
unfoldable pub of_settling : List ℕ → Bool
of_settling certificate = eqb (little_at 2 certificate 4) 8

-- it is judged as a settling
unfoldable pub settles : List ℕ → List ℕ → Bool
settles loopbytes certificate = not (of_paths loopbytes) && of_settling certificate

abbrev pub pair_of : List ℕ → List ℕ → SettlingPair
pair_of loopbytes certificate = record { loopbytes = loopbytes; certificate = certificate }

abbrev pub judging_of : List ℕ → List ℕ → List ℤ → SettlingJudging
judging_of loopbytes certificate lent = record { records = pair_of loopbytes certificate; room = length lent }

abbrev pub bounding_of : List ℕ → List ℕ → List ℤ → SettlingBounding
bounding_of loopbytes certificate state = record { records = pair_of loopbytes certificate; state = state }

-- ---- judging

unfoldable pub judged_by_kind : List ℕ → List ℕ → List ℤ → Verdict
judged_by_kind loopbytes certificate lent =
    cond (settles loopbytes certificate) (settling_judges (judging_of loopbytes certificate lent)) (judged loopbytes certificate lent)

unfoldable pub rank_by_kind : List ℕ → List ℕ → List ℤ → List ℤ
rank_by_kind loopbytes certificate lent =
    cond (settles loopbytes certificate) (settling_rank_after (judging_of loopbytes certificate lent) lent)
    (rank_judged loopbytes certificate lent)

-- ---- bound

unfoldable pub bounded_by_kind : List ℕ → List ℕ → List ℤ → Bounded
bounded_by_kind loopbytes certificate state =
    cond (of_settling certificate) (settling_bounds (bounding_of loopbytes certificate state))
    (bounds (bound_of loopbytes certificate state))
