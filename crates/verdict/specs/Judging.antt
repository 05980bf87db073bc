-- 01, "Numbers of the verdict": what judging answers, and what the rank list holds afterwards, on every pair of byte strings and
-- every list. "Judging: the loop record, then the certificate, then 7 (kinds 2 and 4 only), then 8" is the list `judging`; by 02,
-- Q-1, 21 to 24, 31, 32 and 41 to 46 take the place of 8.
use Rattle.std.specs.Prelude.{ℕ, Bool, true, not, ◌||◌, List, [], ◌∷◌, ◌++◌, leb, ℤ, length, drop}
use Rattle.record.specs.Layouts.{Kind, has_rank}
use Rattle.record.specs.Readers.{sound}
use Rattle.record.specs.Wants.{wants_of}
use Rattle.refusal.specs.Tests.{Test, ◌at◌unless◌, first}
use Rattle.verdict.specs.Pairs.{Pair, pair_of, pair_kind, variables_of, conditions, rank_of, outcome_of}
use Rattle.verdict.specs.Stages.{Said, agreed, refusal, Stage, ◌says◌, said, verdict_of}
use Rattle.verdict.specs.declared.Verdict.{Verdict}

-- judging is of certificates of kinds 2 to 4
abbrev pub certificates_judged : Kind → Bool
certificates_judged = wants_of (record { ranking = true; exclusion = true; lasso = true })

-- what comes to a judge: the records, and how many places the rank list has
pub record Judging : Type 0 where
  pub records : Pair
  pub room : ℕ

unfoldable pub rank_room : List (Test Judging)
rank_room =
    (7 at (λ j. variables_of j.records)
    unless λ j. not (has_rank (pair_kind j.records)) || leb (variables_of j.records) j.room) ∷ []

unfoldable pub judging : List (Stage Judging)
judging =
    (1 says λ j. first sound j.records.loop_is)
    ∷ (2 says λ j. first sound j.records.certificate_is)
    ∷ (0 says λ j. first rank_room j)
    ∷ (2 says λ j. conditions j.records)
    ∷ []

unfoldable pub judges : Judging → Verdict
judges j = verdict_of (said judging j) (outcome_of (pair_kind j.records) j.records)

-- on acceptance of kinds 2 and 4 the first n of the lent rank list are r and the rest stay; an exclusion has no r, and a refusal changes
-- nothing
unfoldable pub ranks : Said → List ℤ → List ℤ → List ℤ
ranks agreed r lent = r ++ drop (length r) lent
ranks (refusal about number place) r lent = lent

unfoldable pub rank_after : Judging → List ℤ → List ℤ
rank_after j lent = ranks (said judging j) (rank_of j.records) lent

-- the judge on bytes
unfoldable pub judge_of : List ℕ → List ℕ → List ℤ → Judging
judge_of l c lent = record { records = pair_of certificates_judged l c; room = length lent }
