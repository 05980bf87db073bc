-- The verdict that some numbers are of: `flat_verdict` the other way. Numbers that no verdict has give one all the same.
use Rattle.std.specs.Prelude.{ℕ, cond, eqb}
use Rattle.verdict.specs.Outcomes.{Numbers}
use Rattle.verdict.specs.declared.Grade.{Grade}
use Rattle.verdict.specs.declared.Grade.TheVariants.{Whole, Fractions}
use Rattle.verdict.specs.declared.Outcome.{Outcome}
use Rattle.verdict.specs.declared.Outcome.TheVariants.{Nothing, Ranking, Exclusion, Lasso, Lexicographic, Settling}
use Rattle.verdict.specs.declared.Verdict.{Verdict}
use Rattle.verdict_flat.specs.declared.FlatVerdict.{FlatVerdict}

unfoldable pub grade_back : ℕ → Grade
grade_back k = cond (eqb k 1) Whole Fractions

unfoldable pub outcome_back : Numbers → Outcome
outcome_back o =
    cond (eqb o.kind 2) (Ranking o.start o.fall)
    (cond (eqb o.kind 3) (Exclusion (grade_back o.grade))
    (cond (eqb o.kind 4) (Lasso o.start o.fall)
    (cond (eqb o.kind 6) Lexicographic
    (cond (eqb o.kind 8) (Settling o.start o.fall) Nothing))))

abbrev pub verdict_back : FlatVerdict → Verdict
verdict_back v =
    record {
      number = v.number;
      place = v.place;
      about = v.«record»;
      outcome = outcome_back (record { kind = v.outcome; start = v.start; fall = v.fall; grade = v.grade });
    }
