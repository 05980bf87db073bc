-- Nothing is lost where a verdict crosses as numbers: they give it back, so verdicts that cross alike are alike.
use mathlib.Core.Path.{◌≡◌, refl, sym, ap, ◌∙◌}
use Rattle.verdict.specs.Outcomes.{numbers, grade_number}
use Rattle.verdict.specs.declared.Grade.TheVariants.{Whole, Fractions}
use Rattle.verdict.specs.declared.Outcome.{Outcome}
use Rattle.verdict.specs.declared.Outcome.TheVariants.{Nothing, Ranking, Exclusion, Lasso, Lexicographic, Settling}
use Rattle.verdict.specs.declared.Verdict.{Verdict}
use Rattle.verdict_flat.specs.FlatVerdicts.{flat_verdict}
use Rattle.verdict_flat.specs.VerdictsBack.{grade_back, outcome_back, verdict_back}

outcome_again : (o : Outcome) → outcome_back (numbers o) ≡ o
unfolding numbers grade_number outcome_back grade_back
outcome_again Nothing = refl
outcome_again (Ranking start fall) = refl
outcome_again (Exclusion Whole) = refl
outcome_again (Exclusion Fractions) = refl
outcome_again (Lasso start fall) = refl
outcome_again Lexicographic = refl
outcome_again (Settling start fall) = refl

pub back_again : (v : Verdict) → verdict_back (flat_verdict v) ≡ v
back_again v = ap (λ o. record { number = v.number; place = v.place; about = v.about; outcome = o }) (outcome_again v.outcome)

pub flat_alike : (v w : Verdict) → flat_verdict v ≡ flat_verdict w → v ≡ w
flat_alike v w same = sym (back_again v) ∙ ap verdict_back same ∙ back_again w
