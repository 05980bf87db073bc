-- `FlatVerdict::from` meets its contract: in each arm the numbers are those of the outcome that is there.
use Rattle.std.proofs.Common.{◌≡◌, rules}
use mir.Syntax.{w64}
use mir.Val.{SFits}
use mir.Facts.{to_z-of_z}
use mathlib.Core.Path.{sym, ap, ◌∙◌}
use Rattle.verdict.specs.Outcomes.{numbers, grade_number}
use Rattle.verdict.specs.declared.Grade.TheVariants.{Whole, Fractions}
use Rattle.verdict.specs.declared.Outcome.{Outcome}
use Rattle.verdict.specs.declared.Outcome.TheVariants.{Nothing, Ranking, Exclusion, Lasso, Lexicographic, Settling}
use Rattle.verdict.specs.declared.Verdict.{Verdict}
use Rattle.verdict_flat.specs.FlatVerdicts.{told, flat_verdict}
use Rattle.verdict_flat.proofs.FlatVerdictFromVerdict.from.Goals as goal

-- a verdict is told by the numbers of what its outcome is
by_outcome : (v : Verdict) (o : Outcome) → v.outcome ≡ o → told v (numbers o) ≡ flat_verdict v
by_outcome v o e = ap (λ x. told v (numbers x)) (sym e)

pub returns-in-Nothing : goal.returns-in-Nothing
unfolding numbers
returns-in-Nothing c = c.flat_told.ensures ∙ by_outcome _ Nothing c.in-Nothing.is

pub returns-in-Ranking : goal.returns-in-Ranking
unfolding numbers
returns-in-Ranking c =
    let start : SFits w64 c.in-Ranking.start = search rules in
    let fall : SFits w64 c.in-Ranking.fall = search rules in
    (rw (to_z-of_z start, to_z-of_z fall) at c.flat_told-in-Ranking.ensures) ∙ by_outcome _ (Ranking _ _) c.in-Ranking.is

pub returns-in-Exclusion-Whole : goal.returns-in-Exclusion-Whole
unfolding numbers grade_number
returns-in-Exclusion-Whole c =
    c.flat_told-in-Exclusion-Whole.ensures ∙ by_outcome _ (Exclusion Whole) (c.in-Exclusion-Whole.is ∙ ap Exclusion (rw c.in-Exclusion-Whole.is at c.in-Exclusion-Whole.grade-is))

pub returns-in-Exclusion-Fractions : goal.returns-in-Exclusion-Fractions
unfolding numbers grade_number
returns-in-Exclusion-Fractions c =
    c.flat_told-in-Exclusion-Fractions.ensures ∙ by_outcome _ (Exclusion Fractions) (c.in-Exclusion-Fractions.is ∙ ap Exclusion (rw c.in-Exclusion-Fractions.is at c.in-Exclusion-Fractions.grade-is))

pub returns-in-Lasso : goal.returns-in-Lasso
unfolding numbers
returns-in-Lasso c =
    let start : SFits w64 c.in-Lasso.start = search rules in
    let fall : SFits w64 c.in-Lasso.fall = search rules in
    (rw (to_z-of_z start, to_z-of_z fall) at c.flat_told-in-Lasso.ensures) ∙ by_outcome _ (Lasso _ _) c.in-Lasso.is

pub returns-in-Lexicographic : goal.returns-in-Lexicographic
unfolding numbers
returns-in-Lexicographic c = c.flat_told-in-Lexicographic.ensures ∙ by_outcome _ Lexicographic c.in-Lexicographic.is

pub returns-in-Settling : goal.returns-in-Settling
unfolding numbers
returns-in-Settling c =
    let start : SFits w64 c.in-Settling.start = search rules in
    let fall : SFits w64 c.in-Settling.fall = search rules in
    (rw (to_z-of_z start, to_z-of_z fall) at c.flat_told-in-Settling.ensures) ∙ by_outcome _ (Settling _ _) c.in-Settling.is
