-- Flattened verdicts beside their literal fields: a field that crosses in another's place, in definition and code alike, does not pass.
use mathlib.Core.Path.{◌≡◌, refl}
use lib.IntN.{pos, negsuc}
use Rattle.verdict.specs.Outcomes.{numbers, grade_number}
use Rattle.verdict.specs.declared.Grade.TheVariants.{Whole, Fractions}
use Rattle.verdict.specs.declared.Outcome.TheVariants.{Nothing, Ranking, Exclusion, Lasso, Lexicographic, Settling}
use Rattle.verdict_flat.specs.FlatVerdicts.{flat_verdict}

pub verdicts_flat :
    (flat_verdict (record { number = 6; place = 8; about = 2; outcome = Nothing })
    ≡ record { number = 6; place = 8; «record» = 2; outcome = 0; start = pos 0; fall = pos 0; grade = 0 })
    × (flat_verdict (record { number = 0; place = 0; about = 0; outcome = Ranking (negsuc 6) (pos 9) })
    ≡ record { number = 0; place = 0; «record» = 0; outcome = 2; start = negsuc 6; fall = pos 9; grade = 0 })
    × (flat_verdict (record { number = 0; place = 0; about = 0; outcome = Exclusion Whole })
    ≡ record { number = 0; place = 0; «record» = 0; outcome = 3; start = pos 0; fall = pos 0; grade = 1 })
    × (flat_verdict (record { number = 0; place = 0; about = 0; outcome = Exclusion Fractions })
    ≡ record { number = 0; place = 0; «record» = 0; outcome = 3; start = pos 0; fall = pos 0; grade = 2 })
    × (flat_verdict (record { number = 0; place = 0; about = 0; outcome = Lasso (pos 73) (pos 33) })
    ≡ record { number = 0; place = 0; «record» = 0; outcome = 4; start = pos 73; fall = pos 33; grade = 0 })
    × (flat_verdict (record { number = 0; place = 0; about = 0; outcome = Lexicographic })
    ≡ record { number = 0; place = 0; «record» = 0; outcome = 6; start = pos 0; fall = pos 0; grade = 0 })
    × (flat_verdict (record { number = 0; place = 0; about = 0; outcome = Settling (negsuc 4) (pos 21) })
    ≡ record { number = 0; place = 0; «record» = 0; outcome = 8; start = negsuc 4; fall = pos 21; grade = 0 })
unfolding numbers grade_number
verdicts_flat = (refl, refl, refl, refl, refl, refl, refl)
