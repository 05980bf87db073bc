-- 01's numbers and values for each case of an outcome and of a grade. Whoever tells an outcome in numbers goes by this definition.
use Rattle.std.specs.Prelude.{ℕ, cond, ℤ, pos}
use Rattle.theory.specs.Exclusions as Exclusions
use Rattle.verdict.specs.declared.Grade.{Grade}
use Rattle.verdict.specs.declared.Grade.TheVariants.{Whole, Fractions}
use Rattle.verdict.specs.declared.Outcome.{Outcome}
use Rattle.verdict.specs.declared.Outcome.TheVariants.{Nothing, Ranking, Exclusion, Lasso, Lexicographic, Settling}

-- 1 whole, 2 fractions
unfoldable pub grade_number : Grade → ℕ
grade_number Whole = 1
grade_number Fractions = 2

-- an outcome in numbers: the kind of the certificate that gave it (0 for nothing), start, fall and grade, each 0 where there is none
pub record Numbers : Type 0 where
  pub kind : ℕ
  pub start : ℤ
  pub fall : ℤ
  pub grade : ℕ

unfoldable pub numbers : Outcome → Numbers
numbers Nothing = record { kind = 0; start = pos 0; fall = pos 0; grade = 0 }
numbers (Ranking start fall) = record { kind = 2; start = start; fall = fall; grade = 0 }
numbers (Exclusion grade) = record { kind = 3; start = pos 0; fall = pos 0; grade = grade_number grade }
numbers (Lasso start fall) = record { kind = 4; start = start; fall = fall; grade = 0 }
numbers Lexicographic = record { kind = 6; start = pos 0; fall = pos 0; grade = 0 }
numbers (Settling start fall) = record { kind = 8; start = start; fall = fall; grade = 0 }

-- 02, Q-7: "The grade is "whole" exactly when q divides every entry of W and of V."
unfoldable pub grade_of : Exclusions.Exclusion → Grade
grade_of c = cond (Exclusions.step_is_whole c) Whole Fractions
