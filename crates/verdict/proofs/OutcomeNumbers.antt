-- "a definition lists this paper's number and values for each case": the cases of an outcome and of a grade beside their literal numbers. An outcome's number is the kind of the certificate
-- that gave it, 0 for nothing; start, fall and grade are 0 where there are none. `numbers` and `grade_number` are the definition that the promises use; here it is held to the list.
use Prim.Native.Nat.{ℕ}
use mathlib.Core.Path.{◌≡◌, refl}
use lib.IntN.{ℤ, pos}
use Rattle.verdict.specs.Outcomes.{Numbers, numbers, grade_number}
use Rattle.verdict.specs.declared.Grade.TheVariants.{Whole, Fractions}
use Rattle.verdict.specs.declared.Outcome.TheVariants.{Nothing, Ranking, Exclusion, Lasso, Lexicographic, Settling}

abbrev told : ℕ → ℤ → ℤ → ℕ → Numbers
told kind start fall grade = record { kind = kind; start = start; fall = fall; grade = grade }

pub record OutcomesNumbered : Type 0 where
  pub nothing : numbers Nothing ≡ told 0 (pos 0) (pos 0) 0
  pub ranking : (start fall : ℤ) → numbers (Ranking start fall) ≡ told 2 start fall 0
  pub excluded_whole : numbers (Exclusion Whole) ≡ told 3 (pos 0) (pos 0) 1
  pub excluded_fractions : numbers (Exclusion Fractions) ≡ told 3 (pos 0) (pos 0) 2
  pub lasso : (start fall : ℤ) → numbers (Lasso start fall) ≡ told 4 start fall 0
  pub lexicographic : numbers Lexicographic ≡ told 6 (pos 0) (pos 0) 0
  pub settling : (start fall : ℤ) → numbers (Settling start fall) ≡ told 8 start fall 0
  pub whole : grade_number Whole ≡ 1
  pub fractions : grade_number Fractions ≡ 2

pub outcomes_numbered : OutcomesNumbered
unfolding numbers grade_number
outcomes_numbered =
    record {
      nothing = refl;
      ranking = λ start fall. refl;
      excluded_whole = refl;
      excluded_fractions = refl;
      lasso = λ start fall. refl;
      lexicographic = refl;
      settling = λ start fall. refl;
      whole = refl;
      fractions = refl;
    }
