-- 01, "The program "sheet"": the line of a certificate: "its count from 1; then `rank` or `lasso`, the n entries of r, `from`, δ0,
-- `down`, δ; or `excluded whole`; or `excluded fractions`; or `refused`, number, place."
use Rattle.std.specs.Prelude.{ℕ, List, [], ◌∷◌, ◌++◌, map, ℤ}
use Rattle.decimal.specs.Decimals.{decimal, signed_decimal}
use Rattle.verdict.specs.declared.Grade.TheVariants.{Whole, Fractions}
use Rattle.verdict.specs.declared.Outcome.{Outcome}
use Rattle.verdict.specs.declared.Outcome.TheVariants.{Nothing, Ranking, Exclusion, Lasso, Lexicographic, Settling}
use Rattle.verdict.specs.declared.Verdict.{Verdict}
use Rattle.sheet_lines.specs.Words.{bytes, line}

-- the n entries of r, `from`, δ0, `down`, δ
unfoldable pub rank_words : List ℤ → ℤ → ℤ → List (List ℕ)
rank_words r start fall = map signed_decimal r ++ (bytes "from" ∷ signed_decimal start ∷ bytes "down" ∷ signed_decimal fall ∷ [])

-- what follows the count, by the outcome; a refusal shows nothing but its number and place. No line is laid down for kinds 6 and 8: the
-- sheet refuses them, so their outcomes never come here, and they have a refusal's words
unfoldable pub outcome_words : Outcome → ℕ → ℕ → List ℤ → List (List ℕ)
outcome_words (Ranking start fall) number place r = bytes "rank" ∷ rank_words r start fall
outcome_words (Lasso start fall) number place r = bytes "lasso" ∷ rank_words r start fall
outcome_words (Exclusion Whole) number place r = bytes "excluded" ∷ bytes "whole" ∷ []
outcome_words (Exclusion Fractions) number place r = bytes "excluded" ∷ bytes "fractions" ∷ []
outcome_words Nothing number place r = bytes "refused" ∷ decimal number ∷ decimal place ∷ []
outcome_words Lexicographic number place r = bytes "refused" ∷ decimal number ∷ decimal place ∷ []
outcome_words (Settling start fall) number place r = bytes "refused" ∷ decimal number ∷ decimal place ∷ []

-- the line of a verdict, whose rank is r
unfoldable pub verdict_line : ℕ → Verdict → List ℤ → List ℕ
verdict_line count v r = line (decimal count ∷ outcome_words v.outcome v.number v.place r)
