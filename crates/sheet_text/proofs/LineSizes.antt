-- The line of a verdict whose numbers are small has at most 282 bytes: 16 entries of at most 12 digits, a start and a fall of at most 16. Assumes nothing.
use mathlib.Core.Path.{refl}
use Prim.Native.Nat.{ℕ, suc, ◌+◌, ◌*◌, ◌^◌, ◌≤◌, ◌<◌}
use mathlib.Core.List.{List, [], ◌∷◌}
use native.Mathlib.Omega.{arith}
use lib.IntN.{ℤ, nat_abs}
use lib.ListN.{length, length-append}
use Rattle.whole.specs.Sums.{Within}
use Rattle.decimal.specs.Decimals.{decimal, signed_decimal}
use Rattle.decimal.proofs.DecimalLaws.{decimal_length, signed_length}
use Rattle.verdict.specs.Magnitudes.{column_most, right_sum_most}
use Rattle.verdict.specs.declared.Grade.TheVariants.{Whole, Fractions}
use Rattle.verdict.specs.declared.Outcome.{Outcome}
use Rattle.verdict.specs.declared.Outcome.TheVariants.{Nothing, Ranking, Exclusion, Lasso, Lexicographic, Settling}
use Rattle.verdict.specs.declared.Verdict.{Verdict}
use Rattle.sheet_lines.specs.Words.{bytes, line, run}
use Rattle.sheet_lines.specs.VerdictLines.{outcome_words, verdict_line}
use Rattle.sheet_lines.proofs.LineLaws.{entries, nothing_line, lexicographic_line, settling_line, ranking_line, lasso_line, whole_exclusion_line, fractions_exclusion_line, line_refused, length_pair, length_rank, length_count}

-- ---- the line of a verdict whose numbers are small

pub record SmallRefusal (number place : ℕ) : Type 0 where
  pub two_digits : number < 100
  pub near : place ≤ 65_536

-- at most 16 entries of at most 12 digits, a start and a fall of at most 16
pub record SmallRank (r : List ℤ) (start fall : ℤ) : Type 0 where
  pub sixteen : length r ≤ 16
  pub rank_within : Within column_most r
  pub start_within : nat_abs start ≤ right_sum_most
  pub fall_within : nat_abs fall ≤ right_sum_most

abbrev pub SmallVerdict : Outcome → ℕ → ℕ → List ℤ → Type 0
SmallVerdict Nothing number place r = SmallRefusal number place
SmallVerdict (Ranking start fall) number place r = SmallRank r start fall
SmallVerdict (Exclusion grade) number place r = Unit {0}
SmallVerdict (Lasso start fall) number place r = SmallRank r start fall
SmallVerdict Lexicographic number place r = SmallRefusal number place
SmallVerdict (Settling start fall) number place r = SmallRefusal number place

entries_size : (r : List ℤ) → Within column_most r → length (entries r) ≤ 14 * length r
unfolding run bytes
entries_size [] small = omega arith
entries_size (z ∷ r) small = simp length-append (omega (arith, signed_length 11 z (omega (arith, small 0)), entries_size r (λ i. small (suc i))))

rank_size : (r : List ℤ) (start fall : ℤ) → SmallRank r start fall → length (entries r) + (5 + (length (signed_decimal start) + 1) + (5 + (length (signed_decimal fall) + 1))) ≤ 270
rank_size r start fall small =
    omega (
      arith,
      small.sixteen,
      entries_size r small.rank_within,
      signed_length 15 start (omega (arith, small.start_within)),
      signed_length 15 fall (omega (arith, small.fall_within)),
    )

pub refusal_size : (number place : ℕ) → SmallRefusal number place → length (line (bytes "refused" ∷ decimal number ∷ decimal place ∷ [])) ≤ 17
refusal_size number place small =
    rw (line_refused (decimal number) (decimal place))
    (omega (arith, length_pair (decimal number) (decimal place), decimal_length 1 number (omega (arith, small.two_digits)), decimal_length 4 place (omega (arith, small.near))))

outcome_size : (o : Outcome) (number place : ℕ) (r : List ℤ) → SmallVerdict o number place r → length (line (outcome_words o number place r)) ≤ 276
outcome_size Nothing number place r small = rw (nothing_line Nothing number place r refl) (omega (arith, refusal_size number place small))
outcome_size (Ranking start fall) number place r small = rw (ranking_line (Ranking start fall) number place r start fall refl) (omega (arith, length_rank r start fall, rank_size r start fall small))
outcome_size (Exclusion Whole) number place r small = rw (whole_exclusion_line (Exclusion Whole) number place r Whole refl refl) (omega arith)
outcome_size (Exclusion Fractions) number place r small = rw (fractions_exclusion_line (Exclusion Fractions) number place r Fractions refl refl) (omega arith)
outcome_size (Lasso start fall) number place r small = rw (lasso_line (Lasso start fall) number place r start fall refl) (omega (arith, length_rank r start fall, rank_size r start fall small))
outcome_size Lexicographic number place r small = rw (lexicographic_line Lexicographic number place r refl) (omega (arith, refusal_size number place small))
outcome_size (Settling start fall) number place r small = rw (settling_line (Settling start fall) number place r start fall refl) (omega (arith, refusal_size number place small))

pub verdict_size : (count : ℕ) (verdict : Verdict) (r : List ℤ) → count < 10 ^ 5 → SmallVerdict verdict.outcome verdict.number verdict.place r
    → length (verdict_line count verdict r) ≤ 282
verdict_size count verdict r few small =
    omega (arith, length_count count verdict r, decimal_length 4 count few, outcome_size verdict.outcome verdict.number verdict.place r small)
