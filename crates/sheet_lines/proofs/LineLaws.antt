-- The laws of lines and runs of words, as the writers make them: a word with what follows it, one after another. A blank is the byte 32, a newline 10.
-- Assumes nothing.
use mathlib.Core.Path.{◌≡◌, refl, sym, ap, ◌∙◌}
use Prim.Native.Nat.{ℕ, zero, suc, ◌+◌, ◌≤◌, ◌<◌}
use mathlib.Core.List.{List, [], ◌∷◌, ◌++◌, map, append_assoc, append-nil}
use native.Mathlib.Omega.{arith}
use lib.IntN.{ℤ, pos}
use lib.ListN.{length, take, get_or, length-append}
use Rattle.decimal.specs.Decimals.{decimal, signed_decimal}
use Rattle.verdict.specs.declared.Grade.{Grade}
use Rattle.verdict.specs.declared.Grade.TheVariants.{Whole, Fractions}
use Rattle.verdict.specs.declared.Outcome.{Outcome}
use Rattle.verdict.specs.declared.Outcome.TheVariants.{Nothing, Ranking, Exclusion, Lasso, Lexicographic, Settling}
use Rattle.verdict.specs.declared.Verdict.{Verdict}
use Rattle.sheet_lines.specs.VerdictLines.{rank_words, outcome_words, verdict_line}
use Rattle.sheet_lines.specs.Words.{bytes, line, run}

-- ---- lines

pub line_next : (word next : List ℕ) (words : List (List ℕ)) → line (word ∷ next ∷ words) ≡ (word ++ (32 ∷ [])) ++ line (next ∷ words)
unfolding line bytes
line_next word next words = sym (append_assoc word (32 ∷ []) (line (next ∷ words)))

pub line_last : (word : List ℕ) → line (word ∷ []) ≡ word ++ (10 ∷ [])
unfolding line bytes
line_last word = refl

pub line_run : (words : List (List ℕ)) (next : List ℕ) (more : List (List ℕ)) → line (words ++ (next ∷ more)) ≡ run words ++ line (next ∷ more)
unfolding run bytes
line_run [] next more = refl
line_run (word ∷ []) next more = rw append-nil (line_next word next more)
line_run (word ∷ second ∷ words) next more = line_next word second (words ++ (next ∷ more)) ∙ ap (λ t. (word ++ (32 ∷ [])) ++ t) (line_run (second ∷ words) next more) ∙ sym (append_assoc (word ++ (32 ∷ [])) (run (second ∷ words)) (line (next ∷ more)))

-- two words
pub line_pair : (x y : List ℕ) → line (x ∷ y ∷ []) ≡ (x ++ (32 ∷ [])) ++ (y ++ (10 ∷ []))
line_pair x y = rw (line_next x y [], line_last y)

pub length_pair : (x y : List ℕ) → length (line (x ∷ y ∷ [])) ≡ length x + 1 + (length y + 1)
length_pair x y = rw (line_pair x y) (simp length-append)

-- `loop` with its blank
abbrev pub loop_word : List ℕ
loop_word = 108 ∷ 111 ∷ 111 ∷ 112 ∷ 32 ∷ []

pub line_loop : (next : List ℕ) (words : List (List ℕ)) → line (bytes "loop" ∷ next ∷ words) ≡ loop_word ++ line (next ∷ words)
unfolding bytes
line_loop next words = line_next (bytes "loop") next words

-- ---- the entries of r

-- each entry with its blank
abbrev pub entries : List ℤ → List ℕ
entries r = run (map signed_decimal r)

pub entries_more : (r : List ℤ) (i : ℕ) → i < length r → entries (take (suc i) r) ≡ entries (take i r) ++ (signed_decimal (get_or r i (pos 0)) ++ (32 ∷ []))
unfolding run bytes
entries_more [] i h = absurd (omega arith)
entries_more (z ∷ r) zero h = append-nil (signed_decimal z ++ (32 ∷ []))
entries_more (z ∷ r) (suc i) h = ap (λ t. (signed_decimal z ++ (32 ∷ [])) ++ t) (entries_more r i (omega arith)) ∙ sym (append_assoc (signed_decimal z ++ (32 ∷ [])) (entries (take i r)) _)

pub entries_part : (r : List ℤ) (k : ℕ) → length (entries (take k r)) ≤ length (entries r)
unfolding run
entries_part r zero = omega arith
entries_part [] (suc k) = omega arith
entries_part (z ∷ r) (suc k) = simp length-append (omega (arith, entries_part r k))

-- ---- the last words of a rank's line

-- `from` and `down`, each with its blank
abbrev pub from_word : List ℕ
from_word = 102 ∷ 114 ∷ 111 ∷ 109 ∷ 32 ∷ []

abbrev pub down_word : List ℕ
down_word = 100 ∷ 111 ∷ 119 ∷ 110 ∷ 32 ∷ []

pub line_rank : (r : List ℤ) (start fall : ℤ)
    → line (rank_words r start fall) ≡ entries r ++ ((from_word ++ (signed_decimal start ++ (32 ∷ []))) ++ (down_word ++ (signed_decimal fall ++ (10 ∷ []))))
unfolding rank_words bytes
line_rank r start fall =
    line_run (map signed_decimal r) (bytes "from") (signed_decimal start ∷ bytes "down" ∷ signed_decimal fall ∷ [])
    ∙ rw (line_next (bytes "from") (signed_decimal start) (bytes "down" ∷ signed_decimal fall ∷ []), line_next (signed_decimal start) (bytes "down") (signed_decimal fall ∷ []), line_next (bytes "down") (signed_decimal fall) [], line_last)

pub length_rank : (r : List ℤ) (start fall : ℤ)
    → length (line (rank_words r start fall)) ≡ length (entries r) + (5 + (length (signed_decimal start) + 1) + (5 + (length (signed_decimal fall) + 1)))
length_rank r start fall = rw (line_rank r start fall) (simp length-append (omega arith))

-- a word before them
line_ranked : (word : List ℕ) (r : List ℤ) (start fall : ℤ) → line (word ∷ rank_words r start fall) ≡ (word ++ (32 ∷ [])) ++ line (rank_words r start fall)
unfolding rank_words
line_ranked word [] start fall = line_next word _ _
line_ranked word (z ∷ r) start fall = line_next word _ _

-- ---- what follows the count in a certificate's line, by the outcome

-- `refused`, `rank` and `lasso`, each with its blank
abbrev pub refused_word : List ℕ
refused_word = 114 ∷ 101 ∷ 102 ∷ 117 ∷ 115 ∷ 101 ∷ 100 ∷ 32 ∷ []

abbrev pub rank_word : List ℕ
rank_word = 114 ∷ 97 ∷ 110 ∷ 107 ∷ 32 ∷ []

abbrev pub lasso_word : List ℕ
lasso_word = 108 ∷ 97 ∷ 115 ∷ 115 ∷ 111 ∷ 32 ∷ []

-- `excluded whole` and `excluded fractions`, with their newline
abbrev pub whole_line : List ℕ
whole_line = 101 ∷ 120 ∷ 99 ∷ 108 ∷ 117 ∷ 100 ∷ 101 ∷ 100 ∷ 32 ∷ 119 ∷ 104 ∷ 111 ∷ 108 ∷ 101 ∷ 10 ∷ []

abbrev pub fractions_line : List ℕ
fractions_line = 101 ∷ 120 ∷ 99 ∷ 108 ∷ 117 ∷ 100 ∷ 101 ∷ 100 ∷ 32 ∷ 102 ∷ 114 ∷ 97 ∷ 99 ∷ 116 ∷ 105 ∷ 111 ∷ 110 ∷ 115 ∷ 10 ∷ []

pub line_refused : (x y : List ℕ) → line (bytes "refused" ∷ x ∷ y ∷ []) ≡ refused_word ++ line (x ∷ y ∷ [])
unfolding bytes
line_refused x y = line_next (bytes "refused") x (y ∷ [])

module _ (outcome : Outcome) (number place : ℕ) (r : List ℤ) where
  pub nothing_line : outcome ≡ Nothing → line (outcome_words outcome number place r) ≡ line (bytes "refused" ∷ decimal number ∷ decimal place ∷ [])
  unfolding outcome_words
  nothing_line e = rw e

  pub lexicographic_line : outcome ≡ Lexicographic → line (outcome_words outcome number place r) ≡ line (bytes "refused" ∷ decimal number ∷ decimal place ∷ [])
  unfolding outcome_words
  lexicographic_line e = rw e

  pub settling_line : (start fall : ℤ) → outcome ≡ Settling start fall
      → line (outcome_words outcome number place r) ≡ line (bytes "refused" ∷ decimal number ∷ decimal place ∷ [])
  unfolding outcome_words
  settling_line start fall e = rw e

  pub ranking_line : (start fall : ℤ) → outcome ≡ Ranking start fall → line (outcome_words outcome number place r) ≡ rank_word ++ line (rank_words r start fall)
  unfolding outcome_words bytes
  ranking_line start fall e = rw e (line_ranked (bytes "rank") r start fall)

  pub lasso_line : (start fall : ℤ) → outcome ≡ Lasso start fall → line (outcome_words outcome number place r) ≡ lasso_word ++ line (rank_words r start fall)
  unfolding outcome_words bytes
  lasso_line start fall e = rw e (line_ranked (bytes "lasso") r start fall)

  pub whole_exclusion_line : (grade : Grade) → outcome ≡ Exclusion grade → grade ≡ Whole → line (outcome_words outcome number place r) ≡ whole_line
  unfolding outcome_words bytes line
  whole_exclusion_line grade e g = rw (e, g)

  pub fractions_exclusion_line : (grade : Grade) → outcome ≡ Exclusion grade → grade ≡ Fractions → line (outcome_words outcome number place r) ≡ fractions_line
  unfolding outcome_words bytes line
  fractions_exclusion_line grade e g = rw (e, g)

-- the count before it
pub line_count : (count : ℕ) (v : Verdict) (r : List ℤ) → verdict_line count v r ≡ (decimal count ++ (32 ∷ [])) ++ line (outcome_words v.outcome v.number v.place r)
unfolding verdict_line outcome_words
line_count count v r = by_outcome v.outcome
  where
    by_outcome : (o : Outcome) → line (decimal count ∷ outcome_words o v.number v.place r) ≡ (decimal count ++ (32 ∷ [])) ++ line (outcome_words o v.number v.place r)
    by_outcome Nothing = line_next (decimal count) _ _
    by_outcome (Ranking start fall) = line_next (decimal count) _ _
    by_outcome (Exclusion Whole) = line_next (decimal count) _ _
    by_outcome (Exclusion Fractions) = line_next (decimal count) _ _
    by_outcome (Lasso start fall) = line_next (decimal count) _ _
    by_outcome Lexicographic = line_next (decimal count) _ _
    by_outcome (Settling start fall) = line_next (decimal count) _ _

pub length_count : (count : ℕ) (v : Verdict) (r : List ℤ) → length (verdict_line count v r) ≡ length (decimal count) + 1 + length (line (outcome_words v.outcome v.number v.place r))
length_count count v r = rw (line_count count v r) (simp length-append)
