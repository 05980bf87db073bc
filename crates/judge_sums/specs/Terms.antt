-- The sums over rows under multipliers, as both lie. Their terms and definitions are those of specs/Places.antt.
use Rattle.std.specs.Prelude.{ℕ, List, ℤ}
use Rattle.judge_sums.specs.Places.{right_term, ColumnOf, SumsOf, BesideOf, TotalsOf}
use Rattle.judge_sums.specs.declared.rows.Rows.{Rows}
use Rattle.judge_sums.specs.declared.rows.Multipliers.{Multipliers}

-- multiplier times b
abbrev pub right_terms : Multipliers → Rows → ℕ → ℤ
right_terms multipliers rows = right_term multipliers.bytes.now multipliers.place rows.bytes.now rows.start rows.n

-- ---- over the first `count` rows

-- column j's totals
abbrev pub ColumnUnder : Multipliers → Rows → ℕ → ℕ → ℤ → ℤ → Type 0
ColumnUnder multipliers rows = ColumnOf multipliers.bytes.now multipliers.place rows.bytes.now rows.start rows.n

-- all columns' totals, lifted
abbrev pub SumsUnder : Multipliers → Rows → ℕ → List ℤ → Type 0
SumsUnder multipliers rows = SumsOf multipliers.bytes.now multipliers.place rows.bytes.now rows.start rows.n

-- what they come to beside the columns
abbrev pub BesideUnder : Multipliers → Rows → ℕ → ℤ → ℤ → Type 0
BesideUnder multipliers rows = BesideOf multipliers.bytes.now multipliers.place rows.bytes.now rows.start rows.n

-- both
abbrev pub TotalsUnder : Multipliers → Rows → ℕ → List ℤ → ℤ → ℤ → Type 0
TotalsUnder multipliers rows = TotalsOf multipliers.bytes.now multipliers.place rows.bytes.now rows.start rows.n
