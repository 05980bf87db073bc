-- The numbers of a judge's sums by their places in the records' bytes, and the terms of sums over rows (01, "Records on file" and
-- "Conditions"). Rows over n variables lie one after another from `start` on, each n entries of A, n of A' and b; multipliers lie one
-- after another from `place` on.
use Rattle.std.specs.Prelude.{ℕ, ◌+◌, ◌*◌, ◌≤◌, ◌<◌, List, ◌≡◌, ℤ, pos, nat_abs, ◌+ℤ◌, ◌-ℤ◌, ◌*ℤ◌, length, get_or}
use Rattle.endian.specs.Numbers.{little_at, signed}
use Rattle.whole.specs.Sums.{total}
use Rattle.judge_sums.specs.Running.{CanGrow, Modest, Adds, SumOf}

-- ---- numbers on file

-- an entry (i16), a right side or an entry of U, V or W (i32), a multiplier (u16)
unfoldable pub entry_at : List ℕ → ℕ → ℤ
entry_at bytes place = signed 32768 (little_at 2 bytes place)

unfoldable pub right_at : List ℕ → ℕ → ℤ
right_at bytes place = signed 2147483648 (little_at 4 bytes place)

unfoldable pub multiplier_at : List ℕ → ℕ → ℤ
multiplier_at bytes place = pos (little_at 2 bytes place)

-- where row i starts
abbrev pub row_place : ℕ → ℕ → ℕ → ℕ
row_place start n i = start + i * (4 * n + 4)

-- ---- terms: of row i in a sum over rows

-- multiplier times entry j of A
unfoldable pub now_term : List ℕ → ℕ → List ℕ → ℕ → ℕ → ℕ → ℕ → ℤ
now_term multipliers place rows start n j i = multiplier_at multipliers (place + 2 * i) *ℤ entry_at rows (row_place start n i + 2 * j)

-- multiplier times entry j of A'
unfoldable pub next_term : List ℕ → ℕ → List ℕ → ℕ → ℕ → ℕ → ℕ → ℤ
next_term multipliers place rows start n j i =
    multiplier_at multipliers (place + 2 * i) *ℤ entry_at rows (row_place start n i + (2 * n + 2 * j))

-- multiplier times b
unfoldable pub right_term : List ℕ → ℕ → List ℕ → ℕ → ℕ → ℕ → ℤ
right_term multipliers place rows start n i = multiplier_at multipliers (place + 2 * i) *ℤ right_at rows (row_place start n i + 4 * n)

-- the size of a term at the most: of now_term and next_term, and of right_term
abbrev pub most_entry : ℕ
most_entry = 65535 * 32768

abbrev pub most_right : ℕ
most_right = 65535 * 2147483648

-- ---- what lies in the bytes. The counts are small enough for every sum, and for the sum of three of them, to fit 64 bits

-- rows over n variables from `start` on
pub record RowsIn (bytes : List ℕ) (start n count : ℕ) : Type 0 where
  pub inside : start + count * (4 * n + 4) ≤ length bytes
  pub few : count < 16384
  pub narrow : n < 16384

-- multipliers from `place` on
abbrev pub MultipliersIn : List ℕ → ℕ → ℕ → Type 0
MultipliersIn bytes place count = place + 2 * count ≤ length bytes

-- ---- a column's totals under one list of multipliers: `now` over A, `next` over A'

-- one row more, whose entries stand at two places
pub record Visited (multiplier : ℕ) (rows : List ℕ) (first second : ℕ) (now next now' next' : ℤ) : Type 0 where
  pub now_adds : Adds most_entry (pos multiplier *ℤ entry_at rows first) now now'
  pub next_adds : Adds most_entry (pos multiplier *ℤ entry_at rows second) next next'

-- `count` rows
pub record ColumnOf (multipliers : List ℕ) (place : ℕ) (rows : List ℕ) (start n j count : ℕ) (now next : ℤ) : Type 0 where
  pub now_sum : SumOf count most_entry (now_term multipliers place rows start n j) now
  pub next_sum : SumOf count most_entry (next_term multipliers place rows start n j) next

-- ---- all columns' totals under one list of multipliers, side by side in a list. Entry k of a row is that of A for k below n, and that
-- of A' after it. Each entry is lifted by 32768, so that it is never below 0; the lifts' total is the same for every column

-- multiplier times entry k, and times the lift
unfoldable pub entry_term : List ℕ → ℕ → List ℕ → ℕ → ℕ → ℕ → ℕ → ℤ
entry_term multipliers place rows start n k i = multiplier_at multipliers (place + 2 * i) *ℤ entry_at rows (row_place start n i + 2 * k)

unfoldable pub lift_term : List ℕ → ℕ → ℕ → ℤ
lift_term multipliers place i = multiplier_at multipliers (place + 2 * i) *ℤ pos 32768

-- a total takes multiplier times lifted entry
pub record Lifts (multiplier : ℕ) (entry before after : ℤ) : Type 0 where
  pub is : after ≡ before +ℤ pos multiplier *ℤ (entry +ℤ pos 32768)
  pub small : nat_abs (pos multiplier *ℤ entry) ≤ most_entry

-- each of the first `width` totals has become what `grows` says of its column; the others stay, and the list is as long as before
pub record Grown (grows : ℕ → ℤ → ℤ → Type 0) (width : ℕ) (before after : List ℤ) : Type 0 where
  pub long : length after ≡ length before
  pub added : (k : ℕ) → k < width → grows k (get_or before k (pos 0)) (get_or after k (pos 0))
  pub stays : (k : ℕ) → width ≤ k → get_or after k (pos 0) ≡ get_or before k (pos 0)

-- each takes its entry of the row at a place
abbrev pub RowAdded : ℕ → List ℕ → ℕ → ℕ → List ℤ → List ℤ → Type 0
RowAdded multiplier rows row = Grown (λ k. Lifts multiplier (entry_at rows (row + 2 * k)))

-- a list is as long as before, and from `width` on it stays
pub record RestStays (width : ℕ) (before after : List ℤ) : Type 0 where
  pub long : length after ≡ length before
  pub stays : (k : ℕ) → width ≤ k → get_or after k (pos 0) ≡ get_or before k (pos 0)

-- the first `width` totals can grow
abbrev pub AllGrow : ℕ → List ℤ → Type 0
AllGrow width sums = (k : ℕ) → k < width → CanGrow (get_or sums k (pos 0))

-- they are small enough for the lift to be taken off, and a term more
abbrev pub AllModest : ℕ → List ℤ → Type 0
AllModest width sums = (k : ℕ) → k < width → Modest (get_or sums k (pos 0))

-- they are 0
abbrev pub AllNone : ℕ → List ℤ → Type 0
AllNone width sums = (k : ℕ) → k < width → get_or sums k (pos 0) ≡ pos 0

-- they are the columns' totals over `count` rows, lifted
pub record SumsOf (multipliers : List ℕ) (place : ℕ) (rows : List ℕ) (start n count : ℕ) (sums : List ℤ) : Type 0 where
  pub lift_small : nat_abs (total count (lift_term multipliers place)) ≤ count * most_entry
  pub each : (k : ℕ) → k < 2 * n
      → SumOf count most_entry (entry_term multipliers place rows start n k)
      (get_or sums k (pos 0) -ℤ total count (lift_term multipliers place))

-- ---- what one list of multipliers comes to beside the columns: `lift` over the lifts, `right` over the right sides

-- one row more, whose right side stands at a place
pub record Sided (multiplier : ℕ) (rows : List ℕ) (place : ℕ) (lift right lift' right' : ℤ) : Type 0 where
  pub lift_adds : Adds most_entry (pos multiplier *ℤ pos 32768) lift lift'
  pub right_adds : Adds most_right (pos multiplier *ℤ right_at rows place) right right'

-- `count` rows
pub record BesideOf (multipliers : List ℕ) (place : ℕ) (rows : List ℕ) (start n count : ℕ) (lift right : ℤ) : Type 0 where
  pub lift_sum : SumOf count most_entry (lift_term multipliers place) lift
  pub right_sum : SumOf count most_right (right_term multipliers place rows start n) right

-- ---- all totals under one list of multipliers over `count` rows: of the columns, and what they come to beside them
pub record TotalsOf (multipliers : List ℕ) (place : ℕ) (rows : List ℕ) (start n count : ℕ) (sums : List ℤ) (lift right : ℤ) : Type 0 where
  pub columns : SumsOf multipliers place rows start n count sums
  pub beside : BesideOf multipliers place rows start n count lift right
