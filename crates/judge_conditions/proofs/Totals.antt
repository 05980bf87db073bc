-- The totals of crate `judge_sums` are the sums of the theory, over the lists that the bytes hold; and they fit 64 bits, so that what is passed on is the total itself.
use mathlib.Core.Path.{◌≡◌, ◌∙◌}
use Prim.Native.Nat.{ℕ, ◌+◌, ◌*◌, ◌<◌, ◌≤◌}
use mathlib.Core.List.{List}
use lib.ListN.{get_or}
use native.Mathlib.Nat.{mul-le-mul_right}
use native.Mathlib.Omega.{arith}
use lib.IntN.{ℤ, pos, nat_abs}
use mir.Syntax.{w64}
use mir.Val.{SFits, of_z, to_z}
use mir.Facts.{to_z-of_z}
use Rattle.whole.specs.Sums.{sum}
use Rattle.whole.proofs.Size.{fits_abs}
use Rattle.whole.proofs.Tables.{tabulate_at}
use Rattle.judge_sums.specs.Lists.{multipliers_from, rows_from, entries_from}
use Rattle.judge_sums.specs.Places.{right_term, ColumnOf, most_entry, entry_at}
use Rattle.judge_sums.specs.Running.{CanGrow, Modest, SumOf}
use Rattle.judge_sums.proofs.ListLaws.{now_over_rows, next_over_rows, right_over_rows}
use Rattle.theory.specs.Loops.{A, A', b}

-- ---- sizes

-- a sum of few terms can grow, and fits
pub can_grow : (count most : ℕ) (term : ℕ → ℤ) (s : ℤ) → count ≤ 65 → most ≤ 140735340871680 → SumOf count most term s → CanGrow s
can_grow count most term s few small h = omega (arith, h.small, mul-le-mul_right most few)

pub grown_fits : {s : ℤ} → CanGrow s → SFits w64 s
grown_fits h = fits_abs (omega arith)

-- ---- a column under one list of multipliers

module _ (multipliers : List ℕ) (place : ℕ) (rows : List ℕ) (start n j count : ℕ) (now next : ℤ) (few : count ≤ 65) (h : ColumnOf multipliers place rows start n j count now next) where
  pub now_grows : CanGrow now
  now_grows = can_grow count 2147450880 _ now few (omega arith) h.now_sum

  pub next_grows : CanGrow next
  next_grows = can_grow count 2147450880 _ next few (omega arith) h.next_sum

  pub now_is : j < n → now ≡ sum (multipliers_from multipliers place count) (A j) (rows_from rows n start count)
  now_is below = h.now_sum.is ∙ now_over_rows multipliers place rows start n count j below

  pub next_is : j < n → next ≡ sum (multipliers_from multipliers place count) (A' j) (rows_from rows n start count)
  next_is below = h.next_sum.is ∙ next_over_rows multipliers place rows start n count j below

-- the right sides
pub right_is : (multipliers : List ℕ) (place : ℕ) (rows : List ℕ) (start n count : ℕ) (s : ℤ) → SumOf count 140735340871680 (right_term multipliers place rows start n) s
    → s ≡ sum (multipliers_from multipliers place count) b (rows_from rows n start count)
right_is multipliers place rows start n count s h = h.is ∙ right_over_rows multipliers place rows start n count

-- ---- a list of entries

pub entry_is : (bytes : List ℕ) (place n j : ℕ) → j < n → get_or (entries_from bytes place n) j (pos 0) ≡ entry_at bytes (place + 2 * j)
unfolding entries_from
entry_is bytes place n j below = tabulate_at n (λ j. entry_at bytes (place + 2 * j)) j (pos 0) below

-- ---- what is passed on

-- what is small enough for a difference fits, and is passed on so
pub modest_fits : {s : ℤ} → Modest s → SFits w64 s
modest_fits h = fits_abs (omega arith)

pub passed_modest : (s : ℤ) → Modest s → Modest (to_z w64 (of_z w64 s))
passed_modest s h = rw (to_z-of_z (modest_fits h)) h

-- the lifts are small
pub lift_modest : (count : ℕ) (term : ℕ → ℤ) (s : ℤ) → count ≤ 65 → SumOf count most_entry term s → Modest s
lift_modest count term s few h = omega (arith, h.small, mul-le-mul_right 2147450880 few)

pub right_small : (count : ℕ) (term : ℕ → ℤ) (s : ℤ) → count ≤ 65 → SumOf count 140735340871680 term s → nat_abs s ≤ 9147797156659200
right_small count term s few h = omega (arith, h.small, mul-le-mul_right 140735340871680 few)

-- a number on file that is passed on
pub passed_small : (z : ℤ) (most : ℕ) → most ≤ 2147483648 → nat_abs z ≤ most → nat_abs (to_z w64 (of_z w64 z)) ≤ most
passed_small z most few small = rw (to_z-of_z (fits_abs {z = z} (omega arith))) small
