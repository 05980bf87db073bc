-- Values within the limits are small, and so are weighted sums of their rows: the two laws `sum_bound` and `dot_bound` of crate `whole` give every size.
use Prim.Native.Nat.{ℕ, zero, suc, ◌*◌, ◌^◌, ◌≤◌, ◌<◌}
use mathlib.Core.List.{List, [], ◌∷◌}
use native.Mathlib.Nat.{mul-le-mul_right}
use native.Mathlib.Omega.{arith}
use lib.IntN.{ℤ, pos, nat_abs}
use lib.ListN.{length}
use Rattle.whole.specs.Rows.{Row}
use Rattle.whole.specs.Sums.{sum, Each, Within}
use Rattle.whole.proofs.Solve.{v, neg, solve_abs, le_fact}
use Rattle.whole.proofs.SumLaws.{sum_bound}
use Rattle.record.specs.Contents.{In, RowIn}
use Rattle.record.specs.Ranges.{Range, either_way, ◌to◌, entries, right_sides, multipliers, directions, state_entries}
use Rattle.record.specs.Ranges.{entry_most, right_side_most, multiplier_most, direction_most, state_most}
use Rattle.theory.specs.Loops.{A, A', b}
use Rattle.verdict.specs.Magnitudes.{rows_most, column_most, right_sum_most}

-- a number of 64 bits with a sign
abbrev pub Fits64 : ℤ → Type 0
Fits64 z = nat_abs z < 2 ^ 63

-- ---- sizes out of ranges

in_either_way : (most : ℕ) (z : ℤ) → In (either_way most) z → nat_abs z ≤ most
unfolding either_way
in_either_way most z h = solve_abs (v z) most (omega (arith, le_fact (neg (v (pos most))) (v z) h.least, le_fact (v z) (v (pos most)) h.most))

in_to : (least most : ℕ) (z : ℤ) → In (least to most) z → nat_abs z ≤ most
unfolding ◌to◌
in_to least most z h = solve_abs (v z) most (omega (arith, le_fact (v (pos least)) (v z) h.least, le_fact (v z) (v (pos most)) h.most))

-- a list whose entries are in a range that keeps them small
within_by : (range : Range) (most : ℕ) → ((z : ℤ) → In range z → nat_abs z ≤ most) → (zs : List ℤ) → Each (In range) zs → Within most zs
unfolding Each
within_by range most small [] h i = omega arith
within_by range most small (z ∷ zs) h zero = small z h.0
within_by range most small (z ∷ zs) h (suc i) = within_by range most small zs h.1 i

pub small_multipliers : (zs : List ℤ) → Each (In multipliers) zs → Within multiplier_most zs
unfolding multipliers
small_multipliers zs h = within_by (0 to multiplier_most) multiplier_most (in_to 0 multiplier_most) zs h

pub small_entries : (zs : List ℤ) → Each (In entries) zs → Within entry_most zs
unfolding entries
small_entries zs h = within_by entries entry_most (in_either_way entry_most) zs h

pub small_directions : (zs : List ℤ) → Each (In directions) zs → Within direction_most zs
unfolding directions
small_directions zs h = within_by directions direction_most (in_either_way direction_most) zs h

pub small_right : (z : ℤ) → In right_sides z → nat_abs z ≤ right_side_most
unfolding right_sides
small_right z h = in_either_way right_side_most z h

pub small_state : (zs : List ℤ) → Each (In state_entries) zs → Within state_most zs
unfolding state_entries
small_state zs h = within_by state_entries state_most (in_either_way state_most) zs h

-- a row within the limits
pub record RowSmall (row : Row) : Type 0 where
  pub now_count : length row.now ≤ 16
  pub now_small : Within entry_most row.now
  pub next_count : length row.next ≤ 16
  pub next_small : Within entry_most row.next
  pub right_small : nat_abs row.right ≤ right_side_most

pub row_small : (n : ℕ) (row : Row) → n ≤ 16 → RowIn n row → RowSmall row
row_small n row few h =
    record {
      now_count = omega (arith, h.now_in.counted);
      now_small = small_entries row.now h.now_in.each;
      next_count = omega (arith, h.next_in.counted);
      next_small = small_entries row.next h.next_in.each;
      right_small = small_right row.right h.right_in;
    }

-- a list of multipliers within the limits: one for each of at most 64 rows and an added one
pub record Weights (zs : List ℤ) : Type 0 where
  pub few : length zs ≤ rows_most
  pub small : Within multiplier_most zs

-- ---- weighted sums over rows

each_column : (rows : List Row) (f : Row → ℤ) (most : ℕ) → ((row : Row) → RowSmall row → nat_abs (f row) ≤ most) → Each RowSmall rows → Each (λ row. nat_abs (f row) ≤ most) rows
unfolding Each
each_column [] f most small h = tt
each_column (row ∷ rows) f most small h = (small row h.0, each_column rows f most small h.1)

module _ (zs : List ℤ) (rows : List Row) (weights : Weights zs) (small : Each RowSmall rows) where
  weighted : (f : Row → ℤ) (most : ℕ) → ((row : Row) → RowSmall row → nat_abs (f row) ≤ most) → nat_abs (sum zs f rows) ≤ rows_most * (multiplier_most * most)
  weighted f most h =
      omega (arith, sum_bound multiplier_most most zs f rows weights.small (each_column rows f most h small), mul-le-mul_right (multiplier_most * most) weights.few)

  pub A-sum-small : (j : ℕ) → nat_abs (sum zs (A j) rows) ≤ column_most
  A-sum-small j = weighted (A j) entry_most (λ row h. h.now_small j)

  pub A'-sum-small : (j : ℕ) → nat_abs (sum zs (A' j) rows) ≤ column_most
  A'-sum-small j = weighted (A' j) entry_most (λ row h. h.next_small j)

  pub b_sum_small : nat_abs (sum zs b rows) ≤ right_sum_most
  b_sum_small = weighted b right_side_most (λ row h. h.right_small)
