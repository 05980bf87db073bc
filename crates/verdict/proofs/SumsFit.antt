-- `sums_fit`: "The ranges keep every sum within 64 bits; that is to be shown." Every sum that a ranking's conditions and the bound need, over all loops,
-- certificates and states within the limits, is below 2^63 in absolute value; so are a lasso's, over the loop with the added row. Those of an exclusion and
-- of a lasso's start and kept have files of their own.
use mathlib.Core.Path.{◌≡◌}
use Prim.Native.Nat.{ℕ, zero, suc, ◌≤◌}
use mathlib.Core.List.{List}
use native.Mathlib.Omega.{arith}
use lib.IntN.{ℤ, neg_ℤ, nat_abs, ◌+ℤ◌, ◌-ℤ◌}
use lib.ListN.{length}
use Rattle.whole.specs.Sums.{dot, sum, tabulate, Each, Within}
use Rattle.whole.proofs.Tables.{length_tabulate}
use Rattle.whole.proofs.Size.{abs_neg, abs_add}
use Rattle.whole.proofs.SumLaws.{dot_bound}
use Rattle.theory.specs.Loops.{A, A', b, Loop}
use Rattle.theory.specs.Rankings.{Ranking, rank, start, fall}
use Rattle.record.specs.Ranges.{state_most}
use Rattle.verdict.specs.Magnitudes.{column_most, right_sum_most, value_most}
use Rattle.verdict.proofs.SmallSums.{Fits64, RowSmall, Weights, A-sum-small, A'-sum-small, b_sum_small}

pub record RankingSumsFit (loop : Loop) (c : Ranking) : Type 0 where
  pub YA : (j : ℕ) → Fits64 (sum c.Y (A j) loop.rows)
  pub YA' : (j : ℕ) → Fits64 (sum c.Y (A' j) loop.rows)
  pub ZA : (j : ℕ) → Fits64 (sum c.Z (A j) loop.rows)
  pub ZA' : (j : ℕ) → Fits64 (sum c.Z (A' j) loop.rows)
  pub ZA+ZA' : (j : ℕ) → Fits64 (sum c.Z (A j) loop.rows +ℤ sum c.Z (A' j) loop.rows)
  -- far below 2^63: what is shown has at most 12 and 16 digits
  pub rank_within : Within column_most (rank loop c)
  pub start_within : nat_abs (start loop c) ≤ right_sum_most
  pub fall_within : nat_abs (fall loop c) ≤ right_sum_most
  -- at every state in range
  pub value : (x : List ℤ) → Within state_most x → Fits64 (dot (rank loop c) x)
  pub above_start : (x : List ℤ) → Within state_most x → Fits64 (dot (rank loop c) x -ℤ start loop c)

within_tabulate : (n : ℕ) (f : ℕ → ℤ) (most : ℕ) → ((j : ℕ) → nat_abs (f j) ≤ most) → Within most (tabulate n f)
unfolding tabulate
within_tabulate zero f most h i = omega arith
within_tabulate (suc n) f most h zero = h 0
within_tabulate (suc n) f most h (suc i) = within_tabulate n (λ j. f (suc j)) most (λ j. h (suc j)) i

pub rank_length : (loop : Loop) (c : Ranking) → length (rank loop c) ≡ loop.variables
unfolding rank
rank_length loop c = length_tabulate loop.variables _

rank_small : (loop : Loop) (c : Ranking) → Weights c.Z → Each RowSmall loop.rows → Within column_most (rank loop c)
unfolding rank
rank_small loop c weights small = within_tabulate loop.variables (λ j. sum c.Z (A' j) loop.rows) column_most (A'-sum-small c.Z loop.rows weights small)

pub sums_fit : (loop : Loop) (c : Ranking) → loop.variables ≤ 16 → Each RowSmall loop.rows → Weights c.Y → Weights c.Z → RankingSumsFit loop c
unfolding start fall
sums_fit loop c few small Y-weights Z-weights =
    record {
      YA = λ j. omega (arith, A-sum-small c.Y loop.rows Y-weights small j);
      YA' = λ j. omega (arith, A'-sum-small c.Y loop.rows Y-weights small j);
      ZA = λ j. omega (arith, A-sum-small c.Z loop.rows Z-weights small j);
      ZA' = λ j. omega (arith, A'-sum-small c.Z loop.rows Z-weights small j);
      ZA+ZA' =
          λ j.
          omega (
            arith,
            abs_add (sum c.Z (A j) loop.rows) (sum c.Z (A' j) loop.rows),
            A-sum-small c.Z loop.rows Z-weights small j,
            A'-sum-small c.Z loop.rows Z-weights small j,
          );
      rank_within = rank_small loop c Z-weights small;
      start_within = start_small;
      fall_within = omega (arith, abs_neg (sum c.Z b loop.rows), b_sum_small c.Z loop.rows Z-weights small);
      value = λ x in_range. omega (arith, value_small x in_range);
      above_start =
          λ x in_range.
          omega (arith, value_small x in_range, abs_add (dot (rank loop c) x) (neg_ℤ (start loop c)), abs_neg (start loop c), start_small);
    }
  where
    start_small : nat_abs (start loop c) ≤ right_sum_most
    start_small = omega (arith, abs_neg (sum c.Y b loop.rows), b_sum_small c.Y loop.rows Y-weights small)

    value_small : (x : List ℤ) → Within state_most x → nat_abs (dot (rank loop c) x) ≤ value_most
    value_small x in_range =
        omega (
          arith,
          dot_bound column_most state_most (rank loop c) x (rank_small loop c Z-weights small) in_range,
          rank_length loop c,
        )
