-- What the loops over rows share: a row lies within the bytes, and a column's totals, and those beside the columns, begin and take one row more.
use Prim.Native.Nat.{ℕ, ◌+◌, ◌*◌, ◌≤◌, ◌<◌}
use mathlib.Core.Path.{◌≡◌}
use mathlib.Core.List.{List}
use native.Mathlib.Nat.{mul-le-mul_right}
use native.Mathlib.Omega.{arith}
use lib.IntN.{ℤ, pos}
use lib.ListN.{length}
use Rattle.endian.specs.Numbers.{little_at}
use Rattle.judge_sums.specs.Places.{right_at, multiplier_at, row_place, now_term, next_term, right_term, lift_term, Visited, ColumnOf, Sided, BesideOf, most_entry, most_right}
use Rattle.judge_sums.specs.Running.{CanGrow}
use Rattle.judge_sums.specs.declared.rows.Rows.{Rows}
use Rattle.judge_sums.proofs.RunningLaws.{sum_none, sum_more, adds_nothing}

pub row_inside : (rows : Rows) (i : ℕ) → i < rows.count → row_place rows.start rows.n (i + 1) ≤ length rows.bytes.now
row_inside rows i below = omega (arith, rows.lie.inside, mul-le-mul_right (4 * rows.n + 4) below)

-- a row without weight
pub sided_nothing : (multiplier : ℕ) (rows : List ℕ) (place : ℕ) (lift right : ℤ) → multiplier ≡ 0 → Sided multiplier rows place lift right lift right
sided_nothing multiplier rows place lift right none =
    record { lift_adds = adds_nothing most_entry none (pos 32768) lift; right_adds = adds_nothing most_right none (right_at rows place) right }

module _ (multipliers : List ℕ) (place : ℕ) (rows : List ℕ) (start n j : ℕ) where
  pub column_none : {now next : ℤ} → (now ≡ pos 0) × (next ≡ pos 0) → ColumnOf multipliers place rows start n j 0 now next
  column_none h =
      record {
        now_sum = sum_none most_entry (now_term multipliers place rows start n j) h.0;
        next_sum = sum_none most_entry (next_term multipliers place rows start n j) h.1;
      }

  pub column_more : (i multiplier at : ℕ) {now next now' next' : ℤ} → ColumnOf multipliers place rows start n j i now next
      → multiplier ≡ little_at 2 multipliers (place + 2 * i) → at ≡ row_place start n i
      → Visited multiplier rows (at + 2 * j) (at + (2 * n + 2 * j)) now next now' next'
      → ColumnOf multipliers place rows start n j (i + 1) now' next'
  unfolding multiplier_at now_term next_term
  column_more i multiplier at h read here more =
      record {
        now_sum = sum_more most_entry (now_term multipliers place rows start n j) i h.now_sum (rw (read, here) at more.now_adds);
        next_sum = sum_more most_entry (next_term multipliers place rows start n j) i h.next_sum (rw (read, here) at more.next_adds);
      }

-- what a list of multipliers comes to beside the columns
module _ (multipliers : List ℕ) (place : ℕ) (rows : List ℕ) (start n : ℕ) where
  pub beside_none : {lift right : ℤ} → (lift ≡ pos 0) × (right ≡ pos 0) → BesideOf multipliers place rows start n 0 lift right
  beside_none h =
      record {
        lift_sum = sum_none most_entry (lift_term multipliers place) h.0;
        right_sum = sum_none most_right (right_term multipliers place rows start n) h.1;
      }

  pub beside_more : (i multiplier at : ℕ) {lift right lift' right' : ℤ} → BesideOf multipliers place rows start n i lift right
      → multiplier ≡ little_at 2 multipliers (place + 2 * i) → at ≡ row_place start n i
      → Sided multiplier rows (at + 4 * n) lift right lift' right'
      → BesideOf multipliers place rows start n (i + 1) lift' right'
  unfolding multiplier_at lift_term right_term
  beside_more i multiplier at h read here more =
      record {
        lift_sum = sum_more most_entry (lift_term multipliers place) i h.lift_sum (rw read at more.lift_adds);
        right_sum = sum_more most_right (right_term multipliers place rows start n) i h.right_sum (rw (read, here) at more.right_adds);
      }

  -- under 16,384 rows both have room to grow
  pub beside_grows : (count : ℕ) {lift right : ℤ} → count < 16384 → BesideOf multipliers place rows start n count lift right → CanGrow lift × CanGrow right
  beside_grows count few h = (omega (arith, h.lift_sum.small), omega (arith, h.right_sum.small))
