-- All totals under one list of multipliers, row by row. A loop that carries them has the invariant `TotalsOf .. i ..`: it starts by `totals_none`, and each turn is
-- kept by `totals_more`, or by `totals_weightless`.
use Prim.Native.Nat.{ℕ, ◌+◌, ◌*◌, ◌<◌}
use mathlib.Core.Path.{◌≡◌}
use mathlib.Core.List.{List}
use native.Mathlib.Omega.{arith}
use lib.IntN.{ℤ, pos}
use Rattle.endian.specs.Numbers.{little_at}
use Rattle.judge_sums.specs.Places.{row_place, RowAdded, AllNone, Sided, TotalsOf}
use Rattle.judge_sums.proofs.ColumnLaws.{beside_none, beside_more, sided_nothing}
use Rattle.judge_sums.proofs.LiftLaws.{row_weightless, sums_none, sums_more}

module _ (multipliers : List ℕ) (place : ℕ) (rows : List ℕ) (start n : ℕ) where
  pub totals_none : (sums : List ℤ) {lift right : ℤ} → AllNone (2 * n) sums → (lift ≡ pos 0) × (right ≡ pos 0) → TotalsOf multipliers place rows start n 0 sums lift right
  totals_none sums zeros none = record { columns = sums_none multipliers place rows start n sums zeros; beside = beside_none multipliers place rows start n none }

  pub totals_more : (i multiplier at : ℕ) {sums sums' : List ℤ} {lift right lift' right' : ℤ} → TotalsOf multipliers place rows start n i sums lift right
      → multiplier ≡ little_at 2 multipliers (place + 2 * i) → multiplier < 65536 → at ≡ row_place start n i
      → RowAdded multiplier rows at (2 * n) sums sums' → Sided multiplier rows (at + 4 * n) lift right lift' right'
      → TotalsOf multipliers place rows start n (i + 1) sums' lift' right'
  totals_more i multiplier at {sums} {sums'} h read few here row side =
      record {
        columns = sums_more multipliers place rows start n i multiplier at sums sums' h.columns read few here row;
        beside = beside_more multipliers place rows start n i multiplier at h.beside read here side;
      }

  -- a row without weight
  pub totals_weightless : (i multiplier at : ℕ) (sums : List ℤ) {lift right : ℤ} → TotalsOf multipliers place rows start n i sums lift right
      → multiplier ≡ little_at 2 multipliers (place + 2 * i) → multiplier ≡ 0 → at ≡ row_place start n i → TotalsOf multipliers place rows start n (i + 1) sums lift right
  totals_weightless i multiplier at sums {lift} {right} h read none here =
      totals_more i multiplier at h read (omega arith) here (row_weightless multiplier rows at sums (2 * n) none)
      (sided_nothing multiplier rows (at + 4 * n) lift right none)
