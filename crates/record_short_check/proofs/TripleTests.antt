-- What the code tests of one triple, over plain numbers.
use mathlib.Core.Path.{◌≡◌}
use Prim.Native.Nat.{ℕ, ◌+◌, ◌*◌, ◌-◌, ◌≤◌, ◌<◌}
use mathlib.Core.Bool.{true, false, not}
use mathlib.Core.List.{List}
use native.Mathlib.Omega.{arith}
use lib.Dec.{eqb, ltb}
use borrow.Author.Tests.{lt-ltb, le-ltb, eq-eqb, ne_eqb}
use Rattle.endian.specs.Numbers.{little_at}
use Rattle.record_short.specs.ShortRecords.{row_in, Y-in, Z-in, row_rises, has_weight}

module _ (m : ℕ) (bytes : List ℕ) (i row : ℕ) (read : row ≡ little_at 2 bytes (8 + 6 * i)) where
  pub row_past : m ≤ row → false ≡ row_rises m bytes i
  unfolding row_rises row_in
  row_past h = rw (← read, le-ltb _ _ h)

  pub row_first : row < m → i ≡ 0 → true ≡ row_rises m bytes i
  unfolding row_rises row_in
  row_first below none = rw (← read, lt-ltb _ _ below, eq-eqb _ _ none)

  pub row_later : row < m → (i ≡ 0 → ⊥) → (last : ℕ) → last ≡ little_at 2 bytes (8 + 6 * i - 6) → ltb last row ≡ row_rises m bytes i
  unfolding row_rises row_in
  row_later below some last last-read =
      let back : 8 + 6 * (i - 1) ≡ 8 + 6 * i - 6 = omega arith in
      rw (← read, lt-ltb _ _ below, ne_eqb _ _ some, back, ← last-read)

module _ (bytes : List ℕ) (i y : ℕ) (read : y ≡ little_at 2 bytes (8 + 6 * i + 2)) where
  Y-read : y ≡ Y-in bytes i
  unfolding Y-in
  Y-read = let at : 8 + 6 * i + 2 ≡ 10 + 6 * i = omega arith in rw at at read

  pub weighs_by_Y : (y ≡ 0 → ⊥) → true ≡ has_weight bytes i
  unfolding has_weight
  weighs_by_Y some = rw (← Y-read, ne_eqb _ _ some)

  pub weighs_by_Z : y ≡ 0 → (z : ℕ) → z ≡ little_at 2 bytes (8 + 6 * i + 4) → not (eqb z 0) ≡ has_weight bytes i
  unfolding has_weight Z-in
  weighs_by_Z none z z-read =
      let at : 12 + 6 * i ≡ 8 + 6 * i + 4 = omega arith in
      rw (← Y-read, eq-eqb _ _ none, at, ← z-read)
