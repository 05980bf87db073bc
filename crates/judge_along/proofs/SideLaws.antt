-- The two left sides of an exclusion out of the four totals along a row: they fit 64 bits, and they are what specs/AlongRows.antt defines.
use Prim.Native.Nat.{ℕ, ◌^◌, ◌<◌}
use mathlib.Core.Path.{◌≡◌}
use mathlib.Core.List.{List}
use native.Mathlib.Omega.{arith}
use lib.IntN.{ℤ, nat_abs, neg_ℤ, ◌+ℤ◌, ◌-ℤ◌}
use mir.Syntax.{w64}
use mir.Val.{SFits, to_z, of_z}
use Rattle.whole.proofs.Size.{abs_add, abs_neg, fits_abs, back}
use Rattle.judge_along.specs.AlongRows.{AlongOf, direction_of, step_of}
use Rattle.judge_sums.specs.Running.{CanGrow}

module _ {rows : List ℕ} {row n : ℕ} {certificate : List ℕ} {place : ℕ} {v u now next : ℤ}
    (sums : AlongOf rows row n certificate place n v u now next) (few : n < 16384) where
  -- each total, and each sum of two or three, by its size
  v_small : nat_abs v < 2 ^ 60
  v_small = omega (arith, sums.v_sum.small)

  u_small : nat_abs u < 2 ^ 60
  u_small = omega (arith, sums.u_sum.small)

  now_small : nat_abs now < 2 ^ 60
  now_small = omega (arith, sums.now_sum.small)

  next_small : nat_abs next < 2 ^ 60
  next_small = omega (arith, sums.next_sum.small)

  direction_small : nat_abs (v +ℤ u) < 2 ^ 61
  direction_small = omega (arith, abs_add v u, v_small, u_small)

  difference_small : nat_abs (now -ℤ v) < 2 ^ 61
  difference_small = omega (arith, abs_add now (neg_ℤ v), abs_neg v, now_small, v_small)

  step_small : nat_abs (now -ℤ v +ℤ next) < 2 ^ 62
  step_small = omega (arith, abs_add (now -ℤ v) next, difference_small, next_small)

  -- ---- as the code adds them up, where every number stands as `to_z w64 (of_z w64 z)`

  numbers : (to_z w64 (of_z w64 v) ≡ v) × (to_z w64 (of_z w64 u) ≡ u) × (to_z w64 (of_z w64 now) ≡ now) × (to_z w64 (of_z w64 next) ≡ next)
  numbers = (back {z = v} (omega (arith, v_small)), back {z = u} (omega (arith, u_small)), back {z = now} (omega (arith, now_small)), back {z = next} (omega (arith, next_small)))

  pub direction_held : SFits w64 (to_z w64 (of_z w64 v) +ℤ to_z w64 (of_z w64 u))
  direction_held = rw (numbers.0, numbers.1) (fits_abs (omega (arith, direction_small)))

  pub difference_held : SFits w64 (to_z w64 (of_z w64 now) -ℤ to_z w64 (of_z w64 v))
  difference_held = rw (numbers.2, numbers.0) (fits_abs (omega (arith, difference_small)))

  pub step_held : SFits w64 (to_z w64 (of_z w64 (to_z w64 (of_z w64 now) -ℤ to_z w64 (of_z w64 v))) +ℤ to_z w64 (of_z w64 next))
  step_held =
      rw (numbers.2, numbers.0, numbers.3, back {z = now -ℤ v} (omega (arith, difference_small))) (fits_abs (omega (arith, step_small)))

  pub direction_is : let z = to_z w64 (of_z w64 (to_z w64 (of_z w64 v) +ℤ to_z w64 (of_z w64 u))) in (z ≡ direction_of rows row n certificate place) × CanGrow z
  unfolding direction_of
  direction_is =
      rw (numbers.0, numbers.1, back {z = v +ℤ u} (omega (arith, direction_small)))
      (rw (sums.v_sum.is, sums.u_sum.is), omega (arith, direction_small))

  pub step_is : let z = to_z w64 (of_z w64 (to_z w64 (of_z w64 (to_z w64 (of_z w64 now) -ℤ to_z w64 (of_z w64 v))) +ℤ to_z w64 (of_z w64 next))) in
      (z ≡ step_of rows row n certificate place) × CanGrow z
  unfolding step_of
  step_is =
      rw
      (numbers.2, numbers.0, numbers.3, back {z = now -ℤ v} (omega (arith, difference_small)), back {z = now -ℤ v +ℤ next} (omega (arith, step_small)))
      (rw (sums.now_sum.is, sums.v_sum.is, sums.next_sum.is), step_small)
