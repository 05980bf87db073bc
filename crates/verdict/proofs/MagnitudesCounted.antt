-- The magnitudes of `specs/Magnitudes.antt`, multiplied out, and that each is below 2^63.
use mathlib.Core.Path.{◌≡◌, refl}
use Prim.Native.Nat.{◌^◌, ◌<◌}
use native.Mathlib.Omega.{arith}
use Rattle.verdict.specs.Magnitudes.{column_most, right_sum_most, scaled_right_most, along_most, invariant_most, value_most, above_most}

pub magnitudes_counted :
    (column_most ≡ 117_000_000_000) × (right_sum_most ≡ 7_800_000_000_000_000) × (scaled_right_most ≡ 120_000_000_000_000)
    × (along_most ≡ 28_800_000_000) × (invariant_most ≡ 482_000_000_000)
    × (value_most ≡ 1_872_000_000_000_000_000) × (above_most ≡ 1_879_800_000_000_000_000)
magnitudes_counted = (refl, refl, refl, refl, refl, refl, refl)

pub magnitudes_fit : (right_sum_most < 2 ^ 63) × (scaled_right_most < 2 ^ 63) × (invariant_most < 2 ^ 63) × (above_most < 2 ^ 63)
magnitudes_fit = (omega arith, omega arith, omega arith, omega arith)
