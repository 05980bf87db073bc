-- Sums over paths: a part and what comes before it lie within the whole, and a sum of small parts is small.
use mathlib.Core.Path.{◌≡◌, refl}
use Prim.Native.Nat.{ℕ, zero, suc, ◌+◌, ◌*◌, ◌≤◌, ◌<◌}
use native.Mathlib.Decide.{dec_lt}
use native.Mathlib.Omega.{arith}
use Rattle.refusal.specs.Places.{Throughout}
use Rattle.record_paths.specs.PathFields.{sum_of}

module _ (f : ℕ → ℕ) where
  pub sum_none : sum_of 0 f ≡ 0
  unfolding sum_of
  sum_none = refl

  pub sum_next : (count : ℕ) → sum_of (count + 1) f ≡ sum_of count f + f count
  unfolding sum_of
  sum_next count = let one : count + 1 ≡ suc count = omega arith in rw one

  pub sum_part : (count j : ℕ) → j < count → sum_of j f + f j ≤ sum_of count f
  unfolding sum_of
  sum_part zero j below = absurd (omega arith)
  sum_part (suc count) j below =
      elim (dec_lt j count) [
        | yes early ↦ omega (arith, sum_part count j early)
        | no late ↦ let last : j ≡ count = omega arith in rw last (omega arith)
      ]

  pub sum_most : (count most : ℕ) → Throughout count (λ j. f j ≤ most) → sum_of count f ≤ count * most
  unfolding sum_of
  sum_most zero most small = omega arith
  sum_most (suc count) most small = omega (arith, sum_most count most (λ j below. small j (omega arith)), small count (omega arith))
