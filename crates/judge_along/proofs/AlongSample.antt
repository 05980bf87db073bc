-- The definitions of the sides along a row, computed: S7's exclusion at the loop's second row.
use Prim.Native.Nat.{ℕ}
use mathlib.Core.Path.{◌≡◌, refl}
use mathlib.Core.List.{List, [], ◌∷◌}
use lib.IntN.{pos}
use Rattle.endian.specs.Numbers.{little, little_at, signed}
use Rattle.whole.specs.Sums.{total}
use Rattle.judge_sums.specs.Places.{entry_at, right_at}
use Rattle.judge_along.specs.AlongRows.{along_term, direction_of, step_of}

-- 2x + x' <= 10, with U -2, V 1, W 4: the direction stays, and the step from 3 to 4 meets it
pub sides_of_S7 :
    let row : List ℕ = 2 ∷ 0 ∷ 1 ∷ 0 ∷ 10 ∷ 0 ∷ 0 ∷ 0 ∷ [] in
    let certificate : List ℕ = 254 ∷ 255 ∷ 255 ∷ 255 ∷ 1 ∷ 0 ∷ 0 ∷ 0 ∷ 4 ∷ 0 ∷ 0 ∷ 0 ∷ [] in
    (direction_of row 0 1 certificate 0 ≡ pos 0) × (step_of row 0 1 certificate 0 ≡ pos 10)
unfolding total direction_of step_of along_term entry_at right_at little_at little signed
sides_of_S7 = (refl, refl)
