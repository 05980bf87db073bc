-- Records of kind 8 and what goes with them as bytes, written out from 01, "Records on file", and 02, Q-8: the curve that climbs before
-- it falls, a settling of it, and an exclusion of the same loop. In a loop record a line is the length, the kind, n and m, then a line for
-- each row; in a settling the length and the kind, then a line each for g, t, k, E, Y and Z; in an exclusion the length, the kind and q,
-- then U, V and W. Crate `theory_settling` has the same samples as rows; `SettlingSamples` proves that these bytes hold them.
use Rattle.std.specs.Prelude.{ℕ, List, [], ◌∷◌}

-- n 2, m 5
unfoldable pub curve_bytes : List ℕ
curve_bytes =
    66 ∷ 0 ∷ 0 ∷ 0 ∷ 1 ∷ 0 ∷ 2 ∷ 0 ∷ 5 ∷ 0
    ∷ 255 ∷ 255 ∷ 0 ∷ 0 ∷ 0 ∷ 0 ∷ 0 ∷ 0 ∷ 0 ∷ 0 ∷ 0 ∷ 0
    ∷ 255 ∷ 255 ∷ 255 ∷ 255 ∷ 1 ∷ 0 ∷ 0 ∷ 0 ∷ 0 ∷ 0 ∷ 0 ∷ 0
    ∷ 1 ∷ 0 ∷ 1 ∷ 0 ∷ 255 ∷ 255 ∷ 0 ∷ 0 ∷ 0 ∷ 0 ∷ 0 ∷ 0
    ∷ 0 ∷ 0 ∷ 255 ∷ 255 ∷ 0 ∷ 0 ∷ 1 ∷ 0 ∷ 255 ∷ 255 ∷ 255 ∷ 255
    ∷ 0 ∷ 0 ∷ 1 ∷ 0 ∷ 0 ∷ 0 ∷ 255 ∷ 255 ∷ 1 ∷ 0 ∷ 0 ∷ 0
    ∷ []

-- g (0, -1), t 1, k 1; E on the fourth row; Y on the first; Z on the second and on the row that is added
unfoldable pub curve_settling_bytes : List ℕ
curve_settling_bytes =
    46 ∷ 0 ∷ 0 ∷ 0 ∷ 8 ∷ 0
    ∷ 0 ∷ 0 ∷ 255 ∷ 255
    ∷ 1 ∷ 0 ∷ 0 ∷ 0
    ∷ 1 ∷ 0
    ∷ 0 ∷ 0 ∷ 0 ∷ 0 ∷ 0 ∷ 0 ∷ 1 ∷ 0 ∷ 0 ∷ 0
    ∷ 1 ∷ 0 ∷ 0 ∷ 0 ∷ 0 ∷ 0 ∷ 0 ∷ 0 ∷ 0 ∷ 0 ∷ 0 ∷ 0
    ∷ 0 ∷ 0 ∷ 1 ∷ 0 ∷ 0 ∷ 0 ∷ 0 ∷ 0 ∷ 0 ∷ 0 ∷ 1 ∷ 0
    ∷ []

-- q 1, U (-1, -1), V (0, -1), W (0, -1)
unfoldable pub curve_exclusion_bytes : List ℕ
curve_exclusion_bytes =
    28 ∷ 0 ∷ 0 ∷ 0 ∷ 3 ∷ 0 ∷ 1 ∷ 0
    ∷ 255 ∷ 255 ∷ 255 ∷ 255 ∷ 255 ∷ 255 ∷ 255 ∷ 255
    ∷ 0 ∷ 0 ∷ 0 ∷ 0 ∷ 255 ∷ 255 ∷ 255 ∷ 255
    ∷ 0 ∷ 0 ∷ 0 ∷ 0 ∷ 255 ∷ 255 ∷ 255 ∷ 255
    ∷ []
