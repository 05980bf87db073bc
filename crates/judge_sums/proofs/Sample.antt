-- The definitions of places and terms, computed: 01's loop P with its first certificate.
use Prim.Native.Nat.{ℕ}
use mathlib.Core.Path.{◌≡◌, refl}
use mathlib.Core.List.{List, [], ◌∷◌}
use lib.IntN.{ℤ, pos, negsuc}
use Rattle.endian.specs.Numbers.{little, little_at, signed}
use Rattle.whole.specs.Sums.{total}
use Rattle.judge_sums.specs.Places.{entry_at, right_at, multiplier_at, now_term, next_term, right_term}

-- -p + q <= -2; -p + p' <= -1; q - q' <= 0, with Y = (1,0,0) and Z = (0,1,1)
abbrev P-loop : List ℕ
P-loop =
    42 ∷ 0 ∷ 0 ∷ 0 ∷ 1 ∷ 0 ∷ 2 ∷ 0 ∷ 3 ∷ 0 ∷
    255 ∷ 255 ∷ 1 ∷ 0 ∷ 0 ∷ 0 ∷ 0 ∷ 0 ∷ 254 ∷ 255 ∷ 255 ∷ 255 ∷
    255 ∷ 255 ∷ 0 ∷ 0 ∷ 1 ∷ 0 ∷ 0 ∷ 0 ∷ 255 ∷ 255 ∷ 255 ∷ 255 ∷
    0 ∷ 0 ∷ 1 ∷ 0 ∷ 0 ∷ 0 ∷ 255 ∷ 255 ∷ 0 ∷ 0 ∷ 0 ∷ 0 ∷ []

abbrev P-ranking : List ℕ
P-ranking = 14 ∷ 0 ∷ 0 ∷ 0 ∷ 2 ∷ 0 ∷ 1 ∷ 0 ∷ 0 ∷ 0 ∷ 0 ∷ 0 ∷ 0 ∷ 0 ∷ 1 ∷ 0 ∷ 1 ∷ 0 ∷ []

-- of one column, Y's totals and then Z's, each over A and over A'
abbrev four : ℕ → List ℤ
four j =
    total 3 (now_term P-ranking 6 P-loop 10 2 j) ∷ total 3 (next_term P-ranking 6 P-loop 10 2 j)
    ∷ total 3 (now_term P-ranking 12 P-loop 10 2 j) ∷ total 3 (next_term P-ranking 12 P-loop 10 2 j) ∷ []

-- YA = ZA = (-1, 1), YA' = 0, ZA' = r = (1, -1)
pub columns_of_P : (four 0 ≡ negsuc 0 ∷ pos 0 ∷ negsuc 0 ∷ pos 1 ∷ []) × (four 1 ≡ pos 1 ∷ pos 0 ∷ pos 1 ∷ negsuc 0 ∷ [])
unfolding total now_term next_term multiplier_at entry_at little_at little signed
columns_of_P = (refl, refl)

-- Yb = -2 and Zb = -1: from 2, down 1
pub rights_of_P : (total 3 (right_term P-ranking 6 P-loop 10 2) ≡ negsuc 1) × (total 3 (right_term P-ranking 12 P-loop 10 2) ≡ negsuc 0)
unfolding total right_term multiplier_at right_at little_at little signed
rights_of_P = (refl, refl)
