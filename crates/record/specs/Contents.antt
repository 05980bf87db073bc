-- 01, "Records on file", once more and without the layouts as data: the list of values of each kind from its parts by their names
-- in 01, and what it is for the parts to be within the limits. The statements about all values in range are in these words.
use Rattle.std.specs.Prelude.{ℕ, suc, ◌≡◌, List, [], ◌∷◌, ◌++◌, ℤ, pos, length, ◌≤ℤ◌}
use Rattle.whole.specs.Rows.{Row}
use Rattle.whole.specs.Sums.{Each}
use Rattle.record.specs.Ranges.{Range, variables, rows, entries, right_sides, multipliers, scales, directions}

-- z is in the range
pub record In (range : Range) (z : ℤ) : Type 0 where
  pub least : range.least ≤ℤ z
  pub most : z ≤ℤ range.most

-- a list of `count` numbers, each in the range
pub record ListIn (range : Range) (count : ℕ) (zs : List ℤ) : Type 0 where
  pub counted : length zs ≡ count
  pub each : Each (In range) zs

-- n and m within the limits
pub record CountsIn (n m : ℕ) : Type 0 where
  pub n_in : In variables (pos n)
  pub m_in : In rows (pos m)

-- ---- rows

unfoldable pub row_values : Row → List ℤ
row_values row = row.now ++ (row.next ++ (row.right ∷ []))

unfoldable pub rows_values : List Row → List ℤ
rows_values [] = []
rows_values (row ∷ rest) = row_values row ++ rows_values rest

pub record RowIn (n : ℕ) (row : Row) : Type 0 where
  pub now_in : ListIn entries n row.now
  pub next_in : ListIn entries n row.next
  pub right_in : In right_sides row.right

pub record RowsIn (n count : ℕ) (rs : List Row) : Type 0 where
  pub counted : length rs ≡ count
  pub each : Each (RowIn n) rs

-- ---- the kinds

-- 2, ranking: m multipliers Y, then m multipliers Z
unfoldable pub ranking_values : List ℤ → List ℤ → List ℤ
ranking_values Y Z = Y ++ Z

pub record RankingIn (m : ℕ) (Y Z : List ℤ) : Type 0 where
  pub Y-in : ListIn multipliers m Y
  pub Z-in : ListIn multipliers m Z

-- 3, exclusion: q, then U, V, W, n entries each
unfoldable pub exclusion_values : ℤ → List ℤ → List ℤ → List ℤ → List ℤ
exclusion_values q U V' W = q ∷ U ++ (V' ++ W)

pub record ExclusionIn (n : ℕ) (q : ℤ) (U V' W : List ℤ) : Type 0 where
  pub q_in : In scales q
  pub U-in : ListIn directions n U
  pub V-in : ListIn directions n V'
  pub W-in : ListIn directions n W

-- 4, lasso: ms; ms stem rows; s; s0; k; T; k2; H; h0; Y, then Z
pub record LassoParts : Type 0 where
  pub stem : List Row
  pub s : List ℤ
  pub s0 : ℤ
  pub k : ℤ
  pub T : List ℤ
  pub k2 : ℤ
  pub H : List ℤ
  pub h0 : ℤ
  pub Y : List ℤ
  pub Z : List ℤ

unfoldable pub lasso_values : LassoParts → List ℤ
lasso_values c =
    pos (length c.stem)
    ∷ rows_values c.stem
    ++ (c.s
    ++ (c.s0 ∷ c.k ∷ c.T
    ++ (c.k2 ∷ c.H
    ++ (c.h0 ∷ c.Y
    ++ c.Z))))

pub record LassoIn (n m : ℕ) (c : LassoParts) : Type 0 where
  pub ms_in : In rows (pos (length c.stem))
  pub stem_in : Each (RowIn n) c.stem
  pub s_in : ListIn entries n c.s
  pub s0_in : In right_sides c.s0
  pub k_in : In scales c.k
  pub T-in : ListIn multipliers (length c.stem) c.T
  pub k2_in : In scales c.k2
  pub H-in : ListIn multipliers m c.H
  pub h0_in : In multipliers c.h0
  pub Y-in : ListIn multipliers (suc m) c.Y
  pub Z-in : ListIn multipliers (suc m) c.Z
