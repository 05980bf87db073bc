-- The parts of each kind by their names in 01 (specs/Contents.antt). Their order is pinned by the records in which no two numbers of one form are alike: parts
-- exchanged in reader, writer and contents alike do not pass. What it is for them to be within the limits stands only before an arrow, so both ends of
-- each range are shown to be in it, and a number past an end is shown not to be.
use mathlib.Core.Path.{◌≡◌, refl}
use Prim.Native.Nat.{zero, suc}
use mathlib.Core.List.{List, [], ◌∷◌}
use native.Mathlib.Omega.{arith}
use lib.IntN.{ℤ, pos}
use Rattle.endian.specs.Numbers.{Bytes}
use Rattle.whole.specs.Rows.{Row}
use Rattle.whole.specs.Sums.{Each}
use Rattle.record.specs.Contents.{CountsIn, RowIn, row_values, rows_values, RankingIn, ranking_values, ExclusionIn, exclusion_values, LassoParts, LassoIn, lasso_values}
use Rattle.record.specs.Ranges.{◌to◌, either_way, variables, rows, entries, right_sides, multipliers, scales, directions}
use Rattle.record.specs.Samples.{−, unlike_loop, unlike_ranking, unlike_exclusion, unlike_lasso}

-- a row, written in a line
abbrev row : List ℤ → List ℤ → ℤ → Row
row now next right = record { now = now; next = next; right = right }

-- ---- the order

pub loop_order :
    rows_values
    (row (− 5 ∷ pos 8 ∷ []) (− 2 ∷ pos 1 ∷ []) (− 3)
    ∷ row (pos 5 ∷ − 7 ∷ []) (pos 2 ∷ pos 4 ∷ []) (pos 2)
    ∷ row (− 4 ∷ pos 6 ∷ []) (pos 3 ∷ − 9 ∷ []) (− 1)
    ∷ [])
    ≡ unlike_loop.values
unfolding rows_values row_values unlike_loop
loop_order = refl

pub ranking_order : ranking_values (pos 6 ∷ pos 3 ∷ pos 2 ∷ []) (pos 4 ∷ pos 5 ∷ pos 7 ∷ []) ≡ unlike_ranking.values
unfolding ranking_values unlike_ranking
ranking_order = refl

pub exclusion_order : exclusion_values (pos 1) (pos 1 ∷ pos 8 ∷ []) (pos 3 ∷ − 5 ∷ []) (pos 7 ∷ − 3 ∷ []) ≡ unlike_exclusion.values
unfolding exclusion_values unlike_exclusion
exclusion_order = refl

pub unlike_parts : LassoParts
unlike_parts =
    record {
      stem = row (pos 3 ∷ − 9 ∷ []) (− 1 ∷ pos 1 ∷ []) (pos 10) ∷ row (− 4 ∷ pos 12 ∷ []) (− 10 ∷ pos 10 ∷ []) (pos 15) ∷ [];
      s = pos 2 ∷ − 2 ∷ [];
      s0 = pos 5;
      k = pos 17;
      T = pos 4 ∷ pos 3 ∷ [];
      k2 = pos 10;
      H = pos 18 ∷ pos 16 ∷ pos 9 ∷ [];
      h0 = pos 13;
      Y = pos 14 ∷ pos 12 ∷ pos 6 ∷ pos 15 ∷ [];
      Z = pos 11 ∷ pos 8 ∷ pos 5 ∷ pos 19 ∷ [];
    }

pub lasso_order : lasso_values unlike_parts ≡ unlike_lasso.values
unfolding lasso_values rows_values row_values unlike_parts unlike_lasso
lasso_order = refl

-- ---- within the limits

-- bytes are below 256
ends_are_bytes : Bytes (0 ∷ 255 ∷ [])
ends_are_bytes zero = omega arith
ends_are_bytes (suc zero) = omega arith
ends_are_bytes (suc (suc place)) = omega arith

pub bytes_pinned : Bytes (0 ∷ 255 ∷ []) × (Bytes (256 ∷ []) → ⊥)
bytes_pinned = (ends_are_bytes, λ h. omega (arith, h 0))

pub counts_pinned : CountsIn 1 0 × CountsIn 16 64 × (CountsIn 0 0 → ⊥) × (CountsIn 17 0 → ⊥) × (CountsIn 1 65 → ⊥)
unfolding variables rows ◌to◌
counts_pinned = (search, search, λ h. h.n_in.least.le, λ h. h.n_in.most.le, λ h. h.m_in.most.le)

-- A, A' and b of a row over one variable
pub row_pinned :
    RowIn 2 (row (pos 30_000 ∷ − 30_000 ∷ []) (− 30_000 ∷ pos 30_000 ∷ []) (pos 2_000_000_000))
    × RowIn 2 (row (− 30_000 ∷ pos 30_000 ∷ []) (pos 30_000 ∷ − 30_000 ∷ []) (− 2_000_000_000))
    × (RowIn 1 (row (pos 30_001 ∷ []) (pos 0 ∷ []) (pos 0)) → ⊥)
    × (RowIn 1 (row [] (pos 0 ∷ []) (pos 0)) → ⊥)
    × (RowIn 1 (row (pos 0 ∷ []) (pos 0 ∷ []) (pos 2_000_000_001)) → ⊥)
unfolding entries right_sides either_way Each
row_pinned = (search, search, λ h. h.now_in.each.0.most.le, λ h. omega (arith, h.now_in.counted), λ h. h.right_in.most.le)

pub ranking_pinned :
    RankingIn 2 (pos 0 ∷ pos 60_000 ∷ []) (pos 60_000 ∷ pos 0 ∷ []) × (RankingIn 1 (− 1 ∷ []) (pos 0 ∷ []) → ⊥) × (RankingIn 1 (pos 0 ∷ []) (pos 60_001 ∷ []) → ⊥)
unfolding multipliers ◌to◌ Each
ranking_pinned = (search, λ h. h.Y-in.each.0.least.le, λ h. h.Z-in.each.0.most.le)

pub exclusion_pinned :
    ExclusionIn 2 (pos 60_000) (pos 60_000 ∷ − 60_000 ∷ []) (− 60_000 ∷ pos 60_000 ∷ []) (pos 60_000 ∷ − 60_000 ∷ [])
    × ExclusionIn 1 (pos 1) (pos 0 ∷ []) (pos 0 ∷ []) (pos 0 ∷ [])
    × (ExclusionIn 1 (pos 0) (pos 0 ∷ []) (pos 0 ∷ []) (pos 0 ∷ []) → ⊥)
    × (ExclusionIn 1 (pos 1) (pos 0 ∷ []) (pos 0 ∷ []) (pos 60_001 ∷ []) → ⊥)
unfolding scales directions ◌to◌ either_way Each
exclusion_pinned = (search, search, λ h. h.q_in.least.le, λ h. h.W-in.each.0.most.le)

-- a lasso over one variable for one row, with one stem row: every entry e, every right side b, both scales k, every multiplier y
abbrev alike : ℤ → ℤ → ℤ → ℤ → LassoParts
alike e b k y =
    record { stem = row (e ∷ []) (e ∷ []) b ∷ []; s = e ∷ []; s0 = b; k = k; T = y ∷ []; k2 = k; H = y ∷ []; h0 = y; Y = y ∷ y ∷ []; Z = y ∷ y ∷ [] }

pub lasso_pinned :
    LassoIn 1 1 (alike (pos 30_000) (pos 2_000_000_000) (pos 60_000) (pos 60_000))
    × LassoIn 1 1 (alike (− 30_000) (− 2_000_000_000) (pos 1) (pos 0))
    × (LassoIn 1 1 (alike (pos 0) (pos 0) (pos 0) (pos 0)) → ⊥)
    × (LassoIn 1 1 (alike (pos 0) (pos 0) (pos 1) (pos 60_001)) → ⊥)
    × (LassoIn 1 1 (alike (pos 0) (− 2_000_000_001) (pos 1) (pos 0)) → ⊥)
unfolding rows entries right_sides scales multipliers ◌to◌ either_way Each
lasso_pinned = (search, search, λ h. h.k_in.least.le, λ h. h.h0_in.most.le, λ h. h.s0_in.least.le)
