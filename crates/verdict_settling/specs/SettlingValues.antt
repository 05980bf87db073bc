-- 02, Q-8, once more from the values' side: what it is for a settling to be within the limits, part by part, and the bytes that hold it,
-- in the order of 02's words. The statements about all values in range are in these words.
use Rattle.std.specs.Prelude.{ℕ, suc, ◌+◌, ◌*◌, List, ◌++◌, ℤ, pos, length, replicate}
use Rattle.record.specs.Contents.{In, ListIn}
use Rattle.record.specs.Fields.{i32, stored, bytes_of}
use Rattle.record.specs.Layouts.{entry}
use Rattle.record.specs.Ranges.{entries, right_sides, scales, multipliers}
use Rattle.theory_settling.specs.Settlings.{Settling}
use Rattle.verdict_paths.specs.PathValues.{framed, count_bytes, list_bytes}

-- within the limits, for a loop of n variables and m rows: "g (as s), a threshold t (as s0), a scale k, m multipliers E, then Y and Z,
-- m + 1 each"
pub record SettlingIn (n m : ℕ) (c : Settling) : Type 0 where
  pub g_in : ListIn entries n c.g
  pub t_in : In right_sides c.t
  pub k_in : In scales (pos c.k)
  pub E-in : ListIn multipliers m c.E
  pub Y-in : ListIn multipliers (suc m) c.ranking.Y
  pub Z-in : ListIn multipliers (suc m) c.ranking.Z

-- the bytes of g
unfoldable pub g_bytes : List ℤ → List ℕ
g_bytes g = bytes_of (replicate (length g) entry) g

-- kind 8: g, t, k, E, Y, Z
unfoldable pub settling_bytes : Settling → List ℕ
settling_bytes c =
    framed (12 + 2 * length c.g + 6 * length c.E) 8
    (g_bytes c.g
    ++ (stored i32 c.t
    ++ (count_bytes c.k
    ++ (list_bytes c.E
    ++ (list_bytes c.ranking.Y
    ++ list_bytes c.ranking.Z)))))
