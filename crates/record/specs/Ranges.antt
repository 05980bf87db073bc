-- 01, "Numbers and their ranges": the table, a name for each line.
use Rattle.std.specs.Prelude.{ℕ, Bool, ◌&&◌, ℤ, pos, neg_ℤ}
use Rattle.std.specs.Int.Signed.{le_z}

pub record Range : Type 0 where
  pub least : ℤ
  pub most : ℤ

-- from `least` to `most`, both included
unfoldable pub ◌to◌ : ℕ → ℕ → Range
least to most = record { least = pos least; most = pos most }

infix 5 ◌to◌
-- from `-most` to `most`, both included
unfoldable pub either_way : ℕ → Range
either_way most = record { least = neg_ℤ (pos most); most = pos most }

-- variables n
unfoldable pub variables : Range
variables = 1 to 16

-- loop rows m, stem rows ms
unfoldable pub rows : Range
rows = 0 to 64

-- entries of A, A', B, B', s
abbrev pub entry_most : ℕ
entry_most = 30_000

unfoldable pub entries : Range
entries = either_way entry_most

-- b, d, s0 (02, Q-5)
abbrev pub right_side_most : ℕ
right_side_most = 2_000_000_000

unfoldable pub right_sides : Range
right_sides = either_way right_side_most

-- multipliers
abbrev pub multiplier_most : ℕ
multiplier_most = 60_000

unfoldable pub multipliers : Range
multipliers = 0 to multiplier_most

-- scales k, k2, denominator q
unfoldable pub scales : Range
scales = 1 to multiplier_most

-- entries of U, V, W
abbrev pub direction_most : ℕ
direction_most = 60_000

unfoldable pub directions : Range
directions = either_way direction_most

-- state entries
abbrev pub state_most : ℕ
state_most = 1_000_000

unfoldable pub state_entries : Range
state_entries = either_way state_most

-- z is in the range
unfoldable pub within : Range → ℤ → Bool
within range z = le_z range.least z && le_z z range.most
