-- How large the numbers of judging and bound can get, out of the ranges of 01 and 02, Q-5: each name with the arithmetic beside it. The
-- sums fit 64 bits with a sign, that is 2^63 = 9,223,372,036,854,775,808; the largest, what a rank has above its start, is a fifth of it.
-- `sums_fit` and its kin in proofs/ show that no sum is larger, `magnitudes_counted` that these are the numbers.
use Rattle.std.specs.Prelude.{ℕ, ◌+◌, ◌*◌}
use Rattle.record.specs.Ranges.{entry_most, right_side_most, multiplier_most, direction_most, state_most}

-- 64 rows and an added one; 16 variables
abbrev pub rows_most : ℕ
rows_most = 65

abbrev pub variables_most : ℕ
variables_most = 16

-- a column of weighted rows, so an entry of a rank: 65 · 60,000 · 30,000 = 117,000,000,000
abbrev pub column_most : ℕ
column_most = rows_most * (multiplier_most * entry_most)

-- weighted right sides, so start and fall: 65 · 60,000 · 2,000,000,000 = 7,800,000,000,000,000
abbrev pub right_sum_most : ℕ
right_sum_most = rows_most * (multiplier_most * right_side_most)

-- a scale times a right side, k s0 or q·b: 60,000 · 2,000,000,000 = 120,000,000,000,000
abbrev pub scaled_right_most : ℕ
scaled_right_most = multiplier_most * right_side_most

-- along a row under U, V or W: 16 · 30,000 · 60,000 = 28,800,000,000
abbrev pub along_most : ℕ
along_most = variables_most * (entry_most * direction_most)

-- s·x + s0 at a state: 16 · 30,000 · 1,000,000 + 2,000,000,000 = 482,000,000,000
abbrev pub invariant_most : ℕ
invariant_most = variables_most * (entry_most * state_most) + right_side_most

-- a rank at a state: 16 · 117,000,000,000 · 1,000,000 = 1,872,000,000,000,000,000
abbrev pub value_most : ℕ
value_most = variables_most * (column_most * state_most)

-- and above its start: 1,872,000,000,000,000,000 + 7,800,000,000,000,000 = 1,879,800,000,000,000,000
abbrev pub above_most : ℕ
above_most = value_most + right_sum_most
