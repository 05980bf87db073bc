-- The bytes and the range of each field, in numbers.
use mathlib.Core.Path.{◌≡◌, refl}
use lib.IntN.{pos, neg_ℤ}
use Rattle.record.specs.Fields.{width}
use Rattle.record.specs.Layouts.{row_count, entry, right_side, multiplier, scale, direction}
use Rattle.record.specs.Ranges.{◌to◌, either_way, rows, entries, right_sides, multipliers, scales, directions}

pub row_count_wide : width row_count.form ≡ 2
unfolding width row_count
row_count_wide = refl

pub row_count_range : row_count.range ≡ record { least = pos 0; most = pos 64 }
unfolding row_count rows ◌to◌
row_count_range = refl

pub entry_wide : width entry.form ≡ 2
unfolding width entry
entry_wide = refl

pub entry_range : entry.range ≡ record { least = neg_ℤ (pos 30000); most = pos 30000 }
unfolding entry entries either_way
entry_range = refl

pub right_side_wide : width right_side.form ≡ 4
unfolding width right_side
right_side_wide = refl

pub right_side_range : right_side.range ≡ record { least = neg_ℤ (pos 2000000000); most = pos 2000000000 }
unfolding right_side right_sides either_way
right_side_range = refl

pub multiplier_wide : width multiplier.form ≡ 2
unfolding width multiplier
multiplier_wide = refl

pub multiplier_range : multiplier.range ≡ record { least = pos 0; most = pos 60000 }
unfolding multiplier multipliers ◌to◌
multiplier_range = refl

pub scale_wide : width scale.form ≡ 2
unfolding width scale
scale_wide = refl

pub scale_range : scale.range ≡ record { least = pos 1; most = pos 60000 }
unfolding scale scales ◌to◌
scale_range = refl

pub direction_wide : width direction.form ≡ 4
unfolding width direction
direction_wide = refl

pub direction_range : direction.range ≡ record { least = neg_ℤ (pos 60000); most = pos 60000 }
unfolding direction directions either_way
direction_range = refl
