-- The bytes and the range of δ, in numbers.
use mathlib.Core.Path.{◌≡◌, refl}
use lib.IntN.{pos}
use Rattle.record.specs.Fields.{width}
use Rattle.record.specs.Ranges.{◌to◌}
use Rattle.record_paths.specs.PathFields.{falls, fall}

pub fall_wide : width fall.form ≡ 4
unfolding width fall
fall_wide = refl

pub fall_range : fall.range ≡ record { least = pos 1; most = pos 1000000 }
unfolding fall falls ◌to◌
fall_range = refl
