-- A signed number as 64 bits is what the library's conversion makes of it.
use mathlib.Core.Path.{◌≡◌, refl}
use native.Mathlib.Omega.{arith}
use lib.IntN.{ℤ, pos, negsuc}
use mir.Syntax.{w64}
use mir.Val.{of_z}
use Rattle.judge_rows.specs.VerdictRows.{word}

pub word_is : (z : ℤ) → of_z w64 z ≡ word z
unfolding word
word_is (pos n) = refl
word_is (negsuc n) = omega arith
