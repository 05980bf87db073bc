-- The test of equality, as `lt_z` and `le_z` of the kit are the tests of order.
use Rattle.std.specs.Prelude.{Bool, false, eqb, ℤ, pos, negsuc}

abbrev pub same_z : ℤ → ℤ → Bool
same_z (pos a) (pos b) = eqb a b
same_z (pos a) (negsuc b) = false
same_z (negsuc a) (pos b) = false
same_z (negsuc a) (negsuc b) = eqb a b
