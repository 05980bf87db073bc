-- What a running sum needs before it takes one more term.
use Rattle.std.specs.Prelude.{ℤ, ◌+ℤ◌, ◌*ℤ◌}
use Rattle.std.specs.Int.{w64}
use Rattle.std.proofs.Common.{SFits}

-- multiplier times entry, and the sum with it, are numbers of 64 bits
pub record Ready (sum multiplier entry : ℤ) : Type 0 where
  pub product : SFits w64 (multiplier *ℤ entry)
  pub total : SFits w64 (sum +ℤ multiplier *ℤ entry)
