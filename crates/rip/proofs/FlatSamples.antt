-- Flattened answers beside their literal fields, no two of which are alike: a field that crosses in another's place, in definition and code alike, does not pass.
use mathlib.Core.Path.{◌≡◌, refl}
use lib.IntN.{pos}
use Rattle.verdict.specs.Outcomes.{numbers}
use Rattle.verdict.specs.declared.Outcome.TheVariants.{Lasso}
use Rattle.rip.specs.Flat.{flat_reading, flat_writing, flat_bounded, flat_batch}

pub readings_flat :
    flat_reading (record { number = 1; place = 2; kind = 3; n = 4; m = 5; count = 6 }) ≡ record { number = 1; place = 2; kind = 3; n = 4; m = 5; count = 6 }
readings_flat = refl

pub writings_flat : flat_writing (record { number = 1; place = 2; written = 3 }) ≡ record { number = 1; place = 2; written = 3 }
writings_flat = refl

pub bounds_flat :
    flat_bounded (record { verdict = record { number = 1; place = 2; about = 3; outcome = Lasso (pos 73) (pos 33) }; bound = 7 })
    ≡ record { number = 1; place = 2; «record» = 3; outcome = 4; start = pos 73; fall = pos 33; grade = 0; bound = 7 }
unfolding numbers
bounds_flat = refl

pub batches_flat : flat_batch (record { number = 1; place = 2; about = 3; count = 4 }) ≡ record { number = 1; place = 2; «record» = 3; count = 4 }
batches_flat = refl
