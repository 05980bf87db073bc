-- What is told, as code hands it on: what a call gives where it is done, or the refusal.
use Rattle.std.specs.Prelude.{Result, Ok, Err}
use Rattle.refusal.specs.Tests.{Told, done, refused}
use Rattle.refusal.specs.declared.Fault.{Fault}

unfoldable pub result_of : {A : Type 0} → Told → A → Result A Fault
result_of done given = Ok given
result_of (refused number place) given = Err (record { number = number; place = place })
