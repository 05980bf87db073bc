-- What a writing answers: the bytes written, or a refusal and none.
use Rattle.std.specs.Prelude.{ℕ, Result, Ok, Err}
use Rattle.refusal.specs.declared.Fault.{Fault}
use Rattle.record.specs.declared.Writing.{Writing}

abbrev pub written_of : Result ℕ Fault → Writing
written_of (Ok written) = record { number = 0; place = 0; written = written }
written_of (Err fault) = record { number = fault.number; place = fault.place; written = 0 }
