-- What the answer of a read or a write means. Only 0 is the end of an input, and no failure is: a call that was interrupted or that
-- would have had to wait is tried again, and every other failure is told.
use Rattle.std.specs.Prelude.{ℕ, zero, suc, ◌≤◌, ◌≡◌, ◌<◌, min, Bool, true, false, cond, ◌||◌, eqb, ℤ, pos, negsuc, List, length, take, ⊤, Result, Ok, Err}
use Rattle.std.specs.IoError.{error_kind}
use Rattle.std.specs.Io.KnownBytes.{Keeps, Appends, Consumes, IsAtEnd}
use Rattle.std.specs.declared.option.Option.{Option}
use Rattle.std.specs.declared.io.Error.{Error}
use Rattle.std.specs.declared.io.ErrorKind.{ErrorKind}
use Rattle.std.specs.declared.io.ErrorKind.TheVariants.{Interrupted, WouldBlock}
use Rattle.streams.specs.declared.Stopped.{Stopped}
use Rattle.streams.specs.declared.Step.{Step}
use Rattle.streams.specs.declared.Step.TheVariants.{Moved, Nothing, Again, Failed}

-- the first n of a list are there, and as many as told
abbrev pub IsPrefixLen : ℕ → List ℕ → Type 0
IsPrefixLen n xs = (n ≤ length xs) × (n ≡ length (take n xs))

-- the errors that pass
unfoldable pub passes : ErrorKind → Bool
passes Interrupted = true
passes WouldBlock = true
passes _ = false

-- they are those of two of the system's numbers (`passes_by_number` in proofs/AnswerLaws.antt): EINTR is 4, EAGAIN is 11
unfoldable pub passes_number : ℤ → Bool
passes_number (pos error) = eqb error 4 || eqb error 11
passes_number (negsuc error) = false

-- the answer of a call on a buffer of `most` bytes
unfoldable pub step_of : Result ℕ Error → ℕ → Step
step_of (Ok zero) most = Nothing
step_of (Ok (suc count)) most = Moved (min (suc count) most)
step_of (Err error) most = cond (passes (error_kind error)) Again (Failed error)

-- no more bytes were moved than there are
abbrev pub Within : ℕ → Step → Type 0
Within most (Moved count) = count ≤ most
Within most Nothing = ⊤
Within most Again = ⊤
Within most (Failed error) = ⊤

-- how many bytes were moved, up to the end or up to a failure
abbrev pub moved : Result ℕ Stopped → ℕ
moved (Ok size) = size
moved (Err stopped) = stopped.size

-- a read gave the bytes that it moved, and gave none only at the end or with no room
abbrev pub StepConsumes : Option (List ℕ) → Option (List ℕ) → Step → List ℕ → Type 0
StepConsumes old new (Moved count) buf = Consumes old new (take count buf)
StepConsumes old new Nothing buf = Keeps old new × (0 < length buf → IsAtEnd new)
StepConsumes old new Again buf = Keeps old new
StepConsumes old new (Failed error) buf = Keeps old new

-- a write took the bytes that it moved
abbrev pub StepAppends : Option (List ℕ) → Option (List ℕ) → Step → List ℕ → Type 0
StepAppends old new (Moved count) buf = Appends old new (take count buf)
StepAppends old new Nothing buf = Keeps old new
StepAppends old new Again buf = Keeps old new
StepAppends old new (Failed error) buf = Keeps old new
