-- What a check answers: the tests `sound` of 01's order for a record, and what the record says of itself. No list is lent, so a check's
-- reader has no room.
use Rattle.std.specs.Prelude.{ℕ, ◌≡◌, true, ◌&&◌, List, pos, Result}
use Rattle.endian.specs.Numbers.{little_at}
use Rattle.refusal.specs.declared.Fault.{Fault}
use Rattle.refusal.specs.Faults.{result_of}
use Rattle.refusal.specs.Tests.{first}
use Rattle.record.specs.declared.Wanted.{Wanted}
use Rattle.record.specs.Layouts.{Kind}
use Rattle.record.specs.Ranges.{variables, rows, within}
use Rattle.record.specs.Readers.{Reader, kind_number, counts_read, sound}
use Rattle.record.specs.Wants.{wants_of}
pub use Rattle.record_check.specs.Framing.{Framed}
use Rattle.record_check.specs.declared.Checked.{Checked}

-- what a record says of itself
unfoldable pub said : Reader → Checked
said r = record { kind = kind_number r; n = (counts_read r).n; m = (counts_read r).m; ms = (counts_read r).ms }

unfoldable pub checks : Reader → Result Checked Fault
checks r = result_of (first sound r) (said r)

-- what comes to a check of a certificate: the kinds that are wanted, its bytes, and n and m of its loop
unfoldable pub certificate_check : Wanted → List ℕ → ℕ → ℕ → Reader
certificate_check wanted bytes n m = record { bytes = bytes; wants = wants_of wanted; n = n; m = m; room = 0 }

-- ---- in parts

-- a certificate's record of a kind number that meets the tests up to its arguments
pub record Opened (bytes : List ℕ) (number n m : ℕ) : Type 0 where
  pub frame : Framed bytes
  pub numbered : little_at 2 bytes 4 ≡ number
  pub arguments : (within variables (pos n) && within rows (pos m)) ≡ true

-- what a check answers of a certificate of a kind, whatever else is wanted
abbrev pub Answers : Kind → List ℕ → ℕ → ℕ → Result Checked Fault → Type 0
Answers k bytes n m v = (wanted : Wanted) → wants_of wanted k ≡ true → v ≡ checks (certificate_check wanted bytes n m)
