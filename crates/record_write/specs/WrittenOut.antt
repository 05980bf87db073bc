-- When a record can be written out, and what is told of it.
use Rattle.std.specs.Prelude.{ℕ, ◌+◌, ◌≤◌, ◌<◌, ◌≡◌, true, List, ℤ, length, Result}
use Rattle.refusal.specs.declared.Fault.{Fault}
use Rattle.refusal.specs.Faults.{result_of}
use Rattle.refusal.specs.Tests.{first}
use Rattle.record.specs.declared.Counts.{Counts}
use Rattle.record.specs.Layouts.{kind_of, is_known, length_of}
use Rattle.record.specs.Writers.{Writer, length_stated, writing}
use Rattle.record_fill.specs.Bodies.{Fitting}

-- a record that can be written out: its values fit, and there is room for it
pub record ToWrite (kind : ℕ) (c : Counts) (long : ℕ) (zs : List ℤ) (room : List ℕ) : Type 0 where
  pub fitting : Fitting kind c zs
  pub known : is_known (kind_of kind) ≡ true
  pub kind_fits : kind < 65536
  pub long_is : long ≡ length_of (kind_of kind) c
  pub long_fits : (2 ≤ long) × (long < 65536)
  pub room_for : 4 + long ≤ length room

-- how many bytes are written, where nothing is refused
unfoldable pub bytes_told : Writer → Result ℕ Fault
bytes_told w = result_of (first writing w) (4 + length_stated w)
