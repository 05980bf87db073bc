-- What the judge's functions are told of a loop record: that it is sound, with its counts; and where its rows start.
use Rattle.std.specs.Prelude.{ℕ, ◌≡◌, List}
use Rattle.record.specs.Readers.{counts_read, sound}
use Rattle.refusal.specs.Tests.{done, first}
use Rattle.verdict.specs.Pairs.{loop_record}

-- a sound loop record over n variables with m rows
pub record LoopSound (bytes : List ℕ) (n m : ℕ) : Type 0 where
  pub told : first sound (loop_record bytes) ≡ done
  pub n_is : n ≡ (counts_read (loop_record bytes)).n
  pub m_is : m ≡ (counts_read (loop_record bytes)).m

-- where the first row of a loop record starts
abbrev pub first_row : ℕ
first_row = 10
