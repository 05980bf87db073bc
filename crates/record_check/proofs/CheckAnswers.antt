-- How a caller uses what a check of the record that a reader r gets answers: `accepted` and `refused_so` say what it means for 01's order,
-- `sound_record` gives what every test says of a sound record, and `loop_any_room` and `certificate_any_room` carry an answer over to a reader
-- that has a list.
use Rattle.std.specs.Prelude.{Ok, Err}
use mathlib.Core.Path.{◌≡◌, refl}
use Prim.Native.Nat.{ℕ}
use mathlib.Core.Bool.{true}
use mathlib.Core.List.{List, []}
use lib.IntN.{ℤ}
use lib.ListN.{length}
use Rattle.refusal.specs.declared.Fault.{Fault}
use Rattle.refusal.specs.Tests.{done, refused, first}
use Rattle.refusal.proofs.FaultLaws.{told_done, told_given, told_refused}
use Rattle.record.specs.Readers.{Reader, stated_length, kind_number, kind, counts_read, fields, list_start, count_list, list, arguments_fit, sound, loop_reader, certificate_reader}
use Rattle.record.proofs.SoundRecords.{Sound, sound_says}
use Rattle.record_check.specs.declared.Checked.{Checked}
use Rattle.record_check.specs.Checks.{said, checks, certificate_check}

module _ (r : Reader) where
  pub accepted : (v : Checked) → Ok v ≡ checks r → first sound r ≡ done
  unfolding checks
  accepted v is = told_done (first sound r) (said r) v is

  pub accepted_is : (v : Checked) → Ok v ≡ checks r → v ≡ said r
  unfolding checks
  accepted_is v is = told_given (first sound r) (said r) v is

  pub refused_so : (f : Fault) → Err f ≡ checks r → first sound r ≡ refused f.number f.place
  unfolding checks
  refused_so f is = told_refused (first sound r) (said r) f is

  pub sound_record : (v : Checked) → Ok v ≡ checks r → Sound r
  sound_record v is = sound_says r (accepted v is)

-- a check has no list, and its answer is the same for every list
other_room : Reader → ℕ → Reader
other_room r room = record { bytes = r.bytes; wants = r.wants; n = r.n; m = r.m; room = room }

any_room : (r : Reader) (room : ℕ) → checks r ≡ checks (other_room r room)
unfolding other_room checks said first sound stated_length kind_number kind counts_read fields list_start count_list list arguments_fit
any_room r room = refl

pub loop_any_room : (bytes : List ℕ) (lent : List ℤ) → checks (loop_reader bytes []) ≡ checks (loop_reader bytes lent)
unfolding other_room loop_reader
loop_any_room bytes lent = any_room (loop_reader bytes []) (length lent)

pub certificate_any_room : (bytes : List ℕ) (n m : ℕ) (lent : List ℤ)
    → checks (certificate_check (record { ranking = true; exclusion = true; lasso = true }) bytes n m) ≡ checks (certificate_reader bytes n m lent)
unfolding other_room certificate_check certificate_reader
certificate_any_room bytes n m lent = any_room (certificate_check (record { ranking = true; exclusion = true; lasso = true }) bytes n m) (length lent)
