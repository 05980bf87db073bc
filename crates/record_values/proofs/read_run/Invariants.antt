use Rattle.std.proofs.Common.{◌≡◌, drop}
use Rattle.std.proofs.lemmas.List.Edits.{sets}
use Rattle.record_fields.specs.Runs.{numbers}
use Rattle.record_values.proofs.read_run.Given as goal

-- the numbers so far are read
abbrev pub invariant-loop-i : goal.invariant-loop-i
invariant-loop-i g l = l.values ≡ sets l.initial.values l.index (numbers g.N.Number.form l.i (drop l.place l.bytes))
