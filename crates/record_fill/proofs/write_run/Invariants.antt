use Rattle.std.proofs.Common.{◌≡◌, drop}
use Rattle.std.proofs.lemmas.List.Edits.{sets}
use Rattle.record_fields.specs.Runs.{stores}
use Rattle.record_fill.proofs.write_run.Given as goal

-- the values so far are written
abbrev pub invariant-loop-i : goal.invariant-loop-i
invariant-loop-i g l = l.body ≡ sets l.initial.body l.place (stores g.N.Number.form l.i (drop l.index l.values))
