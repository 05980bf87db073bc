use Rattle.std.proofs.Common.{◌≡◌}
use Rattle.record_fields.specs.Runs.{all_fit}
use Rattle.record_faults.proofs.in_bytes.run_fits.Given as goal

-- whether the fields so far fit
abbrev pub invariant-loop-i : goal.invariant-loop-i
invariant-loop-i g l = l.all ≡ all_fit g.F.BodyField.field l.bytes l.place l.i
