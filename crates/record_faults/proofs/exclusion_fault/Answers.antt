-- The scale, and then the directions.
use Rattle.std.proofs.Common.{[], ◌∷◌, ◌*◌, replicate, ◌∙◌, arith}
use lib.ListN.{length-replicate}
use Rattle.std.proofs.lemmas.Result.{err_from_is_err_and}
use Rattle.record.specs.Layouts.{scale, direction}
use Rattle.record_faults.proofs.exclusion_fault.Goals as goal

pub field_fault-requires : goal.field_fault-requires
field_fault-requires g c = g.met.S.Numbers.parts.front c.args.source (scale ∷ []) (replicate (3 * c.args.n) direction) c.requires

pub returns-in_err-field_fault : goal.returns-in_err-field_fault
returns-in_err-field_fault g c =
    let p = err_from_is_err_and c.from_residual.result c.from_residual.ensures.1 in
    rw (p.1, p.2) (g.met.S.Numbers.parts.out c.args.source (scale ∷ []) (replicate (3 * c.args.n) direction) _ c.in_err-field_fault.ensures)

pub overflow_mul-n : goal.overflow_mul-n
overflow_mul-n g c = omega (arith, rw length-replicate at (g.met.S.Numbers.parts.few _ _ c.requires))

pub run_fault-requires : goal.run_fault-requires
run_fault-requires g c =
    g.met.S.Numbers.parts.rest c.args.source _ (scale ∷ []) (replicate (3 * c.args.n) direction) c.in_ok-field_fault.ensures c.requires

pub returns : goal.returns
returns g c =
    c.run_fault.ensures ∙ g.met.S.Numbers.parts.on c.args.source _ (scale ∷ []) (replicate (3 * c.args.n) direction) c.in_ok-field_fault.ensures
