-- The scale, and then the multipliers.
use Rattle.std.proofs.Common.{[], ◌∷◌, replicate, ◌∙◌}
use Rattle.std.proofs.lemmas.Result.{err_from_is_err_and}
use Rattle.record.specs.Layouts.{scale, multiplier}
use Rattle.record_fields.specs.Runs.{weights}
use Rattle.record_faults.proofs.weights_fault.Goals as goal

pub field_fault-requires : goal.field_fault-requires
unfolding weights
field_fault-requires g c = g.met.S.Numbers.parts.front c.args.source (scale ∷ []) (replicate c.args.count multiplier) c.requires

pub returns-in_err-field_fault : goal.returns-in_err-field_fault
unfolding weights
returns-in_err-field_fault g c =
    let p = err_from_is_err_and c.from_residual.result c.from_residual.ensures.1 in
    rw (p.1, p.2) (g.met.S.Numbers.parts.out c.args.source (scale ∷ []) (replicate c.args.count multiplier) _ c.in_err-field_fault.ensures)

pub multipliers_fault-requires : goal.multipliers_fault-requires
unfolding weights
multipliers_fault-requires g c =
    g.met.S.Numbers.parts.rest c.args.source _ (scale ∷ []) (replicate c.args.count multiplier) c.in_ok-field_fault.ensures c.requires

pub returns : goal.returns
unfolding weights
returns g c =
    c.multipliers_fault.ensures ∙ g.met.S.Numbers.parts.on c.args.source _ (scale ∷ []) (replicate c.args.count multiplier) c.in_ok-field_fault.ensures
