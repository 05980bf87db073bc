-- r, then δ0, then δ.
use Rattle.std.proofs.Common.{[], ◌∷◌, replicate, ◌∙◌}
use Rattle.std.proofs.lemmas.Result.{err_from_is_err_and}
use Rattle.record.specs.Layouts.{right_side, direction}
use Rattle.record_paths.specs.PathCertificates.{component_fields}
use Rattle.record_paths.specs.PathFields.{fall}
use Rattle.record_paths_check.proofs.component_fault.Goals as goal

pub run_fault-requires : goal.run_fault-requires
unfolding component_fields
run_fault-requires g c = g.met.S.Numbers.parts.front c.args.source (replicate c.args.n direction) (right_side ∷ fall ∷ []) c.requires

pub returns-in_err-run_fault : goal.returns-in_err-run_fault
unfolding component_fields
returns-in_err-run_fault g c =
    let p = err_from_is_err_and c.from_residual.result c.from_residual.ensures.1 in
    rw (p.1, p.2) (g.met.S.Numbers.parts.out c.args.source (replicate c.args.n direction) (right_side ∷ fall ∷ []) _ c.in_err-run_fault.ensures)

pub field_fault-requires : goal.field_fault-requires
unfolding component_fields
field_fault-requires g c =
    let t = g.met.S.Numbers.parts in
    t.front _ (right_side ∷ []) (fall ∷ []) (t.rest c.args.source _ (replicate c.args.n direction) (right_side ∷ fall ∷ []) c.in_ok-run_fault.ensures c.requires)

pub returns-in_err-field_fault : goal.returns-in_err-field_fault
unfolding component_fields
returns-in_err-field_fault g c =
    let t = g.met.S.Numbers.parts in
    let p = err_from_is_err_and c.from_residual-in_err-field_fault.result c.from_residual-in_err-field_fault.ensures.1 in
    rw (p.1, p.2)
    (t.out _ (right_side ∷ []) (fall ∷ []) _ c.in_err-field_fault.ensures
    ∙ t.on c.args.source _ (replicate c.args.n direction) (right_side ∷ fall ∷ []) c.in_ok-run_fault.ensures)

pub field_fault-requires-2 : goal.field_fault-requires-2
unfolding component_fields
field_fault-requires-2 g c =
    let t = g.met.S.Numbers.parts in
    t.rest _ _ (right_side ∷ []) (fall ∷ []) c.in_ok-field_fault.ensures
    (t.rest c.args.source _ (replicate c.args.n direction) (right_side ∷ fall ∷ []) c.in_ok-run_fault.ensures c.requires)

pub returns : goal.returns
unfolding component_fields
returns g c =
    let t = g.met.S.Numbers.parts in
    c.field_fault-2.ensures
    ∙ t.on _ _ (right_side ∷ []) (fall ∷ []) c.in_ok-field_fault.ensures
    ∙ t.on c.args.source _ (replicate c.args.n direction) (right_side ∷ fall ∷ []) c.in_ok-run_fault.ensures
