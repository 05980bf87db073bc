-- One component more.
use Rattle.std.proofs.Common.{refl, ℕ}
use Rattle.std.proofs.lemmas.Result.{err_from_is_err_and}
use Rattle.record_fields.proofs.InParts.{Repeats, parts_start, parts_more, parts_out, part_there}
use Rattle.record_paths.specs.PathCertificates.{component_fields, components_fields}
use Rattle.record_paths_check.proofs.components_fault.Goals as goal

components_repeat : (n : ℕ) → Repeats (component_fields n) (components_fields n)
unfolding components_fields
components_repeat n = record { none = refl; more = λ k. refl }

pub loop-init : goal.loop-init
loop-init g c = parts_start (components_repeat c.args.n) g.met.S.Numbers.parts c.args.source

pub component_fault-requires : goal.component_fault-requires
component_fault-requires g c =
    part_there (components_repeat c.args.n) g.met.S.Numbers.parts c.args.source c.loop.counter c.loop.source c.loop.invariant c.args.count c.loop-test.true
    c.requires

pub returns-in_err-source : goal.returns-in_err-source
returns-in_err-source g c =
    let p = err_from_is_err_and c.from_residual.result c.from_residual.ensures.1 in
    rw (p.1, p.2)
    (parts_out (components_repeat c.args.n) g.met.S.Numbers.parts c.args.source c.loop.counter c.loop.source c.loop.invariant c.args.count c.loop-test.true _
    c.in_err-source.ensures)

pub loop-preserved : goal.loop-preserved
loop-preserved g c =
    parts_more (components_repeat c.args.n) g.met.S.Numbers.parts c.args.source c.loop.counter c.loop.source c.loop.invariant _ c.in_ok-source.ensures
