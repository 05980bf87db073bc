-- The linear part, and then the weights.
use Rattle.std.proofs.Common.{◌+◌, ◌*◌, ◌∙◌, arith}
use Rattle.std.proofs.lemmas.Result.{err_from_is_err_and}
use lib.ListN.{length-append}
use Rattle.record_fields.specs.Runs.{linear, weights}
use Rattle.record_fields.proofs.BodyParts.{length_weights}
use Rattle.record_settling.proofs.SettlingValues.{settling_is}
use Rattle.record_settling.proofs.settling_fault.Goals as goal

pub linear_fault-requires : goal.linear_fault-requires
linear_fault-requires g c =
    let a = c.args in
    g.met.S.Numbers.parts.front a.source (linear a.n) (weights (3 * a.m + 2)) (rw settling_is at c.requires)

pub returns-in_err-linear_fault : goal.returns-in_err-linear_fault
returns-in_err-linear_fault g c =
    let a = c.args in
    let p = err_from_is_err_and c.from_residual.result c.from_residual.ensures.1 in
    rw (p.1, p.2, settling_is) (g.met.S.Numbers.parts.out a.source (linear a.n) (weights (3 * a.m + 2)) _ c.in_err-linear_fault.ensures)

pub overflow_mul-m : goal.overflow_mul-m
overflow_mul-m g c = omega (arith, rw (settling_is, length-append, length_weights) at (g.met.S.Numbers.parts.few _ _ c.requires))

pub overflow_add-m : goal.overflow_add-m
overflow_add-m g c = omega (arith, rw (settling_is, length-append, length_weights) at (g.met.S.Numbers.parts.few _ _ c.requires))

pub weights_fault-requires : goal.weights_fault-requires
weights_fault-requires g c =
    let a = c.args in
    g.met.S.Numbers.parts.rest a.source _ (linear a.n) (weights (3 * a.m + 2)) c.in_ok-linear_fault.ensures (rw settling_is at c.requires)

pub returns : goal.returns
returns g c =
    let a = c.args in
    rw settling_is (c.weights_fault.ensures ∙ g.met.S.Numbers.parts.on a.source _ (linear a.n) (weights (3 * a.m + 2)) c.in_ok-linear_fault.ensures)
