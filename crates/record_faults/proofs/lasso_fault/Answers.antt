-- Part after part: the stem's rows, s and s0, k and T, and the rest.
use Rattle.std.proofs.Common.{◌+◌, ◌*◌, ◌++◌, ◌∙◌, arith}
use Rattle.std.proofs.lemmas.Result.{err_from_is_err_and}
use Rattle.record.specs.Layouts.{rows_of}
use lib.ListN.{length-append}
use Rattle.record_fields.specs.Runs.{linear, weights}
use Rattle.record_fields.proofs.BodyParts.{length_weights}
use Rattle.record_faults.proofs.lasso_fault.Goals as goal

pub returns-in_err-start : goal.returns-in_err-start
returns-in_err-start g c =
    let t = g.met.S.Numbers.parts in
    let a = c.args in
    let last = weights (3 * a.m + 3) in
    let p = err_from_is_err_and c.from_residual-in_err-start.result c.from_residual-in_err-start.ensures.1 in
    rw (p.1, p.2)
    (t.out _ (linear a.n) (weights a.ms ++ last) _ c.in_err-start.ensures
    ∙ t.on a.source _ (rows_of a.n a.ms) (linear a.n ++ (weights a.ms ++ last)) c.in_ok-invariant.ensures)

pub weights_fault-requires : goal.weights_fault-requires
weights_fault-requires g c =
    let t = g.met.S.Numbers.parts in
    let a = c.args in
    let last = weights (3 * a.m + 3) in
    t.front _ (weights a.ms) last
    (t.rest _ _ (linear a.n) (weights a.ms ++ last) c.in_ok-start.ensures
    (t.rest a.source _ (rows_of a.n a.ms) (linear a.n ++ (weights a.ms ++ last)) c.in_ok-invariant.ensures c.requires))

pub returns-in_err-kept : goal.returns-in_err-kept
returns-in_err-kept g c =
    let t = g.met.S.Numbers.parts in
    let a = c.args in
    let last = weights (3 * a.m + 3) in
    let p = err_from_is_err_and c.from_residual-in_err-kept.result c.from_residual-in_err-kept.ensures.1 in
    rw (p.1, p.2)
    (t.out _ (weights a.ms) last _ c.in_err-kept.ensures
    ∙ t.on _ _ (linear a.n) (weights a.ms ++ last) c.in_ok-start.ensures
    ∙ t.on a.source _ (rows_of a.n a.ms) (linear a.n ++ (weights a.ms ++ last)) c.in_ok-invariant.ensures)

pub overflow_mul-m : goal.overflow_mul-m
overflow_mul-m g c = omega (arith, simp (length-append, length_weights) at (g.met.S.Numbers.parts.few _ _ c.requires))

pub overflow_add-m : goal.overflow_add-m
overflow_add-m g c = omega (arith, simp (length-append, length_weights) at (g.met.S.Numbers.parts.few _ _ c.requires))

pub weights_fault-requires-2 : goal.weights_fault-requires-2
weights_fault-requires-2 g c =
    let t = g.met.S.Numbers.parts in
    let a = c.args in
    let last = weights (3 * a.m + 3) in
    t.rest _ _ (weights a.ms) last c.in_ok-kept.ensures
    (t.rest _ _ (linear a.n) (weights a.ms ++ last) c.in_ok-start.ensures
    (t.rest a.source _ (rows_of a.n a.ms) (linear a.n ++ (weights a.ms ++ last)) c.in_ok-invariant.ensures c.requires))

pub returns : goal.returns
returns g c =
    let t = g.met.S.Numbers.parts in
    let a = c.args in
    let last = weights (3 * a.m + 3) in
    c.weights_fault-2.ensures
    ∙ t.on _ _ (weights a.ms) last c.in_ok-kept.ensures
    ∙ t.on _ _ (linear a.n) (weights a.ms ++ last) c.in_ok-start.ensures
    ∙ t.on a.source _ (rows_of a.n a.ms) (linear a.n ++ (weights a.ms ++ last)) c.in_ok-invariant.ensures
