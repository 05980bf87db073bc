-- `record_paths_check::rows_walked` meets its contract.
use Rattle.std.proofs.Common.{◌≡◌, ◌∙◌, sym, false, true, arith}
use native.Mathlib.Nat.{mul-le-mul_right}
use Rattle.record.proofs.CountLimits.{rows_most}
use Rattle.record_paths.specs.PathLoops.{rows_in}
use Rattle.record_paths_check.specs.PathChecks.{m_fits}
use Rattle.record_paths_check.proofs.PathWalks.{walk_start, walk_more, walk_small, walk_stops, walk_ends}
use Rattle.record_paths_check.proofs.rows_walked.Goals as goal

pub loop-j-init : goal.loop-j-init
loop-j-init c = walk_start _ _ _

pub returns-then-not-rows_fit : goal.returns-then-not-rows_fit
unfolding rows_in
returns-then-not-rows_fit c =
    let a = c.args in
    let out : m_fits a.bytes.now c.loop-j.j ≡ false = rw (← c.u16_at-m.ensures.0) (sym c.rows_fit.ensures ∙ c.if-not-rows_fit.true) in
    c.refused.ensures ∙ walk_stops a.paths (m_fits a.bytes.now) (rows_in a.bytes.now) c.loop-j.j c.loop-j.sum c.loop-j.invariant 5 10 c.loop-j-test.true out

pub overflow_add-sum : goal.overflow_add-sum
overflow_add-sum c =
    let a = c.args in
    let small = walk_small a.paths (m_fits a.bytes.now) (rows_in a.bytes.now) c.loop-j.j c.loop-j.sum c.loop-j.invariant 64
    (λ i below fit. rows_most (rows_in a.bytes.now i) fit) in
    omega (arith, small, mul-le-mul_right 64 c.loop-j.invariant.inside, c.requires.0, c.u16_at-m.ensures.1)

pub loop-j-preserved : goal.loop-j-preserved
unfolding rows_in
loop-j-preserved c =
    let a = c.args in
    let fit : m_fits a.bytes.now c.loop-j.j ≡ true = rw (← c.u16_at-m.ensures.0) (sym c.rows_fit.ensures ∙ c.if-not-rows_fit.false) in
    rw c.u16_at-m.ensures.0
    (walk_more a.paths (m_fits a.bytes.now) (rows_in a.bytes.now) c.loop-j.j c.loop-j.sum c.loop-j.invariant c.loop-j-test.true fit)

pub returns : goal.returns
returns c =
    let a = c.args in
    walk_ends a.paths (m_fits a.bytes.now) (rows_in a.bytes.now) c.loop-j.j c.loop-j.sum c.loop-j.invariant 5 10 (omega arith)
