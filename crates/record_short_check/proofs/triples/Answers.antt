-- `record_short_check::triples` meets its contract.
use Rattle.std.proofs.Common.{◌≡◌, ◌∙◌, sym, arith, rules, Err}
use Rattle.record.specs.Fields.{width, widths}
use Rattle.record.specs.Layouts.{multiplier}
use Rattle.record_short_check.proofs.TripleWalks.{walk_start, walk_more, walk_stops, walk_ends}
use Rattle.record_short_check.proofs.triples.Goals as goal

pub loop-i-init : goal.loop-i-init
loop-i-init c = walk_start _ _ _

pub returns-in_err-triple : goal.returns-in_err-triple
returns-in_err-triple c =
    let a = c.args in
    let e : c.from_residual.result ≡ Err c.in_err-triple.field-0.0 = search rules in
    e
    ∙ walk_stops a.m a.bytes.now a.count c.loop-i.i c.loop-i.values c.loop-i.invariant c.loop-i-test.true c.in_err-triple.field-0.0
    (sym c.in_err-triple.was ∙ c.triple.ensures)

pub multipliers_fault-requires : goal.multipliers_fault-requires
unfolding widths width multiplier
multipliers_fault-requires c = (omega arith, search rules)

pub loop-i-preserved : goal.loop-i-preserved
loop-i-preserved c =
    let a = c.args in
    rw (c.and-values.ensures, c.and.ensures, c.multipliers_fault.ensures)
    (walk_more a.m a.bytes.now a.count c.loop-i.i c.loop-i.values c.loop-i.invariant _ c.requires.1 c.loop-i-test.true (sym c.in_ok-triple.was ∙ c.triple.ensures))

pub returns : goal.returns
returns c = let a = c.args in walk_ends a.m a.bytes.now a.count c.loop-i.i c.loop-i.values c.loop-i.invariant (omega arith)
