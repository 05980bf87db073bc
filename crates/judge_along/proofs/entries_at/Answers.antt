-- `judge_along::entries_at` meets its contract.
use Rattle.std.proofs.Common.{pos, get_or, refl, arith}
use Rattle.judge_sums.specs.Places.{entry_at}
use Rattle.judge_sums.proofs.RunningLaws.{sum_none, sum_more, may_add, added}
use Rattle.judge_along.specs.AlongRows.{state_term, most_state}
use Rattle.judge_along.proofs.entries_at.Goals as goal

pub loop-j-init : goal.loop-j-init
loop-j-init c = sum_none most_state (state_term c.args.bytes.now c.args.place c.args.state.entries.now) c.new-total.ensures

pub plus-total-requires : goal.plus-total-requires
plus-total-requires c =
    may_add c.i16_at.result (get_or c.args.state.entries.now c.loop-j.j (pos 0)) 32768 1048576 c.i16_at.ensures.1 (c.args.state.small c.loop-j.j) (omega arith)
    c.loop-j.total.sum (omega (arith, c.loop-j.invariant.small))

pub loop-j-preserved : goal.loop-j-preserved
unfolding entry_at state_term
loop-j-preserved c =
    let a = c.args in
    sum_more most_state (state_term a.bytes.now a.place a.state.entries.now) c.loop-j.j c.loop-j.invariant
    (added c.i16_at.result (get_or a.state.entries.now c.loop-j.j (pos 0)) 32768 1048576 c.i16_at.ensures.1 (c.args.state.small c.loop-j.j) (omega arith) c.i16_at.ensures.0
    refl c.plus-total.ensures)
