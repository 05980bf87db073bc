-- `judge_state::state_fault` meets its contract: each return is one of the tests' answers.
use Rattle.std.proofs.Common.{◌≡◌, ◌<◌, ◌∙◌, sym, true, false, pos, length, slice_index_or, arith, rules}
use mir.Syntax.{w64}
use mir.Val.{SFits}
use mir.Facts.{to_z-of_z}
use Rattle.record.specs.Ranges.{either_way, state_entries, within}
use Rattle.refusal.proofs.FaultLaws.{gives, refuses}
use Rattle.judge_state.proofs.StateLaws.{stops, goes_on, ends, miscounted, out_of_range, in_range}
use Rattle.judge_state.proofs.state_fault.Goals as goal

pub returns-then-state-n : goal.returns-then-state-n
returns-then-state-n c = c.refused.ensures ∙ refuses tt (miscounted (record { n = c.args.n; state = c.args.state.now }) c.if-state-n.true)

pub returns-then-not-between : goal.returns-then-not-between
unfolding state_entries either_way
returns-then-not-between c =
    let state = c.args.state.now in
    let i = c.loop-i.i in
    let here : i < length state = omega arith in
    let entry : SFits w64 (slice_index_or state i (pos 0)) = search rules in
    let out : within state_entries (slice_index_or state i (pos 0)) ≡ false = rw (to_z-of_z entry) at (sym c.between.ensures ∙ c.if-not-between.true) in
    let is = stops state i c.loop-i.invariant here out in
    c.refused-then-not-between.ensures
    ∙ rw is (refuses tt (out_of_range (record { n = c.args.n; state = state }) c.if-state-n.false (λ e. omega (arith, e, is, here))))

pub loop-i-preserved : goal.loop-i-preserved
unfolding state_entries either_way
loop-i-preserved c =
    let state = c.args.state.now in
    let i = c.loop-i.i in
    let here : i < length state = omega arith in
    let entry : SFits w64 (slice_index_or state i (pos 0)) = search rules in
    let inside : within state_entries (slice_index_or state i (pos 0)) ≡ true = rw (to_z-of_z entry) at (sym c.between.ensures ∙ c.if-not-between.false) in
    goes_on state i c.loop-i.invariant here inside

pub returns : goal.returns
returns c =
    let state = c.args.state.now in
    let all = ends state c.loop-i.i c.loop-i.invariant (λ h. omega (arith, h)) in
    gives tt (in_range (record { n = c.args.n; state = state }) c.if-state-n.false (omega (arith, sym all)))
