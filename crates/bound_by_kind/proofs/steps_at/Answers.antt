-- `bound_by_kind::steps_at` meets its contract: g·x and t lie in the bytes.
use Rattle.std.proofs.Common.{◌∙◌, rules}
use mir.Syntax.{w64}
use mir.Val.{SFits}
use mir.Facts.{to_z-of_z}
use Rattle.record_settling.specs.SettlingRecords.{g_place}
use Rattle.judge_along.proofs.AlongLists.{state_dot}
use Rattle.judge_sums.specs.Places.{right_at}
use Rattle.bound_by_kind.specs.SettlingBounded.{steps_held}
use Rattle.bound_by_kind.proofs.steps_at.Goals as goal

pub returns : goal.returns
unfolding steps_held right_at
returns c =
    let reached = c.entries_at-reached in
    let value_is = reached.ensures.is ∙ state_dot c.args.certificate.now g_place c.args.state.entries.now in
    let value : SFits w64 reached.result.sum = search rules in
    let t : SFits w64 c.i32_at.result = search rules in
    rw (to_z-of_z value, to_z-of_z t) at c.below.ensures ∙ rw (value_is, c.i32_at.ensures.0)
