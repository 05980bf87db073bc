-- `judge_bound::meets_invariant` meets its contract: s·x and s0 lie in the bytes.
use Rattle.std.proofs.Common.{◌≡◌, ◌+ℤ◌, ◌∙◌, arith, rules}
use mir.Syntax.{w64}
use mir.Val.{SFits}
use mir.Facts.{to_z-of_z}
use Rattle.whole.specs.Sums.{dot}
use Rattle.whole.proofs.Size.{abs_add, fits_abs}
use Rattle.judge_sums.specs.Lists.{entries_from}
use Rattle.judge_along.proofs.AlongLists.{state_dot}
use Rattle.judge_lasso.specs.LassoHeld.{lasso_held, s_place}
use Rattle.judge_bound.specs.BoundShown.{invariant_held}
use Rattle.judge_bound.proofs.meets_invariant.Goals as goal

pub returns : goal.returns
unfolding invariant_held lasso_held
returns c =
    let a = c.args.certificate in
    let state = c.args.state.entries.now in
    let reached = c.entries_at-reached in
    let both : SFits w64 (reached.result.sum +ℤ c.s0.result) =
    fits_abs {z = reached.result.sum +ℤ c.s0.result} (omega (arith, abs_add reached.result.sum c.s0.result, reached.ensures.small, c.s0.ensures.1, a.lies.n_few, c.requires))
    in
    let sum_is : reached.result.sum ≡ dot (entries_from a.bytes.now (s_place a.n a.ms) a.n) state =
    reached.ensures.is ∙ state_dot a.bytes.now c.s_place.result state ∙ rw (c.requires, c.s_place.ensures.0)
    in
    let first : SFits w64 reached.result.sum = search rules in
    let second : SFits w64 c.s0.result = search rules in
    rw (to_z-of_z first, to_z-of_z second, to_z-of_z both, sum_is, c.s0.ensures.0)
