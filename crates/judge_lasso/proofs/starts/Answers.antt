-- `judge_lasso::starts` meets its contract: the parts stand where `lasso_held` has them.
use Rattle.std.proofs.Common.{ap, ◌∙◌}
use Rattle.refusal.specs.Faults.{result_of}
use Rattle.theory.specs.Conditions.{weighed_told}
use Rattle.judge_weighed.specs.WeightedHeld.{weighted_held}
use Rattle.judge_lasso.proofs.LassoLaws.{start_as}
use Rattle.judge_lasso.proofs.starts.Goals as goal

pub returns : goal.returns
returns c =
    let a = c.args.certificate in
    let here = c.k_place-k_at.ensures in
    c.weighed.ensures
    ∙ ap (λ w. result_of (weighed_told 41 42 43 a.n w) tt)
    (ap (weighted_held a.bytes.now 8 a.n a.ms a.bytes.now) (rw here at c.carrying-held.ensures) ∙ start_as a c.u16_at-k.result (rw here at c.u16_at-k.ensures.0))
