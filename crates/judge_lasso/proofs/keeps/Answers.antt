-- `judge_lasso::keeps` meets its contract: the parts stand where `lasso_held` has them.
use Rattle.std.proofs.Common.{ap, ◌∙◌}
use Rattle.refusal.specs.Faults.{result_of}
use Rattle.theory.specs.Conditions.{weighed_told}
use Rattle.judge_weighed.specs.WeightedHeld.{weighted_of}
use Rattle.judge_lasso.proofs.LassoLaws.{kept_as}
use Rattle.judge_lasso.proofs.keeps.Goals as goal

pub returns : goal.returns
returns c =
    let a = c.args.certificate in
    let here = c.k2_place-k2_at.ensures in
    c.weighed.ensures
    ∙ ap (λ w. result_of (weighed_told 44 45 46 c.args.rows.n w) tt)
    (ap (weighted_of c.args.rows a.bytes.now) (rw here at c.carrying-held.ensures)
    ∙ kept_as a c.args.rows c.u16_at-h0.result c.u16_at-k2.result c.requires.0 c.requires.1 (rw here at c.u16_at-h0.ensures.0) (rw here at c.u16_at-k2.ensures.0))
