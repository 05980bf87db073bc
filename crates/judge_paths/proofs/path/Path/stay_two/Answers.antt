-- `judge_paths::Path::stay_two` meets its contract.
use Rattle.std.proofs.Common.{◌&&◌, ap, ◌∙◌}
use mathlib.Core.Path.{ap₂}
use Rattle.theory_paths.specs.PathConditions.{weighs}
use Rattle.judge_paths.proofs.path.Path.stay_two.Goals as goal

pub returns : goal.returns
returns c =
    let n = c.args.self.rows.n in
    let weighed = c.weigh_two-this.ensures in
    ap₂ (λ x y. x && y) (weighed.0 ∙ ap (weighs n) c.staying.ensures.0) (weighed.1 ∙ ap (weighs n) c.staying-2.ensures.0)
