-- `judge_paths::Path::stays` meets its contract.
use Rattle.std.proofs.Common.{ap, ◌∙◌}
use Rattle.theory_paths.specs.PathConditions.{weighs}
use Rattle.judge_paths.proofs.path.Path.stays.Goals as goal

pub returns : goal.returns
returns c = c.weighs.ensures ∙ ap (weighs c.args.self.rows.n) c.staying.ensures.0
