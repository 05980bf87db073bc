-- `judge_paths::Path::list` meets its contract: the list lies within the certificate.
use Rattle.judge_paths.proofs.PathPlaces.{list_in}
use Rattle.judge_paths.proofs.path.Path.list.Goals as goal

pub invariant_of-result : goal.invariant_of-result
invariant_of-result c = record { lie = list_in c.args.self c.args.k c.requires }
