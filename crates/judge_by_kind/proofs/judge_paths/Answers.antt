-- `judge_by_kind::judge_paths` meets its contract: the loop is checked, then the certificate judged for it.
use Rattle.std.proofs.Common.{◌∙◌, sym}
use Rattle.judge_by_kind.proofs.KindWays.{loop_refused, loop_sound}
use Rattle.judge_by_kind.proofs.judge_paths.Goals as goal

pub judge_paths_sound-requires : goal.judge_paths_sound-requires
judge_paths_sound-requires c = loop_sound c.args.loopbytes.now c.args.certificate.now (sym c.in-Ok.is ∙ c.check_paths.ensures)

pub returns-in-Err : goal.returns-in-Err
returns-in-Err c = c.refused.ensures ∙ loop_refused c.args.loopbytes.now c.args.certificate.now c.in-Err.fault (sym c.in-Err.is ∙ c.check_paths.ensures)
