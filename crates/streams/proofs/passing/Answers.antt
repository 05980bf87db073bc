-- `passing` answers as `passes`, error by error.
use Rattle.std.proofs.Common.{sym, ap, ⊎_elim}
use Rattle.streams.specs.SystemAnswers.{passes}
use Rattle.streams.proofs.AnswerLaws.{passes-not}
use Rattle.streams.proofs.passing.Goals as goal

pub returns-in-Interrupted : goal.returns-in-Interrupted
unfolding passes
returns-in-Interrupted c = ⊎_elim (λ is. sym (ap passes is)) (λ is. sym (ap passes is)) c.in-Interrupted.is

pub returns-in_default : goal.returns-in_default
returns-in_default c = passes-not c.args.error c.in_default.not-WouldBlock c.in_default.not-Interrupted
