-- `judge_conditions::remember` meets its contract: a place that holds changes nothing, and one that fails counts where none has before.
use Rattle.std.proofs.Common.{sym, ◌∙◌}
use Rattle.judge_conditions.proofs.RememberedLaws.{first_stays, first_comes}
use Rattle.judge_conditions.proofs.remember.Goals as goal

pub returns-then-holds : goal.returns-then-holds
returns-then-holds c =
    λ test so_far here. so_far ∙ first_stays c.args.i test (sym here ∙ c.if-holds.true)

pub returns-else-holds : goal.returns-else-holds
returns-else-holds c =
    λ test so_far here.
    let comes = first_comes c.args.i test (sym here ∙ c.if-holds.false) in
    c.or.ensures ∙ rw so_far comes
