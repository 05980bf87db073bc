-- `record_given::loop_counts` meets its contract: n, and then m.
use Rattle.std.proofs.Common.{sym, ◌∙◌}
use Rattle.record_given.proofs.CountingWays.{loop_n, loop_m, loop_counted}
use Rattle.record_given.proofs.loop_counts.Goals as goal

pub returns-then-not-variables_fit : goal.returns-then-not-variables_fit
returns-then-not-variables_fit c zs =
    c.refused.ensures ∙ loop_n c.args.n c.args.m zs (sym c.variables_fit.ensures ∙ c.if-not-variables_fit.true)

pub returns-then-not-rows_fit : goal.returns-then-not-rows_fit
returns-then-not-rows_fit c zs =
    let n_fits = sym c.variables_fit.ensures ∙ c.if-not-variables_fit.false in
    c.refused-then-not-rows_fit.ensures ∙ loop_m c.args.n c.args.m zs n_fits (sym c.rows_fit.ensures ∙ c.if-not-rows_fit.true)

pub returns : goal.returns
returns c zs =
    let n_fits = sym c.variables_fit.ensures ∙ c.if-not-variables_fit.false in
    loop_counted c.args.n c.args.m zs n_fits (sym c.rows_fit.ensures ∙ c.if-not-rows_fit.false)
