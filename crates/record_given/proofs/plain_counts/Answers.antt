-- `record_given::plain_counts` meets its contract.
use Rattle.std.proofs.Common.{◌≡◌, sym, ap, ◌∙◌, Ok}
use Rattle.record.specs.declared.Counts.{Counts}
use Rattle.record_given.proofs.CountingWays.{plain_counted, certificate_arguments}
use Rattle.record_given.proofs.plain_counts.Goals as goal

pub returns-then-arguments_fit : goal.returns-then-arguments_fit
returns-then-arguments_fit c w n_is m_is written no_loop no_lasso =
    let a = c.args in
    let counts_are : ◌≡◌ {A = Counts} (record { n = a.n; m = a.m; ms = 0 }) (record { n = w.n; m = w.m; ms = 0 }) = rw (n_is, m_is) in
    ap Ok counts_are ∙ plain_counted w written (rw (n_is, m_is) (sym c.arguments_fit.ensures ∙ c.if-arguments_fit.true)) no_lasso

pub returns-else-arguments_fit : goal.returns-else-arguments_fit
returns-else-arguments_fit c w n_is m_is written no_loop no_lasso =
    c.refused.ensures ∙ certificate_arguments w written no_loop (rw (n_is, m_is) (sym c.arguments_fit.ensures ∙ c.if-arguments_fit.false))
