-- `record_short_check::triple` meets its contract.
use Rattle.std.proofs.Common.{◌∙◌, sym}
use Rattle.refusal.proofs.FaultLaws.{gives, refuses}
use Rattle.refusal.proofs.TestLaws.{passed, failed, passes_done}
use Rattle.record_short_check.specs.ShortChecks.{triple_told}
use Rattle.record_short_check.proofs.triple.Goals as goal

pub returns-then-not-row_fits : goal.returns-then-not-row_fits
unfolding triple_told
returns-then-not-row_fits c = c.refused.ensures ∙ refuses tt (failed _ _ _ _ c.args.i (sym c.row_fits.ensures ∙ c.if-not-row_fits.true))

pub returns-then-not-weighs : goal.returns-then-not-weighs
unfolding triple_told
returns-then-not-weighs c =
    let rises = sym c.row_fits.ensures ∙ c.if-not-row_fits.false in
    let weightless = sym c.weighs.ensures ∙ c.if-not-weighs.true in
    c.refused-then-not-weighs.ensures ∙ refuses tt (passed _ _ _ _ c.args.i rises ∙ failed _ _ _ _ c.args.i weightless)

pub returns : goal.returns
unfolding triple_told
returns c =
    let rises = sym c.row_fits.ensures ∙ c.if-not-row_fits.false in
    let weighty = sym c.weighs.ensures ∙ c.if-not-weighs.false in
    gives tt (passes_done _ c.args.i (rises, (weighty, tt)))
