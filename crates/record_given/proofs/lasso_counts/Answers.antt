-- `record_given::lasso_counts` meets its contract: at each return the way through the tests is the code's.
use Rattle.std.proofs.Common.{◌≡◌, ◌≤◌, ◌<◌, refl, sym, ◌∙◌, true, [], pos, slice_index_or, length, arith, rules}
use Rattle.std.proofs.lemmas.Bool.Decides.{nat_tests}
use mir.Syntax.{w64}
use mir.Val.{SFits}
use mir.Facts.{to_z-of_z, Fits-of_lt}
use Rattle.record.specs.Layouts.{kind_of, is_loop, is_lasso}
use Rattle.record.specs.Ranges.{◌to◌, rows, within}
use Rattle.record.specs.Wants.{kinds_written}
use Rattle.record.specs.Writers.{kind, ms_given, writer}
use Rattle.record.proofs.CountLimits.{rows_cast}
use Rattle.record_given.proofs.CountingWays.{certificate_arguments, no_ms, bad_ms, lasso_counted}
use Rattle.record_given.proofs.lasso_counts.Goals as goal

pub returns-then-not-arguments_fit : goal.returns-then-not-arguments_fit
unfolding writer kind kind_of kinds_written is_loop
returns-then-not-arguments_fit c =
    let a = c.args in
    c.refused.ensures ∙ certificate_arguments (writer 4 a.n a.m a.values.now []) refl refl (sym c.arguments_fit.ensures ∙ c.if-not-arguments_fit.true)

pub returns-then-is_empty : goal.returns-then-is_empty
unfolding writer kind kind_of kinds_written is_lasso
returns-then-is_empty c =
    let a = c.args in
    let fit = sym c.arguments_fit.ensures ∙ c.if-not-arguments_fit.false in
    let none : length a.values.now < 1 = grind (arith, nat_tests) in
    c.refused-then-is_empty.ensures ∙ no_ms (writer 4 a.n a.m a.values.now []) refl fit refl none

pub returns-then-not-between : goal.returns-then-not-between
unfolding writer kind kind_of kinds_written is_lasso ms_given rows ◌to◌
returns-then-not-between c =
    let a = c.args in
    let fit = sym c.arguments_fit.ensures ∙ c.if-not-arguments_fit.false in
    let ms : SFits w64 (slice_index_or a.values.now 0 (pos 0)) = search rules in
    let some : 1 ≤ length a.values.now = grind (arith, nat_tests) in
    let out = rw (to_z-of_z ms) at (sym c.between.ensures ∙ c.if-not-between.true) in
    c.refused-then-not-between.ensures ∙ bad_ms (writer 4 a.n a.m a.values.now []) refl fit refl some out

pub overflow_cast-result : goal.overflow_cast-result
unfolding rows ◌to◌
overflow_cast-result c =
    let ms : SFits w64 (slice_index_or c.args.values.now 0 (pos 0)) = search rules in
    let small : within rows (slice_index_or c.args.values.now 0 (pos 0)) ≡ true = rw (to_z-of_z ms) at (sym c.between.ensures ∙ c.if-not-between.false) in
    let r = rows_cast _ small in
    rw (to_z-of_z ms) (r.0, Fits-of_lt (omega (arith, r.1)))

pub returns : goal.returns
unfolding writer kind kind_of kinds_written is_lasso ms_given rows ◌to◌
returns c =
    let a = c.args in
    let fit = sym c.arguments_fit.ensures ∙ c.if-not-arguments_fit.false in
    let ms : SFits w64 (slice_index_or a.values.now 0 (pos 0)) = search rules in
    let small : within rows (slice_index_or a.values.now 0 (pos 0)) ≡ true = rw (to_z-of_z ms) at (sym c.between.ensures ∙ c.if-not-between.false) in
    let some : 1 ≤ length a.values.now = grind (arith, nat_tests) in
    rw (to_z-of_z ms) (lasso_counted (writer 4 a.n a.m a.values.now []) refl fit refl some small)
