-- `record_paths_check::rows_told` meets its contract.
use Rattle.std.proofs.Common.{◌≡◌, ◌+◌, ◌*◌, ◌≤◌, ◌∙◌, sym, arith, rules, Err}
use Rattle.std.proofs.lemmas.Result.{err_from_is_err_and}
use Rattle.record.proofs.Lengths.{widths_rows}
use Rattle.refusal.proofs.FaultLaws.{refuses, handed_on, went_on}
use Rattle.record_paths.specs.PathLoops.{rows_in}
use Rattle.record_paths_check.specs.PathChecks.{m_fits}
use Rattle.record_paths_check.proofs.PathWalks.{walk_refused}
use Rattle.record_paths_check.proofs.PathWays.{small_n, few_paths, no_ms, bad_m, rows_small, bad_length, values_told}
use Rattle.record_paths_check.proofs.rows_told.Goals as goal

pub overflow_mul-start : goal.overflow_mul-start
overflow_mul-start c = omega (arith, few_paths _ _ _ c.requires)

pub overflow_add-start : goal.overflow_add-start
overflow_add-start c = omega (arith, few_paths _ _ _ c.requires)

pub returns-then-end-start : goal.returns-then-end-start
returns-then-end-start c = c.refused.ensures ∙ refuses tt (no_ms c.args.bytes.now c.args.n c.args.paths c.requires c.if-end-start.true)

pub rows_walked-requires : goal.rows_walked-requires
rows_walked-requires c = (few_paths _ _ _ c.requires, c.if-end-start.false)

pub returns-in_err-rows : goal.returns-in_err-rows
returns-in_err-rows c =
    let a = c.args in
    let e : c.from_residual.result ≡ Err c.in_err-rows.field-0.0 = search rules in
    let told = walk_refused 5 10 a.paths (m_fits a.bytes.now) (rows_in a.bytes.now) c.in_err-rows.field-0.0 (sym c.in_err-rows.was ∙ c.rows_walked.ensures) in
    e ∙ refuses tt (bad_m a.bytes.now a.n a.paths c.requires c.if-end-start.false told)

-- the formula stays small
small : (c : goal.In_ok-rows) → c.in_ok-rows.rows * (4 * c.args.n + 4) ≤ 512 * 68
small c = rows_small c.args.bytes.now c.args.n c.args.paths c.requires c.in_ok-rows.rows (sym c.in_ok-rows.was ∙ c.rows_walked.ensures)

pub overflow_mul-n : goal.overflow_mul-n
overflow_mul-n c = omega (arith, small_n _ _ _ c.requires)

pub overflow_add-n : goal.overflow_add-n
overflow_add-n c = omega (arith, small_n _ _ _ c.requires)

pub overflow_mul-rows : goal.overflow_mul-rows
overflow_mul-rows c = omega (arith, small c)

pub overflow_add-start-2 : goal.overflow_add-start-2
overflow_add-start-2 c = omega (arith, small c, few_paths _ _ _ c.requires)

pub returns-then-end-start-2 : goal.returns-then-end-start-2
returns-then-end-start-2 c =
    let a = c.args in
    c.refused-then-end-start-2.ensures
    ∙ refuses tt
    (bad_length a.bytes.now a.n a.paths c.requires c.in_ok-rows.rows (sym c.in_ok-rows.was ∙ c.rows_walked.ensures) c.if-end-start.false c.if-end-start-2.true)

pub rows_fault-requires : goal.rows_fault-requires
rows_fault-requires c = (omega (arith, widths_rows c.args.n c.in_ok-rows.rows), search rules)

pub returns-in_err-rows_fault : goal.returns-in_err-rows_fault
returns-in_err-rows_fault c =
    let a = c.args in
    let p = err_from_is_err_and c.from_residual-in_err-rows_fault.result c.from_residual-in_err-rows_fault.ensures.1 in
    let told = values_told a.bytes.now a.n a.paths c.requires c.in_ok-rows.rows (sym c.in_ok-rows.was ∙ c.rows_walked.ensures) c.if-end-start.false c.if-end-start-2.false in
    rw (p.1, p.2, told) (handed_on _ _ _ _ c.in_err-rows_fault.ensures)

pub returns : goal.returns
returns c =
    let a = c.args in
    let told = values_told a.bytes.now a.n a.paths c.requires c.in_ok-rows.rows (sym c.in_ok-rows.was ∙ c.rows_walked.ensures) c.if-end-start.false c.if-end-start-2.false in
    rw told (went_on _ _ _ _ c.in_ok-rows_fault.ensures)
