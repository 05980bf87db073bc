-- The kind number decides which fields the list has.
use Rattle.std.proofs.Common.{[], ◌∷◌, ◌∙◌, arith}
use Rattle.std.proofs.lemmas.Result.{err_from_is_err_and}
use lib.ListN.{length-replicate}
use Rattle.record.specs.Layouts.{row_count}
use Rattle.record_list_faults.proofs.ListedFields.{listed_loop, listed_ranking, listed_exclusion, listed_lasso, listed_other}
use Rattle.record_list_faults.proofs.listed_fault.Goals as goal

pub rows_fault-requires : goal.rows_fault-requires
rows_fault-requires g c = rw (listed_loop c.args.kind c.args.counts c.in-1.is) at c.requires

pub overflow_mul-counts : goal.overflow_mul-counts
overflow_mul-counts g c =
    omega (arith, rw (listed_ranking c.args.kind c.args.counts c.in-2.is, length-replicate) at (g.met.S.Numbers.parts.few _ _ c.requires))

pub run_fault-requires : goal.run_fault-requires
run_fault-requires g c = rw (listed_ranking c.args.kind c.args.counts c.in-2.is) at c.requires

pub exclusion_fault-requires : goal.exclusion_fault-requires
exclusion_fault-requires g c = rw (listed_exclusion c.args.kind c.args.counts c.in-3.is) at c.requires

pub field_fault-requires : goal.field_fault-requires
field_fault-requires g c =
    g.met.S.Numbers.parts.front _ (row_count ∷ []) _ (rw (listed_lasso c.args.kind c.args.counts c.in-4.is) at c.requires)

pub returns-in_err-field_fault-in-4 : goal.returns-in_err-field_fault-in-4
returns-in_err-field_fault-in-4 g c =
    let p = err_from_is_err_and c.from_residual.result c.from_residual.ensures.1 in
    rw (p.1, p.2, listed_lasso c.args.kind c.args.counts c.in-4.is)
    (g.met.S.Numbers.parts.out c.args.source (row_count ∷ []) _ _ c.in_err-field_fault-in-4.ensures)

pub lasso_fault-requires : goal.lasso_fault-requires
lasso_fault-requires g c =
    g.met.S.Numbers.parts.rest c.args.source _ (row_count ∷ []) _ c.in_ok-field_fault-in-4.ensures
    (rw (listed_lasso c.args.kind c.args.counts c.in-4.is) at c.requires)

pub returns-in-1 : goal.returns-in-1
returns-in-1 g c = rw (listed_loop c.args.kind c.args.counts c.in-1.is) c.rows_fault.ensures

pub returns-in-2 : goal.returns-in-2
returns-in-2 g c = rw (listed_ranking c.args.kind c.args.counts c.in-2.is) c.run_fault.ensures

pub returns-in-3 : goal.returns-in-3
returns-in-3 g c = rw (listed_exclusion c.args.kind c.args.counts c.in-3.is) c.exclusion_fault.ensures

pub returns-in_ok-field_fault-in-4 : goal.returns-in_ok-field_fault-in-4
returns-in_ok-field_fault-in-4 g c =
    rw (listed_lasso c.args.kind c.args.counts c.in-4.is)
    (c.lasso_fault.ensures ∙ g.met.S.Numbers.parts.on c.args.source _ (row_count ∷ []) _ c.in_ok-field_fault-in-4.ensures)

pub returns-in_default : goal.returns-in_default
returns-in_default g c =
    rw (listed_other c.args.kind c.args.counts (λ h. omega arith) (λ h. omega arith) (λ h. omega arith) (λ h. omega arith))
    (g.met.S.Numbers.parts.none c.args.source)
