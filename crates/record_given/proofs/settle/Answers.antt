-- `record_given::settle` meets its contract: the counts, how many values there are, and the values.
use Rattle.std.proofs.Common.{◌≡◌, ◌∙◌, sym, arith, rules, [], Err}
use Rattle.record.specs.Writers.{kind, writer}
use Rattle.record_given.proofs.SettlingWays.{pass_on, small, long_most, wrong_count, bad_value, all_settled}
use Rattle.record_given.proofs.settle.Goals as goal

pub returns-in_err-counts : goal.returns-in_err-counts
returns-in_err-counts c =
    let a = c.args in
    let e : c.from_residual.result ≡ Err c.in_err-counts.field-0.0 = search rules in
    e ∙ pass_on (writer a.kind a.n a.m a.values.now []) c.in_err-counts.field-0.0 (sym c.in_err-counts.was ∙ c.counts.ensures)

pub value_count-count-requires : goal.value_count-count-requires
unfolding writer
value_count-count-requires c =
    let a = c.args in
    small (writer a.kind a.n a.m a.values.now []) c.in_ok-counts.counts (sym c.in_ok-counts.was ∙ c.counts.ensures)

pub returns-then-values-count : goal.returns-then-values-count
unfolding writer kind
returns-then-values-count c =
    let a = c.args in
    let count = c.value_count-count in
    c.refused.ensures
    ∙ rw count.ensures (wrong_count (writer a.kind a.n a.m a.values.now []) c.in_ok-counts.counts (sym c.in_ok-counts.was ∙ c.counts.ensures) (λ h. c.if-values-count.true (h ∙ sym count.ensures)))

pub values_fault-requires-clause-ms_bound : goal.values_fault-requires-clause-ms_bound
unfolding writer kind
values_fault-requires-clause-ms_bound c =
    let a = c.args in
    omega (arith, long_most (writer a.kind a.n a.m a.values.now []) c.in_ok-counts.counts (sym c.in_ok-counts.was ∙ c.counts.ensures))

pub returns-in_err-values_fault : goal.returns-in_err-values_fault
unfolding writer kind
returns-in_err-values_fault c =
    let a = c.args in
    let e : c.from_residual-in_err-values_fault.result ≡ Err c.in_err-values_fault.field-0.0 = search rules in
    e
    ∙ bad_value (writer a.kind a.n a.m a.values.now []) c.in_ok-counts.counts (sym c.in_ok-counts.was ∙ c.counts.ensures) (c.if-values-count.false ∙ c.value_count-count.ensures)
    c.in_err-values_fault.field-0.0 (sym c.in_err-values_fault.was ∙ c.values_fault.ensures)

pub returns : goal.returns
unfolding writer kind
returns c =
    let a = c.args in
    all_settled (writer a.kind a.n a.m a.values.now []) c.in_ok-counts.counts (sym c.in_ok-counts.was ∙ c.counts.ensures) (c.if-values-count.false ∙ c.value_count-count.ensures)
    (sym c.in_ok-values_fault.was ∙ c.values_fault.ensures)
