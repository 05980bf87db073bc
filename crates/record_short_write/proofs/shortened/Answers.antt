-- `record_short_write::shortened` meets its contract.
use Rattle.std.proofs.Common.{◌≡◌, ◌∙◌, sym, arith, rules, Err, ◌≤◌}
use Rattle.record_short.specs.Conversions.{triples_needed}
use Rattle.record_short.proofs.ShortBytes.{rows_few}
use Rattle.record_short_write.proofs.ConversionWays.{unsound_long, found_lists, short_refused, short_written}
use Rattle.record_short_write.proofs.shortened.Goals as goal

pub returns-in_err-check_ranking-clause-value : goal.returns-in_err-check_ranking-clause-value
returns-in_err-check_ranking-clause-value c =
    let a = c.args in
    let e : c.from_residual.result ≡ Err c.in_err-check_ranking.field-0.0 = search rules in
    e ∙ (unsound_long a.bytes.now a.n a.m a.room.now c.in_err-check_ranking.field-0.0 (sym c.in_err-check_ranking.was ∙ c.check_ranking.ensures)).0

pub returns-in_err-check_ranking-clause-left : goal.returns-in_err-check_ranking-clause-left
returns-in_err-check_ranking-clause-left c =
    let a = c.args in
    (unsound_long a.bytes.now a.n a.m a.room.now c.in_err-check_ranking.field-0.0 (sym c.in_err-check_ranking.was ∙ c.check_ranking.ensures)).1

pub invariant_of-found : goal.invariant_of-found
invariant_of-found c =
    let a = c.args in
    record { lists = found_lists a.bytes.now a.n a.m a.room.now c.in_ok-check_ranking.field-0 (sym c.in_ok-check_ranking.was ∙ c.check_ranking.ensures) }

-- at most 64 rows have weight
few : (c : goal.After-rows_counted-count) → c.rows_counted-count.result ≤ 64
unfolding triples_needed
few c =
    let a = c.args in
    let lists = found_lists a.bytes.now a.n a.m a.room.now c.in_ok-check_ranking.field-0 (sym c.in_ok-check_ranking.was ∙ c.check_ranking.ensures) in
    omega (arith, c.rows_counted-count.ensures, lists.few_rows, rows_few a.m a.bytes.now a.m)

pub overflow_mul-long : goal.overflow_mul-long
overflow_mul-long c = omega (arith, few c)

pub overflow_add-long : goal.overflow_add-long
overflow_add-long c = omega (arith, few c)

pub returns-then-room-long-clause-value : goal.returns-then-room-long-clause-value
returns-then-room-long-clause-value c =
    let a = c.args in
    c.refused.ensures
    ∙ (short_refused a.bytes.now a.n a.m a.room.now c.in_ok-check_ranking.field-0 (sym c.in_ok-check_ranking.was ∙ c.check_ranking.ensures)
    c.rows_counted-count.result c.rows_counted-count.ensures c.if-room-long.true).0

pub returns-then-room-long-clause-left : goal.returns-then-room-long-clause-left
returns-then-room-long-clause-left c =
    let a = c.args in
    (short_refused a.bytes.now a.n a.m a.room.now c.in_ok-check_ranking.field-0 (sym c.in_ok-check_ranking.was ∙ c.check_ranking.ensures)
    c.rows_counted-count.result c.rows_counted-count.ensures c.if-room-long.true).1

pub returns-clause-value : goal.returns-clause-value
returns-clause-value c =
    let a = c.args in
    (short_written a.bytes.now a.n a.m a.room.now c.in_ok-check_ranking.field-0 (sym c.in_ok-check_ranking.was ∙ c.check_ranking.ensures)
    c.rows_counted-count.result c.rows_counted-count.ensures c.if-room-long.false _ c.shorten_into.ensures).0

pub returns-clause-left : goal.returns-clause-left
returns-clause-left c =
    let a = c.args in
    (short_written a.bytes.now a.n a.m a.room.now c.in_ok-check_ranking.field-0 (sym c.in_ok-check_ranking.was ∙ c.check_ranking.ensures)
    c.rows_counted-count.result c.rows_counted-count.ensures c.if-room-long.false _ c.shorten_into.ensures).1
