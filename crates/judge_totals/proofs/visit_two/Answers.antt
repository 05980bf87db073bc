-- `judge_totals::visit_two` meets its contract: where one list gives the row no weight its totals stay.
use Rattle.std.proofs.Common.{◌+◌, ◌*◌}
use Rattle.judge_sums.proofs.ColumnLaws.{sided_nothing}
use Rattle.judge_sums.proofs.LiftLaws.{row_weightless}
use Rattle.judge_totals.proofs.visit_two.Goals as goal

pub returns-then-y-eq0 : goal.returns-then-y-eq0
returns-then-y-eq0 c =
    let a = c.args in
    let none = c.if-y-eq0.true in (
      row_weightless a.y a.rows.now a.row a.ys.now (2 * a.n) none,
      c.visit.ensures.0,
      sided_nothing a.y a.rows.now (a.row + 4 * a.n) a.beside.y.lift a.beside.y.right none,
      c.visit.ensures.1,
    )

pub returns-then-z-eq0 : goal.returns-then-z-eq0
returns-then-z-eq0 c =
    let a = c.args in
    let none = c.if-z-eq0.true in (
      c.visit-then-z-eq0.ensures.0,
      row_weightless a.z a.rows.now a.row a.zs.now (2 * a.n) none,
      c.visit-then-z-eq0.ensures.1,
      sided_nothing a.z a.rows.now (a.row + 4 * a.n) a.beside.z.lift a.beside.z.right none,
    )
