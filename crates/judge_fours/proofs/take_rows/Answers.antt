-- `judge_fours::take_rows` meets its contract: a row without weight adds nothing, four rows and one add theirs.
use Rattle.std.proofs.Common.{◌+◌, ◌*◌, ◌≤◌, refl, arith}
use Rattle.judge_sums.proofs.ColumnLaws.{row_inside}
use Rattle.judge_sums.proofs.LiftLaws.{rest_none, rest_more}
use Rattle.judge_sums.proofs.TotalsLaws.{totals_more, totals_weightless}
use Rattle.judge_fours.proofs.FourLaws.{known_fits, known_four}
use Rattle.judge_fours.proofs.take_rows.Goals as goal

pub returns-then-under_y-under_z-eq0 : goal.returns-then-under_y-under_z-eq0
returns-then-under_y-under_z-eq0 c =
    let a = c.args in
    let read_y = c.at-under_y in
    let read_z = c.at-under_z in (
      omega arith,
      omega (arith, c.requires.4),
      rest_none (2 * a.rows.n) a.ys.now,
      rest_none (2 * a.rows.n) a.zs.now,
      totals_weightless a.y.bytes.now a.y.place a.rows.bytes.now a.rows.start a.rows.n a.i read_y.result _ a.ys.now c.requires.5 read_y.ensures.0 (omega arith) refl,
      totals_weightless a.z.bytes.now a.z.place a.rows.bytes.now a.rows.start a.rows.n a.i read_z.result _ a.zs.now c.requires.6 read_z.ensures.0 (omega arith) refl,
    )

pub take_four-requires : goal.take_four-requires
take_four-requires c =
    let a = c.args in
    let left : a.i + 4 ≤ a.rows.count = c.four_weigh.ensures c.if-four_weigh.true in
    let under_y = known_fits a.y.bytes.now a.y.place a.rows.bytes.now a.rows.start a.rows.n a.i a.rows.count c.requires.5 left a.rows.lie.few in
    let under_z = known_fits a.z.bytes.now a.z.place a.rows.bytes.now a.rows.start a.rows.n a.i a.rows.count c.requires.6 left a.rows.lie.few in
    let last = row_inside a.rows (a.i + 3) (omega (arith, left)) in (
      c.requires.0,
      c.requires.1,
      under_y.0,
      under_z.0,
      under_y.1,
      under_y.2,
      under_z.1,
      under_z.2,
      omega (arith, last, c.place_of-row.ensures.0),
      a.rows.lie.narrow,
    )

pub returns-then-four_weigh : goal.returns-then-four_weigh
returns-then-four_weigh c =
    let a = c.args in
    let more = c.take_four.ensures in (
      omega arith,
      omega (arith, c.four_weigh.ensures c.if-four_weigh.true),
      rest_more (rest_none (2 * a.rows.n) a.ys.now) more.0,
      rest_more (rest_none (2 * a.rows.n) a.zs.now) more.1,
      known_four a.y.bytes.now a.y.place a.rows.bytes.now a.rows.start a.rows.n a.i _ c.requires.5 c.four_at-four_y.ensures c.place_of-row.ensures.0 more.0 more.2,
      known_four a.z.bytes.now a.z.place a.rows.bytes.now a.rows.start a.rows.n a.i _ c.requires.6 c.four_at-four_z.ensures c.place_of-row.ensures.0 more.1 more.3,
    )

pub returns : goal.returns
returns c =
    let a = c.args in
    let read_y = c.at-under_y in
    let read_z = c.at-under_z in
    let more = c.take_row.ensures in (
      omega arith,
      omega (arith, c.requires.4),
      rest_more (rest_none (2 * a.rows.n) a.ys.now) more.0,
      rest_more (rest_none (2 * a.rows.n) a.zs.now) more.1,
      totals_more a.y.bytes.now a.y.place a.rows.bytes.now a.rows.start a.rows.n a.i read_y.result _ c.requires.5 read_y.ensures.0 read_y.ensures.1 c.place_of-row.ensures.0 more.0 more.2,
      totals_more a.z.bytes.now a.z.place a.rows.bytes.now a.rows.start a.rows.n a.i read_z.result _ c.requires.6 read_z.ensures.0 read_z.ensures.1 c.place_of-row.ensures.0 more.1 more.3,
    )
