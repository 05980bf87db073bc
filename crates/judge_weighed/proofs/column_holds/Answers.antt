-- `judge_weighed::column_holds` meets its contract: the totals of the column are the sums of the theory.
use Rattle.std.proofs.Common.{◌≤◌, sym, ◌∙◌, arith}
use mir.Facts.{to_z-of_z}
use borrow.Author.Rules.{sfits_of}
use Rattle.whole.proofs.Size.{fits_abs}
use Rattle.judge_sums.specs.Places.{entry_at}
use Rattle.judge_conditions.proofs.Totals.{grown_fits, now_grows, next_grows, now_is, next_is, entry_is}
use Rattle.judge_weighed.specs.WeightedHeld.{weighted_held, weighted_of}
use Rattle.judge_weighed.proofs.WeighedLaws.{holds_so}
use Rattle.judge_weighed.proofs.column_holds.Goals as goal

pub returns : goal.returns
unfolding weighted_held entry_at
returns c =
    let a = c.args in
    let rows = a.rows in
    let column = c.column_of-column in
    let entry = c.i16_at-entry in
    let w = weighted_of rows a.certificate.now a.held in
    let there = entry.ensures.0 ∙ sym (entry_is a.certificate.now a.held.v rows.n a.j c.requires.0) in
    let entry_fits = to_z-of_z (fits_abs {z = entry.result} (omega (arith, entry.ensures.1))) in
    let now_fits = to_z-of_z (fits_abs {z = a.held.now} (omega (arith, c.requires.6))) in
    let next_fits = to_z-of_z (fits_abs {z = a.held.next} (omega (arith, c.requires.7))) in
    let few : rows.count ≤ 65 = omega (arith, c.requires.1) in
    let now = column.result.now.sum in
    let next = column.result.next.sum in
    record {
      now_is =
          holds_so w now _ a.held.now entry.result c.times.result a.j
          (grown_fits (now_grows a.certificate.now a.held.weights rows.bytes.now rows.start rows.n a.j rows.count now next few column.ensures))
          (sfits_of c.times.type_inv)
          (now_is a.certificate.now a.held.weights rows.bytes.now rows.start rows.n a.j rows.count now next few column.ensures c.requires.0)
          (rw (now_fits, entry_fits) at c.times.ensures.0) there;
      next_is =
          holds_so w next _ a.held.next entry.result c.times-2.result a.j
          (grown_fits (next_grows a.certificate.now a.held.weights rows.bytes.now rows.start rows.n a.j rows.count now next few column.ensures))
          (sfits_of c.times-2.type_inv)
          (next_is a.certificate.now a.held.weights rows.bytes.now rows.start rows.n a.j rows.count now next few column.ensures c.requires.0)
          (rw (next_fits, entry_fits) at c.times-2.ensures.0) there;
    }
