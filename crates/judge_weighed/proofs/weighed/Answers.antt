-- `judge_weighed::weighed` meets its contract: the walk ends at the first column that fails over A, or has remembered the first that fails over A'.
use Rattle.std.proofs.Common.{◌≡◌, ℕ, ◌+◌, ◌≤◌, true, false, List, ℤ, sym, ◌∙◌, arith, rules}
use borrow.Author.Tests.{not-true}
use lib.Signed.{le_z, lt_z}
use mir.Syntax.{w64}
use mir.Val.{SFits, to_z, of_z}
use mir.Facts.{to_z-of_z}
use Rattle.refusal.proofs.FaultLaws.{gives, refuses}
use Rattle.theory.specs.Loops.{b}
use Rattle.theory.specs.WeightedRows.{Weighted, sum_of}
use Rattle.judge_sums.specs.Places.{right_term, most_right}
use Rattle.judge_sums.specs.Running.{SumOf}
use Rattle.judge_sums.specs.declared.rows.Rows.{Rows}
use Rattle.whole.proofs.Compare.{true_lt, lt_false, false_lt, le_true}
use Rattle.judge_conditions.proofs.RememberedLaws.{none_failing}
use Rattle.judge_conditions.proofs.Totals.{can_grow, grown_fits, right_is}
use Rattle.judge_weighed.specs.declared.Held.{Held}
use Rattle.judge_weighed.specs.WeightedHeld.{weighted_held, weighted_of, next_at}
use Rattle.judge_weighed.proofs.WeighedLaws.{now_told, next_told, right_told, none_told}
use Rattle.judge_weighed.proofs.weighed.Goals as goal

pub loop-j-init : goal.loop-j-init
loop-j-init c =
    let a = c.args in
    record {
      held_over = λ i below. absurd (omega arith);
      remembered = none_failing 0 (next_at (weighted_of a.rows a.certificate.now a.held)) (λ i below. absurd (omega arith));
    }

pub returns-then-not-holds : goal.returns-then-not-holds
returns-then-not-holds c =
    let a = c.args in
    let w = weighted_of a.rows a.certificate.now a.held in
    let fails = sym c.column_holds-holds.ensures.now_is ∙ not-true _ c.if-not-holds.true in
    c.refused.ensures ∙ refuses tt (now_told a.number (a.number + 1) (a.number + 2) a.rows.n w c.loop-j.j c.loop-j-test.true fails c.loop-j.invariant.held_over)

pub returns-in-Some : goal.returns-in-Some
returns-in-Some c =
    let a = c.args in
    let w = weighted_of a.rows a.certificate.now a.held in
    let l = c.loop-j in
    let end : l.j ≡ a.rows.n = omega arith in
    let all = rw end at l.invariant.held_over in
    let is = rw end at l.invariant.remembered in
    c.refused-in-Some.ensures ∙ refuses tt (next_told a.number (a.number + 1) (a.number + 2) a.rows.n w all l.late is c.in-Some.place c.in-Some.is)

-- the right sides
module _ (rows : Rows) (certificate : List ℕ) (held : Held) (right : ℤ) (few : rows.count ≤ 64)
    (is : SumOf rows.count most_right (right_term certificate held.weights rows.bytes.now rows.start rows.n) right) where
  abbrev w : Weighted
  w = weighted_of rows certificate held

  fits : SFits w64 right
  fits = grown_fits (can_grow rows.count most_right _ right (omega arith) (omega arith) is)

  summed : right ≡ sum_of w b
  unfolding weighted_held
  summed = right_is certificate held.weights rows.bytes.now rows.start rows.n rows.count right is

  over : SFits w64 held.limit → lt_z (to_z w64 (of_z w64 held.limit)) (to_z w64 (of_z w64 right)) ≡ true → le_z (sum_of w b) w.limit ≡ false
  unfolding weighted_held
  over limit h = lt_false (true_lt held.limit (sum_of w b) (rw (to_z-of_z limit, to_z-of_z fits, summed) at h))

  within : SFits w64 held.limit → lt_z (to_z w64 (of_z w64 held.limit)) (to_z w64 (of_z w64 right)) ≡ false → le_z (sum_of w b) w.limit ≡ true
  unfolding weighted_held
  within limit h = le_true (false_lt held.limit (sum_of w b) (rw (to_z-of_z limit, to_z-of_z fits, summed) at h))

pub returns-then-held-right : goal.returns-then-held-right
returns-then-held-right c =
    let a = c.args in
    let l = c.loop-j in
    let right = c.right_of-right in
    let w = weighted_of a.rows a.certificate.now a.held in
    let end : l.j ≡ a.rows.n = omega arith in
    let all = rw end at l.invariant.held_over in
    let is = rw end at l.invariant.remembered in
    let limit : SFits w64 a.held.limit = search rules in
    let fails = over a.rows a.certificate.now a.held right.result.sum c.requires.0 right.ensures limit c.if-held-right.true in
    c.refused-then-held-right.ensures ∙ refuses tt (right_told a.number (a.number + 1) (a.number + 2) a.rows.n w all l.late is c.in_default.is fails)

pub returns : goal.returns
returns c =
    let a = c.args in
    let l = c.loop-j in
    let right = c.right_of-right in
    let w = weighted_of a.rows a.certificate.now a.held in
    let end : l.j ≡ a.rows.n = omega arith in
    let all = rw end at l.invariant.held_over in
    let is = rw end at l.invariant.remembered in
    let limit : SFits w64 a.held.limit = search rules in
    let holds = within a.rows a.certificate.now a.held right.result.sum c.requires.0 right.ensures limit c.if-held-right.false in
    gives tt (none_told a.number (a.number + 1) (a.number + 2) a.rows.n w all l.late is c.in_default.is holds)
