-- `judge_exclusion::exclusion` meets its contract: the walk ends at the first row that fails the direction, or has remembered the first that fails the step.
use Rattle.std.proofs.Common.{sym, ◌≡◌, ◌∙◌, arith}
use borrow.Author.Tests.{not-true}
use Rattle.refusal.proofs.FaultLaws.{gives, refuses}
use Rattle.judge_conditions.proofs.RememberedLaws.{none_failing}
use Rattle.judge_exclusion.proofs.ExcludedLaws.{meets_at, direction_told, step_told, none_told}
use Rattle.judge_exclusion.proofs.exclusion.Goals as goal

pub loop-i-init : goal.loop-i-init
loop-i-init c =
    let a = c.args in
    record {
      reached = omega arith;
      stayed = λ k below. absurd (omega arith);
      remembered = none_failing 0 (meets_at a.rows a.certificate.now) (λ k below. absurd (omega arith));
    }

pub returns-then-not-holds : goal.returns-then-not-holds
returns-then-not-holds c =
    let a = c.args in
    let l = c.loop-i in
    let fails = rw l.invariant.reached at (sym c.row_holds-holds.ensures.0) ∙ not-true _ c.if-not-holds.true in
    c.refused.ensures ∙ refuses tt (direction_told a.rows a.certificate.now l.i c.loop-i-test.true fails l.invariant.stayed)

pub returns-in-Some : goal.returns-in-Some
returns-in-Some c =
    let a = c.args in
    let l = c.loop-i in
    let end : l.i ≡ a.rows.count = omega arith in
    let all = rw end at l.invariant.stayed in
    let is = rw end at l.invariant.remembered in
    c.refused-in-Some.ensures ∙ refuses tt (step_told a.rows a.certificate.now all l.late is c.in-Some.place c.in-Some.is)

pub returns-in-None : goal.returns-in-None
returns-in-None c =
    let a = c.args in
    let l = c.loop-i in
    let end : l.i ≡ a.rows.count = omega arith in
    let all = rw end at l.invariant.stayed in
    let is = rw end at l.invariant.remembered in
    gives tt (none_told a.rows a.certificate.now all l.late is c.in-None.is)
