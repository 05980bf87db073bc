-- `judge_ranking::Totals::fault_from` meets its contract: the walk ends at the first column that fails the first condition, or has remembered the first that fail the others.
use Rattle.std.proofs.Common.{◌≡◌, sym, ◌∙◌, arith}
use borrow.Author.Tests.{not-true}
use Rattle.refusal.proofs.FaultLaws.{gives, refuses}
use Rattle.judge_conditions.proofs.RememberedLaws.{none_failing}
use Rattle.judge_ranking.proofs.RankedLaws.{first_told, second_told, third_told, none_told}
use Rattle.judge_ranking.proofs.lifted.Totals.fault_from.Goals as goal

pub loop-j-init : goal.loop-j-init
loop-j-init c =
    record {
      first_held = λ k below. (c.requires.1 k below).0;
      second_is = none_failing c.args.from _ (λ k below. (c.requires.1 k below).1);
      third_is = none_failing c.args.from _ (λ k below. (c.requires.1 k below).2);
    }

pub returns-then-not-column : goal.returns-then-not-column
returns-then-not-column c =
    let t = c.args.self in
    let l = c.loop-j in
    c.refused.ensures
    ∙ refuses tt (first_told t.y.sums.now t.y.lift t.z.sums.now t.z.lift t.y.n l.j c.loop-j-test.true (sym c.column_holds-column.ensures.0 ∙ not-true _ c.if-not-column.true) l.invariant.first_held)

pub returns-in-Some : goal.returns-in-Some
returns-in-Some c =
    let t = c.args.self in
    let l = c.loop-j in
    let end : l.j ≡ t.y.n = omega arith in
    let i = rw end at l.invariant in
    c.refused-in-Some.ensures
    ∙ refuses tt (second_told t.y.sums.now t.y.lift t.z.sums.now t.z.lift t.y.n i.first_held l.second l.third i.second_is i.third_is c.in-Some.place c.in-Some.is)

pub returns-in-Some-third : goal.returns-in-Some-third
returns-in-Some-third c =
    let t = c.args.self in
    let l = c.loop-j in
    let end : l.j ≡ t.y.n = omega arith in
    let i = rw end at l.invariant in
    c.refused-in-Some-third.ensures
    ∙ refuses tt (third_told t.y.sums.now t.y.lift t.z.sums.now t.z.lift t.y.n i.first_held l.second l.third i.second_is i.third_is c.in-Some-third.place c.in_default.is c.in-Some-third.is)

pub returns : goal.returns
returns c =
    let t = c.args.self in
    let l = c.loop-j in
    let end : l.j ≡ t.y.n = omega arith in
    let i = rw end at l.invariant in
    gives tt (none_told t.y.sums.now t.y.lift t.z.sums.now t.z.lift t.y.n i.first_held l.second l.third i.second_is i.third_is c.in_default.is c.in_default-third.is)
