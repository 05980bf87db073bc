-- `judge_bound::lasso_bound` meets its contract: what the conditions tell of the places they tell of the records, and so the answer is the bound's.
use Rattle.std.proofs.Common.{◌∙◌, sym, rules}
use mir.Syntax.{w64}
use mir.Val.{SFits}
use mir.Facts.{to_z-of_z}
use Rattle.judge.specs.SoundPairs.{rank_outcome}
use Rattle.judge_bound.proofs.BoundedKinds.{lasso_asked, lasso_speaks, lasso_there, outside, ranked_fits, spoken, refused_told}
use Rattle.judge_bound.proofs.FittingStates.{state_long}
use Rattle.judge_bound.proofs.lasso_bound.Goals as goal

pub invariant_of-lasso : goal.invariant_of-lasso
invariant_of-lasso c = record { lies = lasso_there c.args.looped c.args.certificate.now c.args.ms c.requires.0 }

pub meets_invariant-requires : goal.meets_invariant-requires
meets_invariant-requires c = state_long c.args.looped.n c.args.state.entries.now c.requires.1

pub bound_at-requires : goal.bound_at-requires
bound_at-requires c =
    let a = c.args in
    let asked = lasso_asked a.looped a.certificate.now a.ms c.requires.0 c.rows.result c.rows.ensures c.lasso.result c.lasso.new.rank c.lasso.ensures in
    let start : SFits w64 c.in-Ok.field-0.start = search rules in
    let fall : SFits w64 c.in-Ok.field-0.fall = search rules in
    rw (to_z-of_z start, to_z-of_z fall)
    (ranked_fits a.looped a.certificate.now a.state.entries.now c.requires.1 asked c.in-Ok.field-0 (sym c.in-Ok.is) c.lasso.auto.rank)

pub returns-then-not-meets_invariant : goal.returns-then-not-meets_invariant
returns-then-not-meets_invariant c =
    let a = c.args in
    let asked = lasso_asked a.looped a.certificate.now a.ms c.requires.0 c.rows.result c.rows.ensures c.lasso.result c.lasso.new.rank c.lasso.ensures in
    let fails = lasso_speaks a.looped a.certificate.now a.ms c.requires.0 a.state.entries.now ∙ sym c.meets_invariant.ensures ∙ c.if-not-meets_invariant.true in
    c.refused.ensures
    ∙ outside a.looped a.certificate.now a.state.entries.now c.requires.1 asked c.in-Ok.field-0 (sym c.in-Ok.is) fails

pub returns-else-not-meets_invariant : goal.returns-else-not-meets_invariant
unfolding rank_outcome
returns-else-not-meets_invariant c =
    let a = c.args in
    let asked = lasso_asked a.looped a.certificate.now a.ms c.requires.0 c.rows.result c.rows.ensures c.lasso.result c.lasso.new.rank c.lasso.ensures in
    let start : SFits w64 c.in-Ok.field-0.start = search rules in
    let fall : SFits w64 c.in-Ok.field-0.fall = search rules in
    let speaks = lasso_speaks a.looped a.certificate.now a.ms c.requires.0 a.state.entries.now ∙ sym c.meets_invariant.ensures ∙ c.if-not-meets_invariant.false in
    let told = spoken a.looped a.certificate.now a.state.entries.now c.requires.1 asked c.in-Ok.field-0 (sym c.in-Ok.is) speaks in
    let outcome = rw (to_z-of_z start, to_z-of_z fall) at c.accepted.ensures in
    let steps = rw (to_z-of_z start, to_z-of_z fall) at c.bound_at.ensures in
    rw (outcome, steps) told

pub returns-in-Err : goal.returns-in-Err
returns-in-Err c =
    let a = c.args in
    let asked = lasso_asked a.looped a.certificate.now a.ms c.requires.0 c.rows.result c.rows.ensures c.lasso.result c.lasso.new.rank c.lasso.ensures in
    c.refused-in-Err.ensures
    ∙ refused_told a.looped a.certificate.now a.state.entries.now c.requires.1 asked c.in-Err.fault (sym c.in-Err.is)
