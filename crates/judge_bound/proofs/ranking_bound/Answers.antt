-- `judge_bound::ranking_bound` meets its contract: what the conditions tell of the places they tell of the records, and so the answer is the bound's.
use Rattle.std.proofs.Common.{◌∙◌, sym, rules}
use mir.Syntax.{w64}
use mir.Val.{SFits}
use mir.Facts.{to_z-of_z}
use Rattle.verdict.specs.Bounding.{certificates_bounded}
use Rattle.judge.specs.SoundPairs.{rank_outcome}
use Rattle.judge.proofs.SoundSizes.{n_few, m_few, ranking_long}
use Rattle.judge_bound.proofs.BoundedKinds.{ranking_asked, ranking_speaks, ranked_fits, spoken, refused_told}
use Rattle.judge_bound.proofs.ranking_bound.Goals as goal

pub ranking-requires : goal.ranking-requires
ranking-requires c =
    let l = c.args.looped.sound in
    rw (c.rows.ensures.2, c.rows.ensures.3) (n_few _ _ _ l, m_few _ _ _ l, ranking_long _ _ _ l certificates_bounded _ c.requires.0, n_few _ _ _ l)

pub bound_at-requires : goal.bound_at-requires
bound_at-requires c =
    let a = c.args in
    let asked = ranking_asked a.looped a.certificate.now c.requires.0 c.rows.result c.rows.ensures c.ranking.result c.ranking.new.rank c.ranking.ensures in
    let start : SFits w64 c.in-Ok.field-0.start = search rules in
    let fall : SFits w64 c.in-Ok.field-0.fall = search rules in
    rw (to_z-of_z start, to_z-of_z fall)
    (ranked_fits a.looped a.certificate.now a.state.entries.now c.requires.1 asked c.in-Ok.field-0 (sym c.in-Ok.is) c.ranking.auto.rank)

pub returns-in-Ok : goal.returns-in-Ok
unfolding rank_outcome
returns-in-Ok c =
    let a = c.args in
    let asked = ranking_asked a.looped a.certificate.now c.requires.0 c.rows.result c.rows.ensures c.ranking.result c.ranking.new.rank c.ranking.ensures in
    let start : SFits w64 c.in-Ok.field-0.start = search rules in
    let fall : SFits w64 c.in-Ok.field-0.fall = search rules in
    let told =
    spoken a.looped a.certificate.now a.state.entries.now c.requires.1 asked c.in-Ok.field-0 (sym c.in-Ok.is)
    (ranking_speaks a.looped a.certificate.now a.state.entries.now)
    in
    let outcome = rw (to_z-of_z start, to_z-of_z fall) at c.accepted.ensures in
    let steps = rw (to_z-of_z start, to_z-of_z fall) at c.bound_at.ensures in
    rw (outcome, steps) told

pub returns-in-Err : goal.returns-in-Err
returns-in-Err c =
    let a = c.args in
    let asked = ranking_asked a.looped a.certificate.now c.requires.0 c.rows.result c.rows.ensures c.ranking.result c.ranking.new.rank c.ranking.ensures in
    c.refused.ensures
    ∙ refused_told a.looped a.certificate.now a.state.entries.now c.requires.1 asked c.in-Err.fault (sym c.in-Err.is)
