-- `judge_short::by_short` meets its contract: a short ranking is judged as the record that it stands for.
use Rattle.std.proofs.Common.{◌∙◌, refl, sym, arith}
use lib.Seq.{length-take-le}
use Rattle.record.specs.Wants.{wants_of}
use Rattle.verdict.specs.Judging.{certificates_judged}
use Rattle.judge.proofs.SoundSizes.{m_few}
use Rattle.judge_short.proofs.ShortWays.{refused_so, can_lengthen, long_there, long_is_ranking, judged_as_long}
use Rattle.judge_short.proofs.by_short.Goals as goal

pub returns-in-Err : goal.returns-in-Err
returns-in-Err c =
    let by = refused_so _ _ _ c.args.looped.sound _ c.requires c.in-Err.fault (sym c.in-Err.is ∙ c.check_short.ensures) c.args.rank.now in
    (c.refused.ensures ∙ sym by.0, sym by.1)

pub lengthen_into-requires : goal.lengthen_into-requires
lengthen_into-requires c =
    let l = c.args.looped.sound in
    record { sound = can_lengthen _ _ _ l _ c.requires (sym c.in_default.is ∙ c.check_short.ensures); roomy = omega (arith, m_few _ _ _ l) }

-- a sound loop has few rows
pub overflow_mul-long : goal.overflow_mul-long
overflow_mul-long c = omega (arith, m_few _ _ _ c.args.looped.sound)

pub overflow_add-long : goal.overflow_add-long
overflow_add-long c = omega (arith, m_few _ _ _ c.args.looped.sound)

pub slice_bounds-long-end : goal.slice_bounds-long-end
slice_bounds-long-end c = omega (arith, m_few _ _ _ c.args.looped.sound, c.lengthen_into.auto.room)

pub slice_bounds-ranking_sound-end : goal.slice_bounds-ranking_sound-end
slice_bounds-ranking_sound-end c = sym (length-take-le _ _ (omega (arith, m_few _ _ _ c.args.looped.sound, c.lengthen_into.auto.room)))

pub ranking_sound-requires : goal.ranking_sound-requires
unfolding wants_of
ranking_sound-requires c =
    let is = sym c.in_default.is ∙ c.check_short.ensures in
    let front = long_there _ _ _ c.args.looped.sound _ c.requires is c.lengthen_into.new.room _ (c.lengthen_into.ensures c.args.looped.n) in
    rw front (long_is_ranking _ _ _ c.args.looped.sound _ c.requires is certificates_judged refl)

pub returns : goal.returns
returns c =
    let is = sym c.in_default.is ∙ c.check_short.ensures in
    let front = long_there _ _ _ c.args.looped.sound _ c.requires is c.lengthen_into.new.room _ (c.lengthen_into.ensures c.args.looped.n) in
    let by = judged_as_long _ _ _ c.args.looped.sound _ c.requires is c.args.rank.now in
    (rw front at c.ranking_sound.ensures.0 ∙ sym by.0, rw front at c.ranking_sound.ensures.1 ∙ sym by.1)
