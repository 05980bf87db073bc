-- `judge::judge_sound` meets its contract: the frame refuses as judging does, and the kind leads to the rest.
use Rattle.std.proofs.Common.{◌∙◌, sym, arith}
use Rattle.endian.specs.Numbers.{little_at}
use Rattle.record.proofs.KindLaws.{unwanted_kind}
use Rattle.verdict.specs.Judging.{judge_of, certificates_judged}
use Rattle.judge.proofs.ByKind.{all_kinds}
use Rattle.judge.proofs.Framing.{frame_told, well_framed, certificate_alike, unwanted_told}
use Rattle.judge.proofs.JudgingWays.{refused_so, at_certificate}
use Rattle.judge.proofs.judge_sound.Goals as goal

pub returns-in-Err : goal.returns-in-Err
unfolding judge_of
returns-in-Err c =
    let a = c.args in
    let j = judge_of a.looped.bytes.now a.certificate.now a.rank.now in
    let told = frame_told a.certificate.now c.in-Err.fault (sym c.in-Err.is ∙ c.frame.ensures) in
    let by = refused_so j a.rank.now 2 _ _ (at_certificate j a.looped.sound.told _ _ (certificate_alike a.certificate.now _ _ told certificates_judged a.looped.bytes.now)) in
    (c.refused.ensures ∙ by.0, by.1)

pub u16_at-requires : goal.u16_at-requires
u16_at-requires c = (well_framed c.args.certificate.now (sym c.in_default.is ∙ c.frame.ensures)).head

pub invariant_of-by_ranking : goal.invariant_of-by_ranking
invariant_of-by_ranking c =
    record { framed = well_framed c.args.certificate.now (sym c.in_default.is ∙ c.frame.ensures); numbered = sym c.u16_at.ensures.0 ∙ c.in-2.is }

pub invariant_of-by_exclusion : goal.invariant_of-by_exclusion
invariant_of-by_exclusion c =
    record { framed = well_framed c.args.certificate.now (sym c.in_default.is ∙ c.frame.ensures); numbered = sym c.u16_at.ensures.0 ∙ c.in-3.is }

pub invariant_of-by_lasso : goal.invariant_of-by_lasso
invariant_of-by_lasso c =
    record { framed = well_framed c.args.certificate.now (sym c.in_default.is ∙ c.frame.ensures); numbered = sym c.u16_at.ensures.0 ∙ c.in-4.is }

-- a kind that is none of these
pub returns-in_default-u16_at : goal.returns-in_default-u16_at
unfolding judge_of
returns-in_default-u16_at c =
    let a = c.args in
    let j = judge_of a.looped.bytes.now a.certificate.now a.rank.now in
    let right = well_framed a.certificate.now (sym c.in_default.is ∙ c.frame.ensures) in
    let told = c.u16_at.ensures.0 in
    let none = unwanted_kind all_kinds (little_at 2 a.certificate.now 4)
    (λ e. absurd (omega (arith, told, e))) (λ e. absurd (omega (arith, told, e))) (λ e. absurd (omega (arith, told, e))) in
    let by = refused_so j a.rank.now 2 4 4
    (at_certificate j a.looped.sound.told 4 4 (unwanted_told _ _ _ a.looped.sound a.certificate.now right all_kinds none)) in
    (c.refused-in_default-u16_at.ensures ∙ by.0, by.1)
