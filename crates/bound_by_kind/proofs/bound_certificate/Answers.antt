-- `bound_by_kind::bound_certificate` meets its contract: the frame refuses alike whatever the kind, and the kind leads to its bound.
use Rattle.std.proofs.Common.{◌≡◌, ◌∙◌, refl, sym, ℕ, List, ℤ, arith}
use Rattle.endian.specs.Numbers.{little_at}
use Rattle.record.proofs.KindLaws.{unwanted_kind}
use Rattle.verdict.specs.Bounding.{bounds, bound_of}
use Rattle.verdict_short.specs.Answers.{bounded_answered}
use Rattle.verdict_short.proofs.KindNumbers.{seven, eight, none_of_them}
use Rattle.judge.proofs.Framing.{frame_told, well_framed, unwanted_told}
use Rattle.judge_bound.proofs.BoundingWays as Rows
use Rattle.judge_bound.proofs.ByKind.{with_rank}
use Rattle.bound_by_kind.proofs.AnswerWays.{as_short, as_settling, as_others, unframed}
use Rattle.bound_by_kind.proofs.bound_certificate.Goals as goal

-- a kind that the base has
as_before : (loopbytes certificate : List ℕ) (state : List ℤ) → (little_at 2 certificate 4 ≡ 7 → ⊥) → (little_at 2 certificate 4 ≡ 8 → ⊥)
    → bounds (bound_of loopbytes certificate state) ≡ bounded_answered loopbytes certificate state
as_before loopbytes certificate state no_seven no-eight =
    let neither = none_of_them certificate no_seven no-eight in
    as_others loopbytes certificate state neither.0 neither.1

pub returns-in-Err : goal.returns-in-Err
returns-in-Err c =
    let a = c.args in
    c.refused.ensures
    ∙ unframed a.looped.bytes.now a.certificate.now a.state.now a.looped.sound.told _ _ (frame_told a.certificate.now c.in-Err.fault (sym c.in-Err.is ∙ c.frame.ensures))

pub u16_at-requires : goal.u16_at-requires
u16_at-requires c = (well_framed c.args.certificate.now (sym c.in_default.is ∙ c.frame.ensures)).head

pub invariant_of-by_ranking : goal.invariant_of-by_ranking
invariant_of-by_ranking c =
    record { framed = well_framed c.args.certificate.now (sym c.in_default.is ∙ c.frame.ensures); numbered = sym c.u16_at.ensures.0 ∙ c.in-2.is }

pub invariant_of-by_lasso : goal.invariant_of-by_lasso
invariant_of-by_lasso c =
    record { framed = well_framed c.args.certificate.now (sym c.in_default.is ∙ c.frame.ensures); numbered = sym c.u16_at.ensures.0 ∙ c.in-4.is }

pub by_short-requires : goal.by_short-requires
by_short-requires c = seven c.args.certificate.now (sym c.u16_at.ensures.0 ∙ c.in-7.is)

pub returns-in-2 : goal.returns-in-2
returns-in-2 c =
    let a = c.args in
    let is = sym c.u16_at.ensures.0 ∙ c.in-2.is in
    c.by_ranking.ensures ∙ as_before a.looped.bytes.now a.certificate.now a.state.now (λ e. omega (arith, e, is)) (λ e. omega (arith, e, is))

pub returns-in-4 : goal.returns-in-4
returns-in-4 c =
    let a = c.args in
    let is = sym c.u16_at.ensures.0 ∙ c.in-4.is in
    c.by_lasso.ensures ∙ as_before a.looped.bytes.now a.certificate.now a.state.now (λ e. omega (arith, e, is)) (λ e. omega (arith, e, is))

pub returns-in-7 : goal.returns-in-7
returns-in-7 c =
    let a = c.args in
    c.by_short.ensures ∙ as_short a.looped.bytes.now a.certificate.now a.state.now (seven a.certificate.now (sym c.u16_at.ensures.0 ∙ c.in-7.is))

pub returns-in-8 : goal.returns-in-8
returns-in-8 c =
    let a = c.args in
    c.settling_sound.ensures ∙ as_settling a.looped.bytes.now a.certificate.now a.state.now (eight a.certificate.now (sym c.u16_at.ensures.0 ∙ c.in-8.is))

pub returns-in_default-u16_at : goal.returns-in_default-u16_at
unfolding bound_of
returns-in_default-u16_at c =
    let a = c.args in
    let b = bound_of a.looped.bytes.now a.certificate.now a.state.now in
    let told = c.u16_at.ensures.0 in
    let right = well_framed a.certificate.now (sym c.in_default.is ∙ c.frame.ensures) in
    let none = unwanted_kind with_rank (little_at 2 a.certificate.now 4) (λ e. absurd (omega (arith, told, e))) (λ e. refl) (λ e. absurd (omega (arith, told, e))) in
    let unwanted = unwanted_told _ _ _ a.looped.sound a.certificate.now right with_rank none in
    c.refused-in_default-u16_at.ensures
    ∙ Rows.refused_so b 2 4 4 (Rows.at_certificate b a.looped.sound.told 4 4 unwanted)
    ∙ as_before a.looped.bytes.now a.certificate.now a.state.now (λ e. omega (arith, told, e)) (λ e. omega (arith, told, e))
