-- `record_check::check_ranking` meets its contract: the frame, the kind, the arguments, and then the tests of the body.
use Rattle.std.proofs.Common.{◌≡◌, ◌∙◌, refl, sym, ap, rules, true, false, Err, []}
use Rattle.endian.specs.Numbers.{little_at}
use Rattle.refusal.specs.Faults.{result_of}
use Rattle.record.specs.declared.Wanted.{Wanted}
use Rattle.record.specs.Layouts.{ranking, kind_of}
use Rattle.record.specs.Readers.{loop_reader}
use Rattle.record.specs.Wants.{wants_of}
use Rattle.record.proofs.KindLaws.{unwanted_kind}
use Rattle.record_check.specs.Checks.{certificate_check}
use Rattle.record_check.specs.Framing.{Framed}
use Rattle.record_check.proofs.CertificateWays.{certificate_unwanted, certificate_arguments}
use Rattle.record_check.proofs.FrameWays.{frame_refuses, frame_passes, same_frame}
use Rattle.record_check.proofs.check_ranking.Goals as goal

abbrev ranking-alone : Wanted
ranking-alone = record { ranking = true; exclusion = false; lasso = false }

-- past the frame
framed : (c : goal.In_ok-frame) → Framed c.args.bytes.now
unfolding loop_reader
framed c = frame_passes (loop_reader c.args.bytes.now []) (sym c.in_ok-frame.was ∙ c.frame.ensures)

pub returns-in_err-frame : goal.returns-in_err-frame
returns-in_err-frame c =
    let a = c.args in
    let e : c.from_residual.result ≡ Err c.in_err-frame.field-0.0 = search rules in
    let told = sym c.in_err-frame.was ∙ c.frame.ensures ∙ ap (λ t. result_of t tt) (same_frame ranking-alone a.bytes.now a.n a.m) in
    e ∙ frame_refuses (certificate_check ranking-alone a.bytes.now a.n a.m) c.in_err-frame.field-0.0 told

pub u16_at-requires : goal.u16_at-requires
u16_at-requires c = (framed c).head

pub returns-then-u16_at-ne2 : goal.returns-then-u16_at-ne2
unfolding loop_reader
returns-then-u16_at-ne2 c =
    let a = c.args in
    let right = frame_passes (loop_reader a.bytes.now []) (sym c.in_ok-frame.was ∙ c.frame.ensures) in
    let none = unwanted_kind ranking-alone (little_at 2 a.bytes.now 4) (λ e. absurd (c.if-u16_at-ne2.true (c.u16_at.ensures.0 ∙ e))) (λ e. refl) (λ e. refl) in
    c.refused.ensures ∙ certificate_unwanted ranking-alone a.bytes.now a.n a.m right none

pub returns-then-not-arguments_fit : goal.returns-then-not-arguments_fit
unfolding loop_reader kind_of wants_of
returns-then-not-arguments_fit c =
    let a = c.args in
    let right = frame_passes (loop_reader a.bytes.now []) (sym c.in_ok-frame.was ∙ c.frame.ensures) in
    let two : little_at 2 a.bytes.now 4 ≡ 2 = sym c.u16_at.ensures.0 ∙ c.if-u16_at-ne2.false in
    c.refused-then-not-arguments_fit.ensures
    ∙ certificate_arguments ranking-alone a.bytes.now a.n a.m right ranking (ap kind_of two) refl (sym c.arguments_fit.ensures ∙ c.if-not-arguments_fit.true)

pub invariant_of-ranking_record : goal.invariant_of-ranking_record
unfolding loop_reader
invariant_of-ranking_record c =
    record {
      framed = frame_passes (loop_reader c.args.bytes.now []) (sym c.in_ok-frame.was ∙ c.frame.ensures);
      numbered = sym c.u16_at.ensures.0 ∙ c.if-u16_at-ne2.false;
    }

pub ranking_record-requires : goal.ranking_record-requires
ranking_record-requires c = sym c.arguments_fit.ensures ∙ c.if-not-arguments_fit.false

pub returns : goal.returns
unfolding wants_of
returns c = c.ranking_record.ensures ranking-alone refl
