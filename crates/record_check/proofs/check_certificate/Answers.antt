-- `record_check::check_certificate` meets its contract: the frame, the kind, the arguments, and then the tests of the kind's body.
use Rattle.std.proofs.Common.{◌≡◌, ◌∙◌, sym, ap, arith, rules, ℕ, Bool, true, Err, []}
use mathlib.Core.Bool.{false≢true}
use Rattle.refusal.specs.Faults.{result_of}
use Rattle.record.specs.declared.Wanted.{Wanted}
use Rattle.record.specs.Layouts.{kind_of}
use Rattle.record.specs.Readers.{loop_reader}
use Rattle.record.specs.Wants.{wants_of}
use Rattle.record.proofs.KindLaws.{unwanted_kind}
use Rattle.record_check.specs.Checks.{certificate_check}
use Rattle.record_check.specs.Framing.{Framed}
use Rattle.record_check.proofs.CertificateWays.{certificate_unwanted, certificate_arguments}
use Rattle.record_check.proofs.FrameWays.{frame_refuses, frame_passes, same_frame}
use Rattle.record_check.proofs.check_certificate.Goals as goal

-- past the frame
framed : (c : goal.In_ok-frame) → Framed c.args.bytes.now
unfolding loop_reader
framed c = frame_passes (loop_reader c.args.bytes.now []) (sym c.in_ok-frame.was ∙ c.frame.ensures)

pub returns-in_err-frame : goal.returns-in_err-frame
returns-in_err-frame c =
    let a = c.args in
    let e : c.from_residual.result ≡ Err c.in_err-frame.field-0.0 = search rules in
    let told = sym c.in_err-frame.was ∙ c.frame.ensures ∙ ap (λ t. result_of t tt) (same_frame a.wanted a.bytes.now a.n a.m) in
    e ∙ frame_refuses (certificate_check a.wanted a.bytes.now a.n a.m) c.in_err-frame.field-0.0 told

pub u16_at-kind-requires : goal.u16_at-kind-requires
u16_at-kind-requires c = (framed c).head

pub returns-then-not-wants : goal.returns-then-not-wants
unfolding loop_reader
returns-then-not-wants c =
    let a = c.args in
    let right = frame_passes (loop_reader a.bytes.now []) (sym c.in_ok-frame.was ∙ c.frame.ensures) in
    let unwanted = sym c.wants.ensures ∙ c.if-not-wants.true in
    c.refused.ensures ∙ certificate_unwanted a.wanted a.bytes.now a.n a.m right (rw c.u16_at-kind.ensures.0 at unwanted)

pub returns-then-not-arguments_fit : goal.returns-then-not-arguments_fit
unfolding loop_reader
returns-then-not-arguments_fit c =
    let a = c.args in
    let right = frame_passes (loop_reader a.bytes.now []) (sym c.in_ok-frame.was ∙ c.frame.ensures) in
    let known = sym c.wants.ensures ∙ c.if-not-wants.false in
    c.refused-then-not-arguments_fit.ensures
    ∙ certificate_arguments a.wanted a.bytes.now a.n a.m right _ (sym (ap kind_of c.u16_at-kind.ensures.0)) known (sym c.arguments_fit.ensures ∙ c.if-not-arguments_fit.true)

-- the kind that is read is one of those that are wanted
wanted : (w : Wanted) (kind number : ℕ) (said : Bool) → said ≡ wants_of w (kind_of kind) → said ≡ true → kind ≡ number → wants_of w (kind_of number) ≡ true
wanted w kind number said told holds is = ap (λ x. wants_of w (kind_of x)) (sym is) ∙ sym told ∙ holds

pub invariant_of-ranking_record : goal.invariant_of-ranking_record
unfolding loop_reader
invariant_of-ranking_record c =
    record {
      framed = frame_passes (loop_reader c.args.bytes.now []) (sym c.in_ok-frame.was ∙ c.frame.ensures);
      numbered = sym c.u16_at-kind.ensures.0 ∙ c.in-2.is;
    }

pub ranking_record-requires : goal.ranking_record-requires
ranking_record-requires c = sym c.arguments_fit.ensures ∙ c.if-not-arguments_fit.false

pub returns-in-2 : goal.returns-in-2
unfolding kind_of
returns-in-2 c = c.ranking_record.ensures _ (wanted _ _ 2 _ c.wants.ensures c.if-not-wants.false c.in-2.is)

pub invariant_of-exclusion_record : goal.invariant_of-exclusion_record
unfolding loop_reader
invariant_of-exclusion_record c =
    record {
      framed = frame_passes (loop_reader c.args.bytes.now []) (sym c.in_ok-frame.was ∙ c.frame.ensures);
      numbered = sym c.u16_at-kind.ensures.0 ∙ c.in-3.is;
    }

pub exclusion_record-requires : goal.exclusion_record-requires
exclusion_record-requires c = sym c.arguments_fit.ensures ∙ c.if-not-arguments_fit.false

pub returns-in-3 : goal.returns-in-3
unfolding kind_of
returns-in-3 c = c.exclusion_record.ensures _ (wanted _ _ 3 _ c.wants.ensures c.if-not-wants.false c.in-3.is)

pub invariant_of-lasso_record : goal.invariant_of-lasso_record
unfolding loop_reader
invariant_of-lasso_record c =
    record {
      framed = frame_passes (loop_reader c.args.bytes.now []) (sym c.in_ok-frame.was ∙ c.frame.ensures);
      numbered = sym c.u16_at-kind.ensures.0 ∙ c.in-4.is;
    }

pub lasso_record-requires : goal.lasso_record-requires
lasso_record-requires c = sym c.arguments_fit.ensures ∙ c.if-not-arguments_fit.false

pub returns-in-4 : goal.returns-in-4
unfolding kind_of
returns-in-4 c = c.lasso_record.ensures _ (wanted _ _ 4 _ c.wants.ensures c.if-not-wants.false c.in-4.is)

-- no other kind is left
pub returns-in_default : goal.returns-in_default
returns-in_default c =
    let none = unwanted_kind c.args.wanted c.u16_at-kind.result (λ e. absurd (omega arith)) (λ e. absurd (omega arith)) (λ e. absurd (omega arith)) in
    absurd (false≢true (sym none ∙ sym c.wants.ensures ∙ c.if-not-wants.false))
