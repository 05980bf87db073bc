-- `record_check::check_loop` meets its contract.
use Rattle.std.proofs.Common.{◌≡◌, ◌∙◌, sym, arith, rules, Err, []}
use Rattle.record.specs.Readers.{kind, kind_number, loop_reader}
use Rattle.record.proofs.KindLaws.{no_loop}
use Rattle.record_check.specs.Framing.{Framed}
use Rattle.record_check.proofs.BodyWays.{unwanted}
use Rattle.record_check.proofs.FrameWays.{frame_refuses, frame_passes}
use Rattle.record_check.proofs.check_loop.Goals as goal

pub returns-in_err-frame : goal.returns-in_err-frame
returns-in_err-frame c =
    let e : c.from_residual.result ≡ Err c.in_err-frame.field-0.0 = search rules in
    e ∙ frame_refuses (loop_reader c.args.bytes.now []) c.in_err-frame.field-0.0 (sym c.in_err-frame.was ∙ c.frame.ensures)

framed : (c : goal.In_ok-frame) → Framed c.args.bytes.now
unfolding loop_reader
framed c = frame_passes (loop_reader c.args.bytes.now []) (sym c.in_ok-frame.was ∙ c.frame.ensures)

pub u16_at-requires : goal.u16_at-requires
u16_at-requires c = (framed c).head

pub invariant_of-loop_record : goal.invariant_of-loop_record
unfolding loop_reader
invariant_of-loop_record c =
    record {
      framed = frame_passes (loop_reader c.args.bytes.now []) (sym c.in_ok-frame.was ∙ c.frame.ensures);
      numbered = sym c.u16_at.ensures.0 ∙ c.in-1.is;
    }

pub returns-in_default : goal.returns-in_default
unfolding kind kind_number loop_reader
returns-in_default c =
    let right = frame_passes (loop_reader c.args.bytes.now []) (sym c.in_ok-frame.was ∙ c.frame.ensures) in
    let other = no_loop _ (λ e. omega (arith, e)) in
    c.refused.ensures ∙ unwanted (loop_reader c.args.bytes.now []) right other
