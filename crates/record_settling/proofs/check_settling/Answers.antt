-- `record_settling::check_settling` meets its contract.
use Rattle.std.proofs.Common.{◌≡◌, ◌∙◌, sym, arith, rules, Err}
use Rattle.std.proofs.lemmas.Result.{err_from_is_err_and}
use lib.ListN.{drop}
use Rattle.refusal.proofs.FaultLaws.{refuses, handed_on, went_on}
use Rattle.record.proofs.FieldLaws.{widths_append}
use Rattle.record_fields.proofs.BodyParts.{widths_linear, widths_weights}
use Rattle.record_check.specs.Framing.{Framed}
use Rattle.record_paths_check.proofs.OrderWays.{frame_refuses, right_frame}
use Rattle.record_settling.specs.SettlingRecords.{sound_settling}
use Rattle.record_settling.proofs.SettlingValues.{settling_is}
use Rattle.record_settling.proofs.SettlingWays.{other_kind, bad_length, values_told}
use Rattle.record_settling.proofs.check_settling.Goals as goal

pub returns-in_err-frame : goal.returns-in_err-frame
unfolding sound_settling
returns-in_err-frame c =
    let a = c.args in
    let e : c.from_residual.result ≡ Err c.in_err-frame.field-0.0 = search rules in
    e ∙ frame_refuses a.bytes.now (drop 4 (sound_settling a.n a.m)) c.in_err-frame.field-0.0 (sym c.in_err-frame.was ∙ c.frame.ensures)

framed : (c : goal.In_ok-frame) → Framed c.args.bytes.now
framed c = right_frame c.args.bytes.now (sym c.in_ok-frame.was ∙ c.frame.ensures)

pub u16_at-requires : goal.u16_at-requires
u16_at-requires c = (framed c).head

pub returns-then-u16_at-ne8 : goal.returns-then-u16_at-ne8
returns-then-u16_at-ne8 c =
    let a = c.args in
    let right = right_frame a.bytes.now (sym c.in_ok-frame.was ∙ c.frame.ensures) in
    c.refused.ensures ∙ refuses tt (other_kind a.bytes.now a.n a.m right (λ e. c.if-u16_at-ne8.true (c.u16_at.ensures.0 ∙ e)))

pub returns-then-bytes-n : goal.returns-then-bytes-n
returns-then-bytes-n c =
    let a = c.args in
    let right = right_frame a.bytes.now (sym c.in_ok-frame.was ∙ c.frame.ensures) in
    c.refused-then-bytes-n.ensures ∙ refuses tt (bad_length a.bytes.now a.n a.m right (sym c.u16_at.ensures.0 ∙ c.if-u16_at-ne8.false) c.if-bytes-n.true)

pub settling_fault-requires : goal.settling_fault-requires
settling_fault-requires c =
    let a = c.args in
    (rw (settling_is, widths_append, widths_linear, widths_weights) (omega arith), search rules)

pub returns-in_err-settling_fault : goal.returns-in_err-settling_fault
returns-in_err-settling_fault c =
    let a = c.args in
    let right = right_frame a.bytes.now (sym c.in_ok-frame.was ∙ c.frame.ensures) in
    let p = err_from_is_err_and c.from_residual-in_err-settling_fault.result c.from_residual-in_err-settling_fault.ensures.1 in
    let told = values_told a.bytes.now a.n a.m right (sym c.u16_at.ensures.0 ∙ c.if-u16_at-ne8.false) c.if-bytes-n.false in
    rw (p.1, p.2, told) (handed_on _ _ _ _ c.in_err-settling_fault.ensures)

pub returns : goal.returns
returns c =
    let a = c.args in
    let right = right_frame a.bytes.now (sym c.in_ok-frame.was ∙ c.frame.ensures) in
    let told = values_told a.bytes.now a.n a.m right (sym c.u16_at.ensures.0 ∙ c.if-u16_at-ne8.false) c.if-bytes-n.false in
    rw told (went_on _ _ _ _ c.in_ok-settling_fault.ensures)
