-- `record_paths_check::check_lexicographic` meets its contract.
use Rattle.std.proofs.Common.{◌≡◌, ◌∙◌, sym, false, rules, Err, pos}
use lib.ListN.{drop}
use Rattle.refusal.proofs.FaultLaws.{refuses}
use Rattle.record.specs.Ranges.{within}
use Rattle.record_check.specs.Framing.{Framed}
use Rattle.record_paths.specs.PathCertificates.{counted, components_in, sound_lexicographic}
use Rattle.record_paths.specs.PathFields.{component_counts}
use Rattle.record_paths_check.proofs.ArgumentWays.{other_kind, no_count, bad_count}
use Rattle.record_paths_check.proofs.OrderWays.{frame_refuses, right_frame}
use Rattle.record_paths_check.proofs.check_lexicographic.Goals as goal

pub returns-in_err-frame : goal.returns-in_err-frame
unfolding sound_lexicographic
returns-in_err-frame c =
    let a = c.args in
    let e : c.from_residual.result ≡ Err c.in_err-frame.field-0.0 = search rules in
    e
    ∙ frame_refuses a.bytes.now (drop 4 (sound_lexicographic (counted a.loopbytes.now))) c.in_err-frame.field-0.0 (sym c.in_err-frame.was ∙ c.frame.ensures)

framed : (c : goal.In_ok-frame) → Framed c.args.bytes.now
framed c = right_frame c.args.bytes.now (sym c.in_ok-frame.was ∙ c.frame.ensures)

pub u16_at-requires : goal.u16_at-requires
u16_at-requires c = (framed c).head

pub returns-then-u16_at-ne6 : goal.returns-then-u16_at-ne6
returns-then-u16_at-ne6 c =
    let a = c.args in
    let right = right_frame a.bytes.now (sym c.in_ok-frame.was ∙ c.frame.ensures) in
    c.refused.ensures ∙ refuses tt (other_kind (counted a.loopbytes.now) a.bytes.now right (λ e. c.if-u16_at-ne6.true (c.u16_at.ensures.0 ∙ e)))

pub returns-then-bytes-lt8 : goal.returns-then-bytes-lt8
returns-then-bytes-lt8 c =
    let a = c.args in
    let right = right_frame a.bytes.now (sym c.in_ok-frame.was ∙ c.frame.ensures) in
    c.refused-then-bytes-lt8.ensures
    ∙ refuses tt (no_count (counted a.loopbytes.now) a.bytes.now right (sym c.u16_at.ensures.0 ∙ c.if-u16_at-ne6.false) c.if-bytes-lt8.true)

pub returns-then-not-between : goal.returns-then-not-between
unfolding components_in component_counts
returns-then-not-between c =
    let a = c.args in
    let right = right_frame a.bytes.now (sym c.in_ok-frame.was ∙ c.frame.ensures) in
    let out : within component_counts (pos (components_in a.bytes.now)) ≡ false
    = rw (← c.u16_at-components.ensures.0) (sym c.between.ensures ∙ c.if-not-between.true) in
    c.refused-then-not-between.ensures
    ∙ refuses tt (bad_count (counted a.loopbytes.now) a.bytes.now right (sym c.u16_at.ensures.0 ∙ c.if-u16_at-ne6.false) c.if-bytes-lt8.false out)

pub lists_told-requires-clause-components_counted : goal.lists_told-requires-clause-components_counted
unfolding components_in component_counts
lists_told-requires-clause-components_counted c =
    record {
      frame = right_frame c.args.bytes.now (sym c.in_ok-frame.was ∙ c.frame.ensures);
      numbered = sym c.u16_at.ensures.0 ∙ c.if-u16_at-ne6.false;
      there = c.if-bytes-lt8.false;
      read = c.u16_at-components.ensures.0;
      fit = sym c.between.ensures ∙ c.if-not-between.false;
    }
