-- `record_paths_check::check_paths` meets its contract.
use Rattle.std.proofs.Common.{◌≡◌, ◌∙◌, sym, true, false, rules, Err, pos}
use lib.ListN.{drop}
use Rattle.refusal.proofs.FaultLaws.{refuses}
use Rattle.record.specs.Ranges.{variables, within}
use Rattle.record_check.specs.Framing.{Framed}
use Rattle.record_paths.specs.PathFields.{path_counts}
use Rattle.record_paths.specs.PathLoops.{variables_in, paths_in, sound_paths}
use Rattle.record_paths_check.proofs.OrderWays.{frame_refuses, right_frame}
use Rattle.record_paths_check.proofs.PathWays.{other_kind, no_counts, bad_n, bad_paths}
use Rattle.record_paths_check.proofs.check_paths.Goals as goal

pub returns-in_err-frame : goal.returns-in_err-frame
unfolding sound_paths
returns-in_err-frame c =
    let e : c.from_residual.result ≡ Err c.in_err-frame.field-0.0 = search rules in
    e ∙ frame_refuses c.args.bytes.now (drop 4 sound_paths) c.in_err-frame.field-0.0 (sym c.in_err-frame.was ∙ c.frame.ensures)

framed : (c : goal.In_ok-frame) → Framed c.args.bytes.now
framed c = right_frame c.args.bytes.now (sym c.in_ok-frame.was ∙ c.frame.ensures)

pub u16_at-requires : goal.u16_at-requires
u16_at-requires c = (framed c).head

pub returns-then-u16_at-ne5 : goal.returns-then-u16_at-ne5
returns-then-u16_at-ne5 c =
    let right = right_frame c.args.bytes.now (sym c.in_ok-frame.was ∙ c.frame.ensures) in
    c.refused.ensures ∙ refuses tt (other_kind c.args.bytes.now right (λ e. c.if-u16_at-ne5.true (c.u16_at.ensures.0 ∙ e)))

pub returns-then-bytes-lt10 : goal.returns-then-bytes-lt10
returns-then-bytes-lt10 c =
    let right = right_frame c.args.bytes.now (sym c.in_ok-frame.was ∙ c.frame.ensures) in
    c.refused-then-bytes-lt10.ensures ∙ refuses tt (no_counts c.args.bytes.now right (sym c.u16_at.ensures.0 ∙ c.if-u16_at-ne5.false) c.if-bytes-lt10.true)

pub returns-then-not-variables_fit : goal.returns-then-not-variables_fit
unfolding variables_in
returns-then-not-variables_fit c =
    let b = c.args.bytes.now in
    let right = right_frame b (sym c.in_ok-frame.was ∙ c.frame.ensures) in
    let out : within variables (pos (variables_in b)) ≡ false = rw (← c.u16_at-n.ensures.0) (sym c.variables_fit.ensures ∙ c.if-not-variables_fit.true) in
    c.refused-then-not-variables_fit.ensures ∙ refuses tt (bad_n b right (sym c.u16_at.ensures.0 ∙ c.if-u16_at-ne5.false) c.if-bytes-lt10.false out)

pub returns-then-not-between : goal.returns-then-not-between
unfolding variables_in paths_in path_counts
returns-then-not-between c =
    let b = c.args.bytes.now in
    let right = right_frame b (sym c.in_ok-frame.was ∙ c.frame.ensures) in
    let out : within path_counts (pos (paths_in b)) ≡ false = rw (← c.u16_at-paths.ensures.0) (sym c.between.ensures ∙ c.if-not-between.true) in
    let fit : within variables (pos (variables_in b)) ≡ true = rw (← c.u16_at-n.ensures.0) (sym c.variables_fit.ensures ∙ c.if-not-variables_fit.false) in
    c.refused-then-not-between.ensures ∙ refuses tt (bad_paths b right (sym c.u16_at.ensures.0 ∙ c.if-u16_at-ne5.false) c.if-bytes-lt10.false fit out)

pub rows_told-requires : goal.rows_told-requires
unfolding variables_in paths_in path_counts
rows_told-requires c =
    record {
      frame = right_frame c.args.bytes.now (sym c.in_ok-frame.was ∙ c.frame.ensures);
      numbered = sym c.u16_at.ensures.0 ∙ c.if-u16_at-ne5.false;
      there = c.if-bytes-lt10.false;
      n_read = c.u16_at-n.ensures.0;
      n_fits = sym c.variables_fit.ensures ∙ c.if-not-variables_fit.false;
      paths_read = c.u16_at-paths.ensures.0;
      paths_fit = sym c.between.ensures ∙ c.if-not-between.false;
    }
