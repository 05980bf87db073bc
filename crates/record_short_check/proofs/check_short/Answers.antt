-- `record_short_check::check_short` meets its contract.
use Rattle.std.proofs.Common.{◌≡◌, ◌+◌, ◌*◌, ◌∙◌, sym, ap, true, false, arith, rules, Err, pos}
use lib.ListN.{drop}
use Rattle.refusal.specs.Faults.{result_of}
use Rattle.refusal.proofs.FaultLaws.{refuses}
use Rattle.record.specs.Ranges.{rows, within}
use Rattle.record.proofs.CountLimits.{arguments_most}
use Rattle.record_check.specs.Framing.{Framed}
use Rattle.record_paths_check.proofs.OrderWays.{frame_refuses, right_frame}
use Rattle.record_short.specs.ShortRecords.{triples_in, sound_short}
use Rattle.record_short_check.specs.ShortChecks.{triples_told}
use Rattle.record_short_check.proofs.ShortWays.{other_kind, bad_arguments, no_count, bad_count, bad_length, triples_so}
use Rattle.record_short_check.proofs.check_short.Goals as goal

pub returns-in_err-frame : goal.returns-in_err-frame
unfolding sound_short
returns-in_err-frame c =
    let a = c.args in
    let e : c.from_residual.result ≡ Err c.in_err-frame.field-0.0 = search rules in
    e ∙ frame_refuses a.bytes.now (drop 4 (sound_short a.n a.m)) c.in_err-frame.field-0.0 (sym c.in_err-frame.was ∙ c.frame.ensures)

framed : (c : goal.In_ok-frame) → Framed c.args.bytes.now
framed c = right_frame c.args.bytes.now (sym c.in_ok-frame.was ∙ c.frame.ensures)

pub u16_at-requires : goal.u16_at-requires
u16_at-requires c = (framed c).head

pub returns-then-u16_at-ne7 : goal.returns-then-u16_at-ne7
returns-then-u16_at-ne7 c =
    let right = right_frame c.args.bytes.now (sym c.in_ok-frame.was ∙ c.frame.ensures) in
    c.refused.ensures ∙ refuses tt (other_kind _ _ _ right (λ e. c.if-u16_at-ne7.true (c.u16_at.ensures.0 ∙ e)))

pub returns-then-not-arguments_fit : goal.returns-then-not-arguments_fit
returns-then-not-arguments_fit c =
    let right = right_frame c.args.bytes.now (sym c.in_ok-frame.was ∙ c.frame.ensures) in
    let seven = sym c.u16_at.ensures.0 ∙ c.if-u16_at-ne7.false in
    c.refused-then-not-arguments_fit.ensures ∙ refuses tt (bad_arguments _ _ _ right seven (sym c.arguments_fit.ensures ∙ c.if-not-arguments_fit.true))

pub returns-then-bytes-lt8 : goal.returns-then-bytes-lt8
returns-then-bytes-lt8 c =
    let right = right_frame c.args.bytes.now (sym c.in_ok-frame.was ∙ c.frame.ensures) in
    let seven = sym c.u16_at.ensures.0 ∙ c.if-u16_at-ne7.false in
    let fit = sym c.arguments_fit.ensures ∙ c.if-not-arguments_fit.false in
    c.refused-then-bytes-lt8.ensures ∙ refuses tt (no_count _ _ _ right seven fit c.if-bytes-lt8.true)

pub returns-then-not-rows_fit : goal.returns-then-not-rows_fit
unfolding triples_in
returns-then-not-rows_fit c =
    let right = right_frame c.args.bytes.now (sym c.in_ok-frame.was ∙ c.frame.ensures) in
    let seven = sym c.u16_at.ensures.0 ∙ c.if-u16_at-ne7.false in
    let fit = sym c.arguments_fit.ensures ∙ c.if-not-arguments_fit.false in
    let out : within rows (pos (triples_in c.args.bytes.now)) ≡ false = rw (← c.u16_at-count.ensures.0) (sym c.rows_fit.ensures ∙ c.if-not-rows_fit.true) in
    c.refused-then-not-rows_fit.ensures ∙ refuses tt (bad_count _ _ _ right seven fit c.if-bytes-lt8.false out)

pub returns-then-bytes-count : goal.returns-then-bytes-count
unfolding triples_in
returns-then-bytes-count c =
    let right = right_frame c.args.bytes.now (sym c.in_ok-frame.was ∙ c.frame.ensures) in
    let seven = sym c.u16_at.ensures.0 ∙ c.if-u16_at-ne7.false in
    let fit = sym c.arguments_fit.ensures ∙ c.if-not-arguments_fit.false in
    let read = c.u16_at-count.ensures.0 in
    let in_range : within rows (pos (triples_in c.args.bytes.now)) ≡ true = rw (← read) (sym c.rows_fit.ensures ∙ c.if-not-rows_fit.false) in
    c.refused-then-bytes-count.ensures
    ∙ refuses tt (bad_length _ _ _ right seven fit c.if-bytes-lt8.false in_range (λ e. c.if-bytes-count.true (e ∙ ap (λ t. 8 + 6 * t) (sym read))))

pub triples-requires : goal.triples-requires
triples-requires c = (omega arith, (arguments_most c.args.n c.args.m (sym c.arguments_fit.ensures ∙ c.if-not-arguments_fit.false)).1)

pub returns : goal.returns
unfolding triples_in
returns c =
    let a = c.args in
    let right = right_frame a.bytes.now (sym c.in_ok-frame.was ∙ c.frame.ensures) in
    let seven = sym c.u16_at.ensures.0 ∙ c.if-u16_at-ne7.false in
    let fit = sym c.arguments_fit.ensures ∙ c.if-not-arguments_fit.false in
    let read = c.u16_at-count.ensures.0 in
    let in_range : within rows (pos (triples_in a.bytes.now)) ≡ true = rw (← read) (sym c.rows_fit.ensures ∙ c.if-not-rows_fit.false) in
    let told = triples_so a.n a.m a.bytes.now right seven fit c.if-bytes-lt8.false in_range (c.if-bytes-count.false ∙ ap (λ t. 8 + 6 * t) read) in
    c.triples.ensures ∙ ap (λ t. result_of (triples_told a.m a.bytes.now t) tt) read ∙ ap (λ t. result_of t tt) (sym told)
