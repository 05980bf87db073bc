-- `record_paths_check::lists_told` meets its contract.
use Rattle.std.proofs.Common.{◌≡◌, ◌+◌, ◌*◌, ◌≤◌, ◌∙◌, sym, arith, rules, Err}
use native.Mathlib.Nat.{mul-le-mul}
use Rattle.std.proofs.lemmas.Result.{err_from_is_err_and}
use Rattle.record.specs.Fields.{width}
use Rattle.record.specs.Layouts.{multiplier}
use Rattle.record.proofs.FieldLaws.{widths_append}
use Rattle.record.proofs.Lengths.{widths_replicate}
use Rattle.record_paths.proofs.PathWidths.{widths_components}
use Rattle.refusal.proofs.FaultLaws.{refuses, handed_on, went_on}
use Rattle.record_paths.specs.PathCertificates.{counted}
use Rattle.record_paths.specs.PathLoops.{variables_in, paths_in}
use Rattle.record_paths.proofs.PathsSound.{PathsSound, paths_sound}
use Rattle.record_paths_check.specs.PathChecks.{component_there, multipliers_of}
use Rattle.record_paths_check.proofs.ArgumentWays.{few_components, no_numbers, missing, lists_small, bad_length, values_told}
use Rattle.record_paths_check.proofs.PathWalks.{walk_refused}
use Rattle.record_paths_check.proofs.lists_told.Goals as goal

pub u16_at-paths-requires : goal.u16_at-paths-requires
u16_at-paths-requires c = omega (arith, (paths_sound c.args.loopbytes.now c.requires.loop_sound).long)

pub returns-then-end-start : goal.returns-then-end-start
unfolding counted variables_in paths_in
returns-then-end-start c =
    let a = c.args in
    c.refused.ensures
    ∙ refuses tt
    (no_numbers (counted a.loopbytes.now) a.bytes.now a.components c.requires.components_counted c.u16_at-paths.result c.u16_at-paths.ensures.0 c.if-end-start.true)

pub lists_walked-requires-clause-numbered : goal.lists_walked-requires-clause-numbered
unfolding paths_in
lists_walked-requires-clause-numbered c =
    record { loop_sound = c.requires.loop_sound; paths_read = c.u16_at-paths.ensures.0; there = c.if-end-start.false }

pub lists_walked-requires-clause-few_components : goal.lists_walked-requires-clause-few_components
lists_walked-requires-clause-few_components c = few_components (counted c.args.loopbytes.now) c.args.bytes.now c.args.components c.requires.components_counted

pub returns-in_err-multipliers : goal.returns-in_err-multipliers
unfolding counted variables_in paths_in
returns-in_err-multipliers c =
    let a = c.args in
    let e : c.from_residual.result ≡ Err c.in_err-multipliers.field-0.0 = search rules in
    let told = walk_refused 14 8 c.u16_at-paths.result (component_there a.components a.bytes.now) (multipliers_of a.loopbytes.now a.bytes.now)
    c.in_err-multipliers.field-0.0 (sym c.in_err-multipliers.was ∙ c.lists_walked.ensures) in
    e
    ∙ refuses tt
    (missing (counted a.loopbytes.now) a.bytes.now a.components c.requires.components_counted c.u16_at-paths.result c.u16_at-paths.ensures.0 c.if-end-start.false told)

pub u16_at-n-requires : goal.u16_at-n-requires
u16_at-n-requires c = omega (arith, (paths_sound c.args.loopbytes.now c.requires.loop_sound).long)

-- ---- once n has been read too: the formula stays small

module _ (c : goal.After-u16_at-n) where
  sound : PathsSound c.args.loopbytes.now
  sound = paths_sound c.args.loopbytes.now c.requires.loop_sound

  n_small : c.u16_at-n.result ≤ 16
  unfolding variables_in
  n_small = rw c.u16_at-n.ensures.0 sound.few_variables

  paths_small : c.u16_at-paths.result ≤ 8
  unfolding paths_in
  paths_small = rw c.u16_at-paths.ensures.0 sound.few_paths

  components_small : c.args.components * (4 * c.u16_at-n.result + 8) ≤ 8 * 72
  components_small =
      let wide : 4 * c.u16_at-n.result + 8 ≤ 72 = omega (arith, n_small) in
      mul-le-mul (few_components (counted c.args.loopbytes.now) c.args.bytes.now c.args.components c.requires.components_counted) wide

  lists_few : c.in_ok-multipliers.multipliers ≤ 8 * 576
  unfolding counted paths_in
  lists_few =
      let a = c.args in
      let sum = lists_small (counted a.loopbytes.now) a.bytes.now a.components c.requires.components_counted c.u16_at-paths.result c.u16_at-paths.ensures.0
      c.if-end-start.false c.in_ok-multipliers.multipliers (sym c.in_ok-multipliers.was ∙ c.lists_walked.ensures)
      (λ j below. sound.few_rows j (omega (arith, c.u16_at-paths.ensures.0))) in
      omega (arith, sum, paths_small)

pub overflow_mul-components : goal.overflow_mul-components
overflow_mul-components c = omega (arith, components_small c)

pub overflow_add-start-2 : goal.overflow_add-start-2
overflow_add-start-2 c = omega (arith, components_small c, paths_small c)

pub overflow_mul-multipliers : goal.overflow_mul-multipliers
overflow_mul-multipliers c = omega (arith, lists_few c)

pub overflow_add-start-3 : goal.overflow_add-start-3
overflow_add-start-3 c = omega (arith, lists_few c, components_small c, paths_small c)

pub returns-then-end-start-2 : goal.returns-then-end-start-2
unfolding counted variables_in paths_in
returns-then-end-start-2 c =
    let a = c.args in
    c.refused-then-end-start-2.ensures
    ∙ refuses tt
    (bad_length (counted a.loopbytes.now) a.bytes.now a.components c.requires.components_counted c.u16_at-paths.result c.u16_at-paths.ensures.0 c.if-end-start.false
    c.in_ok-multipliers.multipliers (sym c.in_ok-multipliers.was ∙ c.lists_walked.ensures) c.u16_at-n.result c.u16_at-n.ensures.0 c.if-end-start-2.true)

pub argument_fault-requires : goal.argument_fault-requires
unfolding width multiplier
argument_fault-requires c = (simp (widths_append, widths_components, widths_replicate) (omega arith), search rules)

pub returns-in_err-argument_fault : goal.returns-in_err-argument_fault
unfolding counted variables_in paths_in
returns-in_err-argument_fault c =
    let a = c.args in
    let p = err_from_is_err_and c.from_residual-in_err-argument_fault.result c.from_residual-in_err-argument_fault.ensures.1 in
    let told =
    values_told (counted a.loopbytes.now) a.bytes.now a.components c.requires.components_counted c.u16_at-paths.result c.u16_at-paths.ensures.0 c.if-end-start.false
    c.in_ok-multipliers.multipliers (sym c.in_ok-multipliers.was ∙ c.lists_walked.ensures) c.u16_at-n.result c.u16_at-n.ensures.0 c.if-end-start-2.false in
    rw (p.1, p.2, told) (handed_on _ _ _ _ c.in_err-argument_fault.ensures)

pub returns : goal.returns
unfolding counted variables_in paths_in
returns c =
    let a = c.args in
    let told =
    values_told (counted a.loopbytes.now) a.bytes.now a.components c.requires.components_counted c.u16_at-paths.result c.u16_at-paths.ensures.0 c.if-end-start.false
    c.in_ok-multipliers.multipliers (sym c.in_ok-multipliers.was ∙ c.lists_walked.ensures) c.u16_at-n.result c.u16_at-n.ensures.0 c.if-end-start-2.false in
    rw told (went_on _ _ _ _ c.in_ok-argument_fault.ensures)
