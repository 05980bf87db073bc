-- A run whose fields all fit has no fault.
use Rattle.std.proofs.Common.{◌≡◌, refl, sym, ◌∙◌, arith, rules}
use Rattle.std.specs.Result.{IsErr}
use Rattle.refusal.specs.Tests.{Told, done, refused}
use Rattle.refusal.specs.Faults.{result_of}
use Rattle.refusal.proofs.FaultLaws.{gives}
use Rattle.record.proofs.Lengths.{widths_replicate}
use Rattle.record_fields.proofs.FieldRuns.{run_told-all, run_told-not_all}
use Rattle.record_faults.proofs.in_bytes.InBytesSource.run_fault.Goals as goal

pub run_fits-requires : goal.run_fits-requires
run_fits-requires g c =
    let wide = rw g.met.F.BodyField.wide at (widths_replicate c.args.count g.F.BodyField.field) in
    omega arith

pub overflow_mul-result : goal.overflow_mul-result
overflow_mul-result g c =
    let wide = rw (g.met.F.BodyField.wide ∙ sym c.WIDE.ensures) at (widths_replicate c.args.count g.F.BodyField.field) in
    omega arith

pub overflow_add-result : goal.overflow_add-result
overflow_add-result g c =
    let wide = rw (g.met.F.BodyField.wide ∙ sym c.WIDE.ensures) at (widths_replicate c.args.count g.F.BodyField.field) in
    omega arith

pub returns-then-run_fits : goal.returns-then-run_fits
returns-then-run_fits g c =
    let s = c.args.self in
    let wide = rw (g.met.F.BodyField.wide ∙ sym c.WIDE.ensures) at (widths_replicate c.args.count g.F.BodyField.field) in
    rw wide
    (gives _ (run_told-all g.F.BodyField.field s.bytes.now s.place c.args.count (sym c.run_fits.ensures ∙ c.if-run_fits.true)))

-- a run in which some field does not fit has a fault
err : {A : Type 0} (t : Told) (a : A) → (t ≡ done → ⊥) → IsErr (result_of t a)
unfolding result_of
err done a some = absurd (some refl)
err (refused k p) a some = search rules

pub unwrap_err-requires : goal.unwrap_err-requires
unwrap_err-requires g c =
    let s = c.args.self in
    rw c.walk.ensures
    (err _ _ (run_told-not_all g.F.BodyField.field s.bytes.now s.place c.args.count (sym c.run_fits.ensures ∙ c.if-run_fits.false)))
