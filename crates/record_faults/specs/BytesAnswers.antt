-- Bytes as a source of numbers: what they answer of fields, and that this goes with fields in two parts.
use Rattle.std.specs.Prelude.{◌≡◌, ℕ, ◌+◌, ◌<◌, ◌≤◌, ◌^◌, List, length, Result}
use Rattle.std.proofs.Common.{ap, add-zero, arith}
use Rattle.refusal.specs.declared.Fault.{Fault}
use Rattle.refusal.specs.Faults.{result_of}
use Rattle.refusal.specs.Tests.{Told}
use Rattle.record.specs.Fields.{Field, widths}
use Rattle.record.proofs.FieldLaws.{widths_append}
use Rattle.record_fields.specs.Runs.{run_told}
use Rattle.record_fields.specs.Sources.{InParts}
use Rattle.record_fields.proofs.InParts.{Tells, in_parts, few_fields}
use Rattle.record_fields.proofs.ToldFaults.{run_told-none, run_told-append}
use Rattle.record_faults.specs.declared.in_bytes.InBytes.{InBytes}

abbrev told : InBytes → List Field → Told
told s fs = run_told fs s.bytes.now s.place

-- the same bytes, from where fields end
abbrev past : InBytes → List Field → InBytes
past s fs = record s { place = s.place + widths fs }

abbrev pub bytes_answer : InBytes → List Field → Result InBytes Fault
bytes_answer s fs = result_of (told s fs) (past s fs)

-- the fields end in the bytes, which are a slice
abbrev pub bytes_have : InBytes → List Field → Type 0
bytes_have s fs = (s.place + widths fs ≤ length s.bytes.now) × (length s.bytes.now < 2 ^ 63)

moved : (s : InBytes) (p q : ℕ) → p ≡ q → ◌≡◌ {A = InBytes} (record s { place = p }) (record s { place = q })
moved s p q h = ap (λ k. record s { place = k }) h

tells : Tells told past
unfolding widths
tells =
    record {
      told_none = λ s. run_told-none s.bytes.now s.place;
      told_append = λ s fs gs. run_told-append s.bytes.now fs gs s.place;
      past_none = λ s. moved s _ _ (add-zero s.place);
      past_append = λ s fs gs. moved s _ _ (rw widths_append (omega arith));
    }

pub bytes_in_parts : InParts bytes_answer bytes_have
bytes_in_parts =
    in_parts tells bytes_have
    (λ s fs gs h.
    let there : s.place + (widths fs + widths gs) ≤ length s.bytes.now = rw widths_append at h.0 in
    ((omega arith, h.1), (omega arith, h.1)))
    (λ s fs h. omega (arith, few_fields fs))
