-- A list of values as a source of numbers: what it answers of fields, and that this goes with fields in two parts.
use Rattle.std.specs.Prelude.{◌≡◌, ℕ, ◌+◌, ◌≤◌, List, length, Result}
use Rattle.std.proofs.Common.{ap, ◌∙◌, add-zero, arith}
use lib.ListN.{length-append}
use Rattle.refusal.specs.declared.Fault.{Fault}
use Rattle.refusal.specs.Faults.{result_of}
use Rattle.refusal.specs.Tests.{Told}
use Rattle.record.specs.Fields.{Field, widths}
use Rattle.record.proofs.FieldLaws.{widths_append}
use Rattle.record_fields.specs.Runs.{list_told}
use Rattle.record_fields.specs.Sources.{InParts}
use Rattle.record_fields.proofs.InParts.{Tells, in_parts, few_fields}
use Rattle.record_fields.proofs.ToldFaults.{list_told-none, list_told-append}
use Rattle.record_list_faults.specs.declared.in_list.InList.{InList}

abbrev told : InList → List Field → Told
told s fs = list_told fs s.values.now s.index s.place

-- the same list, from the index and the place where fields end
abbrev past : InList → List Field → InList
past s fs = record s { index = s.index + length fs; place = s.place + widths fs }

abbrev pub list_answer : InList → List Field → Result InList Fault
list_answer s fs = result_of (told s fs) (past s fs)

-- the fields end in the list, and in a record of no more than 65,536 bytes
abbrev pub list_has : InList → List Field → Type 0
list_has s fs = (s.index + length fs ≤ length s.values.now) × (s.place + widths fs ≤ 65536)

moved : (s : InList) (i j p q : ℕ) → i ≡ j → p ≡ q → ◌≡◌ {A = InList} (record s { index = i; place = p }) (record s { index = j; place = q })
moved s i j p q h k = ap (λ x. record s { index = x; place = p }) h ∙ ap (λ x. record s { index = j; place = x }) k

tells : Tells told past
unfolding widths
tells =
    record {
      told_none = λ s. list_told-none s.values.now s.index s.place;
      told_append = λ s fs gs. list_told-append s.values.now fs gs s.index s.place;
      past_none = λ s. moved s _ _ _ _ (add-zero s.index) (add-zero s.place);
      past_append = λ s fs gs. moved s _ _ _ _ (rw length-append (omega arith)) (rw widths_append (omega arith));
    }

pub list_in_parts : InParts list_answer list_has
list_in_parts =
    in_parts tells list_has
    (λ s fs gs h.
    let values : s.index + (length fs + length gs) ≤ length s.values.now = rw length-append at h.0 in
    let bytes : s.place + (widths fs + widths gs) ≤ 65536 = rw widths_append at h.1 in
    ((omega arith, omega arith), (omega arith, omega arith)))
    (λ s fs h. omega (arith, few_fields fs))
