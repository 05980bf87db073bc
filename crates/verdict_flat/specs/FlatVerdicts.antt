-- A verdict as fields that are numbers, one after another. An outcome cannot cross to other languages as it is, so it goes as the numbers
-- that `numbers` of crate `verdict` gives it.
use Rattle.verdict.specs.Outcomes.{Numbers, numbers}
use Rattle.verdict.specs.declared.Verdict.{Verdict}
use Rattle.verdict_flat.specs.declared.FlatVerdict.{FlatVerdict}

-- a verdict whose outcome is told in numbers
abbrev pub told : Verdict → Numbers → FlatVerdict
told v o =
    record {
      number = v.number;
      place = v.place;
      «record» = v.about;
      outcome = o.kind;
      start = o.start;
      fall = o.fall;
      grade = o.grade;
    }

abbrev pub flat_verdict : Verdict → FlatVerdict
flat_verdict v = told v (numbers v.outcome)
