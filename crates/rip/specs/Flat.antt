-- An answer as C gets it: fields that are numbers, one after another. A verdict's are those of crate `verdict_flat`.
use Rattle.record.specs.declared.Reading.{Reading}
use Rattle.record.specs.declared.Writing.{Writing}
use Rattle.verdict.specs.declared.Bounded.{Bounded}
use Rattle.verdict_flat.specs.FlatVerdicts.{flat_verdict}
use Rattle.verdict_flat.specs.declared.FlatVerdict.{FlatVerdict}
use Rattle.verdict_batch.specs.declared.Batched.{Batched}
use Rattle.rip.specs.declared.FlatBatch.{FlatBatch}
use Rattle.rip.specs.declared.FlatBounded.{FlatBounded}
use Rattle.rip.specs.declared.FlatReading.{FlatReading}
use Rattle.rip.specs.declared.FlatWriting.{FlatWriting}

abbrev pub flat_reading : Reading → FlatReading
flat_reading r = record { number = r.number; place = r.place; kind = r.kind; n = r.n; m = r.m; count = r.count }

abbrev pub flat_writing : Writing → FlatWriting
flat_writing w = record { number = w.number; place = w.place; written = w.written }

-- the verdict's fields, then the bound
abbrev pub beside : FlatVerdict → Bounded → FlatBounded
beside v b =
    record {
      number = v.number;
      place = v.place;
      «record» = v.«record»;
      outcome = v.outcome;
      start = v.start;
      fall = v.fall;
      grade = v.grade;
      bound = b.bound;
    }

abbrev pub flat_bounded : Bounded → FlatBounded
flat_bounded b = beside (flat_verdict b.verdict) b

abbrev pub flat_batch : Batched → FlatBatch
flat_batch b = record { number = b.number; place = b.place; «record» = b.about; count = b.count }
