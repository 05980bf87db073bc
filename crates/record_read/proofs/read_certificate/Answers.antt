-- `record_read::read_certificate` meets its contract.
use Rattle.std.proofs.Common.{◌∙◌, refl, sym}
use Rattle.record.specs.Readers.{certificate_reader}
use Rattle.record_check.proofs.CheckAnswers.{certificate_any_room}
use Rattle.record_read.proofs.Unpacked.{sized, unpack_reads, refused_reads}
use Rattle.record_read.proofs.read_certificate.Goals as goal

pub unpack-requires : goal.unpack-requires
unfolding certificate_reader
unpack-requires c =
    let a = c.args in
    sized (certificate_reader a.bytes.now a.n a.m a.values.now) a.values.now refl c.in-Ok.found (sym c.in-Ok.is ∙ c.check_certificate.ensures ∙ certificate_any_room a.bytes.now a.n a.m a.values.now)

pub returns-in-Ok : goal.returns-in-Ok
unfolding certificate_reader
returns-in-Ok c =
    let a = c.args in
    let way = unpack_reads (certificate_reader a.bytes.now a.n a.m a.values.now) a.values.now refl c.in-Ok.found (sym c.in-Ok.is ∙ c.check_certificate.ensures ∙ certificate_any_room a.bytes.now a.n a.m a.values.now) in
    record { value = c.unpack.ensures.value ∙ way.0; values_after = c.unpack.ensures.values_after ∙ way.1 }

pub returns-in-Err : goal.returns-in-Err
unfolding certificate_reader
returns-in-Err c =
    let a = c.args in
    let way = refused_reads (certificate_reader a.bytes.now a.n a.m a.values.now) a.values.now refl c.in-Err.fault (sym c.in-Err.is ∙ c.check_certificate.ensures ∙ certificate_any_room a.bytes.now a.n a.m a.values.now) in
    record { value = c.refused.ensures ∙ way.0; values_after = way.1 }
