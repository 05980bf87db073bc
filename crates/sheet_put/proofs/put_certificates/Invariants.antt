-- The lines of the certificates that are left are still to come, and each certificate before has raised the count by one.
use Rattle.std.proofs.Common.{◌≡◌, ◌+◌, length}
use Rattle.decimal.proofs.TextLaws.{SoFar}
use Rattle.record_parting.specs.Parting.{records}
use Rattle.sheet_text.specs.Sheets.{lines}
use Rattle.sheet_put.proofs.put_certificates.Given as goal

abbrev pub invariant-loop-certificate : goal.invariant-loop-certificate
invariant-loop-certificate l =
    (l.count + length (records l.certificate-iterator.0.now) ≡ 1 + length (records l.certificates))
    × SoFar l.initial.text (lines l.looped.bytes.now 1 (records l.certificates)) l.text (lines l.looped.bytes.now l.count (records l.certificate-iterator.0.now))
