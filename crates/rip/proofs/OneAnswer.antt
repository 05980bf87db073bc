-- Each export's promise leaves one possible answer: two answers, each with what was lent as it is afterwards, that meet its contract on one input are equal.
-- The contract is the one that the check sees, `Learnt`.
use mathlib.Core.Path.{refl, sym, ◌∙◌}
use Rattle.refusal.specs.Single.{Single}
use Rattle.rip.proofs.cushiedoo_read_loop.Kinds as read_loop
use Rattle.rip.proofs.cushiedoo_read_loop.Reads as read-loop-reads
use Rattle.rip.proofs.cushiedoo_read_certificate.Kinds as read_certificate
use Rattle.rip.proofs.cushiedoo_read_certificate.Reads as read-certificate-reads
use Rattle.rip.proofs.cushiedoo_write_record.Kinds as write-record
use Rattle.rip.proofs.cushiedoo_write_record.Reads as write-record-reads
use Rattle.rip.proofs.cushiedoo_shorten.Kinds as shorten
use Rattle.rip.proofs.cushiedoo_shorten.Reads as shorten-reads
use Rattle.rip.proofs.cushiedoo_lengthen.Kinds as lengthen
use Rattle.rip.proofs.cushiedoo_lengthen.Reads as lengthen-reads
use Rattle.rip.proofs.cushiedoo_judge.Kinds as judge
use Rattle.rip.proofs.cushiedoo_judge.Reads as judge-reads
use Rattle.rip.proofs.cushiedoo_judge_all.Kinds as judge_all
use Rattle.rip.proofs.cushiedoo_judge_all.Reads as judge-all-reads
use Rattle.rip.proofs.cushiedoo_bound.Kinds as bound
use Rattle.rip.proofs.cushiedoo_bound.Reads as bound-reads
use Rattle.rip.proofs.cushiedoo_sheet.Kinds as sheet
use Rattle.rip.proofs.cushiedoo_sheet.Reads as sheet-reads

-- lent: the list of values
pub one_answer_read_loop : Single 2 read_loop.ps read_loop.r read-loop-reads.Learnt (λ κs s. s.1.0.now)
one_answer_read_loop κs a x y s t p q = (p.0 ∙ sym q.0, p.1 ∙ sym q.1)

-- lent: the list of values
pub one_answer_read_certificate : Single 2 read_certificate.ps read_certificate.r read-certificate-reads.Learnt (λ κs s. s.1.1.1.0.now)
one_answer_read_certificate κs a x y s t p q = (p.0 ∙ sym q.0, p.1 ∙ sym q.1)

-- lent: the room
pub one_answer_write_record : Single 2 write-record.ps write-record.r write-record-reads.Learnt (λ κs s. s.1.1.1.1.0.now)
one_answer_write_record κs a x y s t p q = (p.0 ∙ sym q.0, p.1 ∙ sym q.1)

-- lent: the room
pub one_answer_shorten : Single 2 shorten.ps shorten.r shorten-reads.Learnt (λ κs s. s.1.1.1.0.now)
one_answer_shorten κs a x y s t p q = (p.0 ∙ sym q.0, p.1 ∙ sym q.1)

-- lent: the room
pub one_answer_lengthen : Single 2 lengthen.ps lengthen.r lengthen-reads.Learnt (λ κs s. s.1.1.1.0.now)
one_answer_lengthen κs a x y s t p q = (p.0 ∙ sym q.0, p.1 ∙ sym q.1)

-- lent: the rank list
pub one_answer_judge : Single 3 judge.ps judge.r judge-reads.Learnt (λ κs s. s.1.1.0.now)
one_answer_judge κs a x y s t p q = (p.0 ∙ sym q.0, p.1 ∙ sym q.1)

-- lent: the row of verdicts, and the rank numbers
pub one_answer_judge_all : Single 4 judge_all.ps judge_all.r judge-all-reads.Learnt (λ κs s. s.1.1.0.now)
one_answer_judge_all κs a x y s t p q = (p.0 ∙ sym q.0, p.1.0 ∙ sym q.1.0)

pub one_answer_judge_all_ranks : Single 4 judge_all.ps judge_all.r judge-all-reads.Learnt (λ κs s. s.1.1.1.0.now)
one_answer_judge_all_ranks κs a x y s t p q = (p.0 ∙ sym q.0, p.1.1 ∙ sym q.1.1)

-- lent to be changed: nothing
pub one_answer_bound : Single 3 bound.ps bound.r bound-reads.Learnt {L = Unit {0}} (λ κs s. tt)
one_answer_bound κs a x y s t p q = (p ∙ sym q, refl)

-- lent: the room for the text
pub one_answer_sheet : Single 2 sheet.ps sheet.r sheet-reads.Learnt (λ κs s. s.1.0.now)
one_answer_sheet κs a x y s t p q = (p.0 ∙ sym q.0, p.1 ∙ sym q.1)
