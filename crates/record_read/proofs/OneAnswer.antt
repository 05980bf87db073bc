-- The promises of the two readers leave one possible answer: two answers, each a reading and a list afterwards, that meet a reader's contract on the same
-- bytes, arguments and list are equal. The contract is the one that the check sees, `Learnt`.
use mathlib.Core.Path.{sym, ◌∙◌}
use Rattle.refusal.specs.Single.{Single}
use Rattle.record_read.proofs.read_loop.Kinds as loop-kinds
use Rattle.record_read.proofs.read_loop.Reads as loop-reads
use Rattle.record_read.proofs.read_certificate.Kinds as certificate-kinds
use Rattle.record_read.proofs.read_certificate.Reads as certificate-reads

-- lent: the list of values
pub one_answer_loop : Single 2 loop-kinds.ps loop-kinds.r loop-reads.Learnt (λ κs s. s.1.0.now)
one_answer_loop κs a x y s t p q = (p.0 ∙ sym q.0, p.1 ∙ sym q.1)

-- lent: the list of values
pub one_answer_certificate : Single 2 certificate-kinds.ps certificate-kinds.r certificate-reads.Learnt (λ κs s. s.1.1.1.0.now)
one_answer_certificate κs a x y s t p q = (p.0 ∙ sym q.0, p.1 ∙ sym q.1)
