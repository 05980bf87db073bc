-- The promises of the two calls leave one possible answer each: two answers, each a writing and a room afterwards, that meet the contract on the
-- same bytes, n, m and room are equal. The contracts are those that the check sees, `Learnt`.
use mathlib.Core.Path.{sym, ◌∙◌}
use Rattle.refusal.specs.Single.{Single}
use Rattle.record_short_write.proofs.shorten.Kinds as shorten-kinds
use Rattle.record_short_write.proofs.shorten.Reads as shorten-reads
use Rattle.record_short_write.proofs.lengthen.Kinds as lengthen-kinds
use Rattle.record_short_write.proofs.lengthen.Reads as lengthen-reads

-- lent: the room
pub one_answer_shorten : Single 2 shorten-kinds.ps shorten-kinds.r shorten-reads.Learnt (λ κs s. s.1.1.1.0.now)
one_answer_shorten κs a x y s t p q = (p.0 ∙ sym q.0, p.1 ∙ sym q.1)

pub one_answer_lengthen : Single 2 lengthen-kinds.ps lengthen-kinds.r lengthen-reads.Learnt (λ κs s. s.1.1.1.0.now)
one_answer_lengthen κs a x y s t p q = (p.0 ∙ sym q.0, p.1 ∙ sym q.1)
