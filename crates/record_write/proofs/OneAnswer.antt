-- The writer's promise leaves one possible answer: two answers, each a writing and a room afterwards, that meet its contract on the same kind, counts, values
-- and room are equal. The contract is the one that the check sees, `Learnt`.
use mathlib.Core.Path.{sym, ◌∙◌}
use Rattle.refusal.specs.Single.{Single}
use Rattle.record_write.proofs.write_record.Kinds.{ps, r}
use Rattle.record_write.proofs.write_record.Reads.{Learnt}

-- lent: the room
pub one_answer : Single 2 ps r Learnt (λ κs s. s.1.1.1.1.0.now)
one_answer κs a x y s t p q = (p.0 ∙ sym q.0, p.1 ∙ sym q.1)
