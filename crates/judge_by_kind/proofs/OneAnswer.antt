-- The judge's promise leaves one possible answer: two answers, each a verdict and a rank list afterwards, that meet its contract on the same records and list
-- are equal. The contract is the one that the check sees, `Learnt`.
use mathlib.Core.Path.{sym, ◌∙◌}
use Rattle.refusal.specs.Single.{Single}
use Rattle.judge_by_kind.proofs.judge.Kinds.{ps, r}
use Rattle.judge_by_kind.proofs.judge.Reads.{Learnt}

-- lent: the rank list
pub one_answer : Single 3 ps r Learnt (λ κs s. s.1.1.0.now)
one_answer κs a x y s t p q = (p.0 ∙ sym q.0, p.1 ∙ sym q.1)
