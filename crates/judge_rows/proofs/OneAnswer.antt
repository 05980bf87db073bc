-- What `judge_rows` promises leaves one answer: any two results, rows and rank numbers that a caller may learn of one call are equal. The promise is the one the check sees,
-- `Learnt`.
use mathlib.Core.Path.{sym, ◌∙◌}
use Rattle.refusal.specs.Single.{Single}
use Rattle.judge_rows.proofs.judge_rows.Kinds.{ps, r}
use Rattle.judge_rows.proofs.judge_rows.Reads.{Learnt}

-- lent: the rows
pub one_answer_rows : Single 4 ps r Learnt (λ κs s. s.1.1.0.now)
one_answer_rows κs a x y s t p q = (p.0 ∙ sym q.0, p.1.0 ∙ sym q.1.0)

-- lent: the rank numbers
pub one_answer_ranks : Single 4 ps r Learnt (λ κs s. s.1.1.1.0.now)
one_answer_ranks κs a x y s t p q = (p.0 ∙ sym q.0, p.1.1 ∙ sym q.1.1)
