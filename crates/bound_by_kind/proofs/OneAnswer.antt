-- The bound's promise leaves one possible answer: two answers that meet its contract on the same records and state are equal. The contract is
-- the one that the check sees, `Learnt`.
use mathlib.Core.Path.{refl, sym, ◌∙◌}
use Rattle.refusal.specs.Single.{Single}
use Rattle.bound_by_kind.proofs.bound.Kinds.{ps, r}
use Rattle.bound_by_kind.proofs.bound.Reads.{Learnt}

-- lent to be changed: nothing
pub one_answer : Single 3 ps r Learnt {L = Unit {0}} (λ κs s. tt)
one_answer κs a x y s t p q = (p ∙ sym q, refl)
