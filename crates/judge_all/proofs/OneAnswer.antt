-- The batch's promise leaves one possible answer: two answers, each with a row of verdicts and rank numbers afterwards, that meet its contract on the same bytes, row and
-- numbers are equal. The contract is the one that the check sees.
use mathlib.Core.Path.{◌≡◌, sym, ◌∙◌}
use mathlib.Core.List.{List}
use lib.IntN.{ℤ}
use seplogic.Ra.Ura.{Ura}
use base.Logic.{SProp, ent, sep, id⊢, via, fst∗, snd∗}
use prog.Memory.{Memory}
use prog.Routine.{Routine}
use types.Logic.{Logic}
use contract.Monad.{Fun, fact, fact_i, fact_use}
use Rattle.verdict.specs.declared.Verdict.{Verdict}
use Rattle.refusal.specs.Lone.{Lone}
use Rattle.judge_all.specs.contracts.judge_all as judge_all

-- what follows from two facts
from_both : {M : Type 1} (𝓤 : Ura M) {P Q : SProp 𝓤} (φ ψ χ : Type 0) → ent 𝓤 P (fact 𝓤 φ) → ent 𝓤 Q (fact 𝓤 ψ) → (φ → ψ → χ) → ent 𝓤 (sep 𝓤 P Q) (fact 𝓤 χ)
from_both 𝓤 {P} {Q} φ ψ χ p q f = fact_use 𝓤 φ (via 𝓤 P (fst∗ 𝓤 P Q) p) (λ x. fact_use 𝓤 ψ (via 𝓤 Q (snd∗ 𝓤 P Q) q) (λ y. fact_i 𝓤 χ (sep 𝓤 P Q) (f x y)))

two : {X Y : Type 0} {x x' : X} {y y' : Y} → x ≡ x' → y ≡ y' → ◌≡◌ {A = X × Y} (x, y) (x', y')
two e f = λ i. (e i, f i)

-- lent: the row of verdicts and the rank numbers
pub one_answer : {M : Type 1} {𝓤 : Ura M} (𝓛 : Logic 𝓤) (mem : Memory → SProp 𝓤) (run : Routine → Fun 𝓤)
    → Lone 𝓤 judge_all.ended (judge_all.clauses 𝓛 mem run) {L = List Verdict × List ℤ} (λ κs s. (s.1.1.0.now, s.1.1.1.0.now))
one_answer {𝓤 = 𝓤} 𝓛 mem run κs a g x y s t =
    from_both 𝓤 _ _ _ (id⊢ 𝓤 _) (id⊢ 𝓤 _) (λ p q. (p.0 ∙ sym q.0, two (p.1 ∙ sym q.1) (p.2 ∙ sym q.2)))
