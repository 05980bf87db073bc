-- 01, "How far the promises reach": "the promise leaves one possible answer". It is `Single`, stated of the
-- function's clauses themselves, all of its `ensures` among them, and not of what a caller learns. `seen` names what was lent, as it is afterwards;
-- a list that it leaves out is not claimed.
use Rattle.std.specs.Prelude.{◌≡◌}
use seplogic.Ra.Ura.{Ura}
use base.Logic.{ent, sep}
use contract.Lifetimes.{Lfts}
use contract.Monad.{fact}
use denote.Triple.Entry.{Args, Res}
use denote.Triple.Clauses.{Clauses, Ended, AtExit}

-- two answers that meet the clauses on the same arguments are equal, and so is what they leave in what was lent
abbrev pub Lone : {M : Type 1} (𝓤 : Ura M) (T : Ended) → Clauses 𝓤 T → {L : Type 0}
    → ((κs : Lfts T.signature.lifetimes) → AtExit T κs → L) → Type 1
Lone 𝓤 T c seen = (κs : Lfts T.signature.lifetimes) (a : Args T.signature κs) (g : (c κs a).ghost)
    (x y : Res T.signature κs) (s t : AtExit T κs)
    → ent 𝓤 (sep 𝓤 ((c κs a).ensures g x s) ((c κs a).ensures g y t)) (fact 𝓤 ((x ≡ y) × (seen κs s ≡ seen κs t)))
