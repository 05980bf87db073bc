-- 01, "How far the promises reach": "the promise leaves one possible answer". Stated here once for every call, of the contract
-- itself: `learnt` is what a caller learns of all the `ensures` of a function (the check writes it beside the function's other
-- statements, as `Reads.Learnt`), so an `ensures` that is taken away is missed. `seen` names what was lent, as it is afterwards; a
-- list that it leaves out is not claimed.
use Rattle.std.specs.Prelude.{ℕ, ◌≡◌, List}
use contract.Lifetimes.{Lfts}
use borrow.Fn.Kinds.{ParamKind, ResultKind, Out, Dens, res_t, ended_of}
use denote.Triple.Clauses.{AtExit}

-- a function of n lifetimes, parameters ps and result r: two answers that meet its contract on the same arguments are equal, and so
-- is what they leave in what was lent
abbrev pub Single : (n : ℕ) (ps : List (ParamKind n)) (r : ResultKind n) → Out n ps r → {L : Type 0}
    → ((κs : Lfts n) → AtExit (ended_of n ps r) κs → L) → Type 0
Single n ps r learnt seen = (κs : Lfts n) (a : Dens κs ps) (x y : (res_t r κs).Denot) (s t : AtExit (ended_of n ps r) κs)
    → learnt κs a x s → learnt κs a y t → (x ≡ y) × (seen κs s ≡ seen κs t)
