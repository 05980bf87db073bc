-- A refused judging shows nothing and changes no entry of the rank list; a refused bound call shows nothing and has the bound 0. Assumes nothing.
use mathlib.Core.Path.{◌≡◌, refl}
use Prim.Native.Nat.{ℕ}
use mathlib.Core.List.{List}
use lib.IntN.{ℤ}
use Rattle.verdict.specs.Bounding.{Bounding, bounding, bounded, bounds}
use Rattle.verdict.specs.Judging.{Judging, judging, judges, ranks, rank_after}
use Rattle.verdict.specs.Stages.{Said, agreed, refusal, said, verdict_of}
use Rattle.verdict.specs.declared.Outcome.{Outcome}
use Rattle.verdict.specs.declared.Outcome.TheVariants.{Nothing}

-- of what an order says
pub refused_said : (s : Said) (o : Outcome) (r lent : List ℤ) → ((verdict_of s o).number ≡ 0 → ⊥)
    → ((verdict_of s o).outcome ≡ Nothing) × (ranks s r lent ≡ lent)
unfolding verdict_of ranks
refused_said agreed o r lent h = absurd (h refl)
refused_said (refusal about number place) o r lent h = (refl, refl)

pub refused_bounded : (s : Said) (o : Outcome) (k : ℕ) → ((bounded s o k).verdict.number ≡ 0 → ⊥)
    → ((bounded s o k).verdict.outcome ≡ Nothing) × ((bounded s o k).bound ≡ 0)
unfolding bounded verdict_of
refused_bounded agreed o k h = absurd (h refl)
refused_bounded (refusal about number place) o k h = (refl, refl)

pub refused_judging : (j : Judging) (lent : List ℤ) → ((judges j).number ≡ 0 → ⊥) → ((judges j).outcome ≡ Nothing) × (rank_after j lent ≡ lent)
unfolding judges rank_after
refused_judging j lent told = refused_said (said judging j) _ _ lent told

pub refused_bounding : (b : Bounding) → ((bounds b).verdict.number ≡ 0 → ⊥) → ((bounds b).verdict.outcome ≡ Nothing) × ((bounds b).bound ≡ 0)
unfolding bounds
refused_bounding b told = refused_bounded (said bounding b) _ _ told
