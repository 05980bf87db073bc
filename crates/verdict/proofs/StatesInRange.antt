-- When a state passes its tests: it has n entries, each in range.
use mathlib.Core.Path.{◌≡◌, refl, sym, ap, ◌∙◌}
use mathlib.Core.Logic.{◌↔◌}
use Prim.Native.Nat.{ℕ, suc}
use mathlib.Core.Bool.{Bool, true, false}
use mathlib.Core.List.{List, [], ◌∷◌}
use native.Mathlib.Nat.{suc_inj}
use native.Mathlib.Omega.{arith}
use lib.IntN.{ℤ}
use lib.ListN.{length}
use borrow.Author.Tests.{eqb-true, eq-eqb}
use Rattle.whole.specs.Sums.{Each}
use Rattle.record.specs.Contents.{In}
use Rattle.record.specs.Ranges.{state_entries, within}
use Rattle.record.proofs.FittingValues.{in_within, within_in}
use Rattle.refusal.specs.Tests.{done, first}
use Rattle.refusal.proofs.TestLaws.{passes_done, done_passes, either}
use Rattle.verdict.specs.StateTests.{GivenState, before_outside, state_tests}

-- an entry in range is passed over
pub before_inside : (x : ℤ) (xs : List ℤ) → within state_entries x ≡ true → before_outside (x ∷ xs) ≡ suc (before_outside xs)
unfolding before_outside
before_inside x xs h = step (within state_entries x) h
  where
    step : (b : Bool) → b ≡ true → elim b [ true ↦ suc (before_outside xs) | false ↦ 0 ] ≡ suc (before_outside xs)
    step true e = refl
    step false e = cc

-- one out of range stops the count
pub before_stops : (x : ℤ) (xs : List ℤ) → within state_entries x ≡ false → before_outside (x ∷ xs) ≡ 0
unfolding before_outside
before_stops x xs h = step (within state_entries x) h
  where
    step : (b : Bool) → b ≡ false → ◌≡◌ {A = ℕ} (elim b [ true ↦ suc (before_outside xs) | false ↦ 0 ]) 0
    step true e = cc
    step false e = refl

-- every entry is passed over exactly when each is in range
pub inside_all : (xs : List ℤ) → before_outside xs ≡ length xs → Each (In state_entries) xs
unfolding Each
inside_all [] h = tt
inside_all (x ∷ xs) h =
    either (within state_entries x)
    (λ e. (within_in state_entries x e, inside_all xs (suc_inj (sym (before_inside x xs e) ∙ h))))
    (λ e. absurd (let z : 0 ≡ suc (length xs) = sym (before_stops x xs e) ∙ h in omega arith))

all_inside : (xs : List ℤ) → Each (In state_entries) xs → before_outside xs ≡ length xs
unfolding Each before_outside
all_inside [] h = refl
all_inside (x ∷ xs) h = before_inside x xs (in_within h.0) ∙ ap suc (all_inside xs h.1)

-- the state has n entries, each in range
pub record StateIn (g : GivenState) : Type 0 where
  pub counted : length g.state ≡ g.n
  pub each : Each (In state_entries) g.state

pub state_fits : (g : GivenState) → (first state_tests g ≡ done) ↔ StateIn g
unfolding state_tests
state_fits g = (
  λ h.
      let p = done_passes state_tests g h in
      record { counted = eqb-true _ _ p.0; each = inside_all g.state (eqb-true _ _ p.1.0) },
  λ h. passes_done state_tests g (eq-eqb _ _ h.counted, (eq-eqb _ _ (all_inside g.state h.each), tt)),
)
