-- The entries of a state against their range, one after another; and what the tests tell.
use mathlib.Core.Path.{◌≡◌, refl, ◌∙◌}
use Prim.Native.Nat.{ℕ, suc, ◌+◌, ◌<◌, ◌≤◌}
use mathlib.Core.Bool.{true, false}
use mathlib.Core.List.{List}
use native.Mathlib.Numerals.{add-one}
use native.Mathlib.Omega.{arith}
use lib.IntN.{ℤ, pos}
use lib.ListN.{length, drop, get_or}
use lib.Seq.{drop-cons, drop-length}
use borrow.Author.Tests.{eq-eqb, ne_eqb}
use Rattle.record.specs.Ranges.{state_entries, within}
use Rattle.refusal.specs.Tests.{done, refused, first}
use Rattle.refusal.proofs.TestLaws.{passed, failed, passes_done}
use Rattle.verdict.specs.StateTests.{GivenState, before_outside, state_tests}
use Rattle.verdict.proofs.StatesInRange.{before_inside, before_stops}

-- ---- the entries of a state, one after another

-- so far all are in range
abbrev pub SoFar : List ℤ → ℕ → Type 0
SoFar state i = (i ≤ length state) × (before_outside state ≡ i + before_outside (drop i state))

module _ (state : List ℤ) (i : ℕ) (so_far : SoFar state i) where
  pub stops : i < length state → within state_entries (get_or state i (pos 0)) ≡ false → i ≡ before_outside state
  stops here h =
      let none : before_outside (drop i state) ≡ 0 = rw (drop-cons state i (pos 0) here) (before_stops _ _ h) in
      omega (arith, so_far.1, none)

  pub goes_on : i < length state → within state_entries (get_or state i (pos 0)) ≡ true → SoFar state (i + 1)
  goes_on here h =
      let more : before_outside (drop i state) ≡ suc (before_outside (drop (suc i) state)) = rw (drop-cons state i (pos 0) here) (before_inside _ _ h) in
      (omega arith, rw (add-one i) (omega (arith, so_far.1, more)))

  pub ends : (i < length state → ⊥) → i ≡ before_outside state
  unfolding before_outside
  ends past =
      let all : i ≡ length state = omega (arith, so_far.0, past) in
      let none : before_outside (drop i state) ≡ 0 = rw (all, drop-length state) in
      omega (arith, so_far.1, none)

-- ---- the two tests

module _ (g : GivenState) where
  pub miscounted : (length g.state ≡ g.n → ⊥) → first state_tests g ≡ refused 10 (length g.state)
  unfolding state_tests
  miscounted h = failed 10 _ _ _ g (ne_eqb _ _ h)

  module _ (counted : length g.state ≡ g.n) where
    pub out_of_range : (before_outside g.state ≡ length g.state → ⊥) → first state_tests g ≡ refused 9 (before_outside g.state)
    unfolding state_tests
    out_of_range h = passed 10 _ _ _ g (eq-eqb _ _ counted) ∙ failed 9 _ _ _ g (ne_eqb _ _ h)

    pub in_range : before_outside g.state ≡ length g.state → first state_tests g ≡ done
    unfolding state_tests
    in_range h = passes_done state_tests g (eq-eqb _ _ counted, (eq-eqb _ _ h, tt))
