-- Why a lexicographic argument ends a loop, of numbers alone: some components have a value before every step; each step has one of them as
-- its own, which is 0 or more before it and falls in it, and no component before that one rises. Then the steps come to an end.
-- The proof takes the components from the last to the first: where from some step on only components from k on are owned, the value of k
-- never rises, so it cannot be owned for ever again; then from some step on only components after k are owned.
use Prim.Native.Nat.{ℕ, zero, suc, ◌+◌, ◌≤◌, ◌<◌}
use mathlib.Core.Path.{◌≡◌}
use native.Mathlib.Omega.{arith}
use borrow.Author.Tests.{eqb-true, eqb-false}
use lib.Dec.{eqb}
use lib.IntN.{ℤ, pos, nat_abs, ◌+ℤ◌}
use lib.Signed.{◌≤ℤ◌, ◌<ℤ◌, ≤ℤ_refl}
use Rattle.refusal.proofs.TestLaws.{either}
use Rattle.whole.proofs.Ring.{≤ℤ-trans}
use Rattle.whole.proofs.Solve.{v, ◌⊕◌, solve_le, solve_lt, le_fact, lt_fact, abs_fact}

none_left : (at_first now : ℤ) → at_first <ℤ pos 0 → now ≤ℤ at_first → pos 0 ≤ℤ now → ⊥
none_left at_first now h i k =
    omega (arith, lt_fact (v at_first) (v (pos 0)) h, le_fact (v now) (v at_first) i, le_fact (v (pos 0)) (v now) k)

one_less : (N : ℕ) (at_first now next : ℤ) → at_first <ℤ pos (suc N) → now ≤ℤ at_first → (next +ℤ pos 1) ≤ℤ now → next <ℤ pos N
one_less N at_first now next h i k =
    solve_lt (v next) (v (pos N))
    (omega (arith, lt_fact (v at_first) (v (pos (suc N))) h, le_fact (v now) (v at_first) i, le_fact (v next ⊕ v (pos 1)) (v now) k))

module _ (C : ℕ) (value : ℕ → ℕ → ℤ) (own : ℕ → ℕ)
    (within : (i : ℕ) → own i < C)
    (bounded : (i : ℕ) → pos 0 ≤ℤ value (own i) i)
    (falls : (i : ℕ) → (value (own i) (suc i) +ℤ pos 1) ≤ℤ value (own i) i)
    (stays : (i c : ℕ) → c < own i → value c (suc i) ≤ℤ value c i) where
  -- from step o on, no component before k is owned
  abbrev OwnedFrom : ℕ → ℕ → Type 0
  OwnedFrom k o = (i : ℕ) → o ≤ i → k ≤ own i

  step_stays : (k i : ℕ) → k ≤ own i → value k (suc i) ≤ℤ value k i
  step_stays k i h =
      either (eqb (own i) k)
      (λ e. lower (value k (suc i)) (value k i) (rw (eqb-true (own i) k e) at (falls i)))
      (λ e. let apart = eqb-false (own i) k e in stays i k (omega arith))
    where
      lower : (a c : ℤ) → (a +ℤ pos 1) ≤ℤ c → a ≤ℤ c
      lower a c h = solve_le (v a) (v c) (omega (arith, le_fact (v a ⊕ v (pos 1)) (v c) h))

  never_rises : (k o : ℕ) → OwnedFrom k o → (i : ℕ) → o ≤ i → value k i ≤ℤ value k o
  never_rises k o owned zero h = let same : o ≡ 0 = omega arith in rw same (≤ℤ_refl (value k 0))
  never_rises k o owned (suc i) h =
      either (eqb o (suc i))
      (λ e. rw (eqb-true o (suc i) e) (≤ℤ_refl (value k (suc i))))
      (λ e.
      let apart = eqb-false o (suc i) e in
      ≤ℤ-trans (step_stays k i (owned i (omega arith))) (never_rises k o owned i (omega arith)))

  -- where k is not owned either
  owned_after : (k o : ℕ) → OwnedFrom k o → ((i : ℕ) → o ≤ i → own i ≡ k → ⊥) → OwnedFrom (suc k) o
  owned_after k o owned never i h =
      either (eqb (own i) k)
      (λ e. absurd (never i h (eqb-true (own i) k e)))
      (λ e. let apart = eqb-false (own i) k e in omega (arith, owned i h))

  -- where the value of k is below N, k is owned no more than N times
  at_last : (k : ℕ) → ((o : ℕ) → OwnedFrom (suc k) o → ⊥) → (N o : ℕ) → OwnedFrom k o → value k o <ℤ pos N → ⊥
  at_last k after zero o owned below =
      after o (owned_after k o owned (λ i h is. none_left (value k o) (value k i) below (never_rises k o owned i h) (rw is at (bounded i))))
  at_last k after (suc N) o owned below =
      after o (owned_after k o owned (λ i h is.
      at_last k after N (suc i) (λ l m. owned l (omega arith))
      (one_less N (value k o) (value k i) (value k (suc i)) below (never_rises k o owned i h) (rw is at (falls i)))))

  ends : (room k : ℕ) → C ≤ k + room → (o : ℕ) → OwnedFrom k o → ⊥
  ends zero k h o owned = omega (arith, within o, owned o (omega arith))
  ends (suc room) k h o owned =
      at_last k (ends room (suc k) (omega arith)) (suc (nat_abs (value k o))) o owned
      (solve_lt (v (value k o)) (v (pos (suc (nat_abs (value k o))))) (omega (arith, abs_fact (v (value k o)))))

  pub falling_ends : ⊥
  falling_ends = ends C 0 (omega arith) 0 (λ i h. omega arith)
