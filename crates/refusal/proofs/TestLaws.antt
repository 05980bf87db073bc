-- Laws of ordered tests. `Passes tests i` says that every test of a list holds of i, as a nested pair that a proof can read from
-- the front; `passes_done` and `done_passes` say that this is what "done" means. `stops` finds a refusal behind tests that pass.
use mathlib.Core.Path.{◌≡◌, refl, sym, ap, ◌∙◌}
use Prim.Native.Nat.{ℕ}
use mathlib.Core.Bool.{Bool, true, false, not, ◌&&◌}
use mathlib.Core.List.{List, [], ◌∷◌, ◌++◌}
use native.Mathlib.Omega.{arith}
use lib.Dec.{eqb}
use borrow.Author.Tests.{eqb-false, not-true}
use Rattle.refusal.specs.Tests.{Told, done, refused, Test, ◌at◌unless◌, first, number}

-- a refusal is not done
pub never : {k p : ℕ} → refused k p ≡ done → ⊥
never h = let z : ◌≡◌ {A = ℕ} 0 1 = cc in omega arith

-- a test holds or fails
pub either {ℓ} : {X : Type ℓ} (b : Bool) → (b ≡ true → X) → (b ≡ false → X) → X
either true yes-case no-case = yes-case refl
either false yes-case no-case = no-case refl

-- two tests in one
pub both_true : (a b : Bool) → (a && b) ≡ true → (a ≡ true) × (b ≡ true)
both_true true b h = (refl, h)
both_true false b h = (h, cc)

pub true_both : (a b : Bool) → a ≡ true → b ≡ true → (a && b) ≡ true
true_both a b h k = rw (h, k)

module _ {I : Type 0} where
  -- every test holds
  abbrev pub Passes : List (Test I) → I → Type 0
  Passes [] i = Unit {0}
  Passes ((k at p unless t) ∷ ts) i = (t i ≡ true) × Passes ts i

  -- one step: a test that holds is passed over, one that fails is told
  pub passed : (k : ℕ) (p : I → ℕ) (t : I → Bool) (ts : List (Test I)) (i : I) → t i ≡ true → first ((k at p unless t) ∷ ts) i ≡ first ts i
  unfolding first
  passed k p t ts i h = step (t i) h
    where
      step : (b : Bool) → b ≡ true → elim b [ true ↦ first ts i | false ↦ refused k (p i) ] ≡ first ts i
      step true e = refl
      step false e = cc

  pub failed : (k : ℕ) (p : I → ℕ) (t : I → Bool) (ts : List (Test I)) (i : I) → t i ≡ false → first ((k at p unless t) ∷ ts) i ≡ refused k (p i)
  unfolding first
  failed k p t ts i h = step (t i) h
    where
      step : (b : Bool) → b ≡ false → elim b [ true ↦ first ts i | false ↦ refused k (p i) ] ≡ refused k (p i)
      step true e = cc
      step false e = refl

  -- done exactly when every test holds
  pub passes_done : (ts : List (Test I)) (i : I) → Passes ts i → first ts i ≡ done
  unfolding first
  passes_done [] i h = refl
  passes_done ((k at p unless t) ∷ ts) i h = passed k p t ts i h.0 ∙ passes_done ts i h.1

  pub done_passes : (ts : List (Test I)) (i : I) → first ts i ≡ done → Passes ts i
  done_passes [] i h = tt
  done_passes ((k at p unless t) ∷ ts) i h =
      either (t i)
      (λ e. (e, done_passes ts i (sym (passed k p t ts i e) ∙ h)))
      (λ e. absurd (never (sym (failed k p t ts i e) ∙ h)))

  -- an order in two parts: the second speaks only where the first is done
  pub first_then : (ts us : List (Test I)) (i : I) → Passes ts i → first (ts ++ us) i ≡ first us i
  first_then [] us i h = refl
  first_then ((k at p unless t) ∷ ts) us i h = passed k p t (ts ++ us) i h.0 ∙ first_then ts us i h.1

  pub first_told : (ts us : List (Test I)) (i : I) (k q : ℕ) → first ts i ≡ refused k q → first (ts ++ us) i ≡ refused k q
  unfolding first
  first_told [] us i k q h = absurd (never (sym h))
  first_told ((n at p unless t) ∷ ts) us i k q h =
      either (t i)
      (λ e. passed n p t (ts ++ us) i e ∙ first_told ts us i k q (sym (passed n p t ts i e) ∙ h))
      (λ e. failed n p t (ts ++ us) i e ∙ sym (failed n p t ts i e) ∙ h)

  pub passes_append : (ts us : List (Test I)) (i : I) → Passes ts i → Passes us i → Passes (ts ++ us) i
  passes_append [] us i h k = k
  passes_append ((n at p unless t) ∷ ts) us i h k = (h.0, passes_append ts us i h.1 k)

  pub append_passes : (ts us : List (Test I)) (i : I) → Passes (ts ++ us) i → Passes ts i × Passes us i
  append_passes [] us i h = (tt, h)
  append_passes ((n at p unless t) ∷ ts) us i h = let r = append_passes ts us i h.1 in ((h.0, r.0), r.1)

  -- no test of the list tells the number
  abbrev pub avoids : ℕ → List (Test I) → Bool
  avoids number [] = true
  avoids number ((k at p unless t) ∷ ts) = not (eqb k number) && avoids number ts

  pub never_tells : (number : ℕ) (ts : List (Test I)) (i : I) (place : ℕ) → avoids number ts ≡ true → first ts i ≡ refused number place → ⊥
  unfolding first
  never_tells number [] i place ok h = never (sym h)
  never_tells number ((k at p unless t) ∷ ts) i place ok h =
      let parts = both_true (not (eqb k number)) (avoids number ts) ok in
      either (t i)
      (λ e. never_tells number ts i place parts.1 (sym (passed k p t ts i e) ∙ h))
      (λ e. eqb-false k number (not-true (eqb k number) parts.0) (same_number (sym (failed k p t ts i e) ∙ h)))
    where
      same_number : {a b x y : ℕ} → refused a x ≡ refused b y → a ≡ b
      same_number e = cc

  -- where no test tells 0, 0 is told only when all is done
  pub zero_done : (ts : List (Test I)) (i : I) → avoids 0 ts ≡ true → number (first ts i) ≡ 0 → first ts i ≡ done
  unfolding number
  zero_done ts i ok h = by_told (first ts i) refl h
    where
      by_told : (t : Told) → first ts i ≡ t → number t ≡ 0 → t ≡ done
      by_told done e z = refl
      by_told (refused k p) e z = absurd (never_tells 0 ts i p ok (e ∙ ap (λ n. refused n p) z))

  -- nor is another number told that no test has
  pub number_avoided : (k : ℕ) (ts : List (Test I)) (i : I) → (0 ≡ k → ⊥) → avoids k ts ≡ true → number (first ts i) ≡ k → ⊥
  unfolding number
  number_avoided k ts i some ok h = by_told (first ts i) refl h
    where
      by_told : (t : Told) → first ts i ≡ t → number t ≡ k → ⊥
      by_told done e z = some z
      by_told (refused n p) e z = never_tells k ts i p ok (e ∙ ap (λ n. refused n p) z)
