-- What an order of tests decides. `Decides tests i P F` says of what came in, i: all tests hold exactly when P does, and number k at place p
-- is told exactly when F k p holds. The lemmas put it together as the lists of tests are.
use Prim.Native.Nat.{ℕ, zero, suc, ◌<◌}
use mathlib.Core.Path.{◌≡◌, refl, sym, ◌∙◌, subst}
use mathlib.Core.Logic.{◌↔◌, ◌⊎◌, inl, inr}
use mathlib.Core.Bool.{Bool, true, false, false≢true}
use mathlib.Core.List.{List, [], ◌∷◌, ◌++◌}
use native.Mathlib.Omega.{arith}
use Rattle.refusal.specs.Tests.{Told, done, refused, Test, ◌at◌unless◌, first}
use Rattle.refusal.specs.Places.{Throughout, FirstFailing, before_failing, told_each}
use Rattle.refusal.proofs.TestLaws.{Passes, either, never, passed, failed, passes_done, done_passes, passes_append, append_passes, first_then, first_told}
use Rattle.refusal.proofs.PlaceLaws.{all-or-first, holds_before, fails_there, before_first, told_none, told_there}
use Rattle.whole.specs.Sums.{tabulate}
use Rattle.theory.specs.Conditions.{◌at_each◌unless◌, of}

-- ---- one test for each place

module _ {I : Type 0} where
  passes_each : (n number : ℕ) (place : ℕ → I → ℕ) (test : ℕ → I → Bool) (i : I) → ((j : ℕ) → j < n → test j i ≡ true)
      → Passes (tabulate n (λ j. number at place j unless test j)) i
  unfolding tabulate
  passes_each zero number place test i h = tt
  passes_each (suc n) number place test i h =
      (h 0 (omega arith), passes_each n number (λ j. place (suc j)) (λ j. test (suc j)) i (λ j k. h (suc j) (omega arith)))

  each_passes : (n number : ℕ) (place : ℕ → I → ℕ) (test : ℕ → I → Bool) (i : I) → Passes (tabulate n (λ j. number at place j unless test j)) i
      → (j : ℕ) → j < n → test j i ≡ true
  unfolding tabulate
  each_passes zero number place test i h j k = absurd (omega arith)
  each_passes (suc n) number place test i h zero k = h.0
  each_passes (suc n) number place test i h (suc j) k = each_passes n number (λ l. place (suc l)) (λ l. test (suc l)) i h.1 j (omega arith)

  -- the first that fails is told
  each_told : (n number : ℕ) (place : ℕ → I → ℕ) (test : ℕ → I → Bool) (i : I) (j : ℕ) → j < n → test j i ≡ false → ((l : ℕ) → l < j → test l i ≡ true)
      → first (tabulate n (λ l. number at place l unless test l)) i ≡ refused number (place j i)
  unfolding tabulate
  each_told zero number place test i j below h before = absurd (omega arith)
  each_told (suc n) number place test i zero below h before = failed number (place 0) (test 0) _ i h
  each_told (suc n) number place test i (suc j) below h before =
      passed number (place 0) (test 0) _ i (before 0 (omega arith)) ∙
      each_told n number (λ l. place (suc l)) (λ l. test (suc l)) i j (omega arith) h (λ l k. before (suc l) (omega arith))

  pub first_each : (number n : ℕ) (holds : ℕ → I → Bool) (i : I) → first (number at_each n unless holds) i ≡ told_each number n (λ j. holds j i)
  unfolding ◌at_each◌unless◌
  first_each number n holds i =
      all-or-first n (λ j. holds j i)
      (λ all.
      passes_done _ i (passes_each n number (λ j p. j) holds i (rw all at (holds_before n (λ j. holds j i)))) ∙ sym (told_none number n (λ j. holds j i) all))
      (λ some.
      each_told n number (λ j p. j) holds i (before_failing n (λ j. holds j i)) some (fails_there n (λ j. holds j i) some) (holds_before n (λ j. holds j i)) ∙
      sym (told_there number n (λ j. holds j i) some))

  passes_of : {J : Type 0} (f : I → J) (ts : List (Test J)) (i : I) → Passes ts (f i) → Passes (of f ts) i
  unfolding of
  passes_of f [] i h = tt
  passes_of f ((number at place unless test) ∷ ts) i h = (h.0, passes_of f ts i h.1)

  of_passes : {J : Type 0} (f : I → J) (ts : List (Test J)) (i : I) → Passes (of f ts) i → Passes ts (f i)
  unfolding of
  of_passes f [] i h = tt
  of_passes f ((number at place unless test) ∷ ts) i h = (h.0, of_passes f ts i h.1)

  pub first_of : {J : Type 0} (f : I → J) (ts : List (Test J)) (i : I) → first (of f ts) i ≡ first ts (f i)
  unfolding of first
  first_of f [] i = refl
  first_of f ((number at place unless test) ∷ ts) i =
      either (test (f i))
      (λ e. passed number (λ i. place (f i)) (λ i. test (f i)) (of f ts) i e ∙ first_of f ts i ∙ sym (passed number place test ts (f i) e))
      (λ e. failed number (λ i. place (f i)) (λ i. test (f i)) (of f ts) i e ∙ sym (failed number place test ts (f i) e))

-- ---- what is decided

pub record Decides {I : Type 0} (tests : List (Test I)) (i : I) (P : Type 0) (F : ℕ → ℕ → Type 0) : Type 0 where
  pub passes : P → Passes tests i
  pub holds : Passes tests i → P
  pub tells : (k p : ℕ) → F k p → first tests i ≡ refused k p
  pub told : (k p : ℕ) → first tests i ≡ refused k p → F k p

is_false : (b : Bool) → (b ≡ true → ⊥) → b ≡ false
is_false true h = absurd (h refl)
is_false false h = refl

-- a refusal's number and place
same_number : {k p l q : ℕ} → refused k p ≡ refused l q → k ≡ l
same_number e = cc

same_place : {k p l q : ℕ} → refused k p ≡ refused l q → p ≡ q
same_place e = cc

module _ {I : Type 0} {i : I} where
  -- an order in two parts
  pub both : {ts us : List (Test I)} {P Q : Type 0} {F G : ℕ → ℕ → Type 0} → Decides ts i P F → Decides us i Q G
      → Decides (ts ++ us) i (P × Q) (λ k p. F k p ⊎ (P × G k p))
  both {ts} {us} {P} {Q} {F} {G} d e =
      record {
        passes = λ h. passes_append ts us i (d.passes h.0) (e.passes h.1);
        holds = λ h. let r = append_passes ts us i h in (d.holds r.0, e.holds r.1);
        tells = tells_so;
        told = λ k p h. told_so k p h (first ts i) refl;
      }
    where
      tells_so : (k p : ℕ) → F k p ⊎ (P × G k p) → first (ts ++ us) i ≡ refused k p
      tells_so k p (inl f) = first_told ts us i k p (d.tells k p f)
      tells_so k p (inr g) = first_then ts us i (d.passes g.0) ∙ e.tells k p g.1

      told_so : (k p : ℕ) → first (ts ++ us) i ≡ refused k p → (t : Told) → first ts i ≡ t → F k p ⊎ (P × G k p)
      told_so k p h done is = let all = done_passes ts i is in inr (d.holds all, e.told k p (sym (first_then ts us i all) ∙ h))
      told_so k p h (refused l q) is = inl (d.told k p (is ∙ sym (first_told ts us i l q is) ∙ h))

  -- one test
  pub one : {number : ℕ} {place : ℕ} {test : I → Bool} {P : Type 0} → (test i ≡ true → P) → (P → test i ≡ true)
      → Decides ((number at (λ j. place) unless test) ∷ []) i P (λ k p. (number ≡ k) × (place ≡ p) × (P → ⊥))
  unfolding first
  one {number} {place} {test} {P} f g =
      record {
        passes = λ h. (g h, tt);
        holds = λ h. f h.0;
        tells = λ k p h. tells_so k p h.0 h.1 h.2;
        told = λ k p h. either (test i)
            (λ e. absurd (never (sym h ∙ passed number (λ j. place) test [] i e)))
            (λ e. let is = sym (failed number (λ j. place) test [] i e) ∙ h in (same_number is, same_place is, λ holds. false≢true (sym e ∙ g holds)));
      }
    where
      tells_so : (k p : ℕ) → number ≡ k → place ≡ p → (P → ⊥) → first ((number at (λ j. place) unless test) ∷ []) i ≡ refused k p
      tells_so k p n q fails =
          either (test i)
          (λ e. absurd (fails (f e)))
          (λ e. failed number (λ j. place) test [] i e ∙ rw (n, q))

  -- one test for each column or row
  pub each : (n number : ℕ) (test : ℕ → I → Bool) {P : ℕ → Type 0} → ((j : ℕ) → test j i ≡ true → P j) → ((j : ℕ) → P j → test j i ≡ true)
      → Decides (number at_each n unless test) i (Throughout n P) (λ k p. (number ≡ k) × FirstFailing n P p)
  unfolding ◌at_each◌unless◌
  each n number test {P} f g =
      record {
        passes = λ h. passes_each n number (λ j p. j) test i (λ j k. g j (h j k));
        holds = λ h j k. f j (each_passes n number (λ j p. j) test i h j k);
        tells = tells_so;
        told = λ k p h. told_so k p (sym (first_each number n test i) ∙ h);
      }
    where
      tells_so : (k p : ℕ) → (number ≡ k) × FirstFailing n P p → first (number at_each n unless test) i ≡ refused k p
      tells_so k p h =
          let there = before_first n (λ j. test j i) p h.1.below (is_false (test p i) (λ e. h.1.fails (f p e))) (λ j below. g j (h.1.before j below)) in
          first_each number n test i ∙ told_there number n (λ j. test j i) (rw there h.1.below) ∙ rw (there, h.0)

      found : before_failing n (λ j. test j i) < n → FirstFailing n P (before_failing n (λ j. test j i))
      found some =
          record {
            below = some;
            fails = λ h. false≢true (sym (fails_there n (λ j. test j i) some) ∙ g (before_failing n (λ j. test j i)) h);
            before = λ j below. f j (holds_before n (λ j. test j i) j below);
          }

      told_so : (k p : ℕ) → told_each number n (λ j. test j i) ≡ refused k p → (number ≡ k) × FirstFailing n P p
      told_so k p h =
          all-or-first n (λ j. test j i)
          (λ all. absurd (never (sym h ∙ told_none number n (λ j. test j i) all)))
          (λ some.
          let is = sym (told_there number n (λ j. test j i) some) ∙ h in
          (same_number is, subst (FirstFailing n P) (same_place is) (found some)))

  -- tests of what f makes of the input
  pub seen : {J : Type 0} (f : I → J) {ts : List (Test J)} {P : Type 0} {F : ℕ → ℕ → Type 0} → Decides ts (f i) P F → Decides (of f ts) i P F
  seen f {ts} d =
      record {
        passes = λ h. passes_of f ts i (d.passes h);
        holds = λ h. d.holds (of_passes f ts i h);
        tells = λ k p h. first_of f ts i ∙ d.tells k p h;
        told = λ k p h. d.told k p (sym (first_of f ts i) ∙ h);
      }

  -- the same, said in another way
  pub changed : {ts : List (Test I)} {P Q : Type 0} {F G : ℕ → ℕ → Type 0} → Decides ts i P F → (P → Q) → (Q → P)
      → ((k p : ℕ) → F k p → G k p) → ((k p : ℕ) → G k p → F k p) → Decides ts i Q G
  changed d f g h l =
      record {
        passes = λ q. d.passes (g q);
        holds = λ q. f (d.holds q);
        tells = λ k p q. d.tells k p (l k p q);
        told = λ k p q. h k p (d.told k p q);
      }

  -- nothing is told exactly when P holds; number k at place p is told exactly when F k p holds
  pub decided : {ts : List (Test I)} {P : Type 0} {F : ℕ → ℕ → Type 0} → Decides ts i P F → (first ts i ≡ done) ↔ P
  decided {ts} d = (λ h. d.holds (done_passes ts i h), λ h. passes_done ts i (d.passes h))

  pub told_exactly : {ts : List (Test I)} {P : Type 0} {F : ℕ → ℕ → Type 0} → Decides ts i P F → (k p : ℕ) → (first ts i ≡ refused k p) ↔ F k p
  told_exactly d k p = (d.told k p, d.tells k p)
