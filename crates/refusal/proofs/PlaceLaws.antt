-- Laws of a condition that is asked at each of some places, as a loop that walks along them meets it; and of orders in two parts.
use mathlib.Core.Path.{◌≡◌, refl, sym, ap, ◌∙◌}
use Prim.Native.Nat.{ℕ, zero, suc, ◌+◌, ◌≤◌, ◌<◌}
use mathlib.Core.Bool.{Bool, true, false}
use mathlib.Core.List.{List, [], ◌∷◌, ◌++◌}
use native.Mathlib.Omega.{arith}
use lib.Dec.{eqb}
use borrow.Author.Tests.{eqb-true, eqb-false, eq-eqb, ne_eqb}
use Rattle.refusal.specs.Tests.{Told, done, refused, Test, ◌at◌unless◌, first, ◌then◌}
use Rattle.refusal.specs.Places.{Throughout, before_failing, told_each, told_once}
use Rattle.refusal.proofs.TestLaws.{either, passed, failed}

-- ---- how many places come before the first that fails

-- at the first place, and past it
by_first : (b : Bool) (n : ℕ) → b ≡ false → ◌≡◌ {A = ℕ} (elim b [ true ↦ n | false ↦ 0 ]) 0
by_first true n e = cc
by_first false n e = refl

by_later : (b : Bool) (n : ℕ) → b ≡ true → ◌≡◌ {A = ℕ} (elim b [ true ↦ n | false ↦ 0 ]) n
by_later true n e = refl
by_later false n e = cc

before_here : (n : ℕ) (holds : ℕ → Bool) → holds 0 ≡ false → before_failing (suc n) holds ≡ 0
unfolding before_failing
before_here n holds h = by_first (holds 0) _ h

before_past : (n : ℕ) (holds : ℕ → Bool) → holds 0 ≡ true → before_failing (suc n) holds ≡ suc (before_failing n (λ j. holds (suc j)))
unfolding before_failing
before_past n holds h = by_later (holds 0) _ h

pub before_all : (n : ℕ) (holds : ℕ → Bool) → Throughout n (λ j. holds j ≡ true) → before_failing n holds ≡ n
unfolding before_failing
before_all zero holds h = refl
before_all (suc n) holds h = before_past n holds (h 0 (omega arith)) ∙ ap suc (before_all n (λ j. holds (suc j)) (λ j k. h (suc j) (omega arith)))

pub before_first : (n : ℕ) (holds : ℕ → Bool) (j : ℕ) → j < n → holds j ≡ false → Throughout j (λ i. holds i ≡ true) → before_failing n holds ≡ j
before_first zero holds j below h before = absurd (omega arith)
before_first (suc n) holds zero below h before = before_here n holds h
before_first (suc n) holds (suc j) below h before =
    before_past n holds (before 0 (omega arith)) ∙
    ap suc (before_first n (λ i. holds (suc i)) j (omega arith) h (λ i k. before (suc i) (omega arith)))

pub before_within : (n : ℕ) (holds : ℕ → Bool) → before_failing n holds ≤ n
unfolding before_failing
before_within zero holds = omega arith
before_within (suc n) holds =
    either (holds 0)
    (λ e. rw (before_past n holds e) (omega (arith, before_within n (λ j. holds (suc j)))))
    (λ e. rw (before_here n holds e) (omega arith))

-- it holds at all, or there is a first that fails
pub all-or-first {ℓ} : {X : Type ℓ} (n : ℕ) (holds : ℕ → Bool) → (before_failing n holds ≡ n → X) → (before_failing n holds < n → X) → X
all-or-first n holds all some =
    either (eqb (before_failing n holds) n)
    (λ e. all (eqb-true (before_failing n holds) n e))
    (λ e. some (let apart = eqb-false (before_failing n holds) n e in omega (arith, before_within n holds)))

-- every place before it holds
pub holds_before : (n : ℕ) (holds : ℕ → Bool) → Throughout (before_failing n holds) (λ j. holds j ≡ true)
unfolding before_failing
holds_before zero holds j below = absurd (omega arith)
holds_before (suc n) holds j below =
    either (holds 0)
    (λ e. past e (holds_before n (λ i. holds (suc i))) j (rw (before_past n holds e) at below))
    (λ e. absurd (omega (arith, rw (before_here n holds e) at below)))
  where
    past : holds 0 ≡ true → Throughout (before_failing n (λ i. holds (suc i))) (λ i. holds (suc i) ≡ true) → (j : ℕ)
        → j < suc (before_failing n (λ i. holds (suc i))) → holds j ≡ true
    past e rest zero k = e
    past e rest (suc j) k = rest j (omega arith)

-- and it fails
pub fails_there : (n : ℕ) (holds : ℕ → Bool) → before_failing n holds < n → holds (before_failing n holds) ≡ false
fails_there zero holds below = absurd (omega arith)
fails_there (suc n) holds below =
    either (holds 0)
    (λ e. let is = before_past n holds e in rw is (fails_there n (λ j. holds (suc j)) (omega (arith, rw is at below))))
    (λ e. rw (before_here n holds e) e)

-- conditions that agree at every place fail first at the same one
pub before_same : (n : ℕ) (f g : ℕ → Bool) → Throughout n (λ j. f j ≡ g j) → before_failing n f ≡ before_failing n g
unfolding before_failing
before_same zero f g h = refl
before_same (suc n) f g h =
    let rest = before_same n (λ j. f (suc j)) (λ j. g (suc j)) (λ j k. h (suc j) (omega arith)) in
    either (g 0)
    (λ e. before_past n f (h 0 (omega arith) ∙ e) ∙ ap suc rest ∙ sym (before_past n g e))
    (λ e. before_here n f (h 0 (omega arith) ∙ e) ∙ sym (before_here n g e))

-- ---- a loop that goes along all places and remembers: one place more

pub before_stays : (n : ℕ) (holds : ℕ → Bool) → before_failing n holds < n → before_failing (n + 1) holds ≡ before_failing n holds
before_stays n holds below =
    before_first (n + 1) holds (before_failing n holds) (omega arith) (fails_there n holds below) (holds_before n holds)

pub before_grows : (n : ℕ) (holds : ℕ → Bool) → before_failing n holds ≡ n → holds n ≡ true → before_failing (n + 1) holds ≡ n + 1
before_grows n holds all here = before_all (n + 1) holds (λ j below. so_far j below)
  where
    so_far : (j : ℕ) → j < n + 1 → holds j ≡ true
    so_far j below =
        either (eqb j n)
        (λ e. rw (eqb-true j n e) here)
        (λ e. let apart = eqb-false j n e in holds_before n holds j (rw all (omega arith)))

pub before_ends : (n : ℕ) (holds : ℕ → Bool) → before_failing n holds ≡ n → holds n ≡ false → before_failing (n + 1) holds ≡ n
before_ends n holds all here = before_first (n + 1) holds n (omega arith) here (rw all at (holds_before n holds))

-- where the place fails, or one before it did
pub before_fails : (n : ℕ) (holds : ℕ → Bool) → holds n ≡ false → before_failing (n + 1) holds ≡ before_failing n holds
before_fails n holds here = all-or-first n holds (λ all. before_ends n holds all here ∙ sym all) (before_stays n holds)

pub before_failed : (n : ℕ) (holds : ℕ → Bool) → (before_failing n holds ≡ n → ⊥) → before_failing (n + 1) holds ≡ before_failing n holds
before_failed n holds some = all-or-first n holds (λ all. absurd (some all)) (before_stays n holds)

-- ---- what is told of the places

pub told_none : (number n : ℕ) (holds : ℕ → Bool) → before_failing n holds ≡ n → told_each number n holds ≡ done
unfolding told_each
told_none number n holds h = rw (eq-eqb _ _ h)

pub told_there : (number n : ℕ) (holds : ℕ → Bool) → before_failing n holds < n → told_each number n holds ≡ refused number (before_failing n holds)
unfolding told_each
told_there number n holds h = rw (ne_eqb (before_failing n holds) n (λ e. omega arith))

-- by a walk that ended at r
pub told_at : (number n : ℕ) (holds : ℕ → Bool) (r : ℕ) → r ≡ before_failing n holds → r < n → told_each number n holds ≡ refused number r
told_at number n holds r is below = told_there number n holds (rw (← is) below) ∙ ap (λ p. refused number p) (sym is)

pub told_past : (number n : ℕ) (holds : ℕ → Bool) (r : ℕ) → r ≡ before_failing n holds → n ≤ r → told_each number n holds ≡ done
told_past number n holds r is past = told_none number n holds (omega (arith, is, before_within n holds))

pub told_same : (number n : ℕ) (f g : ℕ → Bool) → Throughout n (λ j. f j ≡ g j) → told_each number n f ≡ told_each number n g
unfolding told_each
told_same number n f g h = rw (before_same n f g h)

-- ---- an order in two parts

pub then_assoc : (s t u : Told) → ((s then t) then u) ≡ (s then t then u)
unfolding ◌then◌
then_assoc done t u = refl
then_assoc (refused k p) t u = refl

module _ {I : Type 0} where
  pub first_append : (ts us : List (Test I)) (i : I) → first (ts ++ us) i ≡ (first ts i then first us i)
  unfolding first ◌then◌
  first_append [] us i = refl
  first_append ((k at p unless t) ∷ ts) us i =
      either (t i)
      (λ e. passed k p t (ts ++ us) i e ∙ first_append ts us i ∙ ap (λ told. told then first us i) (sym (passed k p t ts i e)))
      (λ e. failed k p t (ts ++ us) i e ∙ ap (λ told. told then first us i) (sym (failed k p t ts i e)))

  pub first_once : (number : ℕ) (test : I → Bool) (i : I) → first ((number at (λ j. 0) unless test) ∷ []) i ≡ told_once number (test i)
  unfolding first told_once
  first_once number test i =
      either (test i)
      (λ e. passed number (λ j. 0) test [] i e ∙ rw e)
      (λ e. failed number (λ j. 0) test [] i e ∙ rw e)
