-- What a result that was handed on says of what is told, and what it is for what is told; and that 0 is told by no refusal.
use Rattle.std.specs.Prelude.{Result, Ok, Err}
use mathlib.Core.Path.{◌≡◌, refl, sym, ap, ◌∙◌}
use mathlib.Core.Bool.{Bool, true, false}
use Prim.Native.Nat.{ℕ}
use Rattle.refusal.specs.Tests.{Told, done, refused, ◌then◌, number}
use Rattle.refusal.specs.Places.{told_each, told_once}
use Rattle.refusal.specs.Faults.{result_of}
use Rattle.refusal.specs.declared.Fault.{Fault}
use Rattle.refusal.proofs.PlaceLaws.{all-or-first, told_none, told_there}

-- 0 is told only by what is done
abbrev pub Named : Told → Type 0
Named t = number t ≡ 0 → t ≡ done

pub named_then : (s t : Told) → Named s → Named t → Named (s then t)
unfolding ◌then◌
named_then done t f g = g
named_then (refused k p) t f g = f

pub named_each : (k n : ℕ) (holds : ℕ → Bool) → (k ≡ 0 → ⊥) → Named (told_each k n holds)
unfolding number
named_each k n holds some h =
    all-or-first n holds (told_none k n holds) (λ below. absurd (some (sym (ap number (told_there k n holds below)) ∙ h)))

pub named_once : (k : ℕ) (holds : Bool) → (k ≡ 0 → ⊥) → Named (told_once k holds)
unfolding told_once number
named_once k true some h = refl
named_once k false some h = absurd (some h)

-- ---- results

module _ {A : Type 0} where
  -- what was given says that it is done
  pub told_done : (t : Told) (a x : A) → Ok x ≡ result_of t a → t ≡ done
  unfolding result_of
  told_done done a x h = refl
  told_done (refused k p) a x h = cc

  pub told_given : (t : Told) (a x : A) → Ok x ≡ result_of t a → x ≡ a
  unfolding result_of
  told_given done a x h = cc
  told_given (refused k p) a x h = cc

  -- a refusal says what is told
  pub told_refused : (t : Told) (a : A) (f : Fault) → Err f ≡ result_of t a → t ≡ refused f.number f.place
  unfolding result_of
  told_refused done a f h = cc
  told_refused (refused k p) a f h = cc

  -- and the other way
  pub gives : {t : Told} (a : A) → t ≡ done → Ok a ≡ result_of t a
  unfolding result_of
  gives a h = rw h

  pub refuses : {t : Told} {k p : ℕ} (a : A) → t ≡ refused k p → Err (record { number = k; place = p }) ≡ result_of t a
  unfolding result_of
  refuses a h = rw h

-- what is told where one thing is given is told where another is: a refusal is handed on, and what goes on is done
pub handed_on : {A B : Type 0} (t : Told) (a : A) (b : B) (f : Fault) → Err f ≡ result_of t a → Err f ≡ result_of t b
unfolding result_of
handed_on done a b f h = cc
handed_on (refused k p) a b f h = cc

pub went_on : {A B : Type 0} (t : Told) (a x : A) (b : B) → Ok x ≡ result_of t a → Ok b ≡ result_of t b
unfolding result_of
went_on done a x b h = refl
went_on (refused k p) a x b h = cc

-- an order in two parts: what the first gave leaves the second to speak, and a refusal of the first is the whole's
module _ {A B : Type 0} where
  pub gives_then : (t u : Told) (x a : A) (b : B) → Ok x ≡ result_of t a → result_of u b ≡ result_of (t then u) b
  unfolding result_of ◌then◌
  gives_then done u x a b h = refl
  gives_then (refused k p) u x a b h = cc

  pub refuses_then : (t u : Told) (f : Fault) (a : A) (b : B) → Err f ≡ result_of t a → Err f ≡ result_of (t then u) b
  unfolding result_of ◌then◌
  refuses_then done u f a b h = cc
  refuses_then (refused k p) u f a b h = cc
