-- Kinds by cases: the one decision on the kind number, and which kinds a call's set holds.
use mathlib.Core.Path.{◌≡◌, refl}
use Prim.Native.Nat.{ℕ, ◌≤◌}
use mathlib.Core.Bool.{true, false, false≢true}
use native.Mathlib.Omega.{arith}
use lib.Dec.{eqb}
use borrow.Author.Tests.{eqb-true}
use Rattle.refusal.proofs.TestLaws.{either}
use Rattle.record.specs.declared.Wanted.{Wanted}
use Rattle.record.specs.Layouts.{Kind, loop, ranking, exclusion, lasso, other, kind_of, is_loop, is_known}
use Rattle.record.specs.Wants.{wants_of, certificates_read, kinds_written}

-- ---- the kind number

pub by_kind : (P : Kind → Type 0) (x : ℕ) → (x ≡ 1 → P loop) → (x ≡ 2 → P ranking) → (x ≡ 3 → P exclusion) → (x ≡ 4 → P lasso) → P other → P (kind_of x)
unfolding kind_of
by_kind P x one two three four rest =
    either (eqb x 1)
    (λ h. rw h (one (eqb-true x 1 h)))
    (λ a.
    either (eqb x 2)
    (λ h. rw (a, h) (two (eqb-true x 2 h)))
    (λ b.
    either (eqb x 3)
    (λ h. rw (a, b, h) (three (eqb-true x 3 h)))
    (λ c. either (eqb x 4) (λ h. rw (a, b, c, h) (four (eqb-true x 4 h))) (λ d. rw (a, b, c, d) rest))))

-- only kind 1 is a loop
pub no_loop : (x : ℕ) → (x ≡ 1 → ⊥) → is_loop (kind_of x) ≡ false
unfolding is_loop
no_loop x one = by_kind (λ k. is_loop k ≡ false) x (λ h. absurd (one h)) (λ h. refl) (λ h. refl) (λ h. refl) refl

pub other_kind : (x : ℕ) → (x ≡ 1 → ⊥) → (x ≡ 2 → ⊥) → (x ≡ 3 → ⊥) → (x ≡ 4 → ⊥) → kind_of x ≡ other
other_kind x one two three four =
    by_kind (λ k. k ≡ other) x (λ h. absurd (one h)) (λ h. absurd (two h)) (λ h. absurd (three h)) (λ h. absurd (four h)) refl

-- a known kind is a small number
pub known_small : (x : ℕ) → is_known (kind_of x) ≡ true → x ≤ 4
unfolding is_known
known_small x =
    by_kind (λ k. is_known k ≡ true → x ≤ 4) x (λ e h. omega arith) (λ e h. omega arith) (λ e h. omega arith) (λ e h. omega arith) (λ h. absurd (false≢true h))

-- ---- loops

pub loop_only : (k : Kind) → is_loop k ≡ true → k ≡ loop
unfolding is_loop
loop_only loop h = refl
loop_only ranking h = cc
loop_only exclusion h = cc
loop_only lasso h = cc
loop_only other h = cc

pub loop_known : (k : Kind) → is_loop k ≡ true → is_known k ≡ true
unfolding is_known
loop_known k h = rw (loop_only k h)

-- ---- certificates that are wanted

module _ (w : Wanted) where
  pub unwanted_kind : (x : ℕ) → (x ≡ 2 → w.ranking ≡ false) → (x ≡ 3 → w.exclusion ≡ false) → (x ≡ 4 → w.lasso ≡ false) → wants_of w (kind_of x) ≡ false
  unfolding wants_of
  unwanted_kind x two three four = by_kind (λ k. wants_of w k ≡ false) x (λ h. refl) two three four refl

  pub wanted_no_loop : (k : Kind) → wants_of w k ≡ true → is_loop k ≡ false
  unfolding wants_of is_loop
  wanted_no_loop loop h = absurd (false≢true h)
  wanted_no_loop ranking h = refl
  wanted_no_loop exclusion h = refl
  wanted_no_loop lasso h = refl
  wanted_no_loop other h = refl

  pub wanted_known : (k : Kind) → wants_of w k ≡ true → is_known k ≡ true
  unfolding wants_of is_known
  wanted_known loop h = refl
  wanted_known ranking h = refl
  wanted_known exclusion h = refl
  wanted_known lasso h = refl
  wanted_known other h = absurd (false≢true h)

-- ---- what is written and what is read

pub written_known : (k : Kind) → kinds_written k ≡ true → is_known k ≡ true
unfolding kinds_written is_known
written_known loop h = refl
written_known ranking h = refl
written_known exclusion h = refl
written_known lasso h = refl
written_known other h = h

pub loop_written : (k : Kind) → is_loop k ≡ true → kinds_written k ≡ true
unfolding kinds_written
loop_written k h = rw (loop_only k h)

-- every certificate that is read can be written
pub read_written : (k : Kind) → certificates_read k ≡ true → kinds_written k ≡ true
unfolding wants_of kinds_written
read_written loop h = refl
read_written ranking h = refl
read_written exclusion h = refl
read_written lasso h = refl
read_written other h = h

-- and all that is written, but a loop, is read as a certificate
pub written_read : (k : Kind) → kinds_written k ≡ true → is_loop k ≡ false → certificates_read k ≡ true
unfolding kinds_written is_loop wants_of
written_read loop h plain = cc
written_read ranking h plain = refl
written_read exclusion h plain = refl
written_read lasso h plain = refl
written_read other h plain = h
