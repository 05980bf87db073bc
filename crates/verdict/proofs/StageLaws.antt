-- Laws of orders of stages: all is agreed exactly when every stage is done.
use mathlib.Core.Path.{◌≡◌, refl, sym, ap, ◌∙◌}
use Prim.Native.Nat.{ℕ}
use mathlib.Core.List.{List, [], ◌∷◌}
use native.Mathlib.Omega.{arith}
use Rattle.refusal.specs.Tests.{Told, done, refused, number}
use Rattle.refusal.proofs.TestLaws.{never}
use Rattle.verdict.specs.Stages.{Said, agreed, refusal, Stage, ◌says◌, said, verdict_of}
use Rattle.verdict.specs.declared.Outcome.{Outcome}

-- done or refused
pub by_told : {X : Type 0} (t : Told) → (t ≡ done → X) → ((k p : ℕ) → t ≡ refused k p → X) → X
by_told done f g = f refl
by_told (refused k p) f g = g k p refl

module _ {I : Type 0} where
  -- every stage is done
  abbrev pub Agrees : List (Stage I) → I → Type 0
  Agrees [] i = Unit {0}
  Agrees ((about says told) ∷ stages) i = (told i ≡ done) × Agrees stages i

  -- one step
  pub stage_done : (about : ℕ) (told : I → Told) (stages : List (Stage I)) (i : I) → told i ≡ done → said ((about says told) ∷ stages) i ≡ said stages i
  unfolding said
  stage_done about told stages i h = step (told i) h
    where
      step : (t : Told) → t ≡ done → elim t [ done ↦ said stages i | refused number place ↦ refusal about number place ] ≡ said stages i
      step done e = refl
      step (refused k p) e = cc

  pub stage_refused : (about : ℕ) (told : I → Told) (stages : List (Stage I)) (i : I) (k p : ℕ) → told i ≡ refused k p → said ((about says told) ∷ stages) i ≡ refusal about k p
  unfolding said
  stage_refused about told stages i k p h = step (told i) h
    where
      step : (t : Told) → t ≡ refused k p → elim t [ done ↦ said stages i | refused number place ↦ refusal about number place ] ≡ refusal about k p
      step done e = cc
      step (refused k' p') e = cc

  pub agrees_said : (stages : List (Stage I)) (i : I) → Agrees stages i → said stages i ≡ agreed
  unfolding said
  agrees_said [] i h = refl
  agrees_said ((about says told) ∷ stages) i h = stage_done about told stages i h.0 ∙ agrees_said stages i h.1

  pub said_agrees : (stages : List (Stage I)) (i : I) → said stages i ≡ agreed → Agrees stages i
  said_agrees [] i h = tt
  said_agrees ((about says told) ∷ stages) i h =
      by_told (told i) (λ e. (e, said_agrees stages i (sym (stage_done about told stages i e) ∙ h)))
      (λ k p e. absurd (no_refusal (sym (stage_refused about told stages i k p e) ∙ h)))
    where
      no_refusal : {a k p : ℕ} → refusal a k p ≡ agreed → ⊥
      no_refusal e = let z : ◌≡◌ {A = ℕ} 0 1 = cc in omega arith

-- ---- 0 is told only when all is agreed

-- the number of what is said
abbrev pub number_said : Said → ℕ
number_said agreed = 0
number_said (refusal about number place) = number

-- which is that of the verdict
pub verdict_number : (s : Said) (o : Outcome) → number_said s ≡ (verdict_of s o).number
unfolding verdict_of
verdict_number agreed o = refl
verdict_number (refusal a k p) o = refl

module _ {I : Type 0} where
  -- each stage tells 0 only when it is done
  abbrev pub Named : List (Stage I) → I → Type 0
  Named [] i = Unit {0}
  Named ((about says told) ∷ stages) i = (number (told i) ≡ 0 → told i ≡ done) × Named stages i

  pub zero_agreed : (stages : List (Stage I)) (i : I) → Named stages i → number_said (said stages i) ≡ 0 → said stages i ≡ agreed
  unfolding said number
  zero_agreed [] i named h = refl
  zero_agreed ((about says told) ∷ stages) i named h =
      by_told (told i)
      (λ e. stage_done about told stages i e ∙ zero_agreed stages i named.1 (ap number_said (sym (stage_done about told stages i e)) ∙ h))
      (λ k p e.
      let zero_told : k ≡ 0 = ap number_said (sym (stage_refused about told stages i k p e)) ∙ h in
      absurd (never (sym e ∙ named.0 (ap number e ∙ zero_told))))

  -- no stage that is reached tells the number k
  abbrev pub Silent : ℕ → List (Stage I) → I → Type 0
  Silent k [] i = Unit {0}
  Silent k ((about says told) ∷ stages) i = (number (told i) ≡ k → ⊥) × (told i ≡ done → Silent k stages i)

  pub silent_said : (k : ℕ) (stages : List (Stage I)) (i : I) → (0 ≡ k → ⊥) → Silent k stages i → number_said (said stages i) ≡ k → ⊥
  unfolding said number
  silent_said k [] i some silent h = some h
  silent_said k ((about says told) ∷ stages) i some silent h =
      by_told (told i)
      (λ e. silent_said k stages i some (silent.1 e) (ap number_said (sym (stage_done about told stages i e)) ∙ h))
      (λ n p e. silent.0 (ap number e ∙ ap number_said (sym (stage_refused about told stages i n p e)) ∙ h))

  -- a refusal comes from behind a stage that does not tell its number
  pub stage_passed : (about : ℕ) (told : I → Told) (stages : List (Stage I)) (i : I) (a k p : ℕ) → (number (told i) ≡ k → ⊥)
      → said ((about says told) ∷ stages) i ≡ refusal a k p → (told i ≡ done) × (said stages i ≡ refusal a k p)
  unfolding number
  stage_passed about told stages i a k p silent h =
      by_told (told i)
      (λ e. (e, sym (stage_done about told stages i e) ∙ h))
      (λ n q e. absurd (silent (ap number e ∙ ap number_said (sym (stage_refused about told stages i n q e) ∙ h))))

  -- and from a stage behind which none tells it
  pub stage_tells : (about : ℕ) (told : I → Told) (stages : List (Stage I)) (i : I) (a k p : ℕ) → (number_said (said stages i) ≡ k → ⊥)
      → said ((about says told) ∷ stages) i ≡ refusal a k p → told i ≡ refused k p
  stage_tells about told stages i a k p silent h =
      by_told (told i)
      (λ e. absurd (silent (ap number_said (sym (stage_done about told stages i e) ∙ h))))
      (λ n q e. e ∙ same_refusal (sym (stage_refused about told stages i n q e) ∙ h))
    where
      same_refusal : {b n q : ℕ} → refusal b n q ≡ refusal a k p → refused n q ≡ refused k p
      same_refusal e = cc
