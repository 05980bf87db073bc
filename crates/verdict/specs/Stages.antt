-- Orders of several stages. A stage is an order of tests of its own, with the record that it speaks of: 1 loop, 2 certificate, 0 neither.
use Rattle.std.specs.Prelude.{ℕ, List, [], ◌∷◌}
use Rattle.refusal.specs.Tests.{Told, done, refused}
use Rattle.verdict.specs.declared.Outcome.{Outcome}
use Rattle.verdict.specs.declared.Outcome.TheVariants.{Nothing}
use Rattle.verdict.specs.declared.Verdict.{Verdict}

-- what an order says: all is agreed, or a refusal: the record it speaks of, number and place
pub data Said : Type 0 where
  agreed : Said
  refusal : ℕ → ℕ → ℕ → Said

infix 3 ◌says◌
pub data Stage (I : Type 0) : Type 0 where
  ◌says◌ : ℕ → (I → Told) → Stage I

-- the first stage that refuses is told
unfoldable pub said : {I : Type 0} → List (Stage I) → I → Said
said [] i = agreed
said ((about says told) ∷ stages) i = elim (told i) [ done ↦ said stages i | refused number place ↦ refusal about number place ]

-- what is accepted shows an outcome; a refusal's outcome is nothing
abbrev pub shows : Outcome → Verdict
shows outcome = record { number = 0; place = 0; about = 0; outcome = outcome }

abbrev pub refusal_of : ℕ → ℕ → ℕ → Verdict
refusal_of about number place = record { number = number; place = place; about = about; outcome = Nothing }

unfoldable pub verdict_of : Said → Outcome → Verdict
verdict_of agreed outcome = shows outcome
verdict_of (refusal about number place) outcome = refusal_of about number place
