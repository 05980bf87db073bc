-- What judging answers when two numbers of a record, or two lists of one length, stand in each other's place. No definition of a
-- layout is used here: an exchange is of bytes at places.
use Rattle.std.specs.Prelude.{ℕ, ◌+◌, ◌-◌, Bool, false, ◌&&◌, ◌||◌, List, [], ◌∷◌, ◌++◌, eqb, pos, take, drop, replicate}
use Rattle.whole.specs.Same.{same_z}
use Rattle.verdict.specs.Judging.{judges, judge_of}
use Rattle.verdict.specs.Outcomes.{numbers}
use Rattle.verdict.specs.declared.Outcome.{Outcome}
use Rattle.verdict.specs.declared.Outcome.TheVariants.{Nothing}
use Rattle.verdict.specs.declared.Verdict.{Verdict}

-- the bytes with those at two places exchanged, `width` bytes each; the first place is before the second
unfoldable pub exchanged : ℕ → ℕ → ℕ → List ℕ → List ℕ
exchanged width p q bytes =
    take p bytes
    ++ (take width (drop q bytes)
    ++ (take (q - (p + width)) (drop (p + width) bytes)
    ++ (take width (drop p bytes)
    ++ drop (q + width) bytes)))

-- a line of a table: width, the two places, and the answer, which is a refusal (number, place, record) or an outcome
infix 2 ◌bytes-at◌and◌refused◌at◌of◌
infix 2 ◌bytes-at◌and◌show◌
pub data Line : Type 0 where
  ◌bytes-at◌and◌refused◌at◌of◌ : ℕ → ℕ → ℕ → ℕ → ℕ → ℕ → Line
  ◌bytes-at◌and◌show◌ : ℕ → ℕ → ℕ → Outcome → Line

-- the lines' exchanges, and their answers
unfoldable pub exchange_of : Line → List ℕ → List ℕ
exchange_of (w bytes-at p and q refused number at place of about) = exchanged w p q
exchange_of (w bytes-at p and q show outcome) = exchanged w p q

unfoldable pub answer_of : Line → Verdict
answer_of (w bytes-at p and q refused number at place of about) =
    record { number = number; place = place; about = about; outcome = Nothing }
answer_of (w bytes-at p and q show outcome) = record { number = 0; place = 0; about = 0; outcome = outcome }

-- judging, with a rank list of two places
unfoldable pub judged : List ℕ → List ℕ → Verdict
judged loop certificate = judges (judge_of loop certificate (replicate 2 (pos 0)))

-- two verdicts alike in number, place, record, kind of outcome, start, fall and grade
unfoldable pub alike : Verdict → Verdict → Bool
alike a b =
    eqb a.number b.number
    && (eqb a.place b.place
    && (eqb a.about b.about
    && (eqb (numbers a.outcome).kind (numbers b.outcome).kind
    && (same_z (numbers a.outcome).start (numbers b.outcome).start
    && (same_z (numbers a.outcome).fall (numbers b.outcome).fall
    && eqb (numbers a.outcome).grade (numbers b.outcome).grade)))))

-- a verdict is told by a line of a table
unfoldable pub told_in : List Line → Verdict → Bool
told_in [] verdict = false
told_in (line ∷ lines) verdict = alike (answer_of line) verdict || told_in lines verdict
