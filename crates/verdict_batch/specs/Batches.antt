-- 02, Q-2: "One call takes the records laid end to end, and for each in turn a verdict is put into the caller's row of verdicts. It must
-- equal judging them one by one in that order, with rank lists in consecutive stretches of n numbers". The records are parted as the sheet
-- parts its input. "Refusals, after the loop record and before any judging: more than 32 records, 13, place the count; too few verdict
-- places, 7; then fewer than n rank numbers a record, 7."
use Rattle.std.specs.Prelude.{ℕ, ◌+◌, ◌*◌, cond, List, [], ◌∷◌, ◌++◌, leb, ℤ, length, take, drop}
use Rattle.endian.specs.Numbers.{little_at}
use Rattle.record.specs.Readers.{sound}
use Rattle.record_parting.specs.Parting.{records}
use Rattle.record_paths.specs.PathFields.{bytes_alone}
use Rattle.record_paths.specs.PathLoops.{sound_paths}
use Rattle.refusal.specs.Tests.{Told, Test, ◌at◌unless◌, first}
use Rattle.verdict.specs.Pairs.{loop_record}
use Rattle.verdict.specs.Stages.{Said, agreed, refusal, Stage, ◌says◌, said}
use Rattle.verdict.specs.declared.Verdict.{Verdict}
use Rattle.verdict_paths.specs.JudgingByLoop.{of_paths}
use Rattle.verdict_short.specs.Answers.{answered, rank_answered}
use Rattle.verdict_batch.specs.declared.Batched.{Batched}

-- ---- the order

-- what comes in: the loop's bytes, the records, and how many verdict places and rank numbers are lent
pub record Batch : Type 0 where
  pub loopbytes : List ℕ
  pub certificates : List (List ℕ)
  pub places : ℕ
  pub numbers : ℕ

-- what the tests of a loop record tell, by its kind
unfoldable pub loop_told : List ℕ → Told
loop_told loopbytes = cond (of_paths loopbytes) (first sound_paths (bytes_alone loopbytes)) (first sound (loop_record loopbytes))

-- n, which stands at byte 6 of either kind of loop
unfoldable pub variables : List ℕ → ℕ
variables loopbytes = little_at 2 loopbytes 6

-- how many records there are, and how many rank numbers they ask for: n a record, whatever its kind
unfoldable pub count : Batch → ℕ
count b = length b.certificates

unfoldable pub numbers_needed : Batch → ℕ
numbers_needed b = variables b.loopbytes * count b

unfoldable pub enough_room : List (Test Batch)
enough_room =
    (13 at count unless λ b. leb (count b) 32)
    ∷ (7 at count unless λ b. leb (count b) b.places)
    ∷ (7 at numbers_needed unless λ b. leb (numbers_needed b) b.numbers)
    ∷ []

unfoldable pub batching : List (Stage Batch)
batching = (1 says λ b. loop_told b.loopbytes) ∷ (0 says first enough_room) ∷ []

-- ---- one by one

-- the verdicts, each with the next n numbers as its rank list
unfoldable pub verdicts_in_turn : List ℕ → List (List ℕ) → List ℤ → List Verdict
verdicts_in_turn loopbytes [] ranks = []
verdicts_in_turn loopbytes (certificate ∷ certificates) ranks =
    answered loopbytes certificate (take (variables loopbytes) ranks)
    ∷ verdicts_in_turn loopbytes certificates (drop (variables loopbytes) ranks)

-- each stretch of n numbers as judging leaves it; what is past the last stays
unfoldable pub ranks_in_turn : List ℕ → List (List ℕ) → List ℤ → List ℤ
ranks_in_turn loopbytes [] ranks = ranks
ranks_in_turn loopbytes (certificate ∷ certificates) ranks =
    rank_answered loopbytes certificate (take (variables loopbytes) ranks)
    ++ ranks_in_turn loopbytes certificates (drop (variables loopbytes) ranks)

-- stretch i of the rank numbers, n each; and the numbers with another in its place
unfoldable pub stretch : ℕ → ℕ → List ℤ → List ℤ
stretch n i ranks = take n (drop (n * i) ranks)

unfoldable pub with_stretch : ℕ → ℕ → List ℤ → List ℤ → List ℤ
with_stretch n i other ranks = take (n * i) ranks ++ (other ++ drop (n * i + n) ranks)

-- ---- the call

abbrev pub batch_of : List ℕ → List ℕ → ℕ → ℕ → Batch
batch_of loopbytes bytes places numbers =
    record { loopbytes = loopbytes; certificates = records bytes; places = places; numbers = numbers }

-- number, place, the record spoken of, and the count of records judged
unfoldable pub answer : Said → ℕ → Batched
answer agreed judged = record { number = 0; place = 0; about = 0; count = judged }
answer (refusal about number place) judged = record { number = number; place = place; about = about; count = 0 }

unfoldable pub batch_answers : Batch → Batched
batch_answers b = answer (said batching b) (count b)

-- a row whose first places are filled, the rest stay; a refusal changes nothing
unfoldable pub filled : {X : Type 0} → Said → List X → List X → List X
filled agreed front row = front ++ drop (length front) row
filled (refusal about number place) front row = row

unfoldable pub verdicts_after : List ℕ → List ℕ → List Verdict → List ℤ → List Verdict
verdicts_after loopbytes bytes row ranks =
    filled (said batching (batch_of loopbytes bytes (length row) (length ranks))) (verdicts_in_turn loopbytes (records bytes) ranks) row

-- the rank numbers; a refusal changes nothing
unfoldable pub ranked : Said → List ℤ → List ℤ → List ℤ
ranked agreed after ranks = after
ranked (refusal about number place) after ranks = ranks

unfoldable pub ranks_after : List ℕ → List ℕ → ℕ → List ℤ → List ℤ
ranks_after loopbytes bytes places ranks =
    ranked (said batching (batch_of loopbytes bytes places (length ranks))) (ranks_in_turn loopbytes (records bytes) ranks) ranks
