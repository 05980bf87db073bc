-- 01, "The program "sheet"": the whole text as a function of the whole input, for every input; and what the call answers for every room.
-- The verdicts are those of crate `verdict_short`: kind 7 is taken as kind 2 is, and kinds 5, 6 and 8 are refused with 4. A judge is
-- lent 16 places, for the n entries of r at most.
use Rattle.std.specs.Prelude.{ℕ, suc, ◌+◌, ◌*◌, min, true, false, List, [], ◌∷◌, ◌++◌, leb, ℤ, pos, length, take, drop, replicate}
use Rattle.decimal.specs.Decimals.{decimal}
use Rattle.record.specs.Readers.{counts_read, sound}
use Rattle.record.specs.declared.Writing.{Writing}
use Rattle.refusal.specs.Tests.{Told, done, refused, Test, ◌at◌unless◌, first}
use Rattle.verdict.specs.Pairs.{loop_record}
use Rattle.verdict_short.specs.ShortJudging.{judged_or_short, ranked_or_short}
use Rattle.sheet_lines.specs.VerdictLines.{verdict_line}
use Rattle.sheet_lines.specs.Words.{bytes, line}
use Rattle.record_parting.specs.Parting.{first_record, after_first, records}

-- ---- a certificate's line

-- the list that a judge is lent
unfoldable pub lent : List ℤ
lent = replicate 16 (pos 0)

-- the n of a loop's bytes, and its m
unfoldable pub variables_in : List ℕ → ℕ
variables_in loop = (counts_read (loop_record loop)).n

unfoldable pub rows_in : List ℕ → ℕ
rows_in loop = (counts_read (loop_record loop)).m

-- the line of a certificate for a loop: its verdict, and the n entries of r, which an accepted rank leaves at the front of the list
unfoldable pub certificate_line : List ℕ → ℕ → List ℕ → List ℕ
certificate_line loop count certificate =
    verdict_line count (judged_or_short loop certificate lent)
    (take (variables_in loop) (ranked_or_short loop certificate lent))

-- one line per certificate, with its count
unfoldable pub lines : List ℕ → ℕ → List (List ℕ) → List ℕ
lines loop count [] = []
lines loop count (certificate ∷ certificates) = certificate_line loop count certificate ++ lines loop (suc count) certificates

-- ---- the text

-- `loop`, n, m and the certificates' lines; or `loop refused`, number, place, and it stops
unfoldable pub judged : Told → List ℕ → List ℕ → List ℕ
judged done loop rest = line (bytes "loop" ∷ decimal (variables_in loop) ∷ decimal (rows_in loop) ∷ []) ++ lines loop 1 (records rest)
judged (refused number place) loop rest = line (bytes "loop" ∷ bytes "refused" ∷ decimal number ∷ decimal place ∷ [])

-- "It reads up to 65,536 bytes [..] Longer input prints only `input too long`."
unfoldable pub sheet_text : List ℕ → List ℕ
sheet_text input =
    elim (leb (length input) 65_536) [
      | true ↦ judged (first sound (loop_record (first_record input))) (first_record input) (after_first input)
      | false ↦ line (bytes "input" ∷ bytes "too" ∷ bytes "long" ∷ [])
    ]

-- ---- the call

-- no text is longer: a line has at most 282 bytes, a record takes 6 but for the last, and the first line has 24; past 65,536 there
-- is one short line
abbrev pub worst : ℕ → ℕ
worst size = 47 * min size 65_536 + 306

-- what comes to the call: the input, and how much room there is for the text
pub record Sheet : Type 0 where
  pub input : List ℕ
  pub room : ℕ

-- "7, room too small, room needed"
unfoldable pub enough_room : List (Test Sheet)
enough_room = (7 at (λ s. worst (length s.input)) unless λ s. leb (worst (length s.input)) s.room) ∷ []

-- number, place and bytes written
unfoldable pub answer : Told → List ℕ → Writing
answer done text = record { number = 0; place = 0; written = length text }
answer (refused number place) text = record { number = number; place = place; written = 0 }

-- the text fills the first places of the room, the rest stays; a refusal changes nothing
unfoldable pub filled : Told → List ℕ → List ℕ → List ℕ
filled done text room = text ++ drop (length text) room
filled (refused number place) text room = room

unfoldable pub sheet_of : List ℕ → List ℕ → Sheet
sheet_of input room = record { input = input; room = length room }

unfoldable pub sheet_answers : List ℕ → List ℕ → Writing
sheet_answers input room = answer (first enough_room (sheet_of input room)) (sheet_text input)

unfoldable pub room_after : List ℕ → List ℕ → List ℕ
room_after input room = filled (first enough_room (sheet_of input room)) (sheet_text input) room
