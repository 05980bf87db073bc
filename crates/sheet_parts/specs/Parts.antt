-- The text of a sheet in parts: what is still to come after a part, what a part promises, and what it means that parts are handed
-- on one after another. Nothing here says how long a part is: that is the room's affair.
use Rattle.std.specs.Prelude.{◌≡◌, ℕ, ◌+◌, ◌≤◌, ◌<◌, List, [], ◌∷◌, ◌++◌, length, take, drop}
use Rattle.judge.specs.SoundPairs.{LoopSound}
use Rattle.record_parting.specs.Parting.{first_record, records}
use Rattle.sheet_text.specs.Sheets.{lines}
use Rattle.sheet_parts.specs.declared.Part.{Part}

-- the text that is still to come: the lines of the certificates from a place on, the first with a count
unfoldable pub to_come : List ℕ → ℕ → ℕ → List ℕ
to_come input place count = lines (first_record input) count (records (drop place input))

-- where a part may leave off: if bytes are left, the input is not too long and its loop is sound, with the counts that the part carries on
pub record Goes_on (input : List ℕ) (part : Part) : Type 0 where
  pub within : part.place ≤ length input
  pub counted : part.count ≤ part.place + 1
  pub short : part.place < length input → length input ≤ 65_536
  pub loop_sound : part.place < length input → LoopSound (first_record input) part.n part.m

-- what a part promises of a text, for an input and a room: the room's first bytes, and then what is still to come, are the text
pub record Begins (text : List ℕ) (input room : List ℕ) (part : Part) : Type 0 where
  pub goes_on : Goes_on input part
  pub fits : part.written ≤ length room
  pub whole : text ≡ take part.written room ++ to_come input part.place part.count

-- the parts of a text, to the last: what each call left at the front of a room, if the first begins the text and each other one
-- what was still to come
pub data Parts (input : List ℕ) : List ℕ → List (List ℕ) → Type 0 where
  the_last : {text room : List ℕ} {part : Part} → Begins text input room part → length input ≤ part.place
      → Parts input text (take part.written room ∷ [])
  one_more : {text room : List ℕ} {part : Part} {parts : List (List ℕ)} → Begins text input room part
      → Parts input (to_come input part.place part.count) parts
      → Parts input text (take part.written room ∷ parts)

-- ---- handing on

-- a part is what comes next in a text of which the first `done` bytes were handed on
abbrev pub Next : List ℕ → ℕ → List ℕ → Type 0
Next text done part = take (length part) (drop done text) ≡ part

-- so is each of a list of parts, one after another
abbrev pub EachNext : List ℕ → ℕ → List (List ℕ) → Type 0
EachNext text done [] = Unit {0}
EachNext text done (part ∷ parts) = Next text done part × EachNext text (done + length part) parts
