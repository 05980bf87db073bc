-- The laws of parts: the first line and what comes after it, and one line more in the room. Assumes nothing.
use mathlib.Core.Path.{◌≡◌, refl, sym, ap, ◌∙◌}
use Prim.Native.Nat.{ℕ, ◌+◌, ◌*◌, ◌-◌, ◌≤◌, ◌<◌}
use mathlib.Core.List.{List, [], ◌++◌, append_assoc, append-nil}
use native.Mathlib.Omega.{arith}
use lib.ListN.{length, take, drop, length-append, length-drop, drop_of_length-le}
use lib.Seq.{take_at, take_all, length-take-le}
use Rattle.decimal.specs.Rooms.{written, Puts}
use Rattle.record.specs.Readers.{sound}
use Rattle.refusal.specs.Tests.{Told, done, refused, first}
use Rattle.verdict.specs.Pairs.{loop_record}
use Rattle.judge.specs.SoundPairs.{LoopSound}
use Rattle.record_parting.specs.Parting.{taken, first_record, records}
use Rattle.record_parting.proofs.PartingLaws.{taken_within, taken_some}
use Rattle.sheet_text.specs.Sheets.{certificate_line, lines, judged, sheet_text}
use Rattle.sheet_text.proofs.TextLaws.{text_parted, lines_none, lines_turn}
use Rattle.sheet_text.proofs.WorstCase.{certificate_size}
use Rattle.decimal.proofs.RoomLaws.{length_written}
use Rattle.sheet_parts.specs.Parts.{to_come, Goes_on, Begins}
use Rattle.sheet_parts.specs.declared.Part.{Part}

-- a text that was put after the front of a room lengthens the front
pub longer_front : (room : List ℕ) (at : ℕ) (text : List ℕ) {end : ℕ} {after : List ℕ} → Puts room at text end after → at ≤ length room → take end after ≡ take at room ++ text
unfolding written
longer_front room at text put fits =
    let size : length (take at room ++ text) ≡ at + length text = simp (length-append, length-take-le at room fits) in
    rw (put.room_is, put.end_is, ← append_assoc (take at room) text) (take_at (take at room ++ text) _ _ size)

-- the bytes up to where the first record ends
pub first_is : (input : List ℕ) (end : ℕ) → end ≡ taken input → take end input ≡ first_record input
unfolding first_record
first_is input end end_is = rw end_is

-- nothing is to come after the last byte
pub nothing_to_come : (input : List ℕ) (place count : ℕ) → length input ≤ place → to_come input place count ≡ []
unfolding to_come
nothing_to_come input place count end = rw (drop_of_length-le input {i = place} end) (lines_none (first_record input) count)

-- ---- the first line

module _ (loop rest : List ℕ) where
  pub first_line_sound : judged done loop rest ≡ judged done loop [] ++ lines loop 1 (records rest)
  unfolding judged
  first_line_sound = rw (lines_none loop 1, append-nil)

  pub first_line_refused : (number place : ℕ) → judged (refused number place) loop rest ≡ judged (refused number place) loop []
  unfolding judged
  first_line_refused number place = refl

module _ (input : List ℕ) (end : ℕ) (short : length input ≤ 65_536) (end_is : end ≡ taken input) where
  abbrev told_of : Told
  told_of = first sound (loop_record (take end input))

  abbrev first_line : List ℕ
  first_line = judged told_of (take end input) []

  text_is : sheet_text input ≡ judged told_of (take end input) (drop end input)
  text_is = text_parted input (drop end input) end short refl end_is

  -- the first line of a sound loop, and the lines of its certificates
  pub text_sound : told_of ≡ done → sheet_text input ≡ first_line ++ to_come input end 1
  unfolding to_come
  text_sound told = text_is ∙ rw (told, ← first_is input end end_is) (first_line_sound (take end input) (drop end input))

  -- that of a refused loop is all
  pub text_refused : (number place : ℕ) → told_of ≡ refused number place → sheet_text input ≡ first_line
  text_refused number place told = text_is ∙ rw told (first_line_refused (take end input) (drop end input) number place)

-- ---- what a part promises

-- no certificate follows a part that reached the end
pub goes_last : (input : List ℕ) (part : Part) → part.place ≡ length input → part.count ≡ 1 → Goes_on input part
goes_last input part end counted = record { within = omega arith; counted = omega arith; short = λ more. absurd (omega arith); loop_sound = λ more. absurd (omega arith) }

module _ {input room after line : List ℕ} {end : ℕ} (part : Part) (put : Puts room 0 line end after) (fits : length line ≤ length room) (end_is : part.written ≡ end) where
  pub begins : (text : List ℕ) → Goes_on input part → text ≡ line ++ to_come input part.place part.count → Begins text input after part
  begins text on text_is =
      let front : take part.written after ≡ line = ap (λ (k : ℕ). take k after) end_is ∙ longer_front room 0 line put (omega arith) in
      record {
        goes_on = on;
        fits = omega (arith, put.end_is, ap length put.room_is, length_written room 0 line (omega arith));
        whole = rw front text_is;
      }

  -- the last part is what is left of the text
  pub begins_last : part.place ≡ length input → part.count ≡ 1 → Begins line input after part
  begins_last last counted =
      begins line (goes_last input part last counted) (sym (rw (nothing_to_come input part.place part.count (omega arith)) (append-nil line)))

-- ---- the lines after it

-- the first record of the bytes that are left
module _ (input : List ℕ) (place size : ℕ) (more : place < length input) (is : size ≡ taken (take (length input - place) (drop place input))) where
  abbrev left : List ℕ
  left = drop place input

  abbrev part : List ℕ
  part = take (length input - place) left

  long : length left ≡ length input - place
  long = length-drop place input

  part_is : part ≡ left
  part_is = take_all (length input - place) left (omega (arith, long))

  size_is : size ≡ taken left
  size_is = rw part_is at is

  -- it is not empty, and lies within the input
  pub size_some : 0 < size
  size_some = omega (arith, size_is, taken_some left (omega (arith, long)))

  pub size_within : place + size ≤ length input
  size_within = omega (arith, size_is, taken_within left, long)

  pub size_held : length (take size part) ≡ size
  size_held = rw part_is (length-take-le size left (omega (arith, size_within, long)))

  -- its line is short, and comes first of what is to come
  module _ (count : ℕ) where
    abbrev line : List ℕ
    line = certificate_line (first_record input) count (take size part)

    pub line_short : {n m : ℕ} → LoopSound (first_record input) n m → length input ≤ 65_536 → count ≤ place + 1 → length line ≤ 282
    line_short sound short counted =
        certificate_size (first_record input) (take size part) sound.told (omega (arith, size_held, size_within)) count (omega arith)

    pub line_first : to_come input place count ≡ line ++ to_come input (place + size) (count + 1)
    unfolding to_come
    line_first = lines_turn (first_record input) count input part place size part_is size_is (omega (arith, long))

-- a room of a size that is being filled, from a place and a count on. A line has at most 282 bytes and its certificate at least one, so a room in which
-- something was put has left the place behind.
pub record Filled (input : List ℕ) (from count_from size : ℕ) (room : List ℕ) (end place count : ℕ) : Type 0 where
  pub within : place ≤ length input
  pub counted : count ≤ place + 1
  pub same : length room ≡ size
  pub fits : end ≤ size
  pub moved : end + 282 * from ≤ 282 * place
  pub whole : to_come input from count_from ≡ take end room ++ to_come input place count

pub filled_none : (input : List ℕ) (from count : ℕ) (room : List ℕ) → from ≤ length input → count ≤ from + 1 → Filled input from count (length room) room 0 from count
filled_none input from count room within counted = record { within = within; counted = counted; same = refl; fits = omega arith; moved = omega arith; whole = refl }

-- the line of the first record of the bytes that are left is put behind what is there
pub filled_more : {input room after : List ℕ} {from count_from all end place count next n m : ℕ} (size : ℕ)
    → (more : place < length input) (is : size ≡ taken (take (length input - place) (drop place input)))
    → Filled input from count_from all room end place count → LoopSound (first_record input) n m → length input ≤ 65_536 → 306 ≤ length room - end
    → Puts room end (certificate_line (first_record input) count (take size (take (length input - place) (drop place input)))) next after
    → length after ≡ length room → Filled input from count_from all after next (place + size) (count + 1)
filled_more {input} {room} {after} {from} {count_from} {all} {end} {place} {count} size more is far sound short room_left put same_length =
    let certificate = take size (take (length input - place) (drop place input)) in
    let line = certificate_line (first_record input) count certificate in
    let line_few : length line ≤ 282 = line_short input place size more is count sound short far.counted in
    record {
      within = size_within input place size more is;
      counted = omega (arith, far.counted, size_some input place size more is);
      same = same_length ∙ far.same;
      fits = omega (arith, put.end_is, far.same, line_few);
      moved = omega (arith, put.end_is, far.moved, size_some input place size more is, line_few);
      whole =
          far.whole ∙ ap (λ (l : List ℕ). take end room ++ l) (line_first input place size more is count)
          ∙ sym (append_assoc (take end room) line (to_come input (place + size) (count + 1)))
          ∙ ap (λ (l : List ℕ). l ++ to_come input (place + size) (count + 1)) (sym (longer_front room end line put (omega (arith, far.same, far.fits))));
    }

-- what was put is a part
pub filled_begins : {input room : List ℕ} {from count_from size end place count n m : ℕ} → Filled input from count_from size room end place count → length input ≤ 65_536
    → LoopSound (first_record input) n m → Begins (to_come input from count_from) input room (record { written = end; place = place; count = count; n = n; m = m })
filled_begins far short sound-loop =
    record {
      goes_on = record { within = far.within; counted = far.counted; short = λ more. short; loop_sound = λ more. sound-loop };
      fits = omega (arith, far.same, far.fits);
      whole = far.whole;
    }
