-- What a writer of text asks of its room, and what it promises.
use Rattle.std.specs.Prelude.{◌≡◌, ◌+◌, ◌≤◌, ℕ, List, length}
use Rattle.decimal.specs.declared.Text.{Text}
use Rattle.decimal.specs.Rooms.{Puts}

-- there is room for some words
pub record HasRoom (text : Text) (words : List ℕ) : Type 0 where
  pub fits : text.at + length words ≤ length text.room.now

-- words are put after a text: they stand at its place, the place after them is the next, and nothing else changed; the room is the one that was lent
pub record Appends (before : Text) (words : List ℕ) (after : Text) : Type 0 where
  pub same_room : after.room.ghost_name ≡ before.room.ghost_name
  pub puts : Puts before.room.now before.at words after.at after.room.now
