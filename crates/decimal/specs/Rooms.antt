-- What a room holds after a text was written into it, and what a writer of text promises.
use Rattle.std.specs.Prelude.{◌≡◌, ℕ, ◌+◌, List, ◌++◌, length, take, drop}

-- the text stands at the place; what is before it and after it stays
unfoldable pub written : List ℕ → ℕ → List ℕ → List ℕ
written room place text = take place room ++ (text ++ drop (place + length text) room)

-- a writer of a text at a place of a room answers the place after it, and leaves the text there and nothing else changed
pub record Puts (room : List ℕ) (place : ℕ) (text : List ℕ) (end : ℕ) (after : List ℕ) : Type 0 where
  pub end_is : end ≡ place + length text
  pub room_is : after ≡ written room place text
