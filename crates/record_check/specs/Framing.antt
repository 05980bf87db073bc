-- What is known of a record whose frame is right.
use Rattle.std.specs.Prelude.{ℕ, ◌+◌, ◌≤◌, ◌≡◌, List, length}
use Rattle.endian.specs.Numbers.{little_at}

-- bytes that meet the tests of L against them
pub record Framed (bytes : List ℕ) : Type 0 where
  pub head : 6 ≤ length bytes
  pub whole : length bytes ≡ 4 + little_at 4 bytes 0
