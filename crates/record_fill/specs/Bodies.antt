-- The bytes of a body, from a kind number, counts and a list of values; and when they can be written.
use Rattle.std.specs.Prelude.{ℕ, ◌≤◌, ◌≡◌, true, cond, List, [], ◌∷◌, ◌++◌, ℤ, pos, length}
use Rattle.record.specs.Fields.{bytes_of, in_range}
use Rattle.record.specs.declared.Counts.{Counts}
use Rattle.record.specs.Layouts.{kind_of, is_loop, ahead, listed}
use Rattle.record_fields.specs.Runs.{value_count}

unfoldable pub body_bytes : ℕ → Counts → List ℤ → List ℕ
body_bytes kind c zs =
    bytes_of (ahead (kind_of kind)) (cond (is_loop (kind_of kind)) (pos c.n ∷ pos c.m ∷ []) [])
    ++ bytes_of (listed (kind_of kind) c) zs

-- values that a body of a kind can hold
pub record Fitting (kind : ℕ) (c : Counts) (zs : List ℤ) : Type 0 where
  pub variables : c.n ≤ 16
  pub rows : c.m ≤ 64
  pub counted : length zs ≡ value_count (kind_of kind) c
  pub fit : in_range (listed (kind_of kind) c) zs ≡ true
