-- 01, "What the checker covers": loops, steps and runs, after document 000, section 2. Nothing here is limited in size: the number
-- of variables and of rows may be 0, entries and states are any whole numbers. A, A' and states have one entry per variable.
-- Entries that a row lacks count 0 and those past the last variable are not looked at, so no statement below has to ask for the
-- length of a row.
use Rattle.std.specs.Prelude.{ℕ, suc, ◌≡◌, List, [], ◌∷◌, ◌++◌, ℤ, pos, ◌+ℤ◌, ◌*ℤ◌, length, get_or, ◌≤ℤ◌}
pub use Rattle.whole.specs.Rows.{Row}
use Rattle.whole.specs.Sums.{dot, Each}

-- the entries of a row in column j, and its right side
abbrev pub A : ℕ → Row → ℤ
A j row = get_or row.now j (pos 0)

abbrev pub A' : ℕ → Row → ℤ
A' j row = get_or row.next j (pos 0)

abbrev pub b : Row → ℤ
b row = row.right

-- a loop: its number of variables, and its rows
pub record Loop : Type 0 where
  pub variables : ℕ
  pub rows : List Row

-- some rows over n variables
abbrev pub over : ℕ → List Row → Loop
over n rows = record { variables = n; rows = rows }

-- the loop with one row added at the end
abbrev pub with_row : Loop → Row → Loop
with_row loop row = over loop.variables (loop.rows ++ (row ∷ []))

-- states X/p and X'/p meet a row: A·X + A'·X' <= p·b
abbrev pub Meets : ℕ → List ℤ → List ℤ → Row → Type 0
Meets p X X' row = (dot row.now X +ℤ dot row.next X') ≤ℤ (pos p *ℤ row.right)

-- a step between states at common denominator p meets every row. At p = 1 the states are whole numbers
pub record Step (loop : Loop) (p : ℕ) (X X' : List ℤ) : Type 0 where
  pub before : length X ≡ loop.variables
  pub after : length X' ≡ loop.variables
  pub meets : Each (Meets p X X') loop.rows

-- a run: a first state and the further ones, neighbours being whole-number steps. Its steps are the further states
unfoldable pub Run : Loop → List ℤ → List (List ℤ) → Type 0
Run loop x [] = length x ≡ loop.variables
Run loop x (y ∷ ys) = Step loop 1 x y × Run loop y ys

-- a run that goes on for ever: each natural number has a state, and each state and the next are a step
abbrev pub Endless : Loop → (ℕ → List ℤ) → Type 0
Endless loop state = (i : ℕ) → Step loop 1 (state i) (state (suc i))
