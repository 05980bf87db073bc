-- 01, "Records on file" and "Numbers of the verdict": what a writing answers and what the room holds afterwards, on every kind
-- number, pair of counts, list of values and room. "Writing: 4, 5 for n and m, 12 if ms is absent, 5 for ms, 12, 6, 7" is the
-- list `writing`. Places are those in the record that would be written; 7 tells the bytes needed, 12 the values needed.
use Rattle.std.specs.Prelude.{ℕ, ◌+◌, cond, not, ◌&&◌, ◌||◌, List, [], ◌∷◌, ◌++◌, leb, eqb, ℤ, pos, nat_abs, length, drop, get_or}
use Rattle.endian.specs.Numbers.{digits}
use Rattle.refusal.specs.Tests.{Told, done, refused, Test, ◌at◌unless◌, first}
use Rattle.record.specs.declared.Writing.{Writing}
use Rattle.record.specs.Fields.{Field, widths, bytes_of, in_range, before_fault}
use Rattle.record.specs.declared.Counts.{Counts}
use Rattle.record.specs.Layouts.{Kind, kind_of, is_loop, is_lasso, counts, length_of, ahead, listed}
use Rattle.record.specs.Ranges.{variables, rows, within}
use Rattle.record.specs.Wants.{kinds_written}

-- what comes to a writer: a kind number, n, m, the list of values, and how many bytes the room has
pub record Writer : Type 0 where
  pub kind_number : ℕ
  pub n : ℕ
  pub m : ℕ
  pub list : List ℤ
  pub room : ℕ

unfoldable pub kind : Writer → Kind
kind w = kind_of w.kind_number

-- ms is the first of a lasso's values
unfoldable pub ms_given : Writer → ℤ
ms_given w = get_or w.list 0 (pos 0)

unfoldable pub counts_given : Writer → Counts
counts_given w = record { n = w.n; m = w.m; ms = cond (is_lasso (kind w)) (nat_abs (ms_given w)) 0 }

-- ---- the record

-- the fields of the list, and L
unfoldable pub fields : Writer → List Field
fields w = listed (kind w) (counts_given w)

unfoldable pub length_stated : Writer → ℕ
length_stated w = length_of (kind w) (counts_given w)

-- the numbers that stand before the list
unfoldable pub numbers_ahead : Writer → List ℤ
numbers_ahead w = cond (is_loop (kind w)) (pos w.n ∷ pos w.m ∷ []) []

-- length, kind and body
unfoldable pub record_bytes : Writer → List ℕ
record_bytes w =
    digits 4 (length_stated w)
    ++ (digits 2 w.kind_number
    ++ (bytes_of (ahead (kind w)) (numbers_ahead w)
    ++ bytes_of (fields w) w.list))

-- ---- the order

-- n and m have places only in a loop's record
unfoldable pub argument_place : Writer → ℕ
argument_place w = cond (is_loop (kind w)) (6 + before_fault (counts (kind w)) (numbers_ahead w)) 0

unfoldable pub writing : List (Test Writer)
writing =
    (4 at (λ w. 4) unless λ w. kinds_written (kind w))
    ∷ (5 at (λ w. argument_place w) unless λ w. within variables (pos w.n) && within rows (pos w.m))
    ∷ (12 at (λ w. 1) unless λ w. not (is_lasso (kind w)) || leb 1 (length w.list))
    ∷ (5 at (λ w. 6) unless λ w. not (is_lasso (kind w)) || within rows (ms_given w))
    ∷ (12 at (λ w. length (fields w)) unless λ w. eqb (length w.list) (length (fields w)))
    ∷ (6 at (λ w. 6 + widths (ahead (kind w)) + before_fault (fields w) w.list) unless λ w. in_range (fields w) w.list)
    ∷ (7 at (λ w. 4 + length_stated w) unless λ w. leb (4 + length_stated w) w.room)
    ∷ []

-- ---- the answer

unfoldable pub answer : Told → Writer → Writing
answer done w = record { number = 0; place = 0; written = 4 + length_stated w }
answer (refused k p) w = record { number = k; place = p; written = 0 }

-- the record stands first in the room, the rest stays; a refusal changes nothing
unfoldable pub filled : Told → Writer → List ℕ → List ℕ
filled done w room = record_bytes w ++ drop (4 + length_stated w) room
filled (refused k p) w room = room

unfoldable pub writer : ℕ → ℕ → ℕ → List ℤ → List ℕ → Writer
writer k n m zs room = record { kind_number = k; n = n; m = m; list = zs; room = length room }

-- what a writer answers, and what the room holds afterwards
unfoldable pub writes : Writer → Writing
writes w = answer (first writing w) w

unfoldable pub room_after : Writer → List ℕ → List ℕ
room_after w room = filled (first writing w) w room
