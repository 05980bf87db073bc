-- 01, "Records on file" and "Numbers of the verdict": what a reading answers and what the lent list holds afterwards, on every
-- byte string, list and pair of arguments. "Order for a record" is the list `sound`; a reading adds the room.
use Rattle.std.specs.Prelude.{ℕ, ◌+◌, Bool, cond, ◌&&◌, ◌||◌, List, [], ◌∷◌, ◌++◌, leb, eqb, ℤ, pos, length, drop}
use Rattle.endian.specs.Numbers.{little_at}
use Rattle.refusal.specs.Tests.{Told, done, refused, Test, ◌at◌unless◌, first}
use Rattle.record.specs.declared.Reading.{Reading}
use Rattle.record.specs.Fields.{Field, widths, values, in_range, before_fault}
use Rattle.record.specs.declared.Counts.{Counts}
use Rattle.record.specs.Layouts.{Kind, kind_of, is_loop, is_lasso, counts, length_of, ahead, listed}
use Rattle.record.specs.Ranges.{variables, rows, within}
use Rattle.record.specs.Wants.{loops_read, certificates_read}

-- what comes to a reader: bytes, the kinds that are wanted, n and m as arguments (of no account to the loop reader), and how
-- many places the lent list has
pub record Reader : Type 0 where
  pub bytes : List ℕ
  pub wants : Kind → Bool
  pub n : ℕ
  pub m : ℕ
  pub room : ℕ

-- ---- what the bytes say

-- L
unfoldable pub stated_length : Reader → ℕ
stated_length r = little_at 4 r.bytes 0

unfoldable pub kind_number : Reader → ℕ
kind_number r = little_at 2 r.bytes 4

unfoldable pub kind : Reader → Kind
kind r = kind_of (kind_number r)

-- n and m stand in a loop's body, ms in a lasso's; all else comes as arguments
unfoldable pub counts_read : Reader → Counts
counts_read r =
    record {
      n = cond (is_loop (kind r)) (little_at 2 r.bytes 6) r.n;
      m = cond (is_loop (kind r)) (little_at 2 r.bytes 8) r.m;
      ms = cond (is_lasso (kind r)) (little_at 2 r.bytes 6) 0;
    }

-- the fields of the list, and the place of its first byte
unfoldable pub fields : Reader → List Field
fields r = listed (kind r) (counts_read r)

unfoldable pub list_start : Reader → ℕ
list_start r = 6 + widths (ahead (kind r))

-- the numbers of the counts that stand in the body
unfoldable pub count_list : Reader → List ℤ
count_list r = values (counts (kind r)) (drop 6 r.bytes)

-- the list of values
unfoldable pub list : Reader → List ℤ
list r = values (fields r) (drop (list_start r) r.bytes)

-- ---- the order

-- n and m as arguments, which kinds 2 to 4 have
unfoldable pub arguments_fit : Reader → Bool
arguments_fit r = is_loop (kind r) || (within variables (pos r.n) && within rows (pos r.m))

-- L against the bytes: the tests that records of every kind begin with
abbrev pub framing : List (Test Reader)
framing =
    (1 at (λ r. length r.bytes) unless λ r. leb 4 (length r.bytes))
    ∷ (3 at (λ r. 0) unless λ r. leb 2 (stated_length r))
    ∷ (1 at (λ r. length r.bytes) unless λ r. leb (4 + stated_length r) (length r.bytes))
    ∷ (2 at (λ r. 4 + stated_length r) unless λ r. leb (length r.bytes) (4 + stated_length r))
    ∷ []

-- a record that is sound: these tests need no list to fill
unfoldable pub sound : List (Test Reader)
sound =
    framing ++
    ((4 at (λ r. 4) unless λ r. r.wants (kind r))
    ∷ (5 at (λ r. 0) unless λ r. arguments_fit r)
    ∷ (3 at (λ r. 0) unless λ r. leb (2 + widths (counts (kind r))) (stated_length r))
    ∷ (5 at (λ r. 6 + before_fault (counts (kind r)) (count_list r)) unless λ r. in_range (counts (kind r)) (count_list r))
    ∷ (3 at (λ r. 0) unless λ r. eqb (stated_length r) (length_of (kind r) (counts_read r)))
    ∷ (6 at (λ r. list_start r + before_fault (fields r) (list r)) unless λ r. in_range (fields r) (list r))
    ∷ [])

-- in a reading the lent list must also have a place for each value
unfoldable pub enough_room : List (Test Reader)
enough_room = (7 at (λ r. length (list r)) unless λ r. leb (length (list r)) r.room) ∷ []

unfoldable pub reading : List (Test Reader)
reading = sound ++ enough_room

-- ---- the answer

-- on a refusal all but number and place are 0; n and m are answered by a loop's reading alone
unfoldable pub answer : Told → Reader → Reading
answer done r =
    record {
      number = 0;
      place = 0;
      kind = kind_number r;
      n = cond (is_loop (kind r)) (counts_read r).n 0;
      m = cond (is_loop (kind r)) (counts_read r).m 0;
      count = length (list r);
    }
answer (refused k p) r = record { number = k; place = p; kind = 0; n = 0; m = 0; count = 0 }

-- the first places of the lent list are filled, the rest stays; a refusal changes nothing
unfoldable pub filled : Told → Reader → List ℤ → List ℤ
filled done r lent = list r ++ drop (length (list r)) lent
filled (refused k p) r lent = lent

-- ---- the two readers

unfoldable pub loop_reader : List ℕ → List ℤ → Reader
loop_reader bytes lent = record { bytes = bytes; wants = loops_read; n = 0; m = 0; room = length lent }

unfoldable pub certificate_reader : List ℕ → ℕ → ℕ → List ℤ → Reader
certificate_reader bytes n m lent = record { bytes = bytes; wants = certificates_read; n = n; m = m; room = length lent }

-- what a reader answers, and what the lent list holds afterwards
unfoldable pub reads : Reader → Reading
reads r = answer (first reading r) r

unfoldable pub fills : Reader → List ℤ → List ℤ
fills r lent = filled (first reading r) r lent
