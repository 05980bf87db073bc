-- Runs of fields and rows by places: the numbers that crate `record` takes out of bytes field by field, and the rows that crate `verdict` makes of them, are tables
-- of the numbers at their places.
use mathlib.Core.Path.{◌≡◌, refl, sym, ap, ap₂, ◌∙◌}
use Prim.Native.Nat.{ℕ, zero, suc, ◌+◌, ◌*◌}
use mathlib.Core.List.{List, [], ◌∷◌, ◌++◌, append_assoc, append-nil}
use native.Mathlib.Nat.{zero-mul}
use native.Mathlib.Omega.{arith}
use lib.IntN.{ℤ, pos}
use lib.ListN.{replicate, take, drop, get_or}
use lib.Seq.{drop-drop}
use Rattle.whole.specs.Rows.{Row}
use Rattle.whole.specs.Sums.{tabulate}
use Rattle.whole.proofs.Tables.{tabulate_same}
use Rattle.endian.specs.Numbers.{little_at}
use Rattle.record.specs.Fields.{width, number, Field, values}
use Rattle.record.specs.Layouts.{entry, right_side, row, rows_of}
use Rattle.judge_sums.specs.Lists.{entries_from, row_from, rows_from}
use Rattle.judge_sums.specs.Places.{entry_at, right_at, row_place}
use Rattle.verdict.specs.Contents.{rows_of_numbers}

-- the number of a field at a place
abbrev pub number_at : Field → List ℕ → ℕ → ℤ
number_at f bytes place = number f.form (take (width f.form) (drop place bytes))

-- ---- a run of fields

pub run_held : (f : Field) (k : ℕ) (gs : List Field) (bytes : List ℕ) (place : ℕ)
    → (take k (values (replicate k f ++ gs) (drop place bytes)) ≡ tabulate k (λ i. number_at f bytes (place + width f.form * i)))
    × (drop k (values (replicate k f ++ gs) (drop place bytes)) ≡ values gs (drop (place + width f.form * k) bytes))
unfolding values tabulate
run_held f zero gs bytes place = (refl, let here : place + width f.form * 0 ≡ place = omega arith in rw here)
run_held f (suc k) gs bytes place =
    let w = width f.form in
    let rest = run_held f k gs bytes (place + w) in
    let here : place ≡ place + w * 0 = omega arith in (
      rw (drop-drop w place bytes)
          (ap₂ (λ (z : ℤ) (zs : List ℤ). z ∷ zs) (ap (number_at f bytes) here)
          (rest.0 ∙ tabulate_same k _ _ (λ i h. ap (number_at f bytes) (next_place place w i)))),
      rw (drop-drop w place bytes) (rest.1 ∙ ap (λ (p : ℕ). values gs (drop p bytes)) (next_place place w k)),
    )
  where
    next_place : (place w i : ℕ) → place + w + w * i ≡ place + w * suc i
    next_place place w i = omega arith

-- one field
pub one_held : (f : Field) (gs : List Field) (bytes : List ℕ) (place : ℕ)
    → (get_or (values (f ∷ gs) (drop place bytes)) 0 (pos 0) ≡ number_at f bytes place)
    × (drop 1 (values (f ∷ gs) (drop place bytes)) ≡ values gs (drop (place + width f.form) bytes))
unfolding values
one_held f gs bytes place = (refl, rw drop-drop)

-- two fields
pub two_held : (f g : Field) (gs : List Field) (bytes : List ℕ) (place : ℕ)
    → (get_or (values (f ∷ g ∷ gs) (drop place bytes)) 0 (pos 0) ≡ number_at f bytes place)
    × (get_or (values (f ∷ g ∷ gs) (drop place bytes)) 1 (pos 0) ≡ number_at g bytes (place + width f.form))
    × (drop 2 (values (f ∷ g ∷ gs) (drop place bytes)) ≡ values gs (drop (place + width f.form + width g.form) bytes))
unfolding values
two_held f g gs bytes place = (refl, rw drop-drop, rw (drop-drop (width f.form) place bytes, drop-drop))

-- ---- rows

module _ (n : ℕ) (gs : List Field) (bytes : List ℕ) (place : ℕ) where
  -- the values of a row that starts at a place, and of what follows
  abbrev row_list : List ℤ
  row_list = values (row n ++ gs) (drop place bytes)

  row_apart : row_list ≡ values (replicate n entry ++ (replicate n entry ++ (right_side ∷ gs))) (drop place bytes)
  unfolding row
  row_apart = simp append_assoc

  -- where A', b and the next row start
  from_next : drop n row_list ≡ values (replicate n entry ++ (right_side ∷ gs)) (drop (place + 2 * n) bytes)
  unfolding entry width
  from_next = rw row_apart (run_held entry n (replicate n entry ++ (right_side ∷ gs)) bytes place).1

  from_right : drop (n + n) row_list ≡ values (right_side ∷ gs) (drop (place + 4 * n) bytes)
  unfolding entry width
  from_right =
      let here : place + 2 * n + 2 * n ≡ place + 4 * n = omega arith in
      sym (drop-drop n n row_list) ∙ ap (drop n) from_next ∙ (run_held entry n (right_side ∷ gs) bytes (place + 2 * n)).1 ∙ ap (λ (p : ℕ). values (right_side ∷ gs) (drop p bytes)) here

  row_rest : drop (n + n + 1) row_list ≡ values gs (drop (place + (4 * n + 4)) bytes)
  unfolding right_side width
  row_rest =
      let here : place + 4 * n + 4 ≡ place + (4 * n + 4) = omega arith in
      sym (drop-drop 1 (n + n) row_list) ∙ ap (drop 1) from_right ∙ (one_held right_side gs bytes (place + 4 * n)).1 ∙ ap (λ (p : ℕ). values gs (drop p bytes)) here

  row_is : ◌≡◌ {A = Row} (record { now = take n row_list; next = take n (drop n row_list); right = get_or (drop (n + n) row_list) 0 (pos 0) }) (row_from bytes n place)
  unfolding entry right_side width number little_at entry_at right_at values row_from entries_from
  row_is =
      let now : take n row_list ≡ entries_from bytes place n = rw row_apart (run_held entry n (replicate n entry ++ (right_side ∷ gs)) bytes place).0 in
      let next : take n (drop n row_list) ≡ entries_from bytes (place + 2 * n) n = rw from_next (run_held entry n (right_side ∷ gs) bytes (place + 2 * n)).0 in
      rw (now, next, from_right)

pub rows_held : (n m : ℕ) (gs : List Field) (bytes : List ℕ) (place : ℕ)
    → (rows_of_numbers n m (values (rows_of n m ++ gs) (drop place bytes)) ≡ rows_from bytes n place m)
    × (drop (m * (n + n + 1)) (values (rows_of n m ++ gs) (drop place bytes)) ≡ values gs (drop (place + m * (4 * n + 4)) bytes))
unfolding rows_of_numbers rows_of rows_from tabulate
rows_held n zero gs bytes place =
    let here : place + 0 * (4 * n + 4) ≡ place = omega arith in
    (refl, rw (zero-mul (n + n + 1), here))
rows_held n (suc m) gs bytes place =
    let more = rows_of n m ++ gs in
    let rest = rows_held n m gs bytes (place + (4 * n + 4)) in
    let here : row_place place n 0 ≡ place = omega arith in
    let length_step : suc m * (n + n + 1) ≡ n + n + 1 + m * (n + n + 1) = omega arith in
    let end : place + (4 * n + 4) + m * (4 * n + 4) ≡ place + suc m * (4 * n + 4) = omega arith in
    rw (append_assoc (row n) (rows_of n m) gs, here, length_step, ← drop-drop (m * (n + n + 1)) (n + n + 1) (row_list n more bytes place), row_rest n more bytes place) (
      ap₂ (λ (r : Row) (rs : List Row). r ∷ rs) (row_is n more bytes place)
          (rest.0 ∙ tabulate_same m _ _ (λ i h. ap (row_from bytes n) (next_row n place i))),
      rest.1 ∙ ap (λ (p : ℕ). values gs (drop p bytes)) end,
    )
  where
    next_row : (n place i : ℕ) → row_place (place + (4 * n + 4)) n i ≡ row_place place n (suc i)
    next_row n place i = omega arith

-- the last run of a record
pub last_held : (f : Field) (k : ℕ) (bytes : List ℕ) (place : ℕ) → take k (values (replicate k f) (drop place bytes)) ≡ tabulate k (λ i. number_at f bytes (place + width f.form * i))
last_held f k bytes place = rw (← append-nil (replicate k f)) (run_held f k [] bytes place).0
