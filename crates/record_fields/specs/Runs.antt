-- A body is a handful of runs of equal fields. Here: whether a field at a place of bytes is in range, where fields have their first
-- number out of range and what they tell, what numbers a run has, and how many values a record has.
use Rattle.std.specs.Prelude.{ℕ, zero, suc, ◌+◌, ◌*◌, Bool, true, cond, ◌&&◌, List, [], ◌∷◌, ◌++◌, ltb, ℤ, take, drop, replicate}
use Rattle.refusal.specs.Tests.{Told, done, refused}
use Rattle.record.specs.Fields.{Form, width, number, stored, holds, Field, widths, values, before_fault}
use Rattle.record.specs.declared.Counts.{Counts}
use Rattle.record.specs.Layouts.{Kind, loop, ranking, exclusion, lasso, other, entry, right_side, multiplier, scale}
use Rattle.record.specs.Ranges.{within}

-- the number that a field has at a place
unfoldable pub field_number_at : Field → List ℕ → ℕ → ℤ
field_number_at f bytes place = number f.form (take (width f.form) (drop place bytes))

-- it is in the field's range
unfoldable pub fits : Field → List ℕ → ℕ → Bool
fits f bytes place = within f.range (field_number_at f bytes place)

-- where fields, the first of them at a place, have their first number out of range; where they end, if there is none
unfoldable pub fault : List Field → List ℕ → ℕ → ℕ
fault fs bytes place = place + before_fault fs (values fs (drop place bytes))

-- what a fault before an end tells: refusal 6 at it. A fault at the end is none
unfoldable pub fault_told : ℕ → ℕ → Told
fault_told fault end = cond (ltb fault end) (refused 6 fault) done

-- what fields tell, the first of them at a place
unfoldable pub run_told : List Field → List ℕ → ℕ → Told
run_told fs bytes place = fault_told (fault fs bytes place) (place + widths fs)

-- each of a run of equal fields, the first of them at a place, is in range
unfoldable pub all_fit : Field → List ℕ → ℕ → ℕ → Bool
all_fit f bytes place zero = true
all_fit f bytes place (suc count) = all_fit f bytes place count && fits f bytes (place + width f.form * count)

-- ---- the parts of a body

-- a row, or s and s0: some entries, and a right side
unfoldable pub linear : ℕ → List Field
linear count = replicate count entry ++ (right_side ∷ [])

-- k and T, or k2, H, h0, Y and Z: a scale, and some multipliers
unfoldable pub weights : ℕ → List Field
weights count = scale ∷ replicate count multiplier

-- how many values the list of a record has
unfoldable pub value_count : Kind → Counts → ℕ
value_count loop c = c.m * (2 * c.n + 1)
value_count ranking c = 2 * c.m
value_count exclusion c = 1 + 3 * c.n
value_count lasso c = 7 + c.n + c.ms * (2 * c.n + 2) + 3 * c.m
value_count other c = 0

-- the numbers of a run of equal fields
unfoldable pub numbers : Form → ℕ → List ℕ → List ℤ
numbers form zero bytes = []
numbers form (suc count) bytes = number form (take (width form) bytes) ∷ numbers form count (drop (width form) bytes)

-- ---- the same of a list of values, as a writer has it

-- where fields, whose values start at an index of a list and whose first byte would stand at a place, have their first value out of range;
-- where they end, if there is none
unfoldable pub list_fault : List Field → List ℤ → ℕ → ℕ → ℕ
list_fault fs zs index place = place + before_fault fs (drop index zs)

-- what they tell
unfoldable pub list_told : List Field → List ℤ → ℕ → ℕ → Told
list_told fs zs index place = fault_told (list_fault fs zs index place) (place + widths fs)

-- the bytes of a run of values of a form
unfoldable pub stores : Form → ℕ → List ℤ → List ℕ
stores form zero zs = []
stores form (suc count) [] = []
stores form (suc count) (z ∷ zs) = stored form z ++ stores form count zs

-- a form can hold each value of a run
unfoldable pub all_held : Form → ℕ → List ℤ → Bool
all_held form zero zs = true
all_held form (suc count) [] = true
all_held form (suc count) (z ∷ zs) = holds form z && all_held form count zs
