-- 01, "Records on file": a body is a row of fields. A field is a form, which says how bytes hold its number, and the range of
-- that number; it also carries the fact that its form can hold its range. Here: what numbers bytes hold under a row of fields,
-- what bytes hold given numbers, and where the first number out of its range stands.
use Rattle.std.specs.Prelude.{ℕ, ◌+◌, Bool, true, false, ◌&&◌, List, [], ◌∷◌, ◌++◌, T, ltb, ℤ, pos, nat_abs, take, drop}
use Rattle.std.specs.Int.Signed.{mag, non_neg}
use Rattle.endian.specs.Numbers.{little, digits, signed, unsigned}
use Rattle.record.specs.Ranges.{Range, within}

-- the forms of the numbers in a body
pub data Form : Type 0 where
  u16 : Form
  i16 : Form
  i32 : Form

-- the bytes that a form takes
unfoldable pub width : Form → ℕ
width u16 = 2
width i16 = 2
width i32 = 4

-- the number that bytes hold
unfoldable pub number : Form → List ℕ → ℤ
number u16 bytes = pos (little bytes)
number i16 bytes = signed 0x8000 (little bytes)
number i32 bytes = signed 0x8000_0000 (little bytes)

-- the bytes that hold a number
unfoldable pub stored : Form → ℤ → List ℕ
stored u16 z = digits 2 (nat_abs z)
stored i16 z = digits 2 (unsigned 0x8000 z)
stored i32 z = digits 4 (unsigned 0x8000_0000 z)

-- a form can hold a number
unfoldable pub holds : Form → ℤ → Bool
holds u16 z = non_neg z && ltb (nat_abs z) 0x1_0000
holds i16 z = ltb (mag z) 0x8000
holds i32 z = ltb (mag z) 0x8000_0000

pub record Field : Type 0 where
  pub form : Form
  pub range : Range
  pub least_held : T (holds form range.least)
  pub most_held : T (holds form range.most)

-- the bytes that fields take
unfoldable pub widths : List Field → ℕ
widths [] = 0
widths (f ∷ fs) = width f.form + widths fs

-- the numbers that bytes hold, field by field
unfoldable pub values : List Field → List ℕ → List ℤ
values [] bytes = []
values (f ∷ fs) bytes = number f.form (take (width f.form) bytes) ∷ values fs (drop (width f.form) bytes)

-- the bytes that hold numbers, field by field
unfoldable pub bytes_of : List Field → List ℤ → List ℕ
bytes_of [] zs = []
bytes_of (f ∷ fs) [] = []
bytes_of (f ∷ fs) (z ∷ zs) = stored f.form z ++ bytes_of fs zs

-- every number is in its field's range
unfoldable pub in_range : List Field → List ℤ → Bool
in_range [] zs = true
in_range (f ∷ fs) [] = true
in_range (f ∷ fs) (z ∷ zs) = within f.range z && in_range fs zs

-- the bytes before the first number that is out of its field's range
unfoldable pub before_fault : List Field → List ℤ → ℕ
before_fault [] zs = 0
before_fault (f ∷ fs) [] = 0
before_fault (f ∷ fs) (z ∷ zs) = elim (within f.range z) [ true ↦ width f.form + before_fault fs zs | false ↦ 0 ]
