-- 01, "The program "sheet"": how the input is parted into records: "A certificate with fewer than 4 bytes, L < 2 or too few bytes
-- takes all the rest, and its line is the last. The loop record is parted from the input by the same rule."
use Rattle.std.specs.Prelude.{ℕ, zero, suc, ◌+◌, Bool, cond, ◌&&◌, List, [], ◌∷◌, leb, length, take, drop}
use Rattle.endian.specs.Numbers.{little_at}

-- L, as the first four bytes state it
unfoldable pub stated : List ℕ → ℕ
stated input = little_at 4 input 0

-- a whole record stands first: 4 bytes at least, L at least 2, and no fewer than 4 + L bytes
unfoldable pub whole_first : List ℕ → Bool
whole_first input = leb 4 (length input) && (leb 2 (stated input) && leb (4 + stated input) (length input))

-- how many bytes the first record takes
unfoldable pub taken : List ℕ → ℕ
taken input = cond (whole_first input) (4 + stated input) (length input)

-- the first record, and what is left after it
unfoldable pub first_record : List ℕ → List ℕ
first_record input = take (taken input) input

unfoldable pub after_first : List ℕ → List ℕ
after_first input = drop (taken input) input

-- the records that bytes hold, one after another to the end; at most `most`
unfoldable pub up_to : ℕ → List ℕ → List (List ℕ)
up_to zero input = []
up_to (suc most) [] = []
up_to (suc most) (b ∷ input) = first_record (b ∷ input) ∷ up_to most (after_first (b ∷ input))

-- every record takes a byte or more, so there are no more than bytes
unfoldable pub records : List ℕ → List (List ℕ)
records input = up_to (length input) input
