-- 01, "Records on file": "All numbers are little-endian." A number on file is some bytes, the lowest first; a signed one is in
-- two's complement. Bytes are numbers below 256, a whole number is a ℤ of the kit (`pos n` is n, `negsuc n` is -(n + 1)).
use Rattle.std.specs.Prelude.{ℕ, zero, suc, ◌+◌, ◌*◌, ◌-◌, ◌/◌, ◌%◌, ◌<◌, cond, List, [], ◌∷◌, ltb, ℤ, pos, negsuc, ◌-ℤ◌, get_or, take, drop}

-- every number of a list is a byte (past the end of a list stands 0)
abbrev pub Bytes : List ℕ → Type 0
Bytes bytes = (place : ℕ) → get_or bytes place 0 < 256

-- the number that bytes hold
unfoldable pub little : List ℕ → ℕ
little [] = 0
little (b ∷ bs) = b + 256 * little bs

-- the number that `width` bytes hold, the first of them at a place
unfoldable pub little_at : ℕ → List ℕ → ℕ → ℕ
little_at width bytes place = little (take width (drop place bytes))

-- the bytes, `width` of them, that hold a number
unfoldable pub digits : ℕ → ℕ → List ℕ
digits zero x = []
digits (suc width) x = (x % 256) ∷ digits width (x / 256)

-- two's complement: what x, one of 2 * half stored numbers, stands for. The lower half stand for themselves
unfoldable pub signed : ℕ → ℕ → ℤ
signed half x = cond (ltb x half) (pos x) (pos x -ℤ pos (2 * half))

-- the stored number that stands for a whole number
unfoldable pub unsigned : ℕ → ℤ → ℕ
unsigned half (pos n) = n
unsigned half (negsuc n) = 2 * half - suc n
