-- What the digits of a word tell.
use Rattle.std.specs.Prelude.{ℕ, ◌+◌, ◌*◌, ◌-◌, ◌%◌, leb, eqb, cond, List}
use Rattle.std.specs.List.{fold}

-- what a digit, decimal or hexadecimal, stands for: 57 is 9, 55 stands ten before A
unfoldable pub digit_told : ℕ → ℕ
digit_told byte = cond (leb byte 57) (byte % 16) ((byte - 55) % 16)

-- one byte more, with 17 places kept of what came before; a minus sign, 45, counts for nothing
unfoldable pub with_byte : ℕ → ℕ → ℕ
with_byte size byte = cond (eqb byte 45) size (size % 100000000000000000 * 10 + digit_told byte)

-- the number that the bytes of a word make, in 18 places
unfoldable pub size_told : List ℕ → ℕ
size_told word = fold with_byte 0 word % 1000000000000000000
