-- Whole numbers as text: decimal digits as bytes, from 48 for `0` to 57 for `9`, the highest digit first and no zero before it.
-- 01, "The program "sheet"": "a negative number starts with the byte 2D", which is 45. `numeral` and `signed_numeral` read the text back.
use Rattle.std.specs.Prelude.{ℕ, zero, suc, ◌+◌, ◌*◌, ◌-◌, ◌/◌, ◌%◌, cond, List, [], ◌∷◌, ◌++◌, eqb, ltb, ℤ, pos, negsuc, neg_ℤ}

-- the lowest digit stands last, after those of a tenth of the number; at most `most` digits
unfoldable pub figures : ℕ → ℕ → List ℕ
figures zero x = []
figures (suc most) x =
    let all = figures most (x / 10) ++ ((48 + x % 10) ∷ []) in
    cond (ltb x 10) ((48 + x) ∷ []) all

-- the digits of a number: there are never more than x + 1
unfoldable pub decimal : ℕ → List ℕ
decimal x = figures (suc x) x

unfoldable pub signed_decimal : ℤ → List ℕ
signed_decimal (pos n) = decimal n
signed_decimal (negsuc n) = 45 ∷ decimal (suc n)

-- ---- reading back

-- what digits read as, after those that were read so far
unfoldable pub numeral_on : ℕ → List ℕ → ℕ
numeral_on so_far [] = so_far
numeral_on so_far (digit ∷ digits) = numeral_on (10 * so_far + (digit - 48)) digits

unfoldable pub numeral : List ℕ → ℕ
numeral digits = numeral_on 0 digits

unfoldable pub signed_numeral : List ℕ → ℤ
signed_numeral [] = pos 0
signed_numeral (b ∷ digits) = cond (eqb b 45) (neg_ℤ (pos (numeral digits))) (pos (numeral (b ∷ digits)))
