-- Rows beside their literal numbers, no two of which are alike: a field that crosses in another's place, in definition and code alike, does not pass. And the ends of a
-- signed number: -1 is the largest word, and the least has the highest bit alone.
use mathlib.Core.Path.{◌≡◌, refl}
use mathlib.Core.List.{[], ◌∷◌}
use lib.IntN.{pos, negsuc}
use Rattle.judge_rows.specs.VerdictRows.{word, row_of}

pub rows_literal :
    row_of (record { number = 1; place = 2; «record» = 3; outcome = 4; start = pos 5; fall = pos 6; grade = 7 }) ≡ 1 ∷ 2 ∷ 3 ∷ 4 ∷ 5 ∷ 6 ∷ 7 ∷ []
unfolding row_of word
rows_literal = refl

pub words_literal :
    (word (negsuc 0) ≡ 18_446_744_073_709_551_615)
    × (word (negsuc 9_223_372_036_854_775_807) ≡ 9_223_372_036_854_775_808)
    × (word (pos 9_223_372_036_854_775_807) ≡ 9_223_372_036_854_775_807)
unfolding word
words_literal = (refl, refl, refl)
