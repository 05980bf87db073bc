-- `sheet_write_lines::put_rank` meets its contract: a word, the entries, and two words with a number each.
use Rattle.std.proofs.Common.{List, ℕ, [], ◌∷◌, ◌++◌}
use lib.IntN.{ℤ}
use mir.Facts.{to_z-of_z}
use Rattle.decimal.specs.Decimals.{signed_decimal}
use Rattle.decimal.specs.declared.Text.{Text}
use Rattle.decimal.specs.Texts.{HasRoom, Appends}
use Rattle.decimal.proofs.TextLaws.{SoFar, so_far_none, so_far_more}
use Rattle.sheet_lines.specs.VerdictLines.{rank_words}
use Rattle.sheet_lines.specs.Words.{line}
use Rattle.sheet_lines.proofs.LineLaws.{entries, from_word, down_word, line_rank}
use Rattle.sheet_write_lines.proofs.put_rank.Goals as goal

-- before the last words
fall_left : {a b c d : Text} (word : List ℕ) (r : List ℤ) (start fall : ℤ) → HasRoom a (word ++ line (rank_words r start fall))
    → Appends a word b → Appends b (entries r) c → Appends c (from_word ++ (signed_decimal start ++ (32 ∷ []))) d
    → SoFar a (word ++ line (rank_words r start fall)) d (down_word ++ (signed_decimal fall ++ (10 ∷ [])))
fall_left word r start fall room one two three =
    rw (line_rank r start fall) (so_far_more _ _ (so_far_more _ _ (so_far_more _ _ (so_far_none (rw (line_rank r start fall) at room)) one) two) three)

pub put_named-requires-2 : goal.put_named-requires-2
put_named-requires-2 c =
    let a = c.args in
    let far = fall_left a.word.now a.rank.now a.start a.fall c.requires c.put_bytes.ensures c.put_entries.ensures (rw (to_z-of_z c.ranges.start) at c.put_named.ensures) in
    rw (to_z-of_z c.ranges.fall) far.room

pub returns : goal.returns
returns c =
    let a = c.args in
    let far = fall_left a.word.now a.rank.now a.start a.fall c.requires c.put_bytes.ensures c.put_entries.ensures (rw (to_z-of_z c.ranges.start) at c.put_named.ensures) in
    far.whole _ (rw (to_z-of_z c.ranges.fall) at c.put_named-2.ensures)
