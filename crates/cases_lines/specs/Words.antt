-- A line is read word by word: one blank, of number 32, parts two words.
use Rattle.std.specs.Prelude.{ℕ, ◌+◌, eqb, List, take, drop}
use Rattle.std.specs.List.{position_or_len}

-- how many bytes stand before the first blank, or before the end
abbrev pub word_size : List ℕ → ℕ
word_size line = position_or_len (λ byte. eqb byte 32) line

-- the next word of a line
unfoldable pub next_word : List ℕ → List ℕ
next_word line = take (word_size line) line

-- what stands behind it and its blank
unfoldable pub behind : List ℕ → List ℕ
behind line = drop (word_size line + 1) line
