-- 01, "The program "sheet"": "Words are parted by one blank, lines end in one newline". Words are bytes; numbers become words by
-- crate `decimal`.
use Rattle.std.specs.Prelude.{ℕ, List, [], ◌∷◌, ◌++◌}
use Prim.Native.Char.{code}
use Prim.Native.String as Text
use Prim.Native.String.{String}

-- the bytes of a text, whose characters are all of one byte
unfoldable pub bytes : String → List ℕ
bytes Text.[] = []
bytes (Text.◌∷◌ character text) = code character ∷ bytes text

-- a line of words
unfoldable pub line : List (List ℕ) → List ℕ
line [] = bytes "\n"
line (word ∷ []) = word ++ bytes "\n"
line (word ∷ next ∷ words) = word ++ (bytes " " ++ line (next ∷ words))

-- words that others follow: each with its blank
unfoldable pub run : List (List ℕ) → List ℕ
run [] = []
run (word ∷ words) = (word ++ bytes " ") ++ run words
