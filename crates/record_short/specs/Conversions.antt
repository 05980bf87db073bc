-- 02, Q-6: "Old rankings are moved to kind 7 and back." What the two calls answer and what the room holds afterwards, on every byte
-- string, pair of arguments and room: the refusals of a reading, kind 2 alone wanted for shortening and kind 7 for lengthening,
-- then 7 with the bytes needed. The ranking need not be accepted.
use Rattle.std.specs.Prelude.{ℕ, zero, suc, ◌+◌, ◌*◌, Bool, true, false, cond, ◌&&◌, List, [], ◌∷◌, ◌++◌, leb, eqb, length, drop}
use Rattle.endian.specs.Numbers.{little_at, digits}
use Rattle.refusal.specs.Tests.{Told, done, refused, Test, ◌at◌unless◌, first}
use Rattle.record.specs.declared.Writing.{Writing}
use Rattle.record.specs.Layouts.{Kind}
use Rattle.record.specs.Readers.{Reader, sound}
use Rattle.record.specs.Wants.{wants_of}
use Rattle.record_short.specs.ShortRecords.{sound_short, long_bytes}

-- shortening takes kind 2 alone
abbrev pub rankings_alone : Kind → Bool
rankings_alone = wants_of (record { ranking = true; exclusion = false; lasso = false })

-- what comes: bytes, n, m, and how many bytes the room has
unfoldable pub ranking_given : List ℕ → ℕ → ℕ → ℕ → Reader
ranking_given bytes n m room = record { bytes = bytes; wants = rankings_alone; n = n; m = m; room = room }

-- ---- kind 2 to kind 7

-- Y and Z of row i in a kind 2 record for m rows
unfoldable pub long_Y : List ℕ → ℕ → ℕ
long_Y bytes i = little_at 2 bytes (6 + 2 * i)

unfoldable pub long_Z : ℕ → List ℕ → ℕ → ℕ
long_Z m bytes i = little_at 2 bytes (6 + 2 * m + 2 * i)

-- of the first `count` rows those that have weight, in order
unfoldable pub rows_with_weight : ℕ → List ℕ → ℕ → List ℕ
rows_with_weight m bytes zero = []
rows_with_weight m bytes (suc count) =
    rows_with_weight m bytes count
    ++ cond (eqb (long_Y bytes count) 0 && eqb (long_Z m bytes count) 0) [] (count ∷ [])

-- their triples
unfoldable pub triples_bytes : ℕ → List ℕ → List ℕ → List ℕ
triples_bytes m bytes [] = []
triples_bytes m bytes (i ∷ rows) =
    digits 2 i ++ (digits 2 (long_Y bytes i) ++ (digits 2 (long_Z m bytes i) ++ triples_bytes m bytes rows))

unfoldable pub triples_needed : ℕ → List ℕ → ℕ
triples_needed m bytes = length (rows_with_weight m bytes m)

unfoldable pub short_bytes : ℕ → List ℕ → List ℕ
short_bytes m bytes =
    digits 4 (4 + 6 * triples_needed m bytes)
    ++ (digits 2 7
    ++ (digits 2 (triples_needed m bytes)
    ++ triples_bytes m bytes (rows_with_weight m bytes m)))

unfoldable pub shortening : List (Test Reader)
shortening =
    sound
    ++ ((7 at (λ r. 8 + 6 * triples_needed r.m r.bytes) unless λ r. leb (8 + 6 * triples_needed r.m r.bytes) r.room) ∷ [])

-- ---- kind 7 to kind 2

unfoldable pub lengthening : ℕ → ℕ → List (Test Reader)
lengthening n m = sound_short n m ++ ((7 at (λ r. 6 + 4 * m) unless λ r. leb (6 + 4 * m) r.room) ∷ [])

-- ---- the answers

-- a record that is written stands first in the room, the rest stays; a refusal changes nothing
unfoldable pub converted : Told → List ℕ → Writing
converted done record_bytes = record { number = 0; place = 0; written = length record_bytes }
converted (refused k p) record_bytes = record { number = k; place = p; written = 0 }

unfoldable pub put_first : Told → List ℕ → List ℕ → List ℕ
put_first done record_bytes room = record_bytes ++ drop (length record_bytes) room
put_first (refused k p) record_bytes room = room

-- on bytes, n, m and a room
unfoldable pub shortening_told : List ℕ → ℕ → ℕ → List ℕ → Told
shortening_told bytes n m room = first shortening (ranking_given bytes n m (length room))

unfoldable pub lengthening_told : List ℕ → ℕ → ℕ → List ℕ → Told
lengthening_told bytes n m room = first (lengthening n m) (ranking_given bytes n m (length room))

unfoldable pub shortens : List ℕ → ℕ → ℕ → List ℕ → Writing
shortens bytes n m room = converted (shortening_told bytes n m room) (short_bytes m bytes)

unfoldable pub shortened_room : List ℕ → ℕ → ℕ → List ℕ → List ℕ
shortened_room bytes n m room = put_first (shortening_told bytes n m room) (short_bytes m bytes) room

unfoldable pub lengthens : List ℕ → ℕ → ℕ → List ℕ → Writing
lengthens bytes n m room = converted (lengthening_told bytes n m room) (long_bytes n m bytes)

unfoldable pub lengthened_room : List ℕ → ℕ → ℕ → List ℕ → List ℕ
lengthened_room bytes n m room = put_first (lengthening_told bytes n m room) (long_bytes n m bytes) room
