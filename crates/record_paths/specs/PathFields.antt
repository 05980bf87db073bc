-- 02, Q-3: the fields that kinds 5 and 6 bring, and the few makers of which "Order for a record" is made for kinds past 4: L holds the
-- next counts, L is as the formula says, fields are in range. Kinds 5 and 6 are not read into lists or written, so a record is told by its
-- kind's number, and no list of wanted kinds goes with it.
use Rattle.std.specs.Prelude.{ℕ, zero, suc, ◌+◌, false, List, leb, eqb, ℤ, drop, replicate}
use Rattle.refusal.specs.Tests.{Test, ◌at◌unless◌}
use Rattle.record.specs.Fields.{u16, i32, number, holds, Field, values, in_range, before_fault}
use Rattle.record.specs.Ranges.{◌to◌, Range}
use Rattle.record.specs.Readers.{Reader, stated_length, kind_number}

-- ---- fields: "a count of 1 to 8 paths", "a count of 1 to 8 components", δ "1 to 1,000,000"

unfoldable pub path_counts : Range
path_counts = 1 to 8

unfoldable pub component_counts : Range
component_counts = 1 to 8

unfoldable pub falls : Range
falls = 1 to 1_000_000

unfoldable pub path_count : Field
unfolding holds ◌to◌ path_counts
path_count = record { form = u16; range = path_counts; least_held = tt; most_held = tt }

unfoldable pub component_count : Field
unfolding holds ◌to◌ component_counts
component_count = record { form = u16; range = component_counts; least_held = tt; most_held = tt }

unfoldable pub fall : Field
unfolding holds ◌to◌ falls
fall = record { form = i32; range = falls; least_held = tt; most_held = tt }

-- ---- numbers at places

-- `count` numbers of a field, the first of them at a place
unfoldable pub numbers_at : Field → ℕ → List ℕ → ℕ → List ℤ
numbers_at field count bytes place = values (replicate count field) (drop place bytes)

-- f 0 + .. + f (count - 1)
unfoldable pub sum_of : ℕ → (ℕ → ℕ) → ℕ
sum_of zero f = 0
sum_of (suc count) f = sum_of count f + f count

-- ---- makers

-- a record by its bytes alone
unfoldable pub bytes_alone : List ℕ → Reader
bytes_alone bytes = record { bytes = bytes; wants = λ k. false; n = 0; m = 0; room = 0 }

-- the kind is the one that is wanted
unfoldable pub is_kind : ℕ → Test Reader
is_kind k = 4 at (λ r. 4) unless λ r. eqb (kind_number r) k

-- L is so many at least, which hold the next counts
unfoldable pub holds_counts : (Reader → ℕ) → Test Reader
holds_counts least = 3 at (λ r. 0) unless λ r. leb (least r) (stated_length r)

-- L is as the formula says
unfoldable pub is_long : (Reader → ℕ) → Test Reader
is_long formula = 3 at (λ r. 0) unless λ r. eqb (stated_length r) (formula r)

-- fields, the first of them at a place, are in range; if not, the first that is out of range is told
unfoldable pub fields_fit : ℕ → (Reader → ℕ) → (Reader → List Field) → Test Reader
fields_fit number place fields =
    number at (λ r. place r + before_fault (fields r) (values (fields r) (drop (place r) r.bytes)))
    unless λ r. in_range (fields r) (values (fields r) (drop (place r) r.bytes))
