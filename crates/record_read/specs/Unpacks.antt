-- What a reading makes of a record that has been checked: the check's answer says which fields the list has and where it starts.
use Rattle.std.specs.Prelude.{ℕ, ◌+◌, ◌≤◌, ◌≡◌, cond, List, ◌++◌, ltb, ℤ, length, drop}
use Rattle.record.specs.declared.Reading.{Reading}
use Rattle.record.specs.declared.Counts.{Counts}
use Rattle.record.specs.Layouts.{kind_of, is_loop, length_of}
use Rattle.record_fields.specs.Runs.{value_count}
use Rattle.record_values.specs.ListsHeld.{list_of}
use Rattle.record_check.specs.declared.Checked.{Checked}

-- a refusal: all but number and place are 0
abbrev pub refusal : ℕ → ℕ → Reading
refusal number place = record { number = number; place = place; kind = 0; n = 0; m = 0; count = 0 }

abbrev pub counts_of : Checked → Counts
counts_of v = record { n = v.n; m = v.m; ms = v.ms }

-- a sound record is as long as its counts say, and they are in range
pub record Sized (bytes : List ℕ) (v : Checked) : Type 0 where
  pub variables : v.n ≤ 16
  pub rows : v.m ≤ 64
  pub stem_rows : v.ms ≤ 64
  pub long : length bytes ≡ 4 + length_of (kind_of v.kind) (counts_of v)

-- what is answered
unfoldable pub unpacked : Checked → List ℤ → Reading
unpacked v lent =
    cond (ltb (length lent) (value_count (kind_of v.kind) (counts_of v)))
    (refusal 7 (value_count (kind_of v.kind) (counts_of v)))
    (record {
      number = 0;
      place = 0;
      kind = v.kind;
      n = cond (is_loop (kind_of v.kind)) v.n 0;
      m = cond (is_loop (kind_of v.kind)) v.m 0;
      count = value_count (kind_of v.kind) (counts_of v);
    })

-- and what the list holds afterwards
unfoldable pub unpacks : List ℕ → Checked → List ℤ → List ℤ
unpacks bytes v lent =
    cond (ltb (length lent) (value_count (kind_of v.kind) (counts_of v)))
    lent
    (list_of bytes v.kind (counts_of v) ++ drop (value_count (kind_of v.kind) (counts_of v)) lent)
