-- The edges of judging and bound of kind 8 in one table, under one statement: `every_settling_edge`. A line of judging is a loop, a certificate, how
-- many places the rank list has, and the number, place and record that are told; one of bound has a state, and the bound that is told. The table has
-- each refusal of the certificate with both ends of each range and one past each, an input with both faults for neighbours in the order, and each
-- condition at the first and the last column. Damaged records are the samples' bytes with numbers put at places.
use mathlib.Core.Path.{◌≡◌, refl}
use Prim.Native.Nat.{ℕ}
use mathlib.Core.Bool.{true, false, ◌&&◌}
use mathlib.Core.List.{List, [], ◌∷◌, ◌++◌}
use lib.Dec.{eqb}
use lib.IntN.{ℤ, pos}
use lib.ListN.{replicate, take}
use Rattle.record.specs.Samples as Records
use Rattle.verdict.specs.Samples.{P, S1, −}
use Rattle.verdict_paths.specs.PathSampleBytes.{two_counters_bytes, two_counters_argument_bytes}
use Rattle.verdict_paths.proofs.PathVerdictEdges.{is_told, put}
use Rattle.verdict_settling.specs.AnswersByKind.{judged_by_kind, bounded_by_kind}
use Rattle.verdict_settling.specs.AnswersComputing.{computing}
use Rattle.verdict_settling.specs.SettlingSampleBytes.{curve_bytes, curve_settling_bytes, curve_exclusion_bytes}

infix 2 ◌with◌and◌places-gives◌at◌of◌
infix 2 ◌with◌from◌gives◌at◌of◌bound◌
pub data Edge : Type 0 where
  -- loop, certificate, places of the rank list; number, place, record
  ◌with◌and◌places-gives◌at◌of◌ : List ℕ → List ℕ → ℕ → ℕ → ℕ → ℕ → Edge
  -- loop, certificate, state; number, place, record, bound
  ◌with◌from◌gives◌at◌of◌bound◌ : List ℕ → List ℕ → List ℤ → ℕ → ℕ → ℕ → ℕ → Edge

-- the lines of a table that do not hold
unfoldable pub wrong : List Edge → List Edge
wrong [] = []
wrong ((l with c and places places-gives number at place of about) ∷ es) =
    elim (is_told (judged_by_kind l c (replicate places (pos 0))) number place about) [
      | true ↦ wrong es
      | false ↦ (l with c and places places-gives number at place of about) ∷ wrong es
    ]
wrong ((l with c from state gives number at place of about bound steps) ∷ es) =
    elim (is_told (bounded_by_kind l c state).verdict number place about && eqb (bounded_by_kind l c state).bound steps) [
      | true ↦ wrong es
      | false ↦ (l with c from state gives number at place of about bound steps) ∷ wrong es
    ]

-- ---- inputs

-- the curve and its settling: g at 6, t at 10, k at 14, E from 16, Y from 26, Z from 38
abbrev loop : List ℕ
loop = curve_bytes

abbrev certificate : List ℕ
certificate = curve_settling_bytes

-- with a number of so many bytes at a place
abbrev put_u16 : ℕ → ℕ → List ℕ → List ℕ
put_u16 place x bytes = put 2 place x bytes

abbrev put_i32 : ℕ → ℕ → List ℕ → List ℕ
put_i32 place x bytes = put 4 place x bytes

-- a threshold too low, which is 24
abbrev too_soon : List ℕ
too_soon = put_i32 10 0 certificate

-- L one less, with a byte less, and one more, with a byte more
abbrev one_short : List ℕ → List ℕ
one_short bytes = put_i32 0 45 (take 49 bytes)

abbrev one_long : List ℕ → List ℕ
one_long bytes = put_i32 0 47 (bytes ++ (0 ∷ []))

-- a state of two entries
infix 5 ◌&◌
abbrev ◌&◌ : ℤ → ℤ → List ℤ
x & y = x ∷ y ∷ []

-- kinds that go together and that do not
unfoldable pub kind_edges : List Edge
kind_edges =
    (loop with certificate and 2 places-gives 0 at 0 of 0)
    ∷ (loop with certificate and 3 places-gives 0 at 0 of 0)
    ∷ (loop with put_u16 4 7 certificate and 2 places-gives 4 at 4 of 2)
    ∷ (loop with put_u16 4 9 certificate and 2 places-gives 4 at 4 of 2)
    ∷ (loop with put_u16 4 264 certificate and 2 places-gives 4 at 4 of 2)
    ∷ (certificate with certificate and 2 places-gives 4 at 4 of 1)
    ∷ (put_u16 4 8 loop with certificate and 2 places-gives 4 at 4 of 1)
    ∷ (two_counters_bytes with certificate and 2 places-gives 4 at 4 of 2)
    ∷ (two_counters_bytes with certificate and 0 places-gives 4 at 4 of 2)
    ∷ (two_counters_bytes with two_counters_argument_bytes and 0 places-gives 0 at 0 of 0)
    ∷ (P with certificate and 2 places-gives 3 at 0 of 2)
    ∷ (P with S1 and 2 places-gives 0 at 0 of 0)
    ∷ (P with S1 and 1 places-gives 7 at 2 of 0)
    ∷ (loop with curve_exclusion_bytes and 0 places-gives 0 at 0 of 0)
    ∷ (two_counters_bytes with certificate from pos 0 & pos 5 gives 4 at 4 of 1 bound 0)
    ∷ (loop with curve_exclusion_bytes from pos 0 & pos 5 gives 4 at 4 of 2 bound 0)
    ∷ (loop with put_u16 4 9 certificate from pos 0 & pos 5 gives 4 at 4 of 2 bound 0)
    ∷ (P with S1 from pos 5 & pos 1 gives 0 at 0 of 0 bound 3)
    ∷ []

-- the loop, then the certificate, then 7, then the conditions; in bound 10 and 9 in 7's place
unfoldable pub order_edges : List Edge
order_edges =
    (take 69 loop with take 49 certificate and 0 places-gives 1 at 69 of 1)
    ∷ (put_u16 6 17 loop with put_u16 14 0 certificate and 0 places-gives 5 at 6 of 1)
    ∷ (loop with take 49 certificate and 0 places-gives 1 at 49 of 2)
    ∷ (loop with put_u16 48 60001 certificate and 0 places-gives 6 at 48 of 2)
    ∷ (loop with certificate and 1 places-gives 7 at 2 of 0)
    ∷ (loop with too_soon and 1 places-gives 7 at 2 of 0)
    ∷ (loop with too_soon and 0 places-gives 7 at 2 of 0)
    ∷ (loop with too_soon and 2 places-gives 24 at 0 of 2)
    ∷ (take 69 loop with take 49 certificate from [] gives 1 at 69 of 1 bound 0)
    ∷ (loop with take 49 certificate from [] gives 1 at 49 of 2 bound 0)
    ∷ (loop with put_u16 48 60001 certificate from [] gives 6 at 48 of 2 bound 0)
    ∷ (loop with too_soon from [] gives 10 at 0 of 0 bound 0)
    ∷ (loop with certificate from pos 1000001 ∷ [] gives 10 at 1 of 0 bound 0)
    ∷ (loop with certificate from pos 0 ∷ pos 5 ∷ pos 0 ∷ [] gives 10 at 3 of 0 bound 0)
    ∷ (loop with too_soon from pos 1000001 & pos 5 gives 9 at 0 of 0 bound 0)
    ∷ (loop with certificate from pos 0 & − 1000001 gives 9 at 1 of 0 bound 0)
    ∷ (loop with certificate from − 1000001 & pos 1000001 gives 9 at 0 of 0 bound 0)
    ∷ (loop with too_soon from pos 0 & pos 5 gives 24 at 0 of 2 bound 0)
    ∷ []

-- the certificate's length, and each field
unfoldable pub certificate_edges : List Edge
certificate_edges =
    (loop with [] and 2 places-gives 1 at 0 of 2)
    ∷ (loop with take 5 certificate and 2 places-gives 1 at 5 of 2)
    ∷ (loop with certificate ++ (0 ∷ []) and 2 places-gives 2 at 50 of 2)
    ∷ (loop with one_short certificate and 2 places-gives 3 at 0 of 2)
    ∷ (loop with one_long certificate and 2 places-gives 3 at 0 of 2)
    ∷ (loop with one_short (put_u16 6 30001 certificate) and 2 places-gives 3 at 0 of 2)
    -- g
    ∷ (loop with put_u16 6 30000 certificate and 2 places-gives 61 at 0 of 2)
    ∷ (loop with put_u16 6 30001 certificate and 2 places-gives 6 at 6 of 2)
    ∷ (loop with put_u16 6 35536 certificate and 2 places-gives 61 at 0 of 2)
    ∷ (loop with put_u16 6 35535 certificate and 2 places-gives 6 at 6 of 2)
    ∷ (loop with put_u16 8 30001 certificate and 2 places-gives 6 at 8 of 2)
    -- t
    ∷ (loop with put_i32 10 2000000000 certificate and 2 places-gives 0 at 0 of 0)
    ∷ (loop with put_i32 10 2000000001 certificate and 2 places-gives 6 at 10 of 2)
    ∷ (loop with put_i32 10 2294967296 certificate and 2 places-gives 24 at 0 of 2)
    ∷ (loop with put_i32 10 2294967295 certificate and 2 places-gives 6 at 10 of 2)
    -- k
    ∷ (loop with put_u16 14 0 certificate and 2 places-gives 6 at 14 of 2)
    ∷ (loop with put_u16 14 60000 certificate and 2 places-gives 61 at 1 of 2)
    ∷ (loop with put_u16 14 60001 certificate and 2 places-gives 6 at 14 of 2)
    ∷ (loop with put_u16 14 60000 (put_u16 22 60000 certificate) and 2 places-gives 0 at 0 of 0)
    -- E, Y and Z, the first and the last of each
    ∷ (loop with put_u16 16 60000 certificate and 2 places-gives 61 at 0 of 2)
    ∷ (loop with put_u16 16 60001 certificate and 2 places-gives 6 at 16 of 2)
    ∷ (loop with put_u16 24 60001 certificate and 2 places-gives 6 at 24 of 2)
    ∷ (loop with put_u16 26 60000 certificate and 2 places-gives 22 at 0 of 2)
    ∷ (loop with put_u16 26 60001 certificate and 2 places-gives 6 at 26 of 2)
    ∷ (loop with put_u16 36 60001 certificate and 2 places-gives 6 at 36 of 2)
    ∷ (loop with put_u16 38 60000 certificate and 2 places-gives 22 at 0 of 2)
    ∷ (loop with put_u16 38 60001 certificate and 2 places-gives 6 at 38 of 2)
    ∷ (loop with put_u16 48 60001 certificate and 2 places-gives 6 at 48 of 2)
    -- two that are out of range: the first in the layout's order
    ∷ (loop with put_u16 8 30001 (put_i32 10 2000000001 certificate) and 2 places-gives 6 at 8 of 2)
    ∷ (loop with put_i32 10 2000000001 (put_u16 14 0 certificate) and 2 places-gives 6 at 10 of 2)
    ∷ (loop with put_u16 14 0 (put_u16 16 60001 certificate) and 2 places-gives 6 at 14 of 2)
    ∷ (loop with put_u16 24 60001 (put_u16 26 60001 certificate) and 2 places-gives 6 at 24 of 2)
    ∷ (loop with put_u16 36 60001 (put_u16 38 60001 certificate) and 2 places-gives 6 at 36 of 2)
    -- the same in bound
    ∷ (loop with one_short certificate from pos 0 & pos 5 gives 3 at 0 of 2 bound 0)
    ∷ (loop with one_long certificate from pos 0 & pos 5 gives 3 at 0 of 2 bound 0)
    ∷ (loop with put_u16 14 0 certificate from pos 0 & pos 5 gives 6 at 14 of 2 bound 0)
    ∷ []

-- 61 to 63 and 21 to 24, at the first and the last column, and two that fail; the loop's fourth row, which rises, is from byte 46 on
unfoldable pub condition_edges : List Edge
condition_edges =
    (loop with put_u16 16 1 certificate and 2 places-gives 61 at 0 of 2)
    ∷ (loop with put_u16 14 2 certificate and 2 places-gives 61 at 1 of 2)
    ∷ (put_u16 50 1 loop with certificate and 2 places-gives 62 at 0 of 2)
    ∷ (put_u16 52 2 loop with certificate and 2 places-gives 62 at 1 of 2)
    ∷ (put_i32 54 0 loop with certificate and 2 places-gives 63 at 0 of 2)
    ∷ (loop with put_u16 28 1 certificate and 2 places-gives 21 at 0 of 2)
    ∷ (loop with put_u16 32 1 certificate and 2 places-gives 21 at 1 of 2)
    ∷ (loop with put_u16 26 2 certificate and 2 places-gives 22 at 0 of 2)
    ∷ (loop with put_u16 36 1 certificate and 2 places-gives 22 at 1 of 2)
    ∷ (loop with put_u16 26 2 (put_u16 38 1 certificate) and 2 places-gives 23 at 0 of 2)
    ∷ (loop with put_u16 36 1 (put_u16 48 2 certificate) and 2 places-gives 23 at 1 of 2)
    ∷ (loop with too_soon and 2 places-gives 24 at 0 of 2)
    ∷ (put_u16 50 1 loop with put_u16 14 2 certificate and 2 places-gives 61 at 1 of 2)
    ∷ (put_i32 54 0 (put_u16 52 2 loop) with certificate and 2 places-gives 62 at 1 of 2)
    ∷ (put_i32 54 0 loop with put_u16 28 1 certificate and 2 places-gives 63 at 0 of 2)
    ∷ (loop with put_u16 26 2 (put_u16 32 1 certificate) and 2 places-gives 21 at 1 of 2)
    ∷ (loop with put_u16 36 1 (put_u16 26 2 (put_u16 38 1 certificate)) and 2 places-gives 22 at 1 of 2)
    ∷ (loop with put_u16 26 2 (put_u16 38 1 too_soon) and 2 places-gives 23 at 0 of 2)
    ∷ (loop with put_u16 14 2 certificate from pos 0 & pos 5 gives 61 at 1 of 2 bound 0)
    ∷ (put_u16 52 2 loop with certificate from pos 0 & pos 5 gives 62 at 1 of 2 bound 0)
    ∷ (put_i32 54 0 loop with certificate from pos 0 & pos 5 gives 63 at 0 of 2 bound 0)
    ∷ (loop with put_u16 36 1 certificate from pos 0 & pos 5 gives 22 at 1 of 2 bound 0)
    ∷ []

-- the bound: below the threshold, one below, at it and past it; at both ends of a state's range, and with the largest threshold
unfoldable pub bound_edges : List Edge
bound_edges =
    (loop with certificate from pos 0 & pos 5 gives 0 at 0 of 0 bound 6)
    ∷ (loop with certificate from pos 9 & pos 0 gives 0 at 0 of 0 bound 1)
    ∷ (loop with certificate from pos 9 & − 1 gives 0 at 0 of 0 bound 0)
    ∷ (loop with certificate from pos 3 & − 2 gives 0 at 0 of 0 bound 0)
    ∷ (loop with certificate from − 1000000 & pos 1000000 gives 0 at 0 of 0 bound 1000001)
    ∷ (loop with certificate from pos 1000000 & − 1000000 gives 0 at 0 of 0 bound 0)
    ∷ (loop with put_i32 10 2000000000 certificate from pos 0 & pos 1000000 gives 0 at 0 of 0 bound 2001000000)
    ∷ []

unfoldable pub edges : List Edge
edges = kind_edges ++ (order_edges ++ (certificate_edges ++ (condition_edges ++ bound_edges)))

-- no line of the table is wrong
pub every_settling_edge : wrong edges ≡ []
unfolding
    computing is_told wrong put edges kind_edges order_edges certificate_edges condition_edges bound_edges curve_bytes curve_settling_bytes
    curve_exclusion_bytes two_counters_bytes two_counters_argument_bytes P S1 Records.P Records.S1
every_settling_edge = refl
