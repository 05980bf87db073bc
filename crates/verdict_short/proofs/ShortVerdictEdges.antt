-- The edges of judging and bound of kind 7 in one table, under one statement: `every_short_edge`. The lines are those of `SettlingEdges`. The table has
-- the kinds that go together and that do not, each refusal of the record with both ends of each range and one past each, 15 and 16 at the first, a
-- middle and the last triple, an input with both faults for neighbours in the order, and the conditions. P has 3 rows over 2 variables.
use mathlib.Core.Path.{◌≡◌, refl}
use Prim.Native.Nat.{ℕ}
use mathlib.Core.Bool.{true, false, ◌&&◌}
use mathlib.Core.List.{List, [], ◌∷◌, ◌++◌}
use lib.Dec.{eqb}
use lib.IntN.{ℤ, pos}
use lib.ListN.{replicate, take}
use Rattle.record.specs.Contents.{rows_values, row_values}
use Rattle.record.specs.Samples as Records
use Rattle.record.proofs.EdgeInputs.{two, four, filed}
use Rattle.record_short.proofs.ShortEdges.{S1-short, triple, short, run}
use Rattle.verdict.specs.Samples.{P, S1, no_rows, loop_bytes, −}
use Rattle.verdict_paths.specs.PathSampleBytes.{two_counters_bytes, two_counters_argument_bytes}
use Rattle.verdict_paths.proofs.PathVerdictEdges.{is_told, put}
use Rattle.verdict_settling.specs.SettlingSampleBytes.{curve_bytes, curve_settling_bytes}
use Rattle.verdict_settling.proofs.SettlingEdges.{Edge, ◌with◌and◌places-gives◌at◌of◌, ◌with◌from◌gives◌at◌of◌bound◌}
use Rattle.verdict_short.specs.Answers.{answered, bounded_answered}
use Rattle.verdict_short.specs.AnswersComputing.{computing}
use Rattle.verdict_short.proofs.ShortSamples.{none_short, second_short}

-- the lines of a table that do not hold of the public answers
unfoldable pub wrong : List Edge → List Edge
wrong [] = []
wrong ((l with c and places places-gives number at place of about) ∷ es) =
    elim (is_told (answered l c (replicate places (pos 0))) number place about) [
      | true ↦ wrong es
      | false ↦ (l with c and places places-gives number at place of about) ∷ wrong es
    ]
wrong ((l with c from state gives number at place of about bound steps) ∷ es) =
    elim (is_told (bounded_answered l c state).verdict number place about && eqb (bounded_answered l c state).bound steps) [
      | true ↦ wrong es
      | false ↦ (l with c from state gives number at place of about bound steps) ∷ wrong es
    ]

-- ---- inputs

-- three triples
abbrev triples : List ℕ → List ℕ → List ℕ → List ℕ
triples a b c = short 3 (a ++ (b ++ c))

-- S1's
abbrev one : List ℕ
one = triple 0 1 0

abbrev other : List ℕ
other = triple 1 0 1

abbrev last : List ℕ
last = triple 2 0 1

-- a state of two entries
infix 5 ◌&◌
abbrev ◌&◌ : ℤ → ℤ → List ℤ
x & y = x ∷ y ∷ []

-- kinds that go together and that do not
unfoldable pub kind_edges : List Edge
kind_edges =
    (P with S1-short and 2 places-gives 0 at 0 of 0)
    ∷ (P with S1-short and 3 places-gives 0 at 0 of 0)
    ∷ (P with S1 and 2 places-gives 0 at 0 of 0)
    ∷ (P with put 2 4 9 S1-short and 2 places-gives 4 at 4 of 2)
    ∷ (P with put 2 4 263 S1-short and 2 places-gives 4 at 4 of 2)
    ∷ (P with put 2 4 8 S1-short and 2 places-gives 3 at 0 of 2)
    ∷ (S1-short with S1-short and 2 places-gives 4 at 4 of 1)
    ∷ (put 2 4 7 P with S1-short and 2 places-gives 4 at 4 of 1)
    ∷ (curve_bytes with curve_settling_bytes and 2 places-gives 0 at 0 of 0)
    ∷ (curve_bytes with S1-short and 2 places-gives 22 at 0 of 2)
    ∷ (two_counters_bytes with S1-short and 2 places-gives 4 at 4 of 2)
    ∷ (two_counters_bytes with S1-short and 0 places-gives 4 at 4 of 2)
    ∷ (two_counters_bytes with short 1 (triple 9 0 0) and 2 places-gives 4 at 4 of 2)
    ∷ (two_counters_bytes with take 25 S1-short and 2 places-gives 1 at 25 of 2)
    ∷ (two_counters_bytes with two_counters_argument_bytes and 0 places-gives 0 at 0 of 0)
    ∷ (P with S1-short from pos 5 & pos 1 gives 0 at 0 of 0 bound 3)
    ∷ (P with S1 from pos 5 & pos 1 gives 0 at 0 of 0 bound 3)
    ∷ (curve_bytes with curve_settling_bytes from pos 0 & pos 5 gives 0 at 0 of 0 bound 6)
    ∷ (two_counters_bytes with S1-short from pos 5 & pos 1 gives 4 at 4 of 1 bound 0)
    ∷ (S1-short with S1-short from pos 5 & pos 1 gives 4 at 4 of 1 bound 0)
    ∷ []

-- the loop, then the certificate, then 7, then the conditions; in bound 10 and 9 in 7's place
unfoldable pub order_edges : List Edge
order_edges =
    (take 45 P with take 25 S1-short and 0 places-gives 1 at 45 of 1)
    ∷ (put 2 6 17 P with short 1 (triple 3 1 0) and 0 places-gives 5 at 6 of 1)
    ∷ (P with take 25 S1-short and 0 places-gives 1 at 25 of 2)
    ∷ (P with short 1 (triple 3 1 0) and 0 places-gives 15 at 8 of 2)
    ∷ (P with short 1 (triple 0 0 0) and 0 places-gives 16 at 8 of 2)
    ∷ (P with short 1 (triple 0 60001 0) and 0 places-gives 6 at 10 of 2)
    ∷ (P with S1-short and 1 places-gives 7 at 2 of 0)
    ∷ (P with none_short and 1 places-gives 7 at 2 of 0)
    ∷ (P with none_short and 0 places-gives 7 at 2 of 0)
    ∷ (P with none_short and 2 places-gives 24 at 0 of 2)
    ∷ (take 45 P with take 25 S1-short from [] gives 1 at 45 of 1 bound 0)
    ∷ (P with take 25 S1-short from [] gives 1 at 25 of 2 bound 0)
    ∷ (P with short 1 (triple 3 1 0) from [] gives 15 at 8 of 2 bound 0)
    ∷ (P with short 1 (triple 0 0 0) from [] gives 16 at 8 of 2 bound 0)
    ∷ (P with short 1 (triple 0 60001 0) from [] gives 6 at 10 of 2 bound 0)
    ∷ (P with none_short from [] gives 10 at 0 of 0 bound 0)
    ∷ (P with S1-short from pos 1000001 ∷ [] gives 10 at 1 of 0 bound 0)
    ∷ (P with S1-short from pos 5 ∷ pos 1 ∷ pos 0 ∷ [] gives 10 at 3 of 0 bound 0)
    ∷ (P with none_short from pos 1000001 & pos 1 gives 9 at 0 of 0 bound 0)
    ∷ (P with S1-short from pos 5 & − 1000001 gives 9 at 1 of 0 bound 0)
    ∷ (P with none_short from pos 5 & pos 1 gives 24 at 0 of 2 bound 0)
    ∷ []

-- the record's length, its count and its triples
unfoldable pub record_edges : List Edge
record_edges =
    (P with [] and 2 places-gives 1 at 0 of 2)
    ∷ (P with take 5 S1-short and 2 places-gives 1 at 5 of 2)
    ∷ (P with 1 ∷ 0 ∷ 0 ∷ 0 ∷ [] and 2 places-gives 3 at 0 of 2)
    ∷ (P with S1-short ++ (0 ∷ []) and 2 places-gives 2 at 26 of 2)
    -- room for the count, then the count, then the formula
    ∷ (P with filed 2 7 [] and 2 places-gives 3 at 0 of 2)
    ∷ (P with filed 3 7 (65 ∷ []) and 2 places-gives 3 at 0 of 2)
    ∷ (P with short 65 (run 0 65) and 2 places-gives 5 at 6 of 2)
    ∷ (P with short 65 [] and 2 places-gives 5 at 6 of 2)
    ∷ (P with short 64 [] and 2 places-gives 3 at 0 of 2)
    ∷ (P with short 64 (run 0 64) and 2 places-gives 15 at 26 of 2)
    ∷ (P with short 1 (triple 3 0 0 ++ (0 ∷ [])) and 2 places-gives 3 at 0 of 2)
    ∷ (P with short 1 (0 ∷ 0 ∷ 1 ∷ 0 ∷ 0 ∷ []) and 2 places-gives 3 at 0 of 2)
    -- 15: a row that is not below m, at the first, the middle and the last triple; then one that does not rise
    ∷ (P with triples (triple 3 1 0) other last and 2 places-gives 15 at 8 of 2)
    ∷ (P with triples one (triple 3 0 1) last and 2 places-gives 15 at 14 of 2)
    ∷ (P with triples one other (triple 3 0 1) and 2 places-gives 15 at 20 of 2)
    ∷ (P with triples one other (triple 65535 0 1) and 2 places-gives 15 at 20 of 2)
    ∷ (P with triples one (triple 0 0 1) last and 2 places-gives 15 at 14 of 2)
    ∷ (P with triples one other other and 2 places-gives 15 at 20 of 2)
    ∷ (P with triples one last other and 2 places-gives 15 at 20 of 2)
    ∷ (P with triples other one last and 2 places-gives 15 at 14 of 2)
    ∷ (no_rows with short 1 one and 2 places-gives 15 at 8 of 2)
    ∷ (no_rows with none_short and 1 places-gives 24 at 0 of 2)
    -- 16, at the first, the middle and the last
    ∷ (P with triples (triple 0 0 0) other last and 2 places-gives 16 at 8 of 2)
    ∷ (P with triples one (triple 1 0 0) last and 2 places-gives 16 at 14 of 2)
    ∷ (P with triples one other (triple 2 0 0) and 2 places-gives 16 at 20 of 2)
    -- both in one triple, and in two
    ∷ (P with triples one (triple 3 0 0) last and 2 places-gives 15 at 14 of 2)
    ∷ (P with triples (triple 0 0 0) (triple 0 1 0) last and 2 places-gives 16 at 8 of 2)
    ∷ (P with triples one (triple 0 1 0) (triple 2 0 0) and 2 places-gives 15 at 14 of 2)
    -- 6 over all
    ∷ (P with triples (triple 0 60000 0) (triple 1 0 60000) (triple 2 0 60000) and 2 places-gives 0 at 0 of 0)
    ∷ (P with triples (triple 0 60001 0) other last and 2 places-gives 6 at 10 of 2)
    ∷ (P with triples one (triple 1 0 60001) last and 2 places-gives 6 at 18 of 2)
    ∷ (P with triples one other (triple 2 60001 60001) and 2 places-gives 6 at 22 of 2)
    ∷ (P with triples one other (triple 2 0 65535) and 2 places-gives 6 at 24 of 2)
    ∷ (P with triples (triple 0 60001 0) other other and 2 places-gives 15 at 20 of 2)
    ∷ (P with triples (triple 0 60001 0) other (triple 2 0 0) and 2 places-gives 16 at 20 of 2)
    -- the same in bound
    ∷ (P with filed 2 7 [] from pos 5 & pos 1 gives 3 at 0 of 2 bound 0)
    ∷ (P with short 65 [] from pos 5 & pos 1 gives 5 at 6 of 2 bound 0)
    ∷ (P with triples one other (triple 3 0 1) from pos 5 & pos 1 gives 15 at 20 of 2 bound 0)
    ∷ (P with triples one (triple 1 0 0) last from pos 5 & pos 1 gives 16 at 14 of 2 bound 0)
    ∷ (P with triples one other (triple 2 0 60001) from pos 5 & pos 1 gives 6 at 24 of 2 bound 0)
    ∷ []

-- 21 to 24, and the bound
unfoldable pub condition_edges : List Edge
condition_edges =
    (P with short 1 (triple 1 1 0) and 2 places-gives 21 at 0 of 2)
    ∷ (P with short 1 (triple 2 1 0) and 2 places-gives 21 at 1 of 2)
    ∷ (P with short 1 (triple 0 1 0) and 2 places-gives 22 at 0 of 2)
    ∷ (P with second_short and 2 places-gives 22 at 1 of 2)
    ∷ (P with short 1 (triple 0 1 1) and 2 places-gives 23 at 0 of 2)
    ∷ (P with none_short and 2 places-gives 24 at 0 of 2)
    ∷ (P with short 2 (one ++ triple 1 1 0) and 2 places-gives 21 at 0 of 2)
    ∷ (P with short 1 (triple 1 1 0) from pos 5 & pos 1 gives 21 at 0 of 2 bound 0)
    ∷ (P with second_short from pos 5 & pos 1 gives 22 at 1 of 2 bound 0)
    ∷ (P with short 1 (triple 0 1 1) from pos 5 & pos 1 gives 23 at 0 of 2 bound 0)
    ∷ (P with S1-short from pos 3 & pos 1 gives 0 at 0 of 0 bound 1)
    ∷ (P with S1-short from pos 2 & pos 1 gives 0 at 0 of 0 bound 0)
    ∷ (P with S1-short from − 1000000 & pos 1000000 gives 0 at 0 of 0 bound 0)
    ∷ (P with S1-short from pos 1000000 & − 1000000 gives 0 at 0 of 0 bound 1999999)
    ∷ []

unfoldable pub edges : List Edge
edges = kind_edges ++ (order_edges ++ (record_edges ++ condition_edges))

-- no line of the table is wrong
pub every_short_edge : wrong edges ≡ []
unfolding
    computing is_told wrong put two four filed triple short run edges kind_edges order_edges record_edges condition_edges S1-short none_short
    second_short P S1 Records.P Records.S1 no_rows loop_bytes rows_values row_values curve_bytes curve_settling_bytes two_counters_bytes
    two_counters_argument_bytes
every_short_edge = refl
