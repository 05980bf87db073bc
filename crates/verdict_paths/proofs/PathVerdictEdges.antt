-- The edges of judging kinds 5 and 6 in one table, under one statement: `every_path_edge`. A line is a loop, a certificate, how many places the rank
-- list has, and the number, place and record that the judge tells. The table has the kinds that do not go together, each refusal of either record
-- with both ends of each range and one past each, an input with both faults for neighbours in the order, and each condition at the first and at
-- the last path. Damaged records are the samples' bytes with numbers put at places.
use mathlib.Core.Path.{◌≡◌, refl}
use Prim.Native.Nat.{ℕ, ◌+◌}
use mathlib.Core.Bool.{Bool, true, false, ◌&&◌}
use mathlib.Core.List.{List, [], ◌∷◌, ◌++◌}
use lib.Dec.{eqb}
use lib.IntN.{pos}
use lib.ListN.{length, replicate, take, drop}
use Rattle.endian.specs.Numbers.{digits}
use Rattle.record.specs.Samples as Records
use Rattle.theory_paths.specs.Lexicographics.{Lexicographic}
use Rattle.theory_paths.specs.PathSamples.{part_of, argument, x_then_y, x_falls, y_falls}
use Rattle.theory_paths.specs.Paths.{Branches}
use Rattle.verdict.specs.Samples.{P, S1}
use Rattle.verdict.specs.declared.Verdict.{Verdict}
use Rattle.verdict_paths.specs.JudgingByLoop.{judged}
use Rattle.verdict_paths.specs.JudgingComputing.{computing}
use Rattle.verdict_paths.specs.PathSampleBytes.{two_counters_bytes, two_counters_argument_bytes, ping_pong_bytes, ping_pong_argument_bytes}
use Rattle.verdict_paths.specs.PathSampleBytes.{third_counter_bytes, third_counter_argument_bytes}
use Rattle.verdict_paths.specs.PathValues.{branches_bytes, argument_bytes, making}

infix 2 ◌with◌and◌places-gives◌at◌of◌
pub data Edge : Type 0 where
  -- loop, certificate, places of the rank list; number, place, record
  ◌with◌and◌places-gives◌at◌of◌ : List ℕ → List ℕ → ℕ → ℕ → ℕ → ℕ → Edge

unfoldable pub is_told : Verdict → ℕ → ℕ → ℕ → Bool
is_told verdict number place about = eqb verdict.number number && (eqb verdict.place place && eqb verdict.about about)

-- the lines of a table that do not hold
unfoldable pub wrong : List Edge → List Edge
wrong [] = []
wrong ((l with c and places places-gives number at place of about) ∷ es) =
    elim (is_told (judged l c (replicate places (pos 0))) number place about) [
      | true ↦ wrong es
      | false ↦ (l with c and places places-gives number at place of about) ∷ wrong es
    ]

-- ---- inputs

-- two counters and its argument
abbrev loop : List ℕ
loop = two_counters_bytes

abbrev certificate : List ℕ
certificate = two_counters_argument_bytes

-- with a number of so many bytes at a place
unfoldable pub put : ℕ → ℕ → ℕ → List ℕ → List ℕ
put width place x bytes = take place bytes ++ (digits width x ++ drop (place + width) bytes)

abbrev put_u16 : ℕ → ℕ → List ℕ → List ℕ
put_u16 place x bytes = put 2 place x bytes

abbrev put_i32 : ℕ → ℕ → List ℕ → List ℕ
put_i32 place x bytes = put 4 place x bytes

-- a record of a kind that breaks off within its counts: L, kind, and so many numbers
abbrev short : ℕ → List ℕ → List ℕ
short kind rest = digits 4 (2 + length rest) ++ (digits 2 kind ++ rest)

-- two counters' paths in the other order, the first with multipliers for x that are given
unfoldable pub other_way_round : Branches
other_way_round = record { variables = 2; paths = y_falls ∷ x_falls ∷ [] }

abbrev other_argument : List ℕ → Lexicographic
other_argument unaffecting =
    argument x_then_y
    (part_of 1 (0 ∷ 1 ∷ 0 ∷ 0 ∷ []) (0 ∷ 0 ∷ 0 ∷ 1 ∷ []) (unaffecting ∷ []) ∷ part_of 0 (1 ∷ 0 ∷ 0 ∷ []) (0 ∷ 0 ∷ 1 ∷ []) [] ∷ [])

-- kinds that go together and that do not; no list is too short for kind 5
unfoldable pub kind_edges : List Edge
kind_edges =
    (loop with certificate and 0 places-gives 0 at 0 of 0)
    ∷ (loop with certificate and 1 places-gives 0 at 0 of 0)
    ∷ (loop with certificate and 3 places-gives 0 at 0 of 0)
    ∷ (P with S1 and 2 places-gives 0 at 0 of 0)
    ∷ (P with S1 and 1 places-gives 7 at 2 of 0)
    ∷ (loop with S1 and 2 places-gives 4 at 4 of 2)
    ∷ (loop with loop and 2 places-gives 4 at 4 of 2)
    ∷ (loop with put_u16 4 7 certificate and 2 places-gives 4 at 4 of 2)
    ∷ (P with certificate and 2 places-gives 4 at 4 of 2)
    ∷ (P with certificate and 0 places-gives 4 at 4 of 2)
    ∷ (certificate with loop and 2 places-gives 4 at 4 of 1)
    ∷ (put_u16 4 1 loop with certificate and 2 places-gives 3 at 0 of 1)
    ∷ (put_u16 4 6 loop with certificate and 2 places-gives 4 at 4 of 1)
    ∷ (ping_pong_bytes with ping_pong_argument_bytes and 0 places-gives 53 at 1 of 2)
    ∷ []

-- the loop record, in the order of its tests, and before the certificate
unfoldable pub loop_edges : List Edge
loop_edges =
    ([] with [] and 0 places-gives 1 at 0 of 1)
    ∷ (take 97 loop with take 79 certificate and 0 places-gives 1 at 97 of 1)
    ∷ (loop ++ (0 ∷ []) with take 79 certificate and 0 places-gives 2 at 98 of 1)
    ∷ (short 5 [] with [] and 0 places-gives 3 at 0 of 1)
    ∷ (short 5 (digits 2 0) with [] and 0 places-gives 3 at 0 of 1)
    ∷ (short 5 (digits 2 0 ++ digits 2 0) with [] and 0 places-gives 5 at 6 of 1)
    ∷ (put_u16 6 0 loop with certificate and 0 places-gives 5 at 6 of 1)
    ∷ (put_u16 6 17 loop with certificate and 0 places-gives 5 at 6 of 1)
    ∷ (put_u16 6 16 loop with certificate and 0 places-gives 3 at 0 of 1)
    ∷ (put_u16 8 0 loop with certificate and 0 places-gives 5 at 8 of 1)
    ∷ (put_u16 8 9 loop with certificate and 0 places-gives 5 at 8 of 1)
    ∷ (short 5 (digits 2 1 ++ digits 2 8) with [] and 0 places-gives 3 at 0 of 1)
    ∷ (short 5 (digits 2 1 ++ (digits 2 2 ++ digits 2 65)) with [] and 0 places-gives 3 at 0 of 1)
    ∷ (short 5 (digits 2 1 ++ (digits 2 2 ++ (digits 2 65 ++ digits 2 65))) with [] and 0 places-gives 5 at 10 of 1)
    ∷ (put_u16 10 65 loop with certificate and 0 places-gives 5 at 10 of 1)
    ∷ (put_u16 12 65 loop with certificate and 0 places-gives 5 at 12 of 1)
    ∷ (put_u16 12 64 loop with certificate and 0 places-gives 3 at 0 of 1)
    ∷ (put_u16 10 4 (put_u16 14 30001 loop) with certificate and 0 places-gives 3 at 0 of 1)
    ∷ (put_u16 14 30001 loop with certificate and 0 places-gives 6 at 14 of 1)
    ∷ (put_u16 14 30000 loop with certificate and 0 places-gives 51 at 0 of 2)
    ∷ (put_u16 14 35536 loop with certificate and 0 places-gives 51 at 0 of 2)
    ∷ (put_u16 14 35535 loop with put_i32 24 0 certificate and 0 places-gives 6 at 14 of 1)
    ∷ (put_i32 22 2000000001 loop with certificate and 0 places-gives 6 at 22 of 1)
    ∷ (put_i32 22 2000000000 loop with certificate and 0 places-gives 51 at 0 of 2)
    ∷ (put_i32 94 2294967295 loop with certificate and 0 places-gives 6 at 94 of 1)
    ∷ (put_i32 94 2294967296 loop with certificate and 0 places-gives 0 at 0 of 0)
    ∷ []

-- the certificate, in the order of its tests, and before the conditions
unfoldable pub certificate_edges : List Edge
certificate_edges =
    (loop with [] and 0 places-gives 1 at 0 of 2)
    ∷ (loop with take 79 certificate and 0 places-gives 1 at 79 of 2)
    ∷ (loop with certificate ++ (0 ∷ []) and 0 places-gives 2 at 80 of 2)
    ∷ (loop with short 6 [] and 0 places-gives 3 at 0 of 2)
    ∷ (loop with short 6 (digits 2 0) and 0 places-gives 5 at 6 of 2)
    ∷ (loop with put_u16 6 0 certificate and 0 places-gives 5 at 6 of 2)
    ∷ (loop with put_u16 6 9 certificate and 0 places-gives 5 at 6 of 2)
    ∷ (loop with put_u16 6 8 certificate and 0 places-gives 3 at 0 of 2)
    ∷ (loop with short 6 (digits 2 1 ++ digits 2 1) and 0 places-gives 3 at 0 of 2)
    ∷ (loop with short 6 (digits 2 1 ++ (digits 2 1 ++ digits 2 1)) and 0 places-gives 14 at 8 of 2)
    ∷ (loop with put_u16 8 2 certificate and 0 places-gives 14 at 8 of 2)
    ∷ (loop with put_u16 10 2 certificate and 0 places-gives 14 at 10 of 2)
    ∷ (loop with put_u16 10 65535 (put_u16 8 65535 certificate) and 0 places-gives 14 at 8 of 2)
    ∷ (loop with put_u16 8 1 certificate and 0 places-gives 3 at 0 of 2)
    ∷ (loop with put_u16 10 0 certificate and 0 places-gives 3 at 0 of 2)
    ∷ (loop with put_u16 8 1 (put_i32 12 60001 certificate) and 0 places-gives 3 at 0 of 2)
    ∷ (loop with put_i32 12 60001 certificate and 0 places-gives 6 at 12 of 2)
    ∷ (loop with put_i32 12 60000 certificate and 0 places-gives 51 at 0 of 2)
    ∷ (loop with put_i32 12 4294907295 certificate and 0 places-gives 6 at 12 of 2)
    ∷ (loop with put_i32 20 2000000001 certificate and 0 places-gives 6 at 20 of 2)
    ∷ (loop with put_i32 20 2000000000 certificate and 0 places-gives 51 at 0 of 2)
    ∷ (loop with put_i32 20 2294967296 certificate and 0 places-gives 0 at 0 of 0)
    ∷ (loop with put_i32 24 0 certificate and 0 places-gives 6 at 24 of 2)
    ∷ (loop with put_i32 24 1000001 certificate and 0 places-gives 6 at 24 of 2)
    ∷ (loop with put_i32 24 1000000 certificate and 0 places-gives 52 at 0 of 2)
    ∷ (loop with put_i32 40 0 certificate and 0 places-gives 6 at 40 of 2)
    ∷ (loop with put_u16 44 60001 certificate and 0 places-gives 6 at 44 of 2)
    ∷ (loop with put_u16 44 60000 certificate and 0 places-gives 51 at 0 of 2)
    ∷ (loop with put_u16 78 60001 (put_u16 44 0 certificate) and 0 places-gives 6 at 78 of 2)
    ∷ []

-- 51, 52 and 53 at the first and at the last path, and two that fail; 53 at the first path of two; two earlier components
unfoldable pub condition_edges : List Edge
condition_edges =
    (loop with put_u16 44 0 certificate and 0 places-gives 51 at 0 of 2)
    ∷ (loop with put_u16 54 0 certificate and 0 places-gives 52 at 0 of 2)
    ∷ (loop with put_u16 58 0 certificate and 0 places-gives 51 at 1 of 2)
    ∷ (loop with put_u16 70 0 certificate and 0 places-gives 52 at 1 of 2)
    ∷ (loop with put_u16 76 0 certificate and 0 places-gives 53 at 1 of 2)
    ∷ (loop with put_u16 44 0 (put_u16 54 0 certificate) and 0 places-gives 51 at 0 of 2)
    ∷ (loop with put_u16 54 0 (put_u16 58 0 certificate) and 0 places-gives 52 at 0 of 2)
    ∷ (loop with put_u16 58 0 (put_u16 70 0 certificate) and 0 places-gives 51 at 1 of 2)
    ∷ (loop with put_u16 70 0 (put_u16 76 0 certificate) and 0 places-gives 52 at 1 of 2)
    ∷ (branches_bytes other_way_round with argument_bytes other_way_round (other_argument (0 ∷ 0 ∷ 1 ∷ 0 ∷ [])) and 0 places-gives 0 at 0 of 0)
    ∷ (branches_bytes other_way_round with argument_bytes other_way_round (other_argument (0 ∷ 0 ∷ 0 ∷ 0 ∷ [])) and 0 places-gives 53 at 0 of 2)
    ∷ (third_counter_bytes with third_counter_argument_bytes and 0 places-gives 0 at 0 of 0)
    ∷ (third_counter_bytes with put_u16 88 0 third_counter_argument_bytes and 0 places-gives 53 at 0 of 2)
    ∷ (third_counter_bytes with put_u16 98 0 third_counter_argument_bytes and 0 places-gives 53 at 0 of 2)
    ∷ []

unfoldable pub edges : List Edge
edges = kind_edges ++ (loop_edges ++ (certificate_edges ++ condition_edges))

-- no line of the table is wrong
pub every_path_edge : wrong edges ≡ []
unfolding
    computing making is_told wrong put edges kind_edges loop_edges certificate_edges condition_edges other_way_round two_counters_bytes
    two_counters_argument_bytes ping_pong_bytes ping_pong_argument_bytes third_counter_bytes third_counter_argument_bytes P S1 Records.P Records.S1
every_path_edge = refl
