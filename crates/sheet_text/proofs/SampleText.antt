-- 01's sample of a sheet, by computing: P's 82 bytes give the three lines. And a library that judges the first certificate and repeats its line does not
-- meet the definition on the same input.
use mathlib.Core.Path.{◌≡◌, refl, ap}
use Prim.Native.Nat.{ℕ, suc}
use mathlib.Core.List.{List, [], ◌∷◌, ◌++◌}
use native.Mathlib.Omega.{arith}
use lib.ListN.{length, set, take, drop}
use Rattle.record.specs.Contents.{rows_values, row_values, ranking_values, exclusion_values}
use Rattle.record.specs.Samples as Records
use Rattle.record_short.proofs.ShortEdges.{S1-short}
use Rattle.decimal.specs.Decimals.{decimal}
use Rattle.verdict.specs.Samples.{P, ends_without_rank, halves, with_stem, S1, S7, S8, S9, S10, S11, second_of_P, loop_bytes, ranking_bytes, exclusion_bytes}
use Rattle.sheet_lines.specs.Words.{bytes, line}
use Rattle.record_parting.specs.Parting.{first_record, after_first, records}
use Rattle.sheet_text.specs.Sheets.{variables_in, rows_in, certificate_line, sheet_text}
use Rattle.sheet_text.specs.Computing.{computing}

-- P, then its two certificates
unfoldable pub sample_input : List ℕ
sample_input = P ++ (S1 ++ second_of_P)

pub sample_text : (length sample_input ≡ 82) × (sheet_text sample_input ≡ bytes "loop 2 3\n1 rank 1 -1 from 2 down 1\n2 refused 22 1\n")
unfolding computing sample_input P S1 second_of_P Records.P Records.S1 ranking_bytes ranking_values
sample_text = (refl, refl)

-- a lasso and exclusions of both grades
pub other_lines :
    (sheet_text (ends_without_rank ++ (S7 ++ S8)) ≡ bytes "loop 1 3\n1 excluded whole\n2 excluded whole\n")
    × (sheet_text (halves ++ S9) ≡ bytes "loop 1 4\n1 excluded fractions\n")
    × (sheet_text (with_stem ++ (S10 ++ S11)) ≡ bytes "loop 2 3\n1 lasso 1 0 from 0 down 1\n2 excluded whole\n")
unfolding computing ends_without_rank halves with_stem S7 S8 S9 S10 S11 Records.S7 Records.S10 loop_bytes rows_values row_values exclusion_bytes exclusion_values
other_lines = (refl, refl, refl)

-- no input, no certificate, a certificate of one byte, an L below 2 that takes all the rest, an L of 65,550 (of which the lower two bytes are S1's) that does
-- too, and a loop that is refused before a certificate
pub edge_lines :
    (sheet_text [] ≡ bytes "loop refused 1 0\n")
    × (sheet_text P ≡ bytes "loop 2 3\n")
    × (sheet_text (P ++ (14 ∷ [])) ≡ bytes "loop 2 3\n1 refused 1 1\n")
    × (sheet_text (P ++ (S1 ++ (1 ∷ 0 ∷ 0 ∷ 0 ∷ S1))) ≡ bytes "loop 2 3\n1 rank 1 -1 from 2 down 1\n2 refused 3 0\n")
    × (sheet_text (P ++ (14 ∷ 0 ∷ 1 ∷ 0 ∷ drop 4 S1 ++ S1)) ≡ bytes "loop 2 3\n1 refused 1 36\n")
    × (sheet_text (S1 ++ S1) ≡ bytes "loop refused 4 4\n")
unfolding computing P S1 Records.P Records.S1
edge_lines = (refl, refl, refl, refl, refl, refl)

-- a short ranking prints what the ranking prints that it stands for, S1 here; no triple; then S1's triples with a row twice, with a row without weight, and
-- without the last byte
pub short_lines :
    (sheet_text (P ++ S1-short) ≡ bytes "loop 2 3\n1 rank 1 -1 from 2 down 1\n")
    × (sheet_text (P ++ (4 ∷ 0 ∷ 0 ∷ 0 ∷ 7 ∷ 0 ∷ 0 ∷ 0 ∷ S1-short)) ≡ bytes "loop 2 3\n1 refused 24 0\n2 rank 1 -1 from 2 down 1\n")
    × (sheet_text (P ++ set S1-short 20 1) ≡ bytes "loop 2 3\n1 refused 15 20\n")
    × (sheet_text (P ++ set S1-short 18 0) ≡ bytes "loop 2 3\n1 refused 16 14\n")
    × (sheet_text (P ++ take 25 S1-short) ≡ bytes "loop 2 3\n1 refused 1 25\n")
unfolding computing P S1-short Records.P
short_lines = (refl, refl, refl, refl, refl)

-- kinds for which no line is laid down
pub kinds_without_line :
    (sheet_text (P ++ (2 ∷ 0 ∷ 0 ∷ 0 ∷ 5 ∷ 0 ∷ 2 ∷ 0 ∷ 0 ∷ 0 ∷ 6 ∷ 0 ∷ 2 ∷ 0 ∷ 0 ∷ 0 ∷ 8 ∷ 0 ∷ [])) ≡ bytes "loop 2 3\n1 refused 4 4\n2 refused 4 4\n3 refused 4 4\n")
    × (sheet_text (2 ∷ 0 ∷ 0 ∷ 0 ∷ 5 ∷ 0 ∷ S1) ≡ bytes "loop refused 4 4\n")
    × (sheet_text (S1-short ++ S1-short) ≡ bytes "loop refused 4 4\n")
unfolding computing P S1 S1-short Records.P Records.S1
kinds_without_line = (refl, refl, refl)

-- ---- a library that judges the first certificate and repeats its line

unfoldable pub repeated : List ℕ → List ℕ → ℕ → List (List ℕ) → List ℕ
repeated loop first count [] = []
repeated loop first count (certificate ∷ certificates) = certificate_line loop count first ++ repeated loop first (suc count) certificates

unfoldable pub repeats : List ℕ → List ℕ
repeats input =
    let loop = first_record input in
    let rest = after_first input in
    line (bytes "loop" ∷ decimal (variables_in loop) ∷ decimal (rows_in loop) ∷ []) ++ repeated loop (first_record rest) 1 (records rest)

pub repeats_differs : repeats sample_input ≡ sheet_text sample_input → ⊥
unfolding computing repeats repeated sample_input P S1 second_of_P Records.P Records.S1 ranking_bytes ranking_values
repeats_differs same = let lengths : ◌≡◌ {A = ℕ} 61 50 = ap length same in omega arith
