-- A batch's answers on bytes. P with four certificates: S1, the sheet's second, S2, and S7's exclusion, which is for another loop's n: four verdicts and four stretches. No
-- records, a last record that is cut, 32 and 33 of them; each refusal with its place and in its order; a loop of several paths; a lasso between two rankings, and between a
-- refusal and an exclusion. A line is a call with what it answers and what the row and the rank numbers hold afterwards; a verdict place holds `empty` and a rank number 77
-- before the call.
use mathlib.Core.Path.{◌≡◌, refl}
use Prim.Native.Nat.{ℕ, zero, suc}
use mathlib.Core.List.{List, [], ◌∷◌, ◌++◌}
use lib.IntN.{ℤ, pos, negsuc}
use lib.ListN.{take, replicate}
use Rattle.record.specs.Contents.{rows_values, row_values, ranking_values, exclusion_values, lasso_values}
use Rattle.record.specs.Samples as Records
use Rattle.record_short.proofs.ShortEdges.{S1-short}
use Rattle.verdict.specs.Samples.{−, row, loop_bytes, ranking_bytes, exclusion_bytes, lasso_bytes, P, with_stem, S1, S2, S7, S10, S11, second_of_P}
use Rattle.verdict.specs.Stages.{shows, refusal_of}
use Rattle.verdict.specs.declared.Grade.TheVariants.{Whole}
use Rattle.verdict.specs.declared.Outcome.TheVariants.{Nothing, Ranking, Exclusion, Lasso, Lexicographic, Settling}
use Rattle.verdict.specs.declared.Verdict.{Verdict}
use Rattle.verdict_paths.specs.PathSampleBytes.{two_counters_bytes, two_counters_argument_bytes}
use Rattle.verdict_settling.specs.SettlingSampleBytes.{curve_bytes, curve_settling_bytes, curve_exclusion_bytes}
use Rattle.whole.specs.Sums.{Each}
use Rattle.verdict_batch.specs.BatchComputing.{computing}
use Rattle.verdict_batch.specs.Batches.{batch_of, batch_answers, verdicts_after, ranks_after}
use Rattle.verdict_batch.specs.declared.Batched.{Batched}

-- what a verdict place holds before the call; no call answers it
abbrev empty : Verdict
empty = record { number = 99; place = 98; about = 97; outcome = Nothing }

-- A lasso of P, over (p, q): after the stem q >= 1, and P keeps q - 1 >= 0. With the added row -q <= -1 it has r (1,0), from 3, down 1, which no ranking of P's own
-- rows has: of them alone p has no least value.
unfoldable pub lasso_of_P : List ℕ
lasso_of_P =
    lasso_bytes 2 3
    (record {
      stem = row (pos 0 ∷ pos 0 ∷ []) (pos 0 ∷ − 1 ∷ []) (− 1) ∷ [];
      s = pos 0 ∷ pos 1 ∷ [];
      s0 = − 1;
      k = pos 1;
      T = pos 1 ∷ [];
      k2 = pos 1;
      H = pos 0 ∷ pos 0 ∷ pos 1 ∷ [];
      h0 = pos 1;
      Y = pos 1 ∷ pos 0 ∷ pos 0 ∷ pos 1 ∷ [];
      Z = pos 0 ∷ pos 1 ∷ pos 0 ∷ pos 0 ∷ [];
    })

-- loop, bytes, verdict places, rank numbers; the answer, the row and the numbers afterwards
pub record Line : Type 0 where
  pub loopbytes : List ℕ
  pub bytes : List ℕ
  pub places : ℕ
  pub numbers : ℕ
  pub answer : Batched
  pub row : List Verdict
  pub ranks : List ℤ

abbrev pub Holds : Line → Type 0
Holds l =
    let row = replicate l.places empty in
    let ranks = replicate l.numbers (pos 77) in
    (batch_answers (batch_of l.loopbytes l.bytes l.places l.numbers) ≡ l.answer)
    × (verdicts_after l.loopbytes l.bytes row ranks ≡ l.row)
    × (ranks_after l.loopbytes l.bytes l.places ranks ≡ l.ranks)

-- so many records judged; a refusal
abbrev judged : ℕ → Batched
judged count = record { number = 0; place = 0; about = 0; count = count }

abbrev refuses : ℕ → ℕ → ℕ → Batched
refuses about number place = record { number = number; place = place; about = about; count = 0 }

-- a call that changes nothing
abbrev nothing_changed : List ℕ → List ℕ → ℕ → ℕ → Batched → Line
nothing_changed loopbytes bytes places numbers answer =
    record {
      loopbytes = loopbytes;
      bytes = bytes;
      places = places;
      numbers = numbers;
      answer = answer;
      row = replicate places empty;
      ranks = replicate numbers (pos 77);
    }

-- the same list so many times, end to end
abbrev pub times : {X : Type 0} → ℕ → List X → List X
times zero xs = []
times (suc k) xs = xs ++ times k xs

unfoldable pub batches : List Line
batches =
    -- one place and one number more than are needed: they stay
    record {
      loopbytes = P;
      bytes = S1 ++ (second_of_P ++ (S2 ++ S7));
      places = 5;
      numbers = 9;
      answer = judged 4;
      row = shows (Ranking (pos 2) (pos 1)) ∷ refusal_of 2 22 1 ∷ shows (Ranking (pos 4) (pos 2)) ∷ refusal_of 2 3 0 ∷ empty ∷ [];
      ranks = pos 1 ∷ negsuc 0 ∷ pos 77 ∷ pos 77 ∷ pos 2 ∷ negsuc 1 ∷ pos 77 ∷ pos 77 ∷ pos 77 ∷ [];
    }
    -- no bytes are no records
    ∷ nothing_changed P [] 0 0 (judged 0)
    ∷ nothing_changed P [] 2 3 (judged 0)
    -- a last record that is cut, and a rest too short for an L; L below 2 takes all that follows
    ∷ record {
      loopbytes = P;
      bytes = S1 ++ take 9 S2;
      places = 2;
      numbers = 4;
      answer = judged 2;
      row = shows (Ranking (pos 2) (pos 1)) ∷ refusal_of 2 1 9 ∷ [];
      ranks = pos 1 ∷ negsuc 0 ∷ pos 77 ∷ pos 77 ∷ [];
    }
    ∷ record {
      loopbytes = P;
      bytes = S1 ++ (10 ∷ []);
      places = 2;
      numbers = 4;
      answer = judged 2;
      row = shows (Ranking (pos 2) (pos 1)) ∷ refusal_of 2 1 1 ∷ [];
      ranks = pos 1 ∷ negsuc 0 ∷ pos 77 ∷ pos 77 ∷ [];
    }
    ∷ record {
      loopbytes = P;
      bytes = 1 ∷ 0 ∷ 0 ∷ 0 ∷ S1;
      places = 1;
      numbers = 2;
      answer = judged 1;
      row = refusal_of 2 3 0 ∷ [];
      ranks = pos 77 ∷ pos 77 ∷ [];
    }
    -- 32 records are judged
    ∷ record {
      loopbytes = P;
      bytes = times 32 S1;
      places = 32;
      numbers = 64;
      answer = judged 32;
      row = times 32 (shows (Ranking (pos 2) (pos 1)) ∷ []);
      ranks = times 32 (pos 1 ∷ negsuc 0 ∷ []);
    }
    -- a short ranking; a settling and an exclusion of one loop; a loop of several paths, which asks for n numbers a record and writes none
    ∷ record {
      loopbytes = P;
      bytes = S1-short ++ (second_of_P ++ S1-short);
      places = 3;
      numbers = 6;
      answer = judged 3;
      row = shows (Ranking (pos 2) (pos 1)) ∷ refusal_of 2 22 1 ∷ shows (Ranking (pos 2) (pos 1)) ∷ [];
      ranks = pos 1 ∷ negsuc 0 ∷ pos 77 ∷ pos 77 ∷ pos 1 ∷ negsuc 0 ∷ [];
    }
    ∷ record {
      loopbytes = curve_bytes;
      bytes = curve_settling_bytes ++ curve_exclusion_bytes;
      places = 2;
      numbers = 4;
      answer = judged 2;
      row = shows (Settling (pos 0) (pos 1)) ∷ shows (Exclusion Whole) ∷ [];
      ranks = pos 1 ∷ pos 0 ∷ pos 77 ∷ pos 77 ∷ [];
    }
    ∷ record {
      loopbytes = two_counters_bytes;
      bytes = two_counters_argument_bytes ++ S1;
      places = 2;
      numbers = 4;
      answer = judged 2;
      row = shows Lexicographic ∷ refusal_of 2 4 4 ∷ [];
      ranks = times 4 (pos 77 ∷ []);
    }
    ∷ nothing_changed two_counters_bytes (two_counters_argument_bytes ++ S1) 2 3 (refuses 0 7 4)
    -- a lasso between two rankings of one loop, each with a rank of its own
    ∷ record {
      loopbytes = P;
      bytes = S1 ++ (lasso_of_P ++ S2);
      places = 3;
      numbers = 6;
      answer = judged 3;
      row = shows (Ranking (pos 2) (pos 1)) ∷ shows (Lasso (pos 3) (pos 1)) ∷ shows (Ranking (pos 4) (pos 2)) ∷ [];
      ranks = pos 1 ∷ negsuc 0 ∷ pos 1 ∷ pos 0 ∷ pos 2 ∷ negsuc 1 ∷ [];
    }
    -- S10 after its own multipliers without the added row, which are no ranking of its loop, and before S11
    ∷ record {
      loopbytes = with_stem;
      bytes = second_of_P ++ (S10 ++ S11);
      places = 3;
      numbers = 6;
      answer = judged 3;
      row = refusal_of 2 22 1 ∷ shows (Lasso (pos 0) (pos 1)) ∷ shows (Exclusion Whole) ∷ [];
      ranks = pos 77 ∷ pos 77 ∷ pos 1 ∷ pos 0 ∷ pos 77 ∷ pos 77 ∷ [];
    }
    -- 13 tells the count of all records, before any room is asked for
    ∷ nothing_changed P (times 33 S1) 33 66 (refuses 0 13 33)
    ∷ nothing_changed P (times 40 (2 ∷ 0 ∷ 0 ∷ 0 ∷ 2 ∷ 0 ∷ [])) 0 0 (refuses 0 13 40)
    -- 7 tells the places needed, then the rank numbers needed
    ∷ nothing_changed P (S1 ++ S2) 1 0 (refuses 0 7 2)
    ∷ nothing_changed P (S1 ++ S2) 2 3 (refuses 0 7 4)
    ∷ nothing_changed P (S7 ++ S7) 2 3 (refuses 0 7 4)
    -- the loop's refusals come first, of either kind of loop
    ∷ nothing_changed (take 20 P) (times 33 S1) 0 0 (refuses 1 1 20)
    ∷ nothing_changed S1 S1 1 2 (refuses 1 4 4)
    ∷ nothing_changed (take 9 two_counters_bytes) S1 0 0 (refuses 1 1 9)
    ∷ []

pub batch_table : Each Holds batches
unfolding
    computing batches Each P with_stem S1 S2 S7 S10 S11 second_of_P lasso_of_P Records.P Records.S1 Records.S7 Records.S10 loop_bytes
    ranking_bytes exclusion_bytes lasso_bytes rows_values row_values ranking_values exclusion_values lasso_values S1-short curve_bytes
    curve_settling_bytes curve_exclusion_bytes two_counters_bytes two_counters_argument_bytes
batch_table =
    ((refl, refl, refl), ((refl, refl, refl), ((refl, refl, refl), ((refl, refl, refl), ((refl, refl, refl), ((refl, refl, refl), ((refl, refl, refl), ((refl, refl, refl), ((refl, refl, refl), ((refl, refl, refl), ((refl, refl, refl), ((refl, refl, refl), ((refl, refl, refl), ((refl, refl, refl), ((refl, refl, refl), ((refl, refl, refl), ((refl, refl, refl), ((refl, refl, refl), ((refl, refl, refl), ((refl, refl, refl), ((refl, refl, refl), tt)))))))))))))))))))))
