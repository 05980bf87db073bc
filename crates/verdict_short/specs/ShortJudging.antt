-- 02, Q-6: "the verdict is that of the kind 2 record, place included unless the record itself is malformed. Judging and bound take
-- kind 7 wherever they take kind 2." A short ranking whose record is sound for the loop's n and m is judged as the kind 2 record
-- that it stands for.
use Rattle.std.specs.Prelude.{ℕ, Bool, cond, List, [], ◌∷◌, eqb, ℤ}
use Rattle.endian.specs.Numbers.{little_at}
use Rattle.record.specs.Readers.{counts_read, sound}
use Rattle.record_paths.specs.PathFields.{bytes_alone}
use Rattle.record_short.specs.ShortRecords.{sound_short, long_bytes}
use Rattle.refusal.specs.Tests.{first}
use Rattle.verdict.specs.Bounding.{bounds, bound_of}
use Rattle.verdict.specs.Judging.{judges, rank_after, judge_of}
use Rattle.verdict.specs.Pairs.{loop_record}
use Rattle.verdict.specs.Stages.{Said, agreed, refusal, Stage, ◌says◌, said, refusal_of}
use Rattle.verdict.specs.declared.Bounded.{Bounded}
use Rattle.verdict.specs.declared.Verdict.{Verdict}

-- the bytes of the two records
pub record ShortPair : Type 0 where
  pub loopbytes : List ℕ
  pub certificate : List ℕ

-- n and m of the loop, and the kind 2 record that the short one stands for with them
unfoldable pub variables_of : ShortPair → ℕ
variables_of p = (counts_read (loop_record p.loopbytes)).n

unfoldable pub rows_for : ShortPair → ℕ
rows_for p = (counts_read (loop_record p.loopbytes)).m

unfoldable pub long_of : ShortPair → List ℕ
long_of p = long_bytes (variables_of p) (rows_for p) p.certificate

-- the loop record, then the short one
unfoldable pub short_records : List (Stage ShortPair)
short_records =
    (1 says λ p. first sound (loop_record p.loopbytes))
    ∷ (2 says λ p. first (sound_short (variables_of p) (rows_for p)) (bytes_alone p.certificate))
    ∷ []

-- ---- of a short ranking

unfoldable pub short_judged : Said → ShortPair → List ℤ → Verdict
short_judged agreed p lent = judges (judge_of p.loopbytes (long_of p) lent)
short_judged (refusal about number place) p lent = refusal_of about number place

unfoldable pub short_ranked : Said → ShortPair → List ℤ → List ℤ
short_ranked agreed p lent = rank_after (judge_of p.loopbytes (long_of p) lent) lent
short_ranked (refusal about number place) p lent = lent

unfoldable pub short_bounded : Said → ShortPair → List ℤ → Bounded
short_bounded agreed p state = bounds (bound_of p.loopbytes (long_of p) state)
short_bounded (refusal about number place) p state = record { verdict = refusal_of about number place; bound = 0 }

-- ---- of every certificate for a loop of kind 1

-- the certificate's kind is 7
unfoldable pub of_short : List ℕ → Bool
of_short certificate = eqb (little_at 2 certificate 4) 7

abbrev pub short_pair : List ℕ → List ℕ → ShortPair
short_pair loopbytes certificate = record { loopbytes = loopbytes; certificate = certificate }

unfoldable pub judged_or_short : List ℕ → List ℕ → List ℤ → Verdict
judged_or_short loopbytes certificate lent =
    let p = short_pair loopbytes certificate in
    cond (of_short certificate) (short_judged (said short_records p) p lent) (judges (judge_of loopbytes certificate lent))

unfoldable pub ranked_or_short : List ℕ → List ℕ → List ℤ → List ℤ
ranked_or_short loopbytes certificate lent =
    let p = short_pair loopbytes certificate in
    cond (of_short certificate) (short_ranked (said short_records p) p lent) (rank_after (judge_of loopbytes certificate lent) lent)

unfoldable pub bounded_or_short : List ℕ → List ℕ → List ℤ → Bounded
bounded_or_short loopbytes certificate state =
    let p = short_pair loopbytes certificate in
    cond (of_short certificate) (short_bounded (said short_records p) p state) (bounds (bound_of loopbytes certificate state))
