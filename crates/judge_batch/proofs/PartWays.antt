-- What judging one record of a batch leaves: its stretch of the rank numbers in the place of the one that was lent.
use mathlib.Core.Path.{◌≡◌, sym, ap, ◌∙◌}
use Prim.Native.Nat.{ℕ, ◌+◌, ◌*◌, ◌-◌, ◌≤◌}
use mathlib.Core.Bool.{true}
use mathlib.Core.List.{List, ◌++◌}
use native.Mathlib.Omega.{arith}
use lib.IntN.{ℤ}
use lib.ListN.{take, drop, take-append-drop}
use lib.Seq.{drop-drop}
use borrow.Rule.Slice.PartMut.{put_mid}
use Rattle.endian.specs.Numbers.{little_at}
use Rattle.verdict.specs.declared.Verdict.{Verdict}
use Rattle.verdict_paths.specs.JudgingByLoop.{of_paths}
use Rattle.verdict_paths.specs.PathJudging.{path_judges}
use Rattle.verdict_short.specs.Answers.{answered, rank_answered}
use Rattle.verdict_batch.specs.Batches.{variables, stretch, with_stretch}
use Rattle.judge_by_kind.proofs.AnswerWays as Ways

-- where n was read
n_is : (loopbytes : List ℕ) {n : ℕ} → n ≡ little_at 2 loopbytes 6 → n ≡ variables loopbytes
unfolding variables
n_is loopbytes read = read

-- there stretch i has room
pub room_so : (loopbytes : List ℕ) {n : ℕ} → n ≡ little_at 2 loopbytes 6 → (i len : ℕ) → variables loopbytes * i + variables loopbytes ≤ len → n * i + n ≤ len
room_so loopbytes read i len room = rw (n_is loopbytes read) room

-- a stretch put back as it was
stretch_back : (n i : ℕ) (ranks : List ℤ) → ranks ≡ with_stretch n i (stretch n i ranks) ranks
unfolding stretch with_stretch
stretch_back n i ranks =
    sym
    (ap (λ rest. take (n * i) ranks ++ (take n (drop (n * i) ranks) ++ rest)) (sym (drop-drop n (n * i) ranks))
    ∙ ap (λ rest. take (n * i) ranks ++ rest) (take-append-drop n (drop (n * i) ranks))
    ∙ take-append-drop (n * i) ranks)

module _ (loopbytes certificate : List ℕ) (ranks : List ℤ) (i : ℕ) where
  abbrev lent : List ℤ
  lent = stretch (variables loopbytes) i ranks

  abbrev Judged : Verdict → List ℤ → Type 0
  Judged verdict after =
      (verdict ≡ answered loopbytes certificate lent)
      × (after ≡ with_stretch (variables loopbytes) i (rank_answered loopbytes certificate lent) ranks)

  -- a loop of several paths has no rank
  pub paths_part : (v : Verdict) → of_paths loopbytes ≡ true → v ≡ path_judges (record { loopbytes = loopbytes; certificate = certificate }) → Judged v ranks
  paths_part v paths is =
      let answers = Ways.as_paths loopbytes certificate lent paths in
      (is ∙ answers.0, stretch_back (variables loopbytes) i ranks ∙ ap (λ xs. with_stretch (variables loopbytes) i xs ranks) answers.1)

  -- the part of the numbers from n i to n i + n is stretch i
  part_is : (n : ℕ) → take (n * i + n - n * i) (drop (n * i) ranks) ≡ stretch n i ranks
  unfolding stretch
  part_is n = let size : n * i + n - n * i ≡ n = omega arith in rw size

  put_is : (n : ℕ) (other : List ℤ) → put_mid (n * i) (n * i + n - n * i) ranks other ≡ with_stretch n i other ranks
  unfolding with_stretch
  put_is n other =
      let size : n * i + n - n * i ≡ n = omega arith in
      ap (λ k. take (n * i) ranks ++ (other ++ drop k (drop (n * i) ranks))) size
      ∙ ap (λ rest. take (n * i) ranks ++ (other ++ rest)) (drop-drop n (n * i) ranks)

  pub rows_part : (n : ℕ) → n ≡ little_at 2 loopbytes 6 → (v : Verdict) (after : List ℤ)
      → (v ≡ answered loopbytes certificate (take (n * i + n - n * i) (drop (n * i) ranks)))
      × (after ≡ rank_answered loopbytes certificate (take (n * i + n - n * i) (drop (n * i) ranks)))
      → Judged v (put_mid (n * i) (n * i + n - n * i) ranks after)
  rows_part n read v after is =
      let same : stretch n i ranks ≡ lent = ap (λ k. stretch k i ranks) (n_is loopbytes read) in
      let Lent-is = part_is n ∙ same in (
        is.0 ∙ ap (answered loopbytes certificate) Lent-is,
        put_is n after
            ∙ ap (λ xs. with_stretch n i xs ranks) (is.1 ∙ ap (rank_answered loopbytes certificate) Lent-is)
            ∙ ap (λ k. with_stretch k i (rank_answered loopbytes certificate lent) ranks) (n_is loopbytes read),
      )
