-- `accepted-exactly-when` in values: for all n, m, rows and certificate values within the limits, stated part by part, and a rank list with room, judging the
-- bytes that are written for them accepts if and only if the conditions hold of those values. So every certificate in range that meets its conditions is
-- accepted, and no bytes stand between the paper's values and the verdict.
use mathlib.Core.Path.{◌≡◌, refl, sym, ap, ◌∙◌}
use mathlib.Core.Logic.{◌↔◌}
use Prim.Native.Nat.{ℕ, suc, ◌+◌, ◌*◌, ◌≤◌}
use mathlib.Core.Bool.{true, false}
use mathlib.Core.List.{List, [], ◌∷◌, ◌++◌, append_assoc, append-nil}
use native.Mathlib.Nat.{zero-mul}
use native.Mathlib.Omega.{arith}
use lib.IntN.{ℤ, pos}
use lib.ListN.{length, take, drop}
use lib.Seq.{take_at, drop_at, take_all, drop-drop}
use Rattle.whole.specs.Rows.{Row}
use Rattle.whole.specs.Sums.{Each}
use Rattle.record.specs.Contents.{CountsIn, RowIn, RowsIn, row_values, rows_values, RankingIn, ranking_values, ExclusionIn, exclusion_values, LassoIn, lasso_values}
use Rattle.record.specs.Layouts.{ranking, exclusion, lasso, kind_of, is_loop, is_lasso}
use Rattle.record.specs.Readers as R
use Rattle.record.specs.Readers.{sound}
use Rattle.record.proofs.KindLaws.{wanted_no_loop}
use Rattle.record.specs.Wants.{wants_of}
use Rattle.record.specs.Writers as W
use Rattle.record.specs.declared.Writing.{Writing}
use Rattle.record.specs.Writers.{Writer}
use Rattle.record.proofs.WriteAccepts.{Accepts, write_accepts_loop, write_accepts_ranking, write_accepts_exclusion, write_accepts_lasso}
use Rattle.record.proofs.WritableRecords.{Writable}
use Rattle.record.proofs.WrittenBytes.{over, counts_same, kind_same, list_same, passes_sound}
use Rattle.record.proofs.WriteThenRead.{has_written}
use Rattle.refusal.specs.Tests.{done, first}
use Rattle.refusal.proofs.TestLaws.{passes_done}
use Rattle.theory.specs.Exclusions.{ExclusionHolds}
use Rattle.theory.specs.Lassos.{Lasso, LassoHolds}
use Rattle.theory.specs.Loops as Loops
use Rattle.theory.specs.Rankings.{RankingHolds}
use Rattle.verdict.specs.Contents.{rows_of_numbers, ranking_from, exclusion_from, lasso_from, loop_in, ranking_in, exclusion_in, lasso_in, parts}
use Rattle.verdict.specs.Judging.{Judging, judges, judge_of, certificates_judged}
use Rattle.verdict.specs.Pairs.{loop_record, certificate_record, pair_kind, variables_of}
use Rattle.verdict.proofs.Accepted.{BothSound, accepted_exactly_when_ranking, accepted_exactly_when_exclusion, accepted_exactly_when_lasso}

-- ---- values put together and taken apart

-- a list of n numbers stands first
first_part : (n : ℕ) (xs rest : List ℤ) → length xs ≡ n → (take n (xs ++ rest) ≡ xs) × (drop n (xs ++ rest) ≡ rest)
first_part n xs rest h = (take_at xs rest n h, drop_at xs rest n h)

last_part : (n : ℕ) (xs : List ℤ) → length xs ≡ n → take n xs ≡ xs
last_part n xs h = take_all n xs (omega arith)

row_back : (n : ℕ) (r : Row) (rest : List ℤ) → RowIn n r
    → (take n (row_values r ++ rest) ≡ r.now) × (take n (drop n (row_values r ++ rest)) ≡ r.next) × (drop (n + n) (row_values r ++ rest) ≡ r.right ∷ rest)
unfolding row_values
row_back n r rest h =
    let apart : row_values r ++ rest ≡ r.now ++ (r.next ++ (r.right ∷ rest)) = simp append_assoc in
    let now = first_part n r.now (r.next ++ (r.right ∷ rest)) h.now_in.counted in
    let next = first_part n r.next (r.right ∷ rest) h.next_in.counted in
    rw (apart, ← drop-drop n n) (now.0, ap (take n) now.1 ∙ next.0, ap (drop n) now.1 ∙ next.1)

rows_back : (n : ℕ) (rs : List Row) (rest : List ℤ) → Each (RowIn n) rs
    → (rows_of_numbers n (length rs) (rows_values rs ++ rest) ≡ rs) × (drop (length rs * (n + n + 1)) (rows_values rs ++ rest) ≡ rest)
unfolding rows_of_numbers rows_values Each
rows_back n [] rest h = (refl, rw zero-mul)
rows_back n (r ∷ rs) rest h =
    let more = rows_values rs ++ rest in
    let here = row_back n r more h.0 in
    let there = rows_back n rs rest h.1 in
    let after : drop (n + n + 1) (row_values r ++ more) ≡ more = sym (drop-drop 1 (n + n) (row_values r ++ more)) ∙ ap (drop 1) here.2 in
    let length_step : n + n + 1 + length rs * (n + n + 1) ≡ suc (length rs) * (n + n + 1) = omega arith in
    rw (append_assoc, ← length_step, ← drop-drop (length rs * (n + n + 1)) (n + n + 1) (row_values r ++ more), here.0, here.1, here.2, after) (ap (λ (l : List Row). r ∷ l) there.0, there.1)

-- the four kinds
pub loop_back : (n m : ℕ) (rs : List Row) → RowsIn n m rs → rows_of_numbers n m (rows_values rs) ≡ rs
loop_back n m rs h = rw (← h.counted, ← append-nil (rows_values rs)) (rows_back n rs [] h.each).0

pub ranking_back : (m : ℕ) (Y Z : List ℤ) → RankingIn m Y Z → ranking_from m (ranking_values Y Z) ≡ record { Y = Y; Z = Z }
unfolding ranking_from ranking_values
ranking_back m Y Z h =
    let first_of = first_part m Y Z h.Y-in.counted in
    rw (first_of.0, first_of.1, last_part m Z h.Z-in.counted)

exclusion_back : (n q : ℕ) (U V' W' : List ℤ) → ExclusionIn n (pos q) U V' W' → exclusion_from n (exclusion_values (pos q) U V' W') ≡ record { q = q; U = U; «V» = V'; W = W' }
unfolding exclusion_from exclusion_values
exclusion_back n q U V' W' h =
    let U-part = first_part n U (V' ++ W') h.U-in.counted in
    let V-part = first_part n V' W' h.V-in.counted in
    rw (U-part.0, U-part.1, V-part.0, V-part.1, last_part n W' h.W-in.counted)

lasso_back : (n m : ℕ) (c : Lasso) → LassoIn n m (parts c) → lasso_from n m (length c.stem) (lasso_values (parts c)) ≡ c
unfolding lasso_from lasso_values parts ranking_from
lasso_back n m c h =
    let from_h0 = pos c.h0 ∷ c.ranking.Y ++ c.ranking.Z in
    let from_k2 = pos c.k2 ∷ c.H ++ from_h0 in
    let from_s0 = c.s0 ∷ pos c.k ∷ c.T ++ from_k2 in
    let stem = rows_back n c.stem (c.s ++ from_s0) h.stem_in in
    let s_part = first_part n c.s from_s0 h.s_in.counted in
    let T-part = first_part (length c.stem) c.T from_k2 h.T-in.counted in
    let H-part = first_part m c.H from_h0 h.H-in.counted in
    let Y-part = first_part (suc m) c.ranking.Y c.ranking.Z h.Y-in.counted in
    rw (stem.0, stem.1, s_part.0, s_part.1, T-part.0, T-part.1, H-part.0, H-part.1, Y-part.0, Y-part.1, last_part (suc m) c.ranking.Z h.Z-in.counted)

-- ---- the bytes that are written

-- what writing leaves in a room, as far as it tells
unfoldable pub bytes_in : Writer → List ℕ → List ℕ
bytes_in w room = take (W.writes w).written (W.room_after w room)

abbrev pub loop_writer : ℕ → ℕ → List Row → List ℕ → Writer
loop_writer n m rs room = W.writer 1 n m (rows_values rs) room

-- the loop record that a judge gets is the one that was written
loop_over : (n m : ℕ) (rs : List Row) (room : List ℕ) → loop_record (W.record_bytes (loop_writer n m rs room)) ≡ over (loop_writer n m rs room) is_loop 0
unfolding loop_record W.writer W.kind kind_of is_loop
loop_over n m rs room = refl

certificate_over : (n m : ℕ) (rs : List Row) (room : List ℕ) (w : Writer) → Writable (loop_writer n m rs room) → is_loop (W.kind w) ≡ false → w.n ≡ n → w.m ≡ m
    → certificate_record certificates_judged (over (loop_writer n m rs room) is_loop 0) (W.record_bytes w) ≡ over w certificates_judged 0
unfolding certificate_record W.counts_given W.writer
certificate_over n m rs room w s e same_n same_m = rw (counts_same (loop_writer n m rs room) s is_loop 0, e, same_n, same_m)

-- a judging of what two writers wrote
pub record JudgedPair (j : Judging) (n m : ℕ) (rs : List Row) (w : Writer) : Type 0 where
  pub both_sound : BothSound j.records
  pub kind_is : pair_kind j.records ≡ W.kind w
  pub variables_are : variables_of j.records ≡ n
  pub loop_is : loop_in j.records.loop_is ≡ Loops.over n rs
  pub list_is : R.list j.records.certificate_is ≡ w.list
  pub counts_are : R.counts_read j.records.certificate_is ≡ W.counts_given w

-- the loop of a written loop record
loop_written : (n m : ℕ) (rs : List Row) (room : List ℕ) → RowsIn n m rs → Writable (loop_writer n m rs room)
    → ((R.counts_read (over (loop_writer n m rs room) is_loop 0)).n ≡ n) × (loop_in (over (loop_writer n m rs room) is_loop 0) ≡ Loops.over n rs)
    × ((R.counts_read (over (loop_writer n m rs room) is_loop 0)).m ≡ m)
unfolding W.counts_given W.writer loop_in
loop_written n m rs room rows_in s =
    rw (counts_same (loop_writer n m rs room) s is_loop 0, list_same (loop_writer n m rs room) s is_loop 0)
    (refl, ap (Loops.over n) (loop_back n m rs rows_in), refl)

loop_wanted : (n m : ℕ) (rs : List Row) (room : List ℕ) → is_loop (W.kind (loop_writer n m rs room)) ≡ true
unfolding W.kind W.writer kind_of is_loop
loop_wanted n m rs room = refl

judged_pair : (n m : ℕ) (rs : List Row) (room room' : List ℕ) (w : Writer) (lent : List ℤ) → RowsIn n m rs → (W.writes (loop_writer n m rs room)).number ≡ 0
    → (W.writes w).number ≡ 0 → certificates_judged (W.kind w) ≡ true → w.n ≡ n → w.m ≡ m
    → JudgedPair (judge_of (bytes_in (loop_writer n m rs room) room) (bytes_in w room') lent) n m rs w
unfolding bytes_in judge_of pair_kind variables_of
judged_pair n m rs room room' w lent rows_in told told' wanted same_n same_m =
    let l = loop_writer n m rs room in
    let h = has_written l room told in
    let h' = has_written w room' told' in
    let held = loop_written n m rs room rows_in h.writable in
    rw (h.bytes_told, h'.bytes_told, loop_over n m rs room, certificate_over n m rs room w h.writable (wanted_no_loop _ (W.kind w) wanted) same_n same_m)
    (record {
      both_sound =
          record {
            loop_sound = passes_done sound (over l is_loop 0) (passes_sound l h.writable is_loop 0 (loop_wanted n m rs room));
            certificate_sound = passes_done sound (over w certificates_judged 0) (passes_sound w h'.writable certificates_judged 0 wanted);
          };
      kind_is = kind_same w h'.writable certificates_judged 0;
      variables_are = held.0;
      loop_is = held.1;
      list_is = list_same w h'.writable certificates_judged 0;
      counts_are = counts_same w h'.writable certificates_judged 0;
    })

told_zero : (w : Writer) (bytes : ℕ) → Accepts w bytes → (W.writes w).number ≡ 0
told_zero w bytes h = ap (λ (a : Writing). a.number) h

-- ---- judged in values

-- a loop within the limits, and a room for it
pub record LoopGiven (n m : ℕ) (rs : List Row) (room : List ℕ) : Type 0 where
  pub counts_in : CountsIn n m
  pub rows_in : RowsIn n m rs
  pub fits : 4 + (6 + m * (4 * n + 4)) ≤ length room

loop_told : (n m : ℕ) (rs : List Row) (room : List ℕ) → LoopGiven n m rs room → (W.writes (loop_writer n m rs room)).number ≡ 0
loop_told n m rs room g = told_zero _ _ (write_accepts_loop n m rs room g.counts_in g.rows_in g.fits)

-- the loop record alone, as every judge finds it: sound, with its counts and its rows
pub record LoopHeld (r : R.Reader) (n m : ℕ) (rs : List Row) : Type 0 where
  pub loop_sound : first sound r ≡ done
  pub n_read : (R.counts_read r).n ≡ n
  pub m_read : (R.counts_read r).m ≡ m
  pub loop_is : loop_in r ≡ Loops.over n rs

pub loop_held : (n m : ℕ) (rs : List Row) (room : List ℕ) → LoopGiven n m rs room
    → LoopHeld (loop_record (bytes_in (loop_writer n m rs room) room)) n m rs
unfolding bytes_in
loop_held n m rs room g =
    let l = loop_writer n m rs room in
    let h = has_written l room (loop_told n m rs room g) in
    let held = loop_written n m rs room g.rows_in h.writable in
    rw (h.bytes_told, loop_over n m rs room)
    (record {
      loop_sound = passes_done sound (over l is_loop 0) (passes_sound l h.writable is_loop 0 (loop_wanted n m rs room));
      n_read = held.0;
      m_read = held.2;
      loop_is = held.1;
    })

-- a judging of the bytes that are written for a loop and for a certificate
abbrev pub written : ℕ → ℕ → List Row → List ℕ → Writer → List ℕ → List ℤ → Judging
written n m rs room w room' lent = judge_of (bytes_in (loop_writer n m rs room) room) (bytes_in w room') lent

-- a ranking, an exclusion and a lasso, as they are written
abbrev pub ranking_writer : ℕ → ℕ → List ℤ → List ℤ → List ℕ → Writer
ranking_writer n m Y Z room = W.writer 2 n m (ranking_values Y Z) room

abbrev pub exclusion_writer : ℕ → ℕ → ℕ → List ℤ → List ℤ → List ℤ → List ℕ → Writer
exclusion_writer n m q U V' W' room = W.writer 3 n m (exclusion_values (pos q) U V' W') room

abbrev pub lasso_writer : ℕ → ℕ → Lasso → List ℕ → Writer
lasso_writer n m c room = W.writer 4 n m (lasso_values (parts c)) room

-- and as judging finds them
module _ (n m : ℕ) (rs : List Row) (room room' : List ℕ) (lent : List ℤ) (g : LoopGiven n m rs room) where
  pub ranking_written : (Y Z : List ℤ) → RankingIn m Y Z → 4 + (2 + 4 * m) ≤ length room'
      → let j = written n m rs room (ranking_writer n m Y Z room') room' lent in
      JudgedPair j n m rs (ranking_writer n m Y Z room') × (pair_kind j.records ≡ ranking) × (ranking_in j.records.certificate_is ≡ record { Y = Y; Z = Z })
  unfolding W.writer W.kind kind_of wants_of W.counts_given judge_of ranking_in
  ranking_written Y Z h fits =
      let told = told_zero _ _ (write_accepts_ranking n m Y Z room' g.counts_in h fits) in
      let p = judged_pair n m rs room room' (ranking_writer n m Y Z room') lent g.rows_in (loop_told n m rs room g) told refl refl refl in
      (p, p.kind_is, rw (p.counts_are, p.list_is) (ranking_back m Y Z h))

  pub exclusion_written : (q : ℕ) (U V' W' : List ℤ) → ExclusionIn n (pos q) U V' W' → 4 + (4 + 12 * n) ≤ length room'
      → let j = written n m rs room (exclusion_writer n m q U V' W' room') room' lent in
      JudgedPair j n m rs (exclusion_writer n m q U V' W' room') × (pair_kind j.records ≡ exclusion)
      × (exclusion_in j.records.certificate_is ≡ record { q = q; U = U; «V» = V'; W = W' })
  unfolding W.writer W.kind kind_of wants_of W.counts_given judge_of exclusion_in
  exclusion_written q U V' W' h fits =
      let told = told_zero _ _ (write_accepts_exclusion n m (pos q) U V' W' room' g.counts_in h fits) in
      let p = judged_pair n m rs room room' (exclusion_writer n m q U V' W' room') lent g.rows_in (loop_told n m rs room g) told refl refl refl in
      (p, p.kind_is, rw (p.counts_are, p.list_is) (exclusion_back n q U V' W' h))

  pub lasso_written : (c : Lasso) → LassoIn n m (parts c) → 4 + (18 + 2 * n + length c.stem * (4 * n + 6) + 6 * m) ≤ length room'
      → let j = written n m rs room (lasso_writer n m c room') room' lent in
      JudgedPair j n m rs (lasso_writer n m c room') × (pair_kind j.records ≡ lasso) × (lasso_in j.records.certificate_is ≡ c)
  unfolding W.writer W.kind kind_of wants_of W.counts_given W.ms_given is_lasso judge_of lasso_in lasso_values parts
  lasso_written c h fits =
      let told = told_zero _ _ (write_accepts_lasso n m (parts c) room' g.counts_in h fits) in
      let p = judged_pair n m rs room room' (lasso_writer n m c room') lent g.rows_in (loop_told n m rs room g) told refl refl refl in
      (p, p.kind_is, rw (p.counts_are, p.list_is) (lasso_back n m c h))

pub ranking_in_values : (n m : ℕ) (rs : List Row) (Y Z : List ℤ) (room room' : List ℕ) (lent : List ℤ) → LoopGiven n m rs room → RankingIn m Y Z
    → 4 + (2 + 4 * m) ≤ length room' → n ≤ length lent
    → ((judges (judge_of (bytes_in (loop_writer n m rs room) room) (bytes_in (W.writer 2 n m (ranking_values Y Z) room') room') lent)).number ≡ 0)
    ↔ RankingHolds (Loops.over n rs) (record { Y = Y; Z = Z })
unfolding judge_of
ranking_in_values n m rs Y Z room room' lent g h fits there =
    let (p, kind_is, values_are) = ranking_written n m rs room room' lent g Y Z h fits in
    let a = accepted_exactly_when_ranking _ kind_is in (
      λ x. rw (p.loop_is, values_are) at (a.0 x).holds,
      λ x. a.1 (record { both_sound = p.both_sound; room = rw p.variables_are there; holds = rw (p.loop_is, values_are) x }),
    )

pub exclusion_in_values : (n m : ℕ) (rs : List Row) (q : ℕ) (U V' W' : List ℤ) (room room' : List ℕ) (lent : List ℤ) → LoopGiven n m rs room → ExclusionIn n (pos q) U V' W'
    → 4 + (4 + 12 * n) ≤ length room'
    → ((judges (judge_of (bytes_in (loop_writer n m rs room) room) (bytes_in (W.writer 3 n m (exclusion_values (pos q) U V' W') room') room') lent)).number ≡ 0)
    ↔ ExclusionHolds (Loops.over n rs) (record { q = q; U = U; «V» = V'; W = W' })
exclusion_in_values n m rs q U V' W' room room' lent g h fits =
    let (p, kind_is, values_are) = exclusion_written n m rs room room' lent g q U V' W' h fits in
    let a = accepted_exactly_when_exclusion _ kind_is in (
      λ x. rw (p.loop_is, values_are) at (a.0 x).holds,
      λ x. a.1 (record { both_sound = p.both_sound; holds = rw (p.loop_is, values_are) x }),
    )

pub lasso_in_values : (n m : ℕ) (rs : List Row) (c : Lasso) (room room' : List ℕ) (lent : List ℤ) → LoopGiven n m rs room → LassoIn n m (parts c)
    → 4 + (18 + 2 * n + length c.stem * (4 * n + 6) + 6 * m) ≤ length room' → n ≤ length lent
    → ((judges (judge_of (bytes_in (loop_writer n m rs room) room) (bytes_in (W.writer 4 n m (lasso_values (parts c)) room') room') lent)).number ≡ 0)
    ↔ LassoHolds (Loops.over n rs) c
unfolding judge_of
lasso_in_values n m rs c room room' lent g h fits there =
    let (p, kind_is, values_are) = lasso_written n m rs room room' lent g c h fits in
    let a = accepted_exactly_when_lasso _ kind_is in (
      λ x. rw (p.loop_is, values_are) at (a.0 x).holds,
      λ x. a.1 (record { both_sound = p.both_sound; room = rw p.variables_are there; holds = rw (p.loop_is, values_are) x }),
    )
