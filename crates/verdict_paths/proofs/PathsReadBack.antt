-- The bytes of a loop of several paths that is within the limits, and of an argument for it, are sound records, and they hold that loop and that
-- argument: reading them gives the values back.
use mathlib.Core.Path.{◌≡◌, refl, ◌∙◌}
use Prim.Native.Nat.{ℕ, ◌+◌, ◌*◌, ◌≤◌}
use mathlib.Core.List.{List, [], ◌∷◌}
use native.Mathlib.Nat.{mul-le-mul}
use native.Mathlib.Omega.{arith}
use lib.IntN.{pos}
use lib.ListN.{length, replicate, length-append}
use borrow.Author.Tests.{le-leb, eq-eqb}
use Rattle.endian.specs.Numbers.{little_at, digits}
use Rattle.endian.proofs.Laws.{length_digits}
use Rattle.refusal.specs.Places.{Throughout}
use Rattle.refusal.specs.Tests.{done, first}
use Rattle.refusal.proofs.TestLaws.{Passes, passes_done}
use Rattle.record.specs.Contents.{In, rows_values}
use Rattle.record.specs.Layouts.{variable_count, row_count, rows_of}
use Rattle.record.specs.Ranges.{◌to◌, variables, rows}
use Rattle.record.specs.Readers.{stated_length, kind_number}
use Rattle.record.proofs.FieldLaws.{length_bytes_of}
use Rattle.record.proofs.FittingValues.{Fit, in_within}
use Rattle.record.proofs.Lengths.{widths_rows}
use Rattle.record.proofs.WriteAccepts.{fit_rows}
use Rattle.record_paths.specs.PathFields.{path_counts, path_count, sum_of, bytes_alone, is_kind, holds_counts, is_long, fields_fit}
use Rattle.record_paths.specs.PathLoops.{variables_in, paths_in, rows_in, rows_before, all_rows, rows_place, paths_length, sound_paths}
use Rattle.record_paths.proofs.PathSums.{sum_most}
use Rattle.record_paths.proofs.RunFields.{within_both}
use Rattle.theory_paths.specs.Paths.{Branches, rows_for}
use Rattle.verdict.proofs.InValues.{loop_back}
use Rattle.whole.proofs.EachLaws.{each_at}
use Rattle.verdict_paths.specs.PathContents.{rows_at, path_in, branches_in}
use Rattle.verdict_paths.specs.PathValues.{PathIn, BranchesIn, joined, framed, path_bytes, branches_bytes}
use Rattle.verdict_paths.proofs.FieldsAtPlaces.{FitsAt, none_fit, parts_summed, rows_together}
use Rattle.verdict_paths.proofs.PartsOfBytes.{Stands, stands_whole, stands_within, stands_apart, sum_same, sum_times, sum_alike}
use Rattle.verdict_paths.proofs.PartsOfBytes.{length_joined, joined_at, tabulate_back, number_read, fields_read, fields_fit_there}
use Rattle.verdict_paths.proofs.PartsOfBytes.{count_fits, counts_fit}

-- a count in a range, from both sides
pub counted_between : (least most k : ℕ) → In (least to most) (pos k) → (least ≤ k) × (k ≤ most)
counted_between least most k h = within_both least most k (in_within h)

-- ---- kind 5

module _ (loop : Branches) (h : BranchesIn loop) where
  abbrev n : ℕ
  n = loop.variables

  abbrev paths : ℕ
  paths = length loop.paths

  -- the m of path j, and of all paths
  abbrev m : ℕ → ℕ
  m j = length (rows_for loop j)

  abbrev in_all : ℕ
  in_all = sum_of paths m

  abbrev loop_length : ℕ
  loop_length = 6 + 2 * paths + in_all * (4 * n + 4)

  abbrev bytes : List ℕ
  bytes = branches_bytes loop

  path_given : Throughout paths (λ j. PathIn n (rows_for loop j))
  path_given j below = each_at (PathIn n) loop.paths j [] h.each below

  -- the limits
  pub n_between : (1 ≤ n) × (n ≤ 16)
  unfolding variables
  n_between = counted_between 1 16 n h.n_in

  pub paths_between : (1 ≤ paths) × (paths ≤ 8)
  unfolding path_counts
  paths_between = counted_between 1 8 paths h.count_in

  pub m_small : Throughout paths (λ j. m j ≤ 64)
  unfolding rows
  m_small j below = (counted_between 0 64 (m j) (path_given j below).m_in).1

  length_small : loop_length ≤ 35000
  length_small =
      let wide : 4 * n + 4 ≤ 68 = omega (arith, n_between.1) in
      let few : in_all ≤ 512 = omega (arith, sum_most m paths 64 m_small, paths_between.1) in
      let product : in_all * (4 * n + 4) ≤ 512 * 68 = mul-le-mul few wide in
      omega (arith, product, paths_between.1)

  -- ---- where the parts stand

  path_fits : Throughout paths (λ j. Fit (rows_of n (m j)) (rows_values (rows_for loop j)))
  path_fits j below = fit_rows n (rows_for loop j) (path_given j below).each

  path_long : Throughout paths (λ j. length (path_bytes n (rows_for loop j)) ≡ m j * (4 * n + 4))
  unfolding path_bytes
  path_long j below = length_bytes_of (rows_of n (m j)) (rows_values (rows_for loop j)) (path_fits j below).counted ∙ widths_rows n (m j)

  abbrev ms_bytes : List ℕ
  ms_bytes = joined (λ path. digits 2 (length path)) loop.paths

  ms_before : (j : ℕ) → sum_of j (λ i. length (digits 2 (m i))) ≡ 2 * j
  ms_before j = sum_same j _ (λ i. 2) (λ i below. length_digits 2 (m i)) ∙ sum_alike j 2 ∙ omega arith

  rows_bytes : List ℕ
  rows_bytes = joined (path_bytes n) loop.paths

  paths_before : (j : ℕ) → j ≤ paths → sum_of j (λ i. length (path_bytes n (rows_for loop i))) ≡ sum_of j m * (4 * n + 4)
  paths_before j below = sum_same j _ (λ i. m i * (4 * n + 4)) (λ i early. path_long i (omega arith)) ∙ sum_times j (4 * n + 4) m

  ms_long : length ms_bytes ≡ 2 * paths
  ms_long = length_joined (λ path. digits 2 (length path)) loop.paths [] ∙ ms_before paths

  rows_long : length rows_bytes ≡ in_all * (4 * n + 4)
  unfolding rows_bytes
  rows_long = length_joined (path_bytes n) loop.paths [] ∙ paths_before paths (omega arith)

  record Parts : Type 0 where
    L-stands : Stands bytes 0 (digits 4 loop_length)
    kind_stands : Stands bytes 4 (digits 2 5)
    n_stands : Stands bytes 6 (digits 2 n)
    paths_stands : Stands bytes 8 (digits 2 paths)
    ms_stand : Stands bytes 10 ms_bytes
    rows_stand : Stands bytes (10 + 2 * paths) rows_bytes
    long : length bytes ≡ 4 + loop_length

  parts : Parts
  unfolding branches_bytes framed rows_bytes
  parts =
      let from_L = stands_apart 4 (digits 4 loop_length) _ (length_digits 4 loop_length) (stands_whole bytes) in
      let from_kind = stands_apart 2 (digits 2 5) _ (length_digits 2 5) from_L.1 in
      let from_n = stands_apart 2 (digits 2 n) _ (length_digits 2 n) from_kind.1 in
      let from_paths = stands_apart 2 (digits 2 paths) _ (length_digits 2 paths) from_n.1 in
      let from_ms = stands_apart (2 * paths) ms_bytes rows_bytes ms_long from_paths.1 in
      record {
        L-stands = from_L.0;
        kind_stands = from_kind.0;
        n_stands = from_n.0;
        paths_stands = from_paths.0;
        ms_stand = from_ms.0;
        rows_stand = from_ms.1;
        long = simp (length-append, length_digits, ms_long, rows_long) (omega arith);
      }

  -- ---- what is read

  L-read : little_at 4 bytes 0 ≡ loop_length
  L-read = number_read 4 loop_length (omega (arith, length_small)) parts.L-stands

  kind_read : little_at 2 bytes 4 ≡ 5
  kind_read = number_read 2 5 (omega arith) parts.kind_stands

  pub n_read : variables_in bytes ≡ n
  unfolding variables_in
  n_read = number_read 2 n (omega (arith, n_between.1)) parts.n_stands

  pub paths_read : paths_in bytes ≡ paths
  unfolding paths_in
  paths_read = number_read 2 paths (omega (arith, paths_between.1)) parts.paths_stands

  pub m_read : Throughout paths (λ j. rows_in bytes j ≡ m j)
  unfolding rows_in
  m_read j below =
      number_read 2 (m j) (omega (arith, m_small j below))
      (rw (ms_before j) at (stands_within parts.ms_stand (joined_at (λ path. digits 2 (length path)) loop.paths [] j below)))

  rows_before_read : (j : ℕ) → j ≤ paths → rows_before bytes j ≡ sum_of j m
  unfolding rows_before
  rows_before_read j below = sum_same j (rows_in bytes) m (λ i early. m_read i (omega arith))

  path_stands : Throughout paths (λ j. Stands bytes (rows_place bytes j) (path_bytes n (rows_for loop j)))
  unfolding rows_place rows_bytes
  path_stands j below =
      rw (n_read, paths_read, rows_before_read j (omega arith))
      (rw (paths_before j (omega arith)) at (stands_within parts.rows_stand (joined_at (path_bytes n) loop.paths [] j below)))

  path_read : Throughout paths (λ j. path_in bytes j ≡ rows_for loop j)
  unfolding path_in rows_at path_bytes
  path_read j below =
      rw (n_read, m_read j below, fields_read (rows_of n (m j)) (rows_values (rows_for loop j)) (path_fits j below) (path_stands j below))
      (loop_back n (m j) (rows_for loop j) (record { counted = refl; each = (path_given j below).each }))

  pub branches_read_back : branches_in bytes ≡ loop
  unfolding branches_in
  branches_read_back = rw (n_read, paths_read, tabulate_back paths (path_in bytes) loop.paths [] refl path_read)

  -- ---- they are sound

  rows_fit_there : FitsAt (rows_of n in_all) bytes (10 + 2 * paths)
  unfolding rows_of path_bytes rows_place
  rows_fit_there =
      parts_summed bytes (rows_of n) (4 * n + 4) refl (rows_together n) (widths_rows n) m paths (10 + 2 * paths)
      (λ j below.
      rw (n_read, paths_read, rows_before_read j (omega arith))
      at (fields_fit_there (rows_of n (m j)) (rows_values (rows_for loop j)) (path_fits j below) (path_stands j below)))

  counts_fit_there : FitsAt (variable_count ∷ path_count ∷ []) bytes 6
  unfolding variable_count path_count variables_in paths_in
  counts_fit_there =
      count_fits bytes variable_count (path_count ∷ []) 6 n refl n_read (in_within h.n_in)
      (count_fits bytes path_count [] 8 paths refl paths_read (in_within h.count_in) (none_fit bytes 10))

  ms_fit_there : FitsAt (replicate paths row_count) bytes 10
  unfolding row_count rows_in
  ms_fit_there = counts_fit bytes row_count paths 10 refl (λ j below. rw (m_read j below) (in_within (path_given j below).m_in))

  loop_passes : Passes sound_paths (bytes_alone bytes)
  unfolding sound_paths bytes_alone stated_length kind_number is_kind holds_counts is_long fields_fit paths_length all_rows
  loop_passes =
      let a_length : 4 ≤ length bytes = omega (arith, parts.long) in
      let a_kind : 2 ≤ loop_length = omega arith in
      let few : 4 + loop_length ≤ length bytes = omega (arith, parts.long) in
      let many : length bytes ≤ 4 + loop_length = omega (arith, parts.long) in
      let two_counts : 6 ≤ loop_length = omega arith in
      let all_counts : 6 + 2 * paths ≤ loop_length = omega arith in
      rw (L-read, kind_read, n_read, paths_read, rows_before_read paths (omega arith)) (
        le-leb _ _ a_length,
        (
          le-leb _ _ a_kind,
          (
            le-leb _ _ few,
            (
              le-leb _ _ many,
              (
                refl,
                (
                  le-leb _ _ two_counts,
                  (
                    counts_fit_there,
                    (
                      le-leb _ _ all_counts,
                      (
                        ms_fit_there,
                        (
                          eq-eqb loop_length loop_length refl,
                          (
                            rows_fit_there,
                            tt,
                          ),
                        ),
                      ),
                    ),
                  ),
                ),
              ),
            ),
          ),
        ),
      )

  pub branches_sound : first sound_paths (bytes_alone bytes) ≡ done
  branches_sound = passes_done sound_paths (bytes_alone bytes) loop_passes
