-- The ways through the order for a record of kind 5: what is told at each return of its check.
use Rattle.std.specs.Prelude.{Ok}
use mathlib.Core.Path.{◌≡◌, refl, sym, ap, ◌∙◌}
use Prim.Native.Nat.{ℕ, ◌+◌, ◌*◌, ◌≤◌, ◌<◌}
use mathlib.Core.Bool.{true, false}
use mathlib.Core.List.{List, [], ◌∷◌}
use native.Mathlib.Nat.{mul-le-mul}
use native.Mathlib.Omega.{arith}
use lib.IntN.{pos}
use lib.ListN.{length, drop, replicate}
use borrow.Author.Tests.{le-leb, lt-leb, eq-eqb, ne_eqb}
use Rattle.endian.specs.Numbers.{little_at}
use Rattle.refusal.specs.Places.{before_failing}
use Rattle.refusal.specs.Tests.{refused, first}
use Rattle.refusal.proofs.TestLaws.{passed, failed}
use Rattle.record.specs.Fields.{width, Field, widths}
use Rattle.record.specs.Layouts.{variable_count, row_count, rows_of}
use Rattle.record.specs.Ranges.{variables, within}
use Rattle.record.specs.Readers.{stated_length, kind_number}
use Rattle.record.proofs.CountLimits.{variables_most, rows_most}
use Rattle.record.proofs.Lengths.{widths_replicate}
use Rattle.record_fields.specs.Runs.{fault, run_told}
use Rattle.record_fields.proofs.FirstFaults.{fault_none, fault_next, fault_here, all_fit, not_all_fit}
use Rattle.record_check.specs.Framing.{Framed}
use Rattle.record_paths.specs.PathFields.{path_counts, path_count, bytes_alone, is_kind, holds_counts, is_long, fields_fit}
use Rattle.record_paths.specs.PathLoops.{variables_in, paths_in, rows_in, all_rows, rows_before, paths_length, sound_paths}
use Rattle.record_paths.proofs.RunFields.{within_both}
use Rattle.record_paths_check.specs.PathChecks.{told_along, walked, m_fits, PathsCounted}
use Rattle.record_paths_check.proofs.FieldFaults.{count_fits, run_fault}
use Rattle.record_paths_check.proofs.OrderWays.{past_frame, fields_told}
use Rattle.record_paths_check.proofs.PathWalks.{given, along_refused, all_pass, whole_sum, whole_small}

module _ (bytes : List ℕ) where
  -- what is told of the record
  abbrev Tells : ℕ → ℕ → Type 0
  Tells k p = first sound_paths (bytes_alone bytes) ≡ refused k p

  module _ (f : Framed bytes) where
    framed : first sound_paths (bytes_alone bytes) ≡ first (drop 4 sound_paths) (bytes_alone bytes)
    unfolding sound_paths
    framed = past_frame (drop 4 sound_paths) bytes f

    pub other_kind : (little_at 2 bytes 4 ≡ 5 → ⊥) → Tells 4 4
    unfolding sound_paths is_kind kind_number bytes_alone
    other_kind h = framed ∙ failed _ _ _ _ (bytes_alone bytes) (ne_eqb _ _ h)

    module _ (is : little_at 2 bytes 4 ≡ 5) where
      of_kind : first sound_paths (bytes_alone bytes) ≡ first (drop 5 sound_paths) (bytes_alone bytes)
      unfolding sound_paths is_kind kind_number bytes_alone
      of_kind = framed ∙ passed _ _ _ _ (bytes_alone bytes) (eq-eqb _ _ is)

      pub no_counts : length bytes < 10 → Tells 3 0
      unfolding sound_paths holds_counts stated_length bytes_alone
      no_counts h =
          let few : little_at 4 bytes 0 < 6 = omega (arith, f.whole) in
          of_kind ∙ failed _ _ _ _ (bytes_alone bytes) (lt-leb _ _ few)

      module _ (there : 10 ≤ length bytes) where
        roomy : first sound_paths (bytes_alone bytes) ≡ first (drop 6 sound_paths) (bytes_alone bytes)
        unfolding sound_paths holds_counts stated_length bytes_alone
        roomy =
            let enough : 6 ≤ little_at 4 bytes 0 = omega (arith, f.whole) in
            of_kind ∙ passed _ _ _ _ (bytes_alone bytes) (le-leb _ _ enough)

        counts : List Field
        counts = variable_count ∷ path_count ∷ []

        bad_count : (at : ℕ) → fault counts bytes 6 ≡ at → at < 10 → Tells 5 at
        unfolding sound_paths fields_fit bytes_alone fault counts widths width variable_count path_count
        bad_count at told h = rw (← told) (roomy ∙ failed _ _ _ _ (bytes_alone bytes) (not_all_fit bytes counts 6 (omega arith)))

        pub bad_n : within variables (pos (variables_in bytes)) ≡ false → Tells 5 6
        unfolding counts variables_in variable_count
        bad_n h = bad_count 6 (fault_here bytes variable_count (path_count ∷ []) 6 (count_fits variable_count bytes 6 false refl h)) (omega arith)

        module _ (n_fits : within variables (pos (variables_in bytes)) ≡ true) where
          past_n : fault counts bytes 6 ≡ fault (path_count ∷ []) bytes 8
          unfolding counts variables_in variable_count width
          past_n = fault_next bytes variable_count (path_count ∷ []) 6 (count_fits variable_count bytes 6 true refl n_fits)

          pub bad_paths : within path_counts (pos (paths_in bytes)) ≡ false → Tells 5 8
          unfolding paths_in path_count
          bad_paths h = bad_count 8 (past_n ∙ fault_here bytes path_count [] 8 (count_fits path_count bytes 8 false refl h)) (omega arith)

          module _ (paths_fit : within path_counts (pos (paths_in bytes)) ≡ true) where
            pub counted : first sound_paths (bytes_alone bytes) ≡ first (drop 7 sound_paths) (bytes_alone bytes)
            unfolding sound_paths fields_fit bytes_alone counts paths_in path_count variable_count widths width
            counted =
                let last = fault_next bytes path_count [] 8 (count_fits path_count bytes 8 true refl paths_fit) in
                roomy ∙ passed _ _ _ _ (bytes_alone bytes) (all_fit bytes counts 6 (past_n ∙ last ∙ fault_none bytes 10))

-- ---- once the counts are in range

module _ (bytes : List ℕ) (n paths : ℕ) (c : PathsCounted bytes n paths) where
  past_counts : first sound_paths (bytes_alone bytes) ≡ first (drop 7 sound_paths) (bytes_alone bytes)
  past_counts = counted bytes c.frame c.numbered c.there (rw c.n_read at c.n_fits) (rw c.paths_read at c.paths_fit)

  pub small_n : n ≤ 16
  small_n = variables_most n c.n_fits

  pub few_paths : paths ≤ 8
  unfolding path_counts
  few_paths = (within_both 1 8 paths c.paths_fit).1

  pub no_ms : length bytes < 10 + 2 * paths → Tells bytes 3 0
  unfolding sound_paths holds_counts stated_length bytes_alone
  no_ms h =
      let few : little_at 4 bytes 0 < 6 + 2 * paths_in bytes = omega (arith, c.frame.whole, c.paths_read) in
      past_counts ∙ failed _ _ _ _ (bytes_alone bytes) (lt-leb _ _ few)

  module _ (there : 10 + 2 * paths ≤ length bytes) where
    ms_there : first sound_paths (bytes_alone bytes) ≡ first (drop 8 sound_paths) (bytes_alone bytes)
    unfolding sound_paths holds_counts stated_length bytes_alone
    ms_there =
        let enough : 6 + 2 * paths_in bytes ≤ little_at 4 bytes 0 = omega (arith, c.frame.whole, c.paths_read) in
        past_counts ∙ passed _ _ _ _ (bytes_alone bytes) (le-leb _ _ enough)

    -- the m's before the first that is out of range
    before : ℕ
    before = before_failing paths (m_fits bytes)

    ms_fault : fault (replicate (paths_in bytes) row_count) bytes 10 ≡ 10 + 2 * before
    unfolding before rows_in row_count
    ms_fault = rw (← c.paths_read) (run_fault row_count refl bytes paths 10)

    ms_wide : widths (replicate (paths_in bytes) row_count) ≡ 2 * paths
    unfolding width row_count
    ms_wide = rw (widths_replicate, ← c.paths_read) (omega arith)

    pub bad_m : {k p : ℕ} → told_along 5 10 paths (m_fits bytes) ≡ refused k p → Tells bytes k p
    unfolding sound_paths fields_fit bytes_alone fault before
    bad_m told =
        let stop = along_refused 5 10 paths (m_fits bytes) told in
        let out = not_all_fit bytes (replicate (paths_in bytes) row_count) 10 (omega (arith, ms_fault, ms_wide, stop.0)) in
        ms_there ∙ failed _ _ _ _ (bytes_alone bytes) out ∙ ap (λ at. refused 5 at) ms_fault ∙ stop.1

    module _ (all : before_failing paths (m_fits bytes) ≡ paths) where
      past_ms : first sound_paths (bytes_alone bytes) ≡ first (drop 9 sound_paths) (bytes_alone bytes)
      unfolding sound_paths fields_fit bytes_alone before
      past_ms = ms_there ∙ passed _ _ _ _ (bytes_alone bytes) (all_fit bytes (replicate (paths_in bytes) row_count) 10 (omega (arith, ms_fault, ms_wide, all)))

      formula : 4 + paths_length bytes ≡ 10 + 2 * paths + all_rows bytes * (4 * n + 4)
      unfolding paths_length
      formula = rw (c.paths_read, c.n_read) (omega arith)

      wrong_length : (length bytes ≡ 10 + 2 * paths + all_rows bytes * (4 * n + 4) → ⊥) → Tells bytes 3 0
      unfolding sound_paths is_long stated_length bytes_alone
      wrong_length h =
          past_ms ∙ failed _ _ _ _ (bytes_alone bytes) (ne_eqb _ _ (λ e. h (c.frame.whole ∙ ap (λ k. 4 + k) e ∙ formula)))

      values_so : length bytes ≡ 10 + 2 * paths + all_rows bytes * (4 * n + 4)
          → first sound_paths (bytes_alone bytes) ≡ run_told (rows_of n (all_rows bytes)) bytes (10 + 2 * paths)
      unfolding sound_paths is_long stated_length bytes_alone
      values_so long =
          let same : little_at 4 bytes 0 ≡ paths_length bytes = omega (arith, c.frame.whole, formula) in
          past_ms ∙ passed _ _ _ _ (bytes_alone bytes) (eq-eqb _ _ same)
          ∙ fields_told bytes (λ r. 10 + 2 * paths_in r.bytes) (λ r. rows_of (variables_in r.bytes) (all_rows r.bytes))
          ∙ rw (← c.n_read, ← c.paths_read)

  -- a walk along the m's that came to the end
  module _ (sum : ℕ) (is : given (Ok sum) ≡ walked 5 10 paths (m_fits bytes) (rows_in bytes)) where
    all_in_range : before_failing paths (m_fits bytes) ≡ paths
    all_in_range = all_pass 5 10 paths (m_fits bytes) (rows_in bytes) sum is

    summed : sum ≡ all_rows bytes
    unfolding all_rows rows_before
    summed = rw (← c.paths_read) (whole_sum 5 10 paths (m_fits bytes) (rows_in bytes) sum is)

    -- the formula stays small
    pub rows_small : sum * (4 * n + 4) ≤ 512 * 68
    rows_small =
        let most = whole_small 5 10 paths (m_fits bytes) (rows_in bytes) sum is 64 (λ j below fit. rows_most (rows_in bytes j) fit) in
        let few : sum ≤ 512 = omega (arith, most, few_paths) in
        let wide : 4 * n + 4 ≤ 68 = omega (arith, small_n) in
        mul-le-mul few wide

    module _ (there : 10 + 2 * paths ≤ length bytes) where
      pub bad_length : (length bytes ≡ 10 + 2 * paths + sum * (4 * n + 4) → ⊥) → Tells bytes 3 0
      bad_length h = wrong_length there all_in_range (λ e. h (e ∙ ap (λ k. 10 + 2 * paths + k * (4 * n + 4)) (sym summed)))

      pub values_told : length bytes ≡ 10 + 2 * paths + sum * (4 * n + 4) → first sound_paths (bytes_alone bytes) ≡ run_told (rows_of n sum) bytes (10 + 2 * paths)
      values_told long =
          values_so there all_in_range (long ∙ ap (λ k. 10 + 2 * paths + k * (4 * n + 4)) summed) ∙ ap (λ k. run_told (rows_of n k) bytes (10 + 2 * paths)) (sym summed)
