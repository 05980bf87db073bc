-- What a sound record of kind 5 or 6 says: its counts are small, and its rows, components and lists of multipliers lie within its bytes
-- with every number in range. A judge needs no more of the bytes than this.
use mathlib.Core.Path.{◌≡◌, refl}
use Prim.Native.Nat.{ℕ, ◌+◌, ◌*◌, ◌≤◌, ◌<◌}
use mathlib.Core.Bool.{Bool, true}
use mathlib.Core.List.{List, [], ◌∷◌}
use native.Mathlib.Nat.{mul-le-mul_left, mul-le-mul_right}
use native.Mathlib.Omega.{arith}
use lib.Dec.{ltb}
use lib.ListN.{length, drop}
use borrow.Author.Tests.{leb-true, ltb-true, eqb-true}
use Rattle.endian.specs.Numbers.{little_at}
use Rattle.refusal.specs.Places.{Throughout, before_failing}
use Rattle.refusal.specs.Tests.{done, first}
use Rattle.refusal.proofs.PlaceLaws.{holds_before}
use Rattle.refusal.proofs.TestLaws.{Passes, done_passes}
use Rattle.record.specs.Fields.{values, in_range}
use Rattle.record.specs.Layouts.{variable_count, row_count, rows_of}
use Rattle.record.specs.Ranges.{variables, rows}
use Rattle.record.specs.Readers.{stated_length, kind_number}
use Rattle.record_paths.specs.PathCertificates.{Counted, components_in, component_in, before_missing, multipliers_before}
use Rattle.record_paths.specs.PathCertificates.{all_multipliers, component_place, list_place, certificate_fields}
use Rattle.record_paths.specs.PathCertificates.{certificate_length, sound_lexicographic}
use Rattle.record_paths.specs.PathFields.{path_counts, component_counts, path_count, component_count, bytes_alone}
use Rattle.record_paths.specs.PathFields.{is_kind, holds_counts, is_long, fields_fit}
use Rattle.record_paths.specs.PathLoops.{variables_in, paths_in, rows_in, rows_before, all_rows, rows_place}
use Rattle.record_paths.specs.PathLoops.{paths_length, sound_paths}
use Rattle.record_paths.proofs.PathSums.{sum_part, sum_most}
use Rattle.record_paths.proofs.RunFields.{within_both, first_fits, run_fits}

-- ---- kind 5

pub record PathsSound (bytes : List ℕ) : Type 0 where
  pub numbered : little_at 2 bytes 4 ≡ 5
  pub stated : length bytes ≡ 4 + little_at 4 bytes 0
  pub some_variables : 1 ≤ variables_in bytes
  pub few_variables : variables_in bytes ≤ 16
  pub some_paths : 1 ≤ paths_in bytes
  pub few_paths : paths_in bytes ≤ 8
  pub few_rows : Throughout (paths_in bytes) (λ j. rows_in bytes j ≤ 64)
  pub few_in_all : all_rows bytes ≤ 512
  pub long : length bytes ≡ 10 + 2 * paths_in bytes + all_rows bytes * (4 * variables_in bytes + 4)
  pub rows_inside : Throughout (paths_in bytes) (λ j. rows_place bytes j + rows_in bytes j * (4 * variables_in bytes + 4) ≤ length bytes)
  pub rows_fit : (let rows = rows_of (variables_in bytes) (all_rows bytes) in
      in_range rows (values rows (drop (10 + 2 * paths_in bytes) bytes)) ≡ true)

-- the rows of a path lie within those of all
rows_reach : (bytes : List ℕ) → Throughout (paths_in bytes)
    (λ j. rows_place bytes j + rows_in bytes j * (4 * variables_in bytes + 4)
    ≤ 10 + 2 * paths_in bytes + all_rows bytes * (4 * variables_in bytes + 4))
unfolding rows_place rows_before all_rows
rows_reach bytes j below =
    omega (arith, mul-le-mul_right (4 * variables_in bytes + 4) (sum_part (rows_in bytes) (paths_in bytes) j below))

paths_say : (bytes : List ℕ) → Passes sound_paths (bytes_alone bytes) → PathsSound bytes
unfolding
    sound_paths bytes_alone stated_length kind_number is_kind holds_counts is_long fields_fit variable_count path_count row_count
    variables path_counts rows paths_length variables_in paths_in rows_in rows_before all_rows
paths_say bytes h =
    let few : 4 + little_at 4 bytes 0 ≤ length bytes = leb-true _ _ h.1.1.0 in
    let many : length bytes ≤ 4 + little_at 4 bytes 0 = leb-true _ _ h.1.1.1.0 in
    let formula : little_at 4 bytes 0 ≡ paths_length bytes = eqb-true _ _ h.1.1.1.1.1.1.1.1.1.0 in
    let counts = first_fits variable_count (path_count ∷ []) bytes 6 refl h.1.1.1.1.1.1.0 in
    let n_fits = within_both 1 16 (little_at 2 bytes 6) counts.0 in
    let p_fits = within_both 1 8 (little_at 2 bytes 8) (first_fits path_count [] bytes 8 refl counts.1).0 in
    let m_fits = run_fits row_count (paths_in bytes) bytes 10 refl h.1.1.1.1.1.1.1.1.0 in
    let few_rows : Throughout (paths_in bytes) (λ j. rows_in bytes j ≤ 64)
    = λ j below. (within_both 0 64 (rows_in bytes j) (m_fits j below)).1 in
    let sum : all_rows bytes ≤ paths_in bytes * 64 = sum_most (rows_in bytes) (paths_in bytes) 64 few_rows in
    let long : length bytes ≡ 10 + 2 * paths_in bytes + all_rows bytes * (4 * variables_in bytes + 4) = omega arith in
    record {
      numbered = eqb-true _ _ h.1.1.1.1.0;
      stated = omega arith;
      some_variables = n_fits.0;
      few_variables = n_fits.1;
      some_paths = p_fits.0;
      few_paths = p_fits.1;
      few_rows = few_rows;
      few_in_all = omega (arith, sum, p_fits.1);
      long = long;
      rows_inside = λ j below. omega (arith, long, rows_reach bytes j below);
      rows_fit = h.1.1.1.1.1.1.1.1.1.1.0;
    }

pub paths_sound : (bytes : List ℕ) → first sound_paths (bytes_alone bytes) ≡ done → PathsSound bytes
paths_sound bytes told = paths_say bytes (done_passes sound_paths (bytes_alone bytes) told)

-- ---- kind 6

pub record LexicographicSound (c : Counted) (bytes : List ℕ) : Type 0 where
  pub numbered : little_at 2 bytes 4 ≡ 6
  pub stated : length bytes ≡ 4 + little_at 4 bytes 0
  pub some_components : 1 ≤ components_in bytes
  pub few_components : components_in bytes ≤ 8
  pub component_there : Throughout c.paths (λ j. component_in bytes j < components_in bytes)
  pub long : length bytes ≡ 8 + 2 * c.paths + components_in bytes * (4 * c.n + 8) + 2 * all_multipliers c bytes
  pub component_inside : Throughout (components_in bytes) (λ i. component_place c i + (4 * c.n + 8) ≤ length bytes)
  pub list_inside : Throughout c.paths
      (λ j. Throughout (2 + component_in bytes j) (λ k. list_place c bytes j k + 2 * c.m j ≤ length bytes))
  pub fields_in_range : (let fields = certificate_fields c bytes in
      in_range fields (values fields (drop (8 + 2 * c.paths) bytes)) ≡ true)

module _ (c : Counted) (bytes : List ℕ) where
  whole_length : ℕ
  whole_length = 8 + 2 * c.paths + components_in bytes * (4 * c.n + 8) + 2 * all_multipliers c bytes

  components_reach : Throughout (components_in bytes) (λ i. component_place c i + (4 * c.n + 8) ≤ whole_length)
  unfolding component_place whole_length
  components_reach i below = omega (arith, mul-le-mul_right (4 * c.n + 8) below)

  lists_reach : Throughout c.paths
      (λ j. Throughout (2 + component_in bytes j) (λ k. list_place c bytes j k + 2 * c.m j ≤ whole_length))
  unfolding list_place component_place multipliers_before all_multipliers whole_length
  lists_reach j below k early =
      omega (arith, mul-le-mul_left (c.m j) early, sum_part (λ i. c.m i * (2 + component_in bytes i)) c.paths j below)

  lexicographic_says : Passes (sound_lexicographic c) (bytes_alone bytes) → LexicographicSound c bytes
  unfolding
      sound_lexicographic bytes_alone stated_length kind_number is_kind holds_counts is_long fields_fit component_count
      component_counts components_in before_missing certificate_length whole_length
  lexicographic_says h =
      let few : 4 + little_at 4 bytes 0 ≤ length bytes = leb-true _ _ h.1.1.0 in
      let many : length bytes ≤ 4 + little_at 4 bytes 0 = leb-true _ _ h.1.1.1.0 in
      let counted = within_both 1 8 (little_at 2 bytes 6) (first_fits component_count [] bytes 6 refl h.1.1.1.1.1.1.0).0 in
      let there : ℕ → Bool = λ j. ltb (component_in bytes j) (components_in bytes) in
      let none_missing : before_failing c.paths there ≡ c.paths = eqb-true _ _ h.1.1.1.1.1.1.1.1.0 in
      let formula : little_at 4 bytes 0 ≡ certificate_length c bytes = eqb-true _ _ h.1.1.1.1.1.1.1.1.1.0 in
      let long : length bytes ≡ whole_length = omega arith in
      record {
        numbered = eqb-true _ _ h.1.1.1.1.0;
        stated = omega arith;
        some_components = counted.0;
        few_components = counted.1;
        component_there = λ j below. ltb-true _ _ (holds_before c.paths there j (rw none_missing below));
        long = long;
        component_inside = λ i below. rw long (components_reach i below);
        list_inside = λ j below k early. rw long (lists_reach j below k early);
        fields_in_range = h.1.1.1.1.1.1.1.1.1.1.0;
      }

  pub lexicographic_sound : first (sound_lexicographic c) (bytes_alone bytes) ≡ done → LexicographicSound c bytes
  lexicographic_sound told = lexicographic_says (done_passes (sound_lexicographic c) (bytes_alone bytes) told)
