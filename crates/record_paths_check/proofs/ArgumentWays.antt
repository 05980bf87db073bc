-- The ways through the order for a record of kind 6, with what its loop counts: what is told at each return of its check.
use Rattle.std.specs.Prelude.{Ok}
use mathlib.Core.Path.{◌≡◌, refl, sym, ap, ◌∙◌}
use Prim.Native.Nat.{ℕ, ◌+◌, ◌*◌, ◌≤◌, ◌<◌}
use mathlib.Core.Bool.{true, false}
use mathlib.Core.List.{List, [], ◌∷◌, ◌++◌}
use native.Mathlib.Nat.{mul-le-mul}
use native.Mathlib.Omega.{arith}
use lib.IntN.{pos}
use lib.ListN.{length, drop, replicate}
use borrow.Author.Tests.{le-leb, lt-leb, eq-eqb, ne_eqb, ltb-true}
use Rattle.endian.specs.Numbers.{little_at}
use Rattle.refusal.specs.Places.{Throughout, before_failing}
use Rattle.refusal.specs.Tests.{refused, first}
use Rattle.refusal.proofs.TestLaws.{passed, failed}
use Rattle.record.specs.Fields.{width, widths}
use Rattle.record.specs.Layouts.{multiplier}
use Rattle.record.specs.Ranges.{within}
use Rattle.record.specs.Readers.{stated_length, kind_number}
use Rattle.record_fields.specs.Runs.{fault, run_told}
use Rattle.record_fields.proofs.FirstFaults.{one_fits, one_out, all_fit, not_all_fit}
use Rattle.record_check.specs.Framing.{Framed}
use Rattle.record_paths.specs.PathCertificates.{Counted, components_in, component_in, before_missing, multipliers_before}
use Rattle.record_paths.specs.PathCertificates.{all_multipliers, components_fields, certificate_fields, certificate_length, sound_lexicographic}
use Rattle.record_paths.specs.PathFields.{component_counts, component_count, bytes_alone, is_kind, holds_counts, is_long, fields_fit}
use Rattle.record_paths.proofs.RunFields.{within_both}
use Rattle.record_paths_check.specs.PathChecks.{told_along, walked, component_there, ComponentsCounted}
use Rattle.record_paths_check.proofs.FieldFaults.{count_fits}
use Rattle.record_paths_check.proofs.OrderWays.{past_frame, fields_told}
use Rattle.record_paths_check.proofs.PathWalks.{given, along_refused, all_pass, whole_sum, whole_small}

-- the multipliers of path j
abbrev lists : Counted → List ℕ → ℕ → ℕ
lists c bytes j = c.m j * (2 + component_in bytes j)

module _ (c : Counted) (bytes : List ℕ) where
  -- what is told of the record
  abbrev Tells : ℕ → ℕ → Type 0
  Tells k p = first (sound_lexicographic c) (bytes_alone bytes) ≡ refused k p

  module _ (f : Framed bytes) where
    framed : first (sound_lexicographic c) (bytes_alone bytes) ≡ first (drop 4 (sound_lexicographic c)) (bytes_alone bytes)
    unfolding sound_lexicographic
    framed = past_frame (drop 4 (sound_lexicographic c)) bytes f

    pub other_kind : (little_at 2 bytes 4 ≡ 6 → ⊥) → Tells 4 4
    unfolding sound_lexicographic is_kind kind_number bytes_alone
    other_kind h = framed ∙ failed _ _ _ _ (bytes_alone bytes) (ne_eqb _ _ h)

    module _ (is : little_at 2 bytes 4 ≡ 6) where
      of_kind : first (sound_lexicographic c) (bytes_alone bytes) ≡ first (drop 5 (sound_lexicographic c)) (bytes_alone bytes)
      unfolding sound_lexicographic is_kind kind_number bytes_alone
      of_kind = framed ∙ passed _ _ _ _ (bytes_alone bytes) (eq-eqb _ _ is)

      pub no_count : length bytes < 8 → Tells 3 0
      unfolding sound_lexicographic holds_counts stated_length bytes_alone
      no_count h =
          let few : little_at 4 bytes 0 < 4 = omega (arith, f.whole) in
          of_kind ∙ failed _ _ _ _ (bytes_alone bytes) (lt-leb _ _ few)

      module _ (there : 8 ≤ length bytes) where
        roomy : first (sound_lexicographic c) (bytes_alone bytes) ≡ first (drop 6 (sound_lexicographic c)) (bytes_alone bytes)
        unfolding sound_lexicographic holds_counts stated_length bytes_alone
        roomy =
            let enough : 4 ≤ little_at 4 bytes 0 = omega (arith, f.whole) in
            of_kind ∙ passed _ _ _ _ (bytes_alone bytes) (le-leb _ _ enough)

        pub bad_count : within component_counts (pos (components_in bytes)) ≡ false → Tells 5 6
        unfolding sound_lexicographic fields_fit bytes_alone fault components_in component_count widths width
        bad_count h =
            let told = one_out bytes component_count 6 (count_fits component_count bytes 6 false refl h) in
            let out = not_all_fit bytes (component_count ∷ []) 6 (omega (arith, told)) in
            roomy ∙ failed _ _ _ _ (bytes_alone bytes) out ∙ ap (λ at. refused 5 at) (sym told)

        pub counted_in : within component_counts (pos (components_in bytes)) ≡ true
            → first (sound_lexicographic c) (bytes_alone bytes) ≡ first (drop 7 (sound_lexicographic c)) (bytes_alone bytes)
        unfolding sound_lexicographic fields_fit bytes_alone components_in component_count widths width
        counted_in h =
            let told = one_fits bytes component_count 6 (count_fits component_count bytes 6 true refl h) in
            roomy ∙ passed _ _ _ _ (bytes_alone bytes) (all_fit bytes (component_count ∷ []) 6 (sym told))

-- ---- once the count of components is in range

module _ (c : Counted) (bytes : List ℕ) (components : ℕ) (d : ComponentsCounted bytes components) where
  past_count : first (sound_lexicographic c) (bytes_alone bytes) ≡ first (drop 7 (sound_lexicographic c)) (bytes_alone bytes)
  past_count = counted_in c bytes d.frame d.numbered d.there (rw d.read at d.fit)

  pub few_components : components ≤ 8
  unfolding component_counts
  few_components = (within_both 1 8 components d.fit).1

  module _ (paths : ℕ) (read : paths ≡ c.paths) where
    pub no_numbers : length bytes < 8 + 2 * paths → Tells c bytes 3 0
    unfolding sound_lexicographic holds_counts stated_length bytes_alone
    no_numbers h =
        let few : little_at 4 bytes 0 < 4 + 2 * c.paths = omega (arith, d.frame.whole) in
        past_count ∙ failed _ _ _ _ (bytes_alone bytes) (lt-leb _ _ few)

    module _ (there : 8 + 2 * paths ≤ length bytes) where
      numbers_there : first (sound_lexicographic c) (bytes_alone bytes) ≡ first (drop 8 (sound_lexicographic c)) (bytes_alone bytes)
      unfolding sound_lexicographic holds_counts stated_length bytes_alone
      numbers_there =
          let enough : 4 + 2 * c.paths ≤ little_at 4 bytes 0 = omega (arith, d.frame.whole) in
          past_count ∙ passed _ _ _ _ (bytes_alone bytes) (le-leb _ _ enough)

      before_missing_is : before_failing paths (component_there components bytes) ≡ before_missing c bytes
      unfolding before_missing
      before_missing_is = rw (read, d.read)

      pub missing : {k p : ℕ} → told_along 14 8 paths (component_there components bytes) ≡ refused k p → Tells c bytes k p
      unfolding sound_lexicographic bytes_alone
      missing told =
          let stop = along_refused 14 8 paths (component_there components bytes) told in
          let some = ne_eqb (before_missing c bytes) c.paths (λ e. omega (arith, e, before_missing_is, stop.0)) in
          numbers_there ∙ failed _ _ _ _ (bytes_alone bytes) some ∙ ap (λ k. refused 14 (8 + 2 * k)) (sym before_missing_is) ∙ stop.1

      -- a walk along the component numbers that came to the end
      module _ (sum : ℕ) (is : given (Ok sum) ≡ walked 14 8 paths (component_there components bytes) (lists c bytes)) where
        past_numbers : first (sound_lexicographic c) (bytes_alone bytes) ≡ first (drop 9 (sound_lexicographic c)) (bytes_alone bytes)
        unfolding sound_lexicographic bytes_alone
        past_numbers =
            let all = all_pass 14 8 paths (component_there components bytes) (lists c bytes) sum is in
            numbers_there ∙ passed _ _ _ _ (bytes_alone bytes) (eq-eqb _ _ (sym before_missing_is ∙ all ∙ read))

        summed : sum ≡ all_multipliers c bytes
        unfolding all_multipliers multipliers_before
        summed = rw (← read) (whole_sum 14 8 paths (component_there components bytes) (lists c bytes) sum is)

        -- the formula stays small
        pub lists_small : Throughout paths (λ j. c.m j ≤ 64) → sum ≤ paths * 576
        lists_small few =
            whole_small 14 8 paths (component_there components bytes) (lists c bytes) sum is 576
            (λ j below fit.
            let early : component_in bytes j < components = ltb-true _ _ fit in
            let number : 2 + component_in bytes j ≤ 9 = omega (arith, few_components) in
            mul-le-mul (few j below) number)

        module _ (n : ℕ) (n_read : n ≡ c.n) where
          formula : 4 + certificate_length c bytes ≡ 8 + 2 * paths + components * (4 * n + 8) + 2 * sum
          unfolding certificate_length
          formula = rw (d.read, read, n_read, summed) (omega arith)

          pub bad_length : (length bytes ≡ 8 + 2 * paths + components * (4 * n + 8) + 2 * sum → ⊥) → Tells c bytes 3 0
          unfolding sound_lexicographic is_long stated_length bytes_alone
          bad_length h =
              past_numbers ∙ failed _ _ _ _ (bytes_alone bytes) (ne_eqb _ _ (λ e. h (d.frame.whole ∙ ap (λ k. 4 + k) e ∙ formula)))

          same_fields : certificate_fields c bytes ≡ components_fields n components ++ replicate sum multiplier
          unfolding certificate_fields
          same_fields = rw (d.read, n_read, summed)

          pub values_told : length bytes ≡ 8 + 2 * paths + components * (4 * n + 8) + 2 * sum
              → first (sound_lexicographic c) (bytes_alone bytes) ≡ run_told (components_fields n components ++ replicate sum multiplier) bytes (8 + 2 * paths)
          unfolding sound_lexicographic is_long stated_length bytes_alone
          values_told long =
              let same : little_at 4 bytes 0 ≡ certificate_length c bytes = omega (arith, d.frame.whole, formula) in
              past_numbers ∙ passed _ _ _ _ (bytes_alone bytes) (eq-eqb _ _ same)
              ∙ fields_told bytes (λ r. 8 + 2 * c.paths) (λ r. certificate_fields c r.bytes)
              ∙ rw (same_fields, ← read)
