-- The ways through the order for a record of kind 7: what is told at each return of its check.
use mathlib.Core.Path.{◌≡◌, refl, sym, ap, ◌∙◌}
use Prim.Native.Nat.{ℕ, ◌+◌, ◌*◌, ◌≤◌, ◌<◌}
use mathlib.Core.Bool.{true, false, ◌&&◌}
use mathlib.Core.List.{List, [], ◌∷◌}
use native.Mathlib.Omega.{arith}
use lib.Dec.{eqb}
use lib.IntN.{pos}
use lib.ListN.{length, drop}
use borrow.Author.Tests.{le-leb, lt-leb, eq-eqb, ne_eqb}
use Rattle.endian.specs.Numbers.{little_at}
use Rattle.refusal.specs.Tests.{refused, first}
use Rattle.refusal.proofs.PlaceLaws.{all-or-first, fails_there}
use Rattle.refusal.proofs.TestLaws.{either, passed, failed}
use Rattle.record.specs.Fields.{width, widths}
use Rattle.record.specs.Ranges.{variables, rows, within}
use Rattle.record.specs.Readers.{stated_length, kind_number}
use Rattle.record_fields.specs.Runs.{fault}
use Rattle.record_fields.proofs.FirstFaults.{one_fits, one_out, all_fit, not_all_fit}
use Rattle.record_check.specs.Framing.{Framed}
use Rattle.record_paths.specs.PathFields.{bytes_alone, is_kind, holds_counts, is_long, fields_fit}
use Rattle.record_paths_check.proofs.FieldFaults.{count_fits}
use Rattle.record_paths_check.proofs.OrderWays.{past_frame, fields_told}
use Rattle.record_short.specs.ShortRecords.{triples_in, row_rises, has_weight, before_bad, triple_count, triples_fields, short_length, sound_short}
use Rattle.record_short_check.specs.ShortChecks.{passes, triple_told, values_told, triples_told}

module _ (n m : ℕ) (bytes : List ℕ) where
  -- what is told of the record, and what the tests from one on tell
  abbrev Tells : ℕ → ℕ → Type 0
  Tells k p = first (sound_short n m) (bytes_alone bytes) ≡ refused k p

  abbrev From : ℕ → Type 0
  From k = first (sound_short n m) (bytes_alone bytes) ≡ first (drop k (sound_short n m)) (bytes_alone bytes)

  module _ (f : Framed bytes) where
    framed : From 4
    unfolding sound_short
    framed = past_frame (drop 4 (sound_short n m)) bytes f

    pub other_kind : (little_at 2 bytes 4 ≡ 7 → ⊥) → Tells 4 4
    unfolding sound_short is_kind kind_number bytes_alone
    other_kind h = framed ∙ failed _ _ _ _ (bytes_alone bytes) (ne_eqb _ _ h)

    module _ (is : little_at 2 bytes 4 ≡ 7) where
      of_kind : From 5
      unfolding sound_short is_kind kind_number bytes_alone
      of_kind = framed ∙ passed _ _ _ _ (bytes_alone bytes) (eq-eqb _ _ is)

      pub bad_arguments : (within variables (pos n) && within rows (pos m)) ≡ false → Tells 5 0
      unfolding sound_short bytes_alone
      bad_arguments h = of_kind ∙ failed _ _ _ _ (bytes_alone bytes) h

      module _ (fit : (within variables (pos n) && within rows (pos m)) ≡ true) where
        of_arguments : From 6
        unfolding sound_short bytes_alone
        of_arguments = of_kind ∙ passed _ _ _ _ (bytes_alone bytes) fit

        pub no_count : length bytes < 8 → Tells 3 0
        unfolding sound_short holds_counts stated_length bytes_alone
        no_count h =
            let short : little_at 4 bytes 0 < 4 = omega (arith, f.whole) in
            of_arguments ∙ failed _ _ _ _ (bytes_alone bytes) (lt-leb _ _ short)

        module _ (there : 8 ≤ length bytes) where
          roomy : From 7
          unfolding sound_short holds_counts stated_length bytes_alone
          roomy =
              let enough : 4 ≤ little_at 4 bytes 0 = omega (arith, f.whole) in
              of_arguments ∙ passed _ _ _ _ (bytes_alone bytes) (le-leb _ _ enough)

          pub bad_count : within rows (pos (triples_in bytes)) ≡ false → Tells 5 6
          unfolding sound_short fields_fit bytes_alone fault triples_in triple_count widths width
          bad_count h =
              let told = one_out bytes triple_count 6 (count_fits triple_count bytes 6 false refl h) in
              let out = not_all_fit bytes (triple_count ∷ []) 6 (omega (arith, told)) in
              roomy ∙ failed _ _ _ _ (bytes_alone bytes) out ∙ ap (λ at. refused 5 at) (sym told)

          module _ (counted : within rows (pos (triples_in bytes)) ≡ true) where
            of_count : From 8
            unfolding sound_short fields_fit bytes_alone triples_in triple_count widths width
            of_count =
                let told = one_fits bytes triple_count 6 (count_fits triple_count bytes 6 true refl counted) in
                roomy ∙ passed _ _ _ _ (bytes_alone bytes) (all_fit bytes (triple_count ∷ []) 6 (sym told))

            pub bad_length : (length bytes ≡ 8 + 6 * triples_in bytes → ⊥) → Tells 3 0
            unfolding sound_short is_long stated_length short_length bytes_alone
            bad_length h = of_count ∙ failed _ _ _ _ (bytes_alone bytes) (ne_eqb (little_at 4 bytes 0) (4 + 6 * triples_in bytes) (λ e. h (omega (arith, e, f.whole))))

            of_length : length bytes ≡ 8 + 6 * triples_in bytes → From 9
            unfolding sound_short is_long stated_length short_length bytes_alone
            of_length h =
                let same : little_at 4 bytes 0 ≡ 4 + 6 * triples_in bytes = omega (arith, f.whole) in
                of_count ∙ passed _ _ _ _ (bytes_alone bytes) (eq-eqb _ _ same)

            -- once the count and the length are right
            module _ (long : length bytes ≡ 8 + 6 * triples_in bytes) where
              -- the first triple that fails
              bad_triple : before_bad m bytes < triples_in bytes → From 9 → first (sound_short n m) (bytes_alone bytes) ≡ triple_told m bytes (before_bad m bytes)
              unfolding sound_short bytes_alone triple_told before_bad
              bad_triple below past =
                  let bad = before_bad m bytes in
                  let not_all : eqb bad (triples_in bytes) ≡ false = ne_eqb bad (triples_in bytes) (λ e. omega (arith, e)) in
                  let out = fails_there (triples_in bytes) (passes m bytes) below in
                  either (row_rises m bytes bad)
                  (λ rises.
                  let weightless : has_weight bytes bad ≡ false = rw rises at out in
                  past ∙ passed _ _ _ _ (bytes_alone bytes) (rw (not_all, rises)) ∙ failed _ _ _ _ (bytes_alone bytes) not_all
                  ∙ sym (passed _ _ _ _ bad rises ∙ failed _ _ _ _ bad weightless))
                  (λ stays. past ∙ failed _ _ _ _ (bytes_alone bytes) (rw (not_all, stays)) ∙ sym (failed _ _ _ _ bad stays))

              -- all pass
              all_pass : before_bad m bytes ≡ triples_in bytes → From 9 → first (sound_short n m) (bytes_alone bytes) ≡ values_told bytes (triples_in bytes)
              unfolding sound_short bytes_alone values_told
              all_pass all past =
                  let whole : eqb (before_bad m bytes) (triples_in bytes) ≡ true = eq-eqb _ _ all in
                  past ∙ passed _ _ _ _ (bytes_alone bytes) (rw whole) ∙ passed _ _ _ _ (bytes_alone bytes) whole
                  ∙ fields_told bytes (λ r. 8) (λ r. triples_fields (triples_in r.bytes))

              pub triples_so : first (sound_short n m) (bytes_alone bytes) ≡ triples_told m bytes (triples_in bytes)
              unfolding triples_told before_bad
              triples_so =
                  all-or-first (triples_in bytes) (passes m bytes)
                  (λ all. rw (eq-eqb (before_bad m bytes) (triples_in bytes) all) (all_pass all (of_length long)))
                  (λ below. rw (ne_eqb (before_bad m bytes) (triples_in bytes) (λ e. omega arith)) (bad_triple below (of_length long)))
