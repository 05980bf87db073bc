-- The ways through the order for a record whose frame is right, of any kind and for any call: what a check answers at each return from the kind on.
use mathlib.Core.Path.{◌≡◌, ap, ◌∙◌}
use Prim.Native.Nat.{ℕ, ◌+◌, ◌≤◌, ◌<◌}
use mathlib.Core.Bool.{Bool, true, false}
use mathlib.Core.List.{List, []}
use native.Mathlib.Decide.{dec_lt}
use native.Mathlib.Omega.{arith}
use lib.IntN.{pos}
use lib.ListN.{length, drop}
use borrow.Author.Tests.{le-leb, lt-leb, eq-eqb, ne_eqb, lt-ltb, le-ltb}
use Rattle.endian.specs.Numbers.{little_at}
use Rattle.refusal.specs.Tests.{first}
use Rattle.refusal.proofs.TestLaws.{passed, failed, passes_done, first_then}
use Rattle.record.specs.Fields.{u16, Field, width, number, widths}
use Rattle.record.specs.Layouts.{is_known, counts, length_of}
use Rattle.record.specs.Ranges.{within}
use Rattle.record.specs.Readers.{Reader, framing, stated_length, kind, counts_read, fields, list_start, count_list, list, arguments_fit, sound}
use Rattle.record_fields.specs.Runs.{field_number_at, fits, fault, fault_told, run_told}
use Rattle.record_fields.proofs.FirstFaults.{all_fit, not_all_fit, fault_within}
use Rattle.record_check.specs.Checks.{checks}
use Rattle.record_check.specs.Framing.{Framed}
use Rattle.record_check.proofs.FrameWays.{refusal, says}

module _ (r : Reader) (f : Framed r.bytes) where
  unframed : first sound r ≡ first (drop 4 sound) r
  unfolding sound stated_length
  unframed =
      let small : 2 ≤ stated_length r = omega (arith, f.head, f.whole) in
      let few : 4 + stated_length r ≤ length r.bytes = omega (arith, f.whole) in
      let many : length r.bytes ≤ 4 + stated_length r = omega (arith, f.whole) in
      let four : 4 ≤ length r.bytes = omega (arith, f.head) in
      first_then framing (drop 4 sound) r (le-leb _ _ four, (le-leb _ _ small, (le-leb _ _ few, (le-leb _ _ many, tt))))

  pub unwanted : r.wants (kind r) ≡ false → refusal 4 4 ≡ checks r
  unfolding sound
  unwanted h = says r (unframed ∙ failed _ _ _ _ r h)

  module _ (wanted : r.wants (kind r) ≡ true) where
    pub bad_arguments : arguments_fit r ≡ false → refusal 5 0 ≡ checks r
    unfolding sound
    bad_arguments h = says r (unframed ∙ passed _ _ _ _ r wanted ∙ failed _ _ _ _ r h)

    module _ (arguments : arguments_fit r ≡ true) where
      past_arguments : first sound r ≡ first (drop 6 sound) r
      unfolding sound
      past_arguments = unframed ∙ passed _ _ _ _ r wanted ∙ passed _ _ _ _ r arguments

      pub no_counts : length r.bytes < 6 + widths (counts (kind r)) → refusal 3 0 ≡ checks r
      unfolding sound stated_length
      no_counts h =
          let few : stated_length r < 2 + widths (counts (kind r)) = omega (arith, f.whole) in
          says r (past_arguments ∙ failed _ _ _ _ r (lt-leb _ _ few))

      module _ (there : 6 + widths (counts (kind r)) ≤ length r.bytes) where
        past_room : first sound r ≡ first (drop 7 sound) r
        unfolding sound stated_length
        past_room =
            let enough : 2 + widths (counts (kind r)) ≤ stated_length r = omega (arith, f.whole) in
            past_arguments ∙ passed _ _ _ _ r (le-leb _ _ enough)

        pub bad_count : (at : ℕ) → at ≡ fault (counts (kind r)) r.bytes 6 → at < 6 + widths (counts (kind r)) → refusal 5 at ≡ checks r
        unfolding sound count_list fault
        bad_count at told h =
            let out = not_all_fit r.bytes (counts (kind r)) 6 (omega arith) in
            rw told (says r (past_room ∙ failed _ _ _ _ r out))

        module _ (counts_fit : fault (counts (kind r)) r.bytes 6 ≡ 6 + widths (counts (kind r))) where
          past_counts : first sound r ≡ first (drop 8 sound) r
          unfolding sound count_list
          past_counts = past_room ∙ passed _ _ _ _ r (all_fit r.bytes (counts (kind r)) 6 counts_fit)

          pub bad_length : (length r.bytes ≡ 4 + length_of (kind r) (counts_read r) → ⊥) → refusal 3 0 ≡ checks r
          unfolding sound stated_length
          bad_length h = says r (past_counts ∙ failed _ _ _ _ r (ne_eqb _ _ (λ e. h (f.whole ∙ ap (λ k. 4 + k) e))))

          module _ (formula : length r.bytes ≡ 4 + length_of (kind r) (counts_read r)) (known : is_known (kind r) ≡ true) where
            past_length : first sound r ≡ first (drop 9 sound) r
            unfolding sound stated_length
            past_length =
                let same : stated_length r ≡ length_of (kind r) (counts_read r) = omega (arith, f.whole) in
                past_counts ∙ passed _ _ _ _ r (eq-eqb _ _ same)

            -- the last test: what the values tell
            pub values_told : first sound r ≡ run_told (fields r) r.bytes (list_start r)
            unfolding sound list fault run_told fault_told
            values_told =
                elim (dec_lt (fault (fields r) r.bytes (list_start r)) (list_start r + widths (fields r))) [
                  | yes early ↦
                      let out = not_all_fit r.bytes (fields r) (list_start r) early in
                      rw (lt-ltb (fault (fields r) r.bytes (list_start r)) (list_start r + widths (fields r)) early) (past_length ∙ failed _ _ _ _ r out)
                  | no late ↦
                      let all = all_fit r.bytes (fields r) (list_start r) (omega (arith, fault_within r.bytes (fields r) (list_start r))) in
                      let l : list_start r + widths (fields r) ≤ fault (fields r) r.bytes (list_start r) = omega arith in
                      rw (le-ltb (fault (fields r) r.bytes (list_start r)) (list_start r + widths (fields r)) l) (past_length ∙ passed _ _ _ _ r all ∙ passes_done [] r tt)
                ]

-- ---- counts in the bytes

-- what the code tests of a count is whether its field is in range
pub count_fits : (field : Field) (bytes : List ℕ) (place count : ℕ) (b : Bool) → field.form ≡ u16 → count ≡ little_at 2 bytes place → within field.range (pos count) ≡ b → fits field bytes place ≡ b
unfolding fits field_number_at number width little_at
count_fits field bytes place count b form read h = rw (form, ← read) h
