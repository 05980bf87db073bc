-- The ways through the order for a record of kind 1, over plain numbers: what a check answers at each return.
use Rattle.std.specs.Prelude.{Ok, Err}
use mathlib.Core.Path.{◌≡◌, refl, sym, ◌∙◌}
use Prim.Native.Nat.{ℕ, ◌+◌, ◌*◌, ◌≤◌, ◌<◌}
use mathlib.Core.Bool.{true, false}
use mathlib.Core.List.{List, [], ◌∷◌}
use native.Mathlib.Omega.{arith}
use lib.IntN.{pos}
use lib.ListN.{length}
use Rattle.endian.specs.Numbers.{little_at}
use Rattle.refusal.specs.declared.Fault.{Fault}
use Rattle.refusal.specs.Faults.{result_of}
use Rattle.refusal.specs.Tests.{first}
use Rattle.refusal.proofs.FaultLaws.{handed_on, went_on}
use Rattle.record.specs.Fields.{width, widths}
use Rattle.record.specs.Layouts.{loop, kind_of, is_loop, is_lasso, variable_count, row_count, rows_of, counts, layout, length_of, ahead, listed}
use Rattle.record.specs.Ranges.{variables, rows, within}
use Rattle.record.specs.Readers.{Reader, kind_number, kind, counts_read, fields, list_start, arguments_fit, sound, loop_reader}
use Rattle.record.proofs.KindLaws.{loop_known}
use Rattle.record_fields.specs.Runs.{fault, run_told}
use Rattle.record_fields.proofs.FirstFaults.{fault_none, fault_next, fault_here}
use Rattle.record_check.specs.Checks.{said, checks}
use Rattle.record_check.specs.Framing.{Framed}
use Rattle.record_check.proofs.FrameWays.{refusal}
use Rattle.record_check.proofs.BodyWays.{no_counts, bad_count, bad_length, values_told, count_fits}

module _ (bytes : List ℕ) (f : Framed bytes) (is : little_at 2 bytes 4 ≡ 1) where
  the_loop : Reader
  the_loop = loop_reader bytes []

  loop_kind : kind the_loop ≡ loop
  unfolding kind kind_number loop_reader the_loop kind_of
  loop_kind = rw is

  loop_wanted : the_loop.wants (kind the_loop) ≡ true
  unfolding loop_reader the_loop is_loop
  loop_wanted = rw loop_kind

  loop_arguments : arguments_fit the_loop ≡ true
  unfolding arguments_fit is_loop
  loop_arguments = rw loop_kind

  pub loop_short : length bytes < 10 → refusal 3 0 ≡ checks (loop_reader bytes [])
  unfolding loop_reader the_loop counts widths width variable_count row_count
  loop_short h = no_counts the_loop f loop_wanted loop_arguments (rw loop_kind h)

  module _ (ten : 10 ≤ length bytes) (n : ℕ) (n_read : n ≡ little_at 2 bytes 6) where
    loop_there : 6 + widths (counts (kind the_loop)) ≤ length bytes
    unfolding counts widths width variable_count row_count
    loop_there = rw loop_kind ten

    pub loop_n : within variables (pos n) ≡ false → refusal 5 6 ≡ checks (loop_reader bytes [])
    unfolding loop_reader the_loop counts widths width variable_count row_count
    loop_n h =
        let out = count_fits variable_count bytes 6 n false refl n_read h in
        bad_count the_loop f loop_wanted loop_arguments loop_there 6 (rw loop_kind (sym (fault_here bytes variable_count (row_count ∷ []) 6 out))) (rw loop_kind (omega arith))

    module _ (n_fits : within variables (pos n) ≡ true) (m : ℕ) (m_read : m ≡ little_at 2 bytes 8) where
      past_n : fault (counts (kind the_loop)) bytes 6 ≡ fault (row_count ∷ []) bytes 8
      unfolding counts width variable_count
      past_n = rw loop_kind (fault_next bytes variable_count (row_count ∷ []) 6 (count_fits variable_count bytes 6 n true refl n_read n_fits))

      pub loop_m : within rows (pos m) ≡ false → refusal 5 8 ≡ checks (loop_reader bytes [])
      unfolding loop_reader the_loop counts widths width variable_count row_count
      loop_m h =
          let out = count_fits row_count bytes 8 m false refl m_read h in
          bad_count the_loop f loop_wanted loop_arguments loop_there 8 (sym (past_n ∙ fault_here bytes row_count [] 8 out)) (rw loop_kind (omega arith))

      module _ (m_fits : within rows (pos m) ≡ true) where
        loop_counts : fault (counts (kind the_loop)) bytes 6 ≡ 6 + widths (counts (kind the_loop))
        unfolding counts widths width variable_count row_count
        loop_counts = past_n ∙ fault_next bytes row_count [] 8 (count_fits row_count bytes 8 m true refl m_read m_fits) ∙ fault_none bytes 10 ∙ rw loop_kind

        loop_formula : 4 + length_of (kind the_loop) (counts_read the_loop) ≡ 10 + m * (4 * n + 4)
        unfolding length_of counts_read is_loop is_lasso loop_reader the_loop
        loop_formula = rw (loop_kind, n_read, m_read) (omega arith)

        pub loop_length : (length bytes ≡ 10 + m * (4 * n + 4) → ⊥) → refusal 3 0 ≡ checks (loop_reader bytes [])
        unfolding loop_reader the_loop
        loop_length h = bad_length the_loop f loop_wanted loop_arguments loop_there loop_counts (λ e. h (e ∙ loop_formula))

        loop_read : counts_read the_loop ≡ record { n = n; m = m; ms = 0 }
        unfolding counts_read is_loop is_lasso loop_reader the_loop
        loop_read = rw (loop_kind, n_read, m_read)

        loop_list : run_told (fields the_loop) bytes (list_start the_loop) ≡ run_told (rows_of n m) bytes 10
        unfolding fields list_start listed ahead layout counts is_loop widths width variable_count row_count
        loop_list = rw (loop_kind, loop_read)

        module _ (formula : length bytes ≡ 10 + m * (4 * n + 4)) where
          loop_values : first sound the_loop ≡ run_told (rows_of n m) bytes 10
          unfolding the_loop loop_reader
          loop_values =
              rw (← loop_list)
              (values_told the_loop f loop_wanted loop_arguments loop_there loop_counts (formula ∙ sym loop_formula) (loop_known _ loop_wanted))

          loop_said : said the_loop ≡ record { kind = 1; n = n; m = m; ms = 0 }
          unfolding said loop_reader the_loop kind_number
          loop_said = rw (loop_read, is)

          pub loop_out : {A : Type 0} (given : A) (e : Fault) → Err e ≡ result_of (run_told (rows_of n m) bytes 10) given → Err e ≡ checks (loop_reader bytes [])
          unfolding checks loop_reader the_loop
          loop_out given e h = rw loop_values (handed_on (run_told (rows_of n m) bytes 10) given (said the_loop) e h)

          pub loop_sound : {A : Type 0} (given x : A) → Ok x ≡ result_of (run_told (rows_of n m) bytes 10) given → Ok (record { kind = 1; n = n; m = m; ms = 0 }) ≡ checks (loop_reader bytes [])
          unfolding checks loop_reader the_loop
          loop_sound given x h = rw (loop_values, loop_said) (went_on (run_told (rows_of n m) bytes 10) given x _ h)
