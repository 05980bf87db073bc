-- The ways through the order for a record of kind 4, over plain numbers: what a check answers at each return after the arguments.
use Rattle.std.specs.Prelude.{Ok, Err}
use mathlib.Core.Path.{◌≡◌, refl, sym, ◌∙◌}
use Prim.Native.Nat.{ℕ, ◌+◌, ◌≤◌, ◌<◌}
use mathlib.Core.Bool.{true, false, ◌&&◌}
use mathlib.Core.List.{List, []}
use native.Mathlib.Omega.{arith}
use lib.IntN.{pos}
use lib.ListN.{length}
use Rattle.endian.specs.Numbers.{little_at}
use Rattle.refusal.specs.declared.Fault.{Fault}
use Rattle.refusal.specs.Faults.{result_of}
use Rattle.refusal.specs.Tests.{first}
use Rattle.refusal.proofs.FaultLaws.{handed_on, went_on}
use Rattle.record.specs.declared.Wanted.{Wanted}
use Rattle.record.specs.Fields.{width, widths}
use Rattle.record.specs.Layouts.{lasso, kind_of, is_loop, is_lasso, is_known, row_count, counts, layout, length_of, ahead, listed}
use Rattle.record.specs.Ranges.{variables, rows, within}
use Rattle.record.specs.Readers.{Reader, kind_number, kind, counts_read, fields, list_start, arguments_fit, sound}
use Rattle.record.specs.Wants.{wants_of}
use Rattle.record_fields.specs.Runs.{fits, fault, run_told}
use Rattle.record_fields.proofs.FirstFaults.{fault_none, fault_next, fault_here}
use Rattle.record_fields.proofs.ToldFaults.{run_told-next}
use Rattle.record_check.specs.Checks.{said, checks, certificate_check}
use Rattle.record_check.specs.Framing.{Framed}
use Rattle.record_check.proofs.FrameWays.{refusal}
use Rattle.record_check.proofs.BodyWays.{no_counts, bad_count, bad_length, values_told, count_fits}

module _ (wanted : Wanted) (bytes : List ℕ) (n m : ℕ) (f : Framed bytes) (is : little_at 2 bytes 4 ≡ 4) (known : wants_of wanted lasso ≡ true)
    (fit : (within variables (pos n) && within rows (pos m)) ≡ true) where
  certificate : Reader
  certificate = certificate_check wanted bytes n m

  lasso_kind : kind certificate ≡ lasso
  unfolding certificate_check certificate kind kind_number kind_of
  lasso_kind = rw is

  lasso_wanted : certificate.wants (kind certificate) ≡ true
  unfolding certificate_check certificate
  lasso_wanted = rw lasso_kind known

  lasso_arguments : arguments_fit certificate ≡ true
  unfolding arguments_fit certificate_check certificate is_loop
  lasso_arguments = rw lasso_kind fit

  pub lasso_short : length bytes < 8 → refusal 3 0 ≡ checks (certificate_check wanted bytes n m)
  unfolding certificate_check certificate counts widths width row_count
  lasso_short h = no_counts certificate f lasso_wanted lasso_arguments (rw lasso_kind h)

  module _ (eight : 8 ≤ length bytes) (ms : ℕ) (ms_read : ms ≡ little_at 2 bytes 6) where
    lasso_there : 6 + widths (counts (kind certificate)) ≤ length bytes
    unfolding counts widths width row_count
    lasso_there = rw lasso_kind eight

    pub lasso_ms : within rows (pos ms) ≡ false → refusal 5 6 ≡ checks (certificate_check wanted bytes n m)
    unfolding certificate_check certificate counts widths width row_count
    lasso_ms h =
        let out = count_fits row_count bytes 6 ms false refl ms_read h in
        bad_count certificate f lasso_wanted lasso_arguments lasso_there 6 (rw lasso_kind (sym (fault_here bytes row_count [] 6 out))) (rw lasso_kind (omega arith))

    module _ (ms_fits : within rows (pos ms) ≡ true) where
      ms_in : fits row_count bytes 6 ≡ true
      unfolding row_count
      ms_in = count_fits row_count bytes 6 ms true refl ms_read ms_fits

      lasso_counts : fault (counts (kind certificate)) bytes 6 ≡ 6 + widths (counts (kind certificate))
      unfolding counts widths width row_count
      lasso_counts = rw lasso_kind (fault_next bytes row_count [] 6 ms_in ∙ fault_none bytes 8)

      lasso_read : counts_read certificate ≡ record { n = n; m = m; ms = ms }
      unfolding counts_read is_loop is_lasso certificate_check certificate
      lasso_read = rw (lasso_kind, ms_read)

      lasso_list : run_told (fields certificate) bytes (list_start certificate) ≡ run_told (layout lasso (record { n = n; m = m; ms = ms })) bytes 8
      unfolding fields list_start listed ahead counts is_loop widths width row_count
      lasso_list = rw (lasso_kind, lasso_read) (run_told-next bytes row_count (layout lasso (record { n = n; m = m; ms = ms })) 6 ms_in)

      pub lasso_length : (length bytes ≡ 4 + length_of lasso (record { n = n; m = m; ms = ms }) → ⊥) → refusal 3 0 ≡ checks (certificate_check wanted bytes n m)
      unfolding certificate_check certificate
      lasso_length h = bad_length certificate f lasso_wanted lasso_arguments lasso_there lasso_counts (λ e. h (rw (lasso_kind, lasso_read) at e))

      module _ (formula : length bytes ≡ 4 + length_of lasso (record { n = n; m = m; ms = ms })) where
        lasso_values : first sound certificate ≡ run_told (layout lasso (record { n = n; m = m; ms = ms })) bytes 8
        unfolding certificate_check certificate is_known
        lasso_values =
            rw (← lasso_list)
            (values_told certificate f lasso_wanted lasso_arguments lasso_there lasso_counts (rw (lasso_kind, lasso_read) formula) (rw lasso_kind))

        lasso_said : said certificate ≡ record { kind = 4; n = n; m = m; ms = ms }
        unfolding said certificate_check certificate kind_number
        lasso_said = rw (lasso_read, is)

        pub lasso_out : {A : Type 0} (given : A) (e : Fault) → Err e ≡ result_of (run_told (layout lasso (record { n = n; m = m; ms = ms })) bytes 8) given → Err e ≡ checks (certificate_check wanted bytes n m)
        unfolding checks certificate
        lasso_out given e h = rw lasso_values (handed_on (run_told (layout lasso (record { n = n; m = m; ms = ms })) bytes 8) given (said certificate) e h)

        pub lasso_sound : {A : Type 0} (given x : A) → Ok x ≡ result_of (run_told (layout lasso (record { n = n; m = m; ms = ms })) bytes 8) given → Ok (record { kind = 4; n = n; m = m; ms = ms }) ≡ checks (certificate_check wanted bytes n m)
        unfolding checks certificate
        lasso_sound given x h = rw (lasso_values, lasso_said) (went_on (run_told (layout lasso (record { n = n; m = m; ms = ms })) bytes 8) given x _ h)
