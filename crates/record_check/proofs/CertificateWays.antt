-- The ways through the order for a certificate's record, over plain numbers: its kind and its arguments, and then a kind with no count in its body.
use Rattle.std.specs.Prelude.{Ok, Err}
use mathlib.Core.Path.{◌≡◌}
use Prim.Native.Nat.{ℕ, ◌+◌, ◌≤◌}
use mathlib.Core.Bool.{Bool, true, false, ◌&&◌}
use mathlib.Core.List.{List, []}
use lib.IntN.{pos}
use lib.ListN.{length}
use Rattle.endian.specs.Numbers.{little_at}
use Rattle.refusal.specs.declared.Fault.{Fault}
use Rattle.refusal.specs.Faults.{result_of}
use Rattle.refusal.specs.Tests.{first}
use Rattle.refusal.proofs.FaultLaws.{handed_on, went_on}
use Rattle.record.specs.declared.Wanted.{Wanted}
use Rattle.record.specs.Fields.{widths}
use Rattle.record.specs.Layouts.{Kind, kind_of, is_lasso, counts, layout, length_of, ahead, listed}
use Rattle.record.specs.Ranges.{variables, rows, within}
use Rattle.record.specs.Readers.{Reader, kind_number, kind, counts_read, fields, list_start, arguments_fit, sound}
use Rattle.record.specs.Wants.{wants_of}
use Rattle.record.proofs.KindLaws.{wanted_no_loop, wanted_known}
use Rattle.record_fields.specs.Runs.{fault, run_told}
use Rattle.record_fields.proofs.FirstFaults.{fault_none}
use Rattle.record_check.specs.Checks.{said, checks, certificate_check}
use Rattle.record_check.specs.Framing.{Framed}
use Rattle.record_check.proofs.FrameWays.{refusal}
use Rattle.record_check.proofs.BodyWays.{unwanted, bad_arguments, bad_length, values_told}

module _ (wanted : Wanted) (bytes : List ℕ) (n m : ℕ) (f : Framed bytes) where
  certificate : Reader
  certificate = certificate_check wanted bytes n m

  pub certificate_unwanted : wants_of wanted (kind_of (little_at 2 bytes 4)) ≡ false → refusal 4 4 ≡ checks (certificate_check wanted bytes n m)
  unfolding certificate_check certificate kind kind_number
  certificate_unwanted h = unwanted certificate f h

  module _ (k : Kind) (is : kind_of (little_at 2 bytes 4) ≡ k) (known : wants_of wanted k ≡ true) where
    kind_is : kind certificate ≡ k
    unfolding certificate_check certificate kind kind_number
    kind_is = is

    certificate_wanted : certificate.wants (kind certificate) ≡ true
    unfolding certificate_check certificate
    certificate_wanted = rw kind_is known

    argued : (b : Bool) → (within variables (pos n) && within rows (pos m)) ≡ b → arguments_fit certificate ≡ b
    unfolding arguments_fit certificate_check certificate
    argued b h = rw (kind_is, wanted_no_loop wanted k known) h

    pub certificate_arguments : (within variables (pos n) && within rows (pos m)) ≡ false → refusal 5 0 ≡ checks (certificate_check wanted bytes n m)
    unfolding certificate_check certificate
    certificate_arguments h = bad_arguments certificate f certificate_wanted (argued false h)

    -- a kind with no count in its body
    module _ (fit : (within variables (pos n) && within rows (pos m)) ≡ true) (plain : counts k ≡ []) (no_lasso : is_lasso k ≡ false) where
      plain_there : 6 + widths (counts (kind certificate)) ≤ length bytes
      unfolding widths
      plain_there = rw (kind_is, plain) f.head

      plain_counts : fault (counts (kind certificate)) bytes 6 ≡ 6 + widths (counts (kind certificate))
      unfolding widths
      plain_counts = rw (kind_is, plain) (fault_none bytes 6)

      plain_read : counts_read certificate ≡ record { n = n; m = m; ms = 0 }
      unfolding counts_read certificate_check certificate
      plain_read = rw (kind_is, wanted_no_loop wanted k known, no_lasso)

      pub plain_length : (length bytes ≡ 4 + length_of k (record { n = n; m = m; ms = 0 }) → ⊥) → refusal 3 0 ≡ checks (certificate_check wanted bytes n m)
      unfolding certificate_check certificate
      plain_length h =
          bad_length certificate f certificate_wanted (argued true fit) plain_there plain_counts (λ e. h (rw (kind_is, plain_read) at e))

      plain_list : run_told (fields certificate) bytes (list_start certificate) ≡ run_told (layout k (record { n = n; m = m; ms = 0 })) bytes 6
      unfolding fields list_start listed ahead widths
      plain_list = rw (kind_is, plain_read, wanted_no_loop wanted k known, plain)

      module _ (formula : length bytes ≡ 4 + length_of k (record { n = n; m = m; ms = 0 })) where
        plain_told : first sound certificate ≡ run_told (layout k (record { n = n; m = m; ms = 0 })) bytes 6
        unfolding certificate_check certificate
        plain_told =
            rw (← plain_list)
            (values_told certificate f certificate_wanted (argued true fit) plain_there plain_counts (rw (kind_is, plain_read) formula) (rw kind_is (wanted_known wanted k known)))

        plain_said : said certificate ≡ record { kind = little_at 2 bytes 4; n = n; m = m; ms = 0 }
        unfolding said certificate_check certificate kind_number
        plain_said = rw plain_read

        pub plain_out : {A : Type 0} (given : A) (e : Fault) → Err e ≡ result_of (run_told (layout k (record { n = n; m = m; ms = 0 })) bytes 6) given → Err e ≡ checks (certificate_check wanted bytes n m)
        unfolding checks certificate
        plain_out given e h = rw plain_told (handed_on (run_told (layout k (record { n = n; m = m; ms = 0 })) bytes 6) given (said certificate) e h)

        pub plain_sound : {A : Type 0} (given x : A) → Ok x ≡ result_of (run_told (layout k (record { n = n; m = m; ms = 0 })) bytes 6) given
            → Ok (record { kind = little_at 2 bytes 4; n = n; m = m; ms = 0 }) ≡ checks (certificate_check wanted bytes n m)
        unfolding checks certificate
        plain_sound given x h = rw (plain_told, plain_said) (went_on (run_told (layout k (record { n = n; m = m; ms = 0 })) bytes 6) given x _ h)
