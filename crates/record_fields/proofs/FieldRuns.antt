-- What a run of one field tells of its first number out of range, by whether all its fields fit.
use mathlib.Core.Path.{◌≡◌, refl, sym, ap, ◌∙◌}
use Prim.Native.Nat.{ℕ, zero, suc, ◌+◌, ◌*◌}
use mathlib.Core.Bool.{Bool, true, false, false≢true, ◌&&◌}
use mathlib.Core.List.{List, [], ◌∷◌}
use native.Mathlib.Numerals.{add-one}
use native.Mathlib.Omega.{arith}
use lib.ListN.{replicate, replicate-append-replicate}
use Rattle.refusal.specs.Tests.{Told, done, refused, ◌then◌}
use Rattle.refusal.proofs.TestLaws.{either, never, both_true, true_both}
use Rattle.record.specs.Fields.{width, Field, widths}
use Rattle.record.proofs.Lengths.{widths_replicate}
use Rattle.record_fields.specs.Runs.{fits, all_fit, run_told}
use Rattle.record_fields.proofs.ToldFaults.{run_told-none, run_told-append, run_told-fits, run_told-out}

-- the bytes of one
pub one_wide : (f : Field) (wide : ℕ) → width f.form ≡ wide → widths (f ∷ []) ≡ wide
unfolding widths
one_wide f wide sized = omega arith

module _ (f : Field) (bytes : List ℕ) (place : ℕ) where
  pub all_fit-none : true ≡ all_fit f bytes place 0
  unfolding all_fit
  all_fit-none = refl

  pub all_fit-more : (k wide : ℕ) {all here : Bool} → width f.form ≡ wide → all ≡ all_fit f bytes place k → here ≡ fits f bytes (place + wide * k)
      → (all && here) ≡ all_fit f bytes place (k + 1)
  unfolding all_fit
  all_fit-more k wide sized so_far one = rw (so_far, one, ← sized, add-one k) refl

  -- the last of them
  last_told : (k : ℕ) → run_told (replicate (suc k) f) bytes place ≡ (run_told (replicate k f) bytes place then run_told (f ∷ []) bytes (place + width f.form * k))
  last_told k =
      let end : place + widths (replicate k f) ≡ place + width f.form * k = omega (arith, widths_replicate k f) in
      ap (λ fs. run_told fs bytes place) (ap (λ n. replicate n f) (sym (add-one k)) ∙ sym (replicate-append-replicate k 1 f))
      ∙ run_told-append bytes (replicate k f) (f ∷ []) place
      ∙ ap (λ p. run_told (replicate k f) bytes place then run_told (f ∷ []) bytes p) end

-- all fit
pub run_told-all : (f : Field) (bytes : List ℕ) (place count : ℕ) → all_fit f bytes place count ≡ true → run_told (replicate count f) bytes place ≡ done
unfolding all_fit ◌then◌
run_told-all f bytes place zero h = run_told-none bytes place
run_told-all f bytes place (suc k) h =
    let both = both_true (all_fit f bytes place k) (fits f bytes (place + width f.form * k)) h in
    last_told f bytes place k ∙ rw (run_told-all f bytes place k both.0) (run_told-fits bytes f _ both.1)

-- and one in which some field does not
then_done : (t u : Told) → (t then u) ≡ done → (t ≡ done) × (u ≡ done)
unfolding ◌then◌
then_done done u h = (refl, h)
then_done (refused k p) u h = absurd (never h)

pub run_told-not_all : (f : Field) (bytes : List ℕ) (place count : ℕ) → all_fit f bytes place count ≡ false → run_told (replicate count f) bytes place ≡ done → ⊥
unfolding all_fit
run_told-not_all f bytes place zero h e = false≢true (sym h)
run_told-not_all f bytes place (suc k) h e =
    let both = then_done _ _ (sym (last_told f bytes place k) ∙ e) in
    either (all_fit f bytes place k)
    (λ fit.
    either (fits f bytes (place + width f.form * k))
    (λ here. false≢true (sym h ∙ true_both _ _ fit here))
    (λ out. never (sym (run_told-out bytes f (place + width f.form * k) out) ∙ both.1)))
    (λ out. run_told-not_all f bytes place k out both.0)
