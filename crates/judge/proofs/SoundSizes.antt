-- What sound records give the conditions' code: their kinds, their counts within the limits, and that every part lies within the bytes.
use mathlib.Core.Path.{◌≡◌, refl, sym, ◌∙◌}
use Prim.Native.Nat.{ℕ, ◌+◌, ◌*◌, ◌≤◌}
use mathlib.Core.Bool.{Bool, false}
use mathlib.Core.List.{List}
use native.Mathlib.Omega.{arith}
use lib.ListN.{length}
use Rattle.record.specs.Layouts.{Kind, loop, ranking, exclusion, lasso, is_loop, length_of}
use Rattle.record.specs.Readers.{Reader, kind, counts_read, stated_length}
use Rattle.record.proofs.KindLaws.{loop_only}
use Rattle.record.proofs.SoundRecords.{Sound, sound_says, arguments_read, counts_small}
use Rattle.judge_sums.specs.Places.{RowsIn, MultipliersIn}
use Rattle.judge_lasso.specs.LassoHeld.{LassoIn}
use Rattle.verdict.specs.Pairs.{loop_record, certificate_record}
use Rattle.judge.specs.SoundPairs.{first_row, LoopSound, CertificateSound}

-- ---- the loop

module _ (loopbytes : List ℕ) (n m : ℕ) (l : LoopSound loopbytes n m) where
  pub loop_says : Sound (loop_record loopbytes)
  loop_says = sound_says (loop_record loopbytes) l.told

  pub loop_kind : kind (loop_record loopbytes) ≡ loop
  unfolding loop_record
  loop_kind = loop_only (kind (loop_record loopbytes)) loop_says.wanted

  pub n_few : n ≤ 16
  n_few = omega (arith, l.n_is, (counts_small (loop_record loopbytes) loop_says).0)

  pub m_few : m ≤ 64
  m_few = omega (arith, l.m_is, (counts_small (loop_record loopbytes) loop_says).1)

  loop_long : length loopbytes ≡ 10 + m * (4 * n + 4)
  unfolding loop_record length_of
  loop_long =
      let formula : stated_length (loop_record loopbytes) ≡ 6 + m * (4 * n + 4) = rw (loop_kind, ← l.n_is, ← l.m_is) at loop_says.formula in
      omega (arith, loop_says.whole, formula)

  pub rows_in : RowsIn loopbytes first_row n m
  rows_in = record { inside = omega (arith, loop_long); few = omega (arith, m_few); narrow = omega (arith, n_few) }

  -- ---- the certificate

  module _ (wants : Kind → Bool) (certificate : List ℕ) (k : Kind) (c : CertificateSound wants loopbytes certificate k) (no_loop : is_loop k ≡ false) where
    abbrev record_of : Reader
    record_of = certificate_record wants (loop_record loopbytes) certificate

    certificate_says : Sound record_of
    certificate_says = sound_says record_of c.told

    -- its counts are the loop's
    pub counts_are : ((counts_read record_of).n ≡ n) × ((counts_read record_of).m ≡ m)
    unfolding certificate_record
    counts_are =
        let same = arguments_read record_of (rw c.kind_is no_loop) in
        (same.0 ∙ sym l.n_is, same.1 ∙ sym l.m_is)

    pub ms_few : (counts_read record_of).ms ≤ 64
    ms_few = (counts_small record_of certificate_says).2

    -- L by its formula
    certificate_long : length certificate ≡ 4 + length_of k (counts_read record_of)
    unfolding certificate_record
    certificate_long =
        let formula : stated_length record_of ≡ length_of k (counts_read record_of) = rw c.kind_is at certificate_says.formula in
        omega (arith, certificate_says.whole, formula)

pub ranking_long : (loopbytes : List ℕ) (n m : ℕ) (l : LoopSound loopbytes n m) (wants : Kind → Bool) (certificate : List ℕ) → CertificateSound wants loopbytes certificate ranking → MultipliersIn certificate (6 + 2 * m) m
unfolding is_loop length_of
ranking_long loopbytes n m l wants certificate c =
    let counts = counts_are loopbytes n m l wants certificate ranking c refl in
    omega (arith, rw counts.1 at (certificate_long loopbytes n m l wants certificate ranking c refl))

pub exclusion_long : (loopbytes : List ℕ) (n m : ℕ) (l : LoopSound loopbytes n m) (wants : Kind → Bool) (certificate : List ℕ) → CertificateSound wants loopbytes certificate exclusion → 8 + 12 * n ≤ length certificate
unfolding is_loop length_of
exclusion_long loopbytes n m l wants certificate c =
    let counts = counts_are loopbytes n m l wants certificate exclusion c refl in
    omega (arith, rw counts.0 at (certificate_long loopbytes n m l wants certificate exclusion c refl))

pub lasso_long : (loopbytes : List ℕ) (n m ms : ℕ) (l : LoopSound loopbytes n m) (wants : Kind → Bool) (certificate : List ℕ) → CertificateSound wants loopbytes certificate lasso
    → ms ≡ (counts_read (certificate_record wants (loop_record loopbytes) certificate)).ms → LassoIn certificate n m ms
unfolding is_loop length_of
lasso_long loopbytes n m ms l wants certificate c ms_is =
    let counts = counts_are loopbytes n m l wants certificate lasso c refl in
    let long = rw (counts.0, counts.1, ← ms_is) at (certificate_long loopbytes n m l wants certificate lasso c refl) in
    record {
      n_few = n_few loopbytes n m l;
      m_few = m_few loopbytes n m l;
      ms_few = omega (arith, ms_is, ms_few loopbytes n m l wants certificate lasso c refl);
      inside = omega (arith, long);
    }
