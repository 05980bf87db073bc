-- What a check's answer tells of a judging's record: that it is sound, its kind and counts, or the refusal.
use Rattle.std.specs.Prelude.{Ok, Err}
use mathlib.Core.Path.{◌≡◌, refl, ap, ◌∙◌}
use Prim.Native.Nat.{ℕ}
use mathlib.Core.Bool.{Bool, true}
use mathlib.Core.List.{List, []}
use Rattle.endian.specs.Numbers.{little_at}
use Rattle.record.specs.Layouts.{Kind, kind_of, has_rank}
use Rattle.record.specs.Readers.{Reader, kind, kind_number, sound, loop_reader}
use Rattle.refusal.specs.declared.Fault.{Fault}
use Rattle.refusal.specs.Tests.{refused, first}
use Rattle.record_check.specs.Checks.{said, checks}
use Rattle.record_check.specs.declared.Checked.{Checked}
use Rattle.record_check.proofs.CheckAnswers as Answers
use Rattle.verdict.specs.Pairs.{loop_record, certificate_record}
use Rattle.judge.specs.SoundPairs.{LoopSound, CertificateSound, RankSound, LassoSound}

-- ---- the loop

module _ (loopbytes : List ℕ) where
  same_loop : checks (loop_reader loopbytes []) ≡ checks (loop_record loopbytes)
  unfolding loop_reader loop_record
  same_loop = refl

  pub loop_refused : (f : Fault) → Err f ≡ checks (loop_reader loopbytes []) → first sound (loop_record loopbytes) ≡ refused f.number f.place
  loop_refused f is = Answers.refused_so (loop_record loopbytes) f (is ∙ same_loop)

  pub loop_sound : (v : Checked) → Ok v ≡ checks (loop_reader loopbytes []) → LoopSound loopbytes v.n v.m
  unfolding said
  loop_sound v is =
      let all = Answers.accepted_is (loop_record loopbytes) v (is ∙ same_loop) in
      record { told = Answers.accepted (loop_record loopbytes) v (is ∙ same_loop); n_is = ap (λ x. x.n) all; m_is = ap (λ x. x.m) all }

-- ---- the certificate

module _ (wants : Kind → Bool) (loopbytes : List ℕ) (n m : ℕ) (l : LoopSound loopbytes n m) (certificate : List ℕ) where
  abbrev r : Reader
  r = certificate_record wants (loop_record loopbytes) certificate

  same_certificate : checks (record { bytes = certificate; wants = wants; n = n; m = m; room = 0 }) ≡ checks r
  unfolding certificate_record
  same_certificate = rw (l.n_is, l.m_is)

  pub certificate_refused : (f : Fault) → Err f ≡ checks (record { bytes = certificate; wants = wants; n = n; m = m; room = 0 }) → first sound r ≡ refused f.number f.place
  certificate_refused f is = Answers.refused_so r f (is ∙ same_certificate)

  module _ (v : Checked) (is : Ok v ≡ checks (record { bytes = certificate; wants = wants; n = n; m = m; room = 0 })) where
    all : v ≡ said r
    all = Answers.accepted_is r v (is ∙ same_certificate)

    -- its kind, by the number in its bytes, as the code knows it
    module _ (number : ℕ) (numbered : little_at 2 certificate 4 ≡ number) where
      pub sound_by : CertificateSound wants loopbytes certificate (kind_of number)
      unfolding kind kind_number certificate_record
      sound_by = record { told = Answers.accepted r v (is ∙ same_certificate); kind_is = ap kind_of numbered }

      pub rank_sound_by : has_rank (kind_of number) ≡ true → RankSound wants loopbytes certificate number v.ms
      unfolding said
      rank_sound_by ranked = record { as_kind = sound_by; ms_is = ap (λ x. x.ms) all; ranks = ranked }

    pub lasso_sound_by : little_at 2 certificate 4 ≡ 4 → LassoSound wants loopbytes certificate v.ms
    unfolding kind_of has_rank
    lasso_sound_by numbered = let s = rank_sound_by 4 numbered refl in record { as_kind = s.as_kind; ms_is = s.ms_is }
