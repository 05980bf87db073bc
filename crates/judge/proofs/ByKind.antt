-- A certificate whose kind is known, as code meets it: what the check of its body answers is what judging and bound are told of the record.
use Rattle.std.specs.Prelude.{Result, Ok, Err}
use mathlib.Core.Path.{◌≡◌, ◌∙◌}
use Prim.Native.Nat.{ℕ}
use mathlib.Core.Bool.{true}
use mathlib.Core.List.{List}
use lib.IntN.{ℤ}
use Rattle.endian.specs.Numbers.{little_at}
use Rattle.record.specs.declared.Wanted.{Wanted}
use Rattle.record.specs.Layouts.{Kind, kind_of}
use Rattle.record.specs.Readers.{sound}
use Rattle.record.specs.Wants.{wants_of}
use Rattle.refusal.specs.declared.Fault.{Fault}
use Rattle.refusal.specs.Tests.{refused, first}
use Rattle.record_check.specs.Checks.{checks, certificate_check, Answers}
use Rattle.record_check.specs.declared.Checked.{Checked}
use Rattle.verdict.specs.Judging.{judges, rank_after, judge_of, certificates_judged}
use Rattle.verdict.specs.Pairs.{loop_record, certificate_record}
use Rattle.verdict.specs.Stages.{refusal_of}
use Rattle.judge.specs.SoundPairs.{LoopSound, CertificateSound, LassoSound}
use Rattle.judge.proofs.Entered.{certificate_refused, sound_by, lasso_sound_by}
use Rattle.judge.proofs.JudgingWays.{refused_so, at_certificate}

-- the kinds of the base
abbrev pub all_kinds : Wanted
all_kinds = record { ranking = true; exclusion = true; lasso = true }

module _ (loopbytes : List ℕ) (n m : ℕ) (l : LoopSound loopbytes n m) (certificate : List ℕ) (k : Kind) (answer : Result Checked Fault)
    (is : Answers k certificate n m answer) (wanted : Wanted) (known : wants_of wanted k ≡ true) where
  as_checked : answer ≡ checks (record { bytes = certificate; wants = wants_of wanted; n = n; m = m; room = 0 })
  unfolding certificate_check
  as_checked = is wanted known

  -- its body is refused
  pub body_told : (f : Fault) → Err f ≡ answer → first sound (certificate_record (wants_of wanted) (loop_record loopbytes) certificate) ≡ refused f.number f.place
  body_told f so = certificate_refused (wants_of wanted) loopbytes n m l certificate f (so ∙ as_checked)

  -- it is sound
  module _ (v : Checked) (so : Ok v ≡ answer) where
    pub body_sound : (number : ℕ) → little_at 2 certificate 4 ≡ number → CertificateSound (wants_of wanted) loopbytes certificate (kind_of number)
    body_sound number numbered = sound_by (wants_of wanted) loopbytes n m l certificate v (so ∙ as_checked) number numbered

    pub body_lasso : little_at 2 certificate 4 ≡ 4 → LassoSound (wants_of wanted) loopbytes certificate v.ms
    body_lasso numbered = lasso_sound_by (wants_of wanted) loopbytes n m l certificate v (so ∙ as_checked) numbered

-- in judging
pub body_refused : (loopbytes : List ℕ) (n m : ℕ) (l : LoopSound loopbytes n m) (certificate : List ℕ) (k : Kind) (answer : Result Checked Fault)
    → Answers k certificate n m answer → certificates_judged k ≡ true → (f : Fault) → Err f ≡ answer → (lent : List ℤ)
    → (refusal_of 2 f.number f.place ≡ judges (judge_of loopbytes certificate lent)) × (lent ≡ rank_after (judge_of loopbytes certificate lent) lent)
unfolding judge_of
body_refused loopbytes n m l certificate k answer is known f so lent =
    let j = judge_of loopbytes certificate lent in
    let told = body_told loopbytes n m l certificate k answer is all_kinds known f so in
    refused_so j lent 2 f.number f.place (at_certificate j l.told _ _ told)
