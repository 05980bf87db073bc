-- `record_given::counts` meets its contract: the kind number decides.
use Rattle.std.proofs.Common.{◌≡◌, ℕ, ◌≤◌, refl, ◌∙◌, [], arith}
use lib.Dec.{eqb}
use borrow.Author.Tests.{eqb-true, eqb-false}
use Rattle.refusal.proofs.TestLaws.{either}
use Rattle.record.specs.Layouts.{kind_of, is_loop, is_lasso}
use Rattle.record.specs.Wants.{kinds_written}
use Rattle.record.specs.Writers.{kind, writer}
use Rattle.record.proofs.KindLaws.{other_kind}
use Rattle.record_given.specs.Settled.{counted}
use Rattle.record_given.proofs.CountingWays.{unknown}
use Rattle.record_given.proofs.counts.Goals as goal

two_or_three : (P : ℕ → Type 0) (k : ℕ) → 2 ≤ k → k ≤ 3 → P 2 → P 3 → P k
two_or_three P k low high two three =
    either (eqb k 2) (λ e. rw (eqb-true k 2 e) two) (λ e. let no_two = eqb-false k 2 e in let is_three : k ≡ 3 = omega arith in rw is_three three)

pub returns-in-2 : goal.returns-in-2
unfolding writer kind kind_of kinds_written is_loop is_lasso
returns-in-2 c =
    let a = c.args in
    let plain = c.plain_counts in
    two_or_three (λ k. plain.result ≡ counted (writer k a.n a.m a.values.now [])) a.kind (omega arith) (omega arith)
    (plain.ensures (writer 2 a.n a.m a.values.now []) refl refl refl refl refl) (plain.ensures (writer 3 a.n a.m a.values.now []) refl refl refl refl refl)

pub returns-in_default : goal.returns-in_default
unfolding writer kind kinds_written
returns-in_default c =
    let a = c.args in
    let other = other_kind a.kind (λ h. omega arith) (λ h. omega arith) (λ h. omega arith) (λ h. omega arith) in
    c.refused.ensures ∙ unknown (writer a.kind a.n a.m a.values.now []) (rw other)
