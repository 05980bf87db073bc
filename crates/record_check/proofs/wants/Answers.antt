-- `record_check::wants` meets its contract.
use Rattle.std.proofs.Common.{sym, arith}
use Rattle.record.specs.Layouts.{kind_of}
use Rattle.record.specs.Wants.{wants_of}
use Rattle.record.proofs.KindLaws.{unwanted_kind}
use Rattle.record_check.proofs.wants.Goals as goal

pub returns-in-2 : goal.returns-in-2
unfolding wants_of kind_of
returns-in-2 c = rw c.in-2.is

pub returns-in-3 : goal.returns-in-3
unfolding wants_of kind_of
returns-in-3 c = rw c.in-3.is

pub returns-in-4 : goal.returns-in-4
unfolding wants_of kind_of
returns-in-4 c = rw c.in-4.is

pub returns-in_default : goal.returns-in_default
returns-in_default c = sym (unwanted_kind _ _ (λ e. absurd (omega arith)) (λ e. absurd (omega arith)) (λ e. absurd (omega arith)))
