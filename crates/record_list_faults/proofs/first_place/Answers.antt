-- Only a loop's record has fields ahead of its list, n and m.
use Rattle.record.specs.Fields.{width, widths}
use Rattle.record.specs.Layouts.{kind_of, is_loop, variable_count, row_count, counts, ahead}
use Rattle.record.proofs.KindLaws.{no_loop}
use Rattle.record_list_faults.proofs.first_place.Goals as goal

pub returns-then-kind-eq1 : goal.returns-then-kind-eq1
unfolding kind_of ahead counts is_loop widths width variable_count row_count
returns-then-kind-eq1 c = rw c.if-kind-eq1.true

pub returns-else-kind-eq1 : goal.returns-else-kind-eq1
unfolding ahead widths
returns-else-kind-eq1 c = rw (no_loop c.args.kind c.if-kind-eq1.false)
