use Rattle.std.proofs.Common.{ap, ◌∙◌, rules}
use Rattle.std.proofs.lemmas.List.Edits.{sets}
use Rattle.record.proofs.KindLaws.{other_kind}
use Rattle.record_values.proofs.ReadLists.{list_1, list_2, list_3, list_4, list_other}
use Rattle.record_values.proofs.read_list.Goals as goal

pub returns-in-1 : goal.returns-in-1
returns-in-1 c = let a = c.args in c.read_rows.ensures ∙ ap (sets a.values.now 0) (list_1 a.bytes.now a.kind _ c.in-1.is)

pub returns-in-2 : goal.returns-in-2
returns-in-2 c = let a = c.args in c.read_run.ensures ∙ ap (sets a.values.now 0) (list_2 a.bytes.now a.kind _ c.in-2.is)

pub returns-in-3 : goal.returns-in-3
returns-in-3 c = let a = c.args in c.read_exclusion.ensures ∙ ap (sets a.values.now 0) (list_3 a.bytes.now a.kind _ c.in-3.is)

pub returns-in-4 : goal.returns-in-4
returns-in-4 c = let a = c.args in c.read_lasso.ensures ∙ ap (sets a.values.now 0) (list_4 a.bytes.now a.kind _ c.in-4.is)

pub returns-in_default : goal.returns-in_default
returns-in_default c = let a = c.args in ap (sets a.values.now 0) (list_other a.bytes.now a.kind _ (other_kind a.kind (search rules) (search rules) (search rules) (search rules)))
