use Rattle.std.proofs.Common.{ap, ◌∙◌, rules}
use Rattle.std.proofs.lemmas.List.Edits.{sets}
use Rattle.record.proofs.KindLaws.{other_kind}
use Rattle.record_fill.proofs.BodyBytes.{bytes_1, bytes_2, bytes_3, bytes_4, bytes_other, fit_1, fit_2, fit_3}
use Rattle.record_fill.proofs.write_body.Goals as goal

pub write_loop-requires-clause-fit : goal.write_loop-requires-clause-fit
write_loop-requires-clause-fit c = let a = c.args in fit_1 a.kind _ a.values.now c.requires.fitting.fit c.in-1.is

pub returns-in-1 : goal.returns-in-1
returns-in-1 c = let a = c.args in c.write_loop.ensures ∙ ap (sets a.body.now 0) (bytes_1 a.kind _ a.values.now c.in-1.is)

pub write_run-requires-clause-held : goal.write_run-requires-clause-held
write_run-requires-clause-held c = let a = c.args in fit_2 a.kind _ a.values.now c.requires.fitting.fit c.in-2.is

pub returns-in-2 : goal.returns-in-2
returns-in-2 c = let a = c.args in c.write_run.ensures ∙ ap (sets a.body.now 0) (bytes_2 a.kind _ a.values.now c.in-2.is)

pub write_exclusion-requires-clause-fit : goal.write_exclusion-requires-clause-fit
write_exclusion-requires-clause-fit c = let a = c.args in fit_3 a.kind _ a.values.now c.requires.fitting.fit c.in-3.is

pub returns-in-3 : goal.returns-in-3
returns-in-3 c = let a = c.args in c.write_exclusion.ensures ∙ ap (sets a.body.now 0) (bytes_3 a.kind _ a.values.now c.in-3.is)

pub returns-in-4 : goal.returns-in-4
returns-in-4 c = let a = c.args in c.write_lasso.ensures ∙ ap (sets a.body.now 0) (bytes_4 a.kind _ a.values.now c.in-4.is)

pub returns-in_default : goal.returns-in_default
returns-in_default c =
    let a = c.args in
    ap (sets a.body.now 0) (bytes_other a.kind _ a.values.now (other_kind a.kind (search rules) (search rules) (search rules) (search rules)))
