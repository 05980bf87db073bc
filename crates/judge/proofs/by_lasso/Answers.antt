-- `judge::by_lasso` meets its contract: the record's body is checked, then judged.
use Rattle.std.proofs.Common.{◌∙◌, refl, sym}
use Rattle.record.specs.Layouts.{lasso, kind_of}
use Rattle.record.specs.Wants.{wants_of}
use Rattle.judge.proofs.ByKind.{all_kinds, body_refused, body_lasso}
use Rattle.judge.proofs.Framing.{counts_fit}
use Rattle.judge.proofs.by_lasso.Goals as goal

pub lasso_record-requires : goal.lasso_record-requires
lasso_record-requires c = counts_fit _ _ _ c.args.looped.sound

pub lasso_sound-requires : goal.lasso_sound-requires
unfolding kind_of wants_of
lasso_sound-requires c =
    let a = c.args in
    body_lasso _ _ _ a.looped.sound a.certificate.bytes.now lasso c.lasso_record.result c.lasso_record.ensures all_kinds refl c.in-Ok.checked (sym c.in-Ok.is) c.args.certificate.numbered

pub returns-in-Err : goal.returns-in-Err
unfolding wants_of
returns-in-Err c =
    let a = c.args in
    let told = body_refused _ _ _ a.looped.sound a.certificate.bytes.now lasso c.lasso_record.result c.lasso_record.ensures refl c.in-Err.fault (sym c.in-Err.is) c.args.rank.now in
    (c.refused.ensures ∙ told.0, told.1)
