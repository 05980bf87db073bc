-- `judge::by_ranking` meets its contract: the record's body is checked, then judged.
use Rattle.std.proofs.Common.{◌∙◌, refl, sym}
use Rattle.record.specs.Layouts.{ranking, kind_of}
use Rattle.record.specs.Wants.{wants_of}
use Rattle.judge.proofs.ByKind.{all_kinds, body_refused, body_sound}
use Rattle.judge.proofs.Framing.{counts_fit}
use Rattle.judge.proofs.by_ranking.Goals as goal

pub ranking_record-requires : goal.ranking_record-requires
ranking_record-requires c = counts_fit _ _ _ c.args.looped.sound

pub ranking_sound-requires : goal.ranking_sound-requires
unfolding kind_of wants_of
ranking_sound-requires c =
    let a = c.args in
    body_sound _ _ _ a.looped.sound a.certificate.bytes.now ranking c.ranking_record.result c.ranking_record.ensures all_kinds refl c.in-Ok.field-0 (sym c.in-Ok.is) 2 c.args.certificate.numbered

pub returns-in-Err : goal.returns-in-Err
unfolding wants_of
returns-in-Err c =
    let a = c.args in
    let told = body_refused _ _ _ a.looped.sound a.certificate.bytes.now ranking c.ranking_record.result c.ranking_record.ensures refl c.in-Err.fault (sym c.in-Err.is) c.args.rank.now in
    (c.refused.ensures ∙ told.0, told.1)
