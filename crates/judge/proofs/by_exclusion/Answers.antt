-- `judge::by_exclusion` meets its contract: the record's body is checked, then judged.
use Rattle.std.proofs.Common.{◌∙◌, refl, sym}
use Rattle.record.specs.Layouts.{exclusion, kind_of}
use Rattle.record.specs.Wants.{wants_of}
use Rattle.judge.proofs.ByKind.{all_kinds, body_refused, body_sound}
use Rattle.judge.proofs.Framing.{counts_fit}
use Rattle.judge.proofs.by_exclusion.Goals as goal

pub exclusion_record-requires : goal.exclusion_record-requires
exclusion_record-requires c = counts_fit _ _ _ c.args.looped.sound

pub exclusion_sound-requires : goal.exclusion_sound-requires
unfolding kind_of wants_of
exclusion_sound-requires c =
    let a = c.args in
    body_sound _ _ _ a.looped.sound a.certificate.bytes.now exclusion c.exclusion_record.result c.exclusion_record.ensures all_kinds refl c.in-Ok.field-0 (sym c.in-Ok.is) 3 c.args.certificate.numbered

pub returns-in-Err : goal.returns-in-Err
unfolding wants_of
returns-in-Err c lent =
    let a = c.args in
    let told = body_refused _ _ _ a.looped.sound a.certificate.bytes.now exclusion c.exclusion_record.result c.exclusion_record.ensures refl c.in-Err.fault (sym c.in-Err.is) lent in
    (c.refused.ensures ∙ told.0, told.1)
