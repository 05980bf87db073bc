-- `record_short_write::lengthened` meets its contract.
use Rattle.std.proofs.Common.{◌≡◌, ◌∙◌, sym, arith, rules, Err, ◌≤◌}
use Rattle.refusal.specs.Tests.{done, first}
use Rattle.refusal.proofs.FaultLaws.{told_done}
use Rattle.record.proofs.CountLimits.{rows_most}
use Rattle.record_paths.specs.PathFields.{bytes_alone}
use Rattle.record_short.specs.ShortRecords.{sound_short}
use Rattle.record_short.proofs.ShortSound.{short_sound}
use Rattle.record_short_write.proofs.ConversionWays.{sound_lengthens, unsound_short, long_refused, long_written}
use Rattle.record_short_write.proofs.lengthened.Goals as goal

pub returns-in_err-check_short-clause-value : goal.returns-in_err-check_short-clause-value
returns-in_err-check_short-clause-value c =
    let a = c.args in
    let e : c.from_residual.result ≡ Err c.in_err-check_short.field-0.0 = search rules in
    e ∙ (unsound_short a.bytes.now a.n a.m a.room.now c.in_err-check_short.field-0.0 (sym c.in_err-check_short.was ∙ c.check_short.ensures)).0

pub returns-in_err-check_short-clause-left : goal.returns-in_err-check_short-clause-left
returns-in_err-check_short-clause-left c =
    let a = c.args in
    (unsound_short a.bytes.now a.n a.m a.room.now c.in_err-check_short.field-0.0 (sym c.in_err-check_short.was ∙ c.check_short.ensures)).1

-- where the record is sound
sound : (c : goal.In_ok-check_short) → first (sound_short c.args.n c.args.m) (bytes_alone c.args.bytes.now) ≡ done
sound c = told_done (first (sound_short c.args.n c.args.m) (bytes_alone c.args.bytes.now)) tt tt (sym c.in_ok-check_short.was ∙ c.check_short.ensures)

few_rows : (c : goal.In_ok-check_short) → c.args.m ≤ 64
few_rows c = rows_most c.args.m (short_sound c.args.n c.args.m c.args.bytes.now (sound c)).m_fits

pub overflow_mul-long : goal.overflow_mul-long
overflow_mul-long c = omega (arith, few_rows c)

pub overflow_add-long : goal.overflow_add-long
overflow_add-long c = omega (arith, few_rows c)

pub returns-then-room-long-clause-value : goal.returns-then-room-long-clause-value
returns-then-room-long-clause-value c =
    let a = c.args in
    let told = told_done (first (sound_short a.n a.m) (bytes_alone a.bytes.now)) tt tt (sym c.in_ok-check_short.was ∙ c.check_short.ensures) in
    c.refused.ensures ∙ (long_refused a.bytes.now a.n a.m a.room.now told c.if-room-long.true).0

pub returns-then-room-long-clause-left : goal.returns-then-room-long-clause-left
returns-then-room-long-clause-left c =
    let a = c.args in
    let told = told_done (first (sound_short a.n a.m) (bytes_alone a.bytes.now)) tt tt (sym c.in_ok-check_short.was ∙ c.check_short.ensures) in
    (long_refused a.bytes.now a.n a.m a.room.now told c.if-room-long.true).1

pub lengthen_into-requires-clause-sound : goal.lengthen_into-requires-clause-sound
lengthen_into-requires-clause-sound c =
    let a = c.args in
    let told = told_done (first (sound_short a.n a.m) (bytes_alone a.bytes.now)) tt tt (sym c.in_ok-check_short.was ∙ c.check_short.ensures) in
    sound_lengthens a.n a.m a.bytes.now (short_sound a.n a.m a.bytes.now told)

pub returns-clause-value : goal.returns-clause-value
returns-clause-value c =
    let a = c.args in
    let told = told_done (first (sound_short a.n a.m) (bytes_alone a.bytes.now)) tt tt (sym c.in_ok-check_short.was ∙ c.check_short.ensures) in
    (long_written a.bytes.now a.n a.m a.room.now told c.if-room-long.false _ (c.lengthen_into.ensures a.n)).0

pub returns-clause-left : goal.returns-clause-left
returns-clause-left c =
    let a = c.args in
    let told = told_done (first (sound_short a.n a.m) (bytes_alone a.bytes.now)) tt tt (sym c.in_ok-check_short.was ∙ c.check_short.ensures) in
    (long_written a.bytes.now a.n a.m a.room.now told c.if-room-long.false _ (c.lengthen_into.ensures a.n)).1
