-- One name that opens every definition of the sheet's text, so that a sample is proved by computing it.
use Rattle.decimal.specs.Decimals as Decimals
use Rattle.record_short.specs.ShortComputing as Shorts
use Rattle.verdict.specs.Computing as Verdicts
use Rattle.verdict_short.specs.ShortJudging as ShortJudging
use Rattle.sheet_lines.specs.VerdictLines as VerdictLines
use Rattle.sheet_lines.specs.Words as Words
use Rattle.record_parting.specs.Parting as Parting
use Rattle.sheet_text.specs.Sheets as Sheets

unfoldable pub computing : Unit {0}
unfolding
    Verdicts.computing Shorts.computing ShortJudging.variables_of ShortJudging.rows_for ShortJudging.long_of
    ShortJudging.short_records ShortJudging.short_judged ShortJudging.short_ranked ShortJudging.of_short
    ShortJudging.judged_or_short ShortJudging.ranked_or_short Decimals.figures Decimals.decimal Decimals.signed_decimal Words.bytes
    Words.line Parting.stated Parting.whole_first Parting.taken Parting.first_record Parting.after_first Parting.up_to
    Parting.records VerdictLines.rank_words VerdictLines.outcome_words VerdictLines.verdict_line Sheets.lent Sheets.variables_in
    Sheets.rows_in Sheets.certificate_line Sheets.lines Sheets.judged Sheets.sheet_text
computing = tt
