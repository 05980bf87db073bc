-- Every line of the table of exchanges holds: each exchanged record has the answer that stands beside it (`every_short_exchange`), and none is the
-- answer of the record itself (`no_short_exchange_unseen`), which is accepted. The records hold the values that stand beside them (`unlike_held`),
-- and the short one is what its kind 2 record is shortened to (`unlike_moved`).
use mathlib.Core.Path.{◌≡◌, refl}
use mathlib.Core.Bool.{false}
use mathlib.Core.List.{List, [], ◌∷◌, map}
use lib.IntN.{ℤ, pos}
use Rattle.record_short.specs.Conversions.{short_bytes}
use Rattle.record_short.specs.ShortRecords.{long_bytes}
use Rattle.verdict.specs.Stages.{shows}
use Rattle.verdict.specs.declared.Outcome.TheVariants.{Ranking}
use Rattle.verdict_exchanges.specs.Exchanges.{exchanged, exchange_of, answer_of, alike, told_in}
use Rattle.verdict_short.specs.Answers.{answered, rank_answered, bounded_answered}
use Rattle.verdict_short.specs.AnswersComputing.{computing}
use Rattle.verdict_short.specs.ShortContents.{loop_of, ranking_of}
use Rattle.verdict_short.specs.ShortJudging.{short_pair}
use Rattle.verdict_short_exchanges.specs.Exchanged.{short_exchanges}
use Rattle.verdict_short_exchanges.specs.UnlikeShort.{eight_rows_bytes, unlike_short_bytes, eight_rows, unlike_short}

-- a rank list of three places
abbrev three : List ℤ
three = pos 7 ∷ pos 8 ∷ pos 9 ∷ []

pub unlike_held :
    (loop_of (short_pair eight_rows_bytes unlike_short_bytes) ≡ eight_rows)
    × (ranking_of (short_pair eight_rows_bytes unlike_short_bytes) ≡ unlike_short)
unfolding computing eight_rows_bytes unlike_short_bytes eight_rows unlike_short
unlike_held = (refl, refl)

pub unlike_moved : short_bytes 8 (long_bytes 2 8 unlike_short_bytes) ≡ unlike_short_bytes
unfolding computing unlike_short_bytes
unlike_moved = refl

-- accepted, with the rank (142, 62), from 11, down 1; at (1, 1) the bound is 204 - 11 + 1
pub unlike_accepted :
    (answered eight_rows_bytes unlike_short_bytes three ≡ shows (Ranking (pos 11) (pos 1)))
    × (rank_answered eight_rows_bytes unlike_short_bytes three ≡ pos 142 ∷ pos 62 ∷ pos 9 ∷ [])
    × ((bounded_answered eight_rows_bytes unlike_short_bytes (pos 1 ∷ pos 1 ∷ [])).bound ≡ 194)
unfolding computing eight_rows_bytes unlike_short_bytes
unlike_accepted = (refl, refl, refl)

pub every_short_exchange :
    map (λ line. answered eight_rows_bytes (exchange_of line unlike_short_bytes) three) short_exchanges ≡ map answer_of short_exchanges
unfolding computing exchanged exchange_of answer_of short_exchanges eight_rows_bytes unlike_short_bytes
every_short_exchange = refl

-- ---- none has the answer of the record itself

pub no_short_exchange_unseen : told_in short_exchanges (shows (Ranking (pos 11) (pos 1))) ≡ false
unfolding computing answer_of alike told_in short_exchanges
no_short_exchange_unseen = refl
