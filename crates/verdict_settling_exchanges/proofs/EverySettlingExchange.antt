-- Every line of the table of exchanges holds: each exchanged record has the answer that stands beside it (`every-..-exchange`), and none is the answer
-- of the record itself (`no_settling_exchange_unseen`), which is accepted. The records hold the values that stand beside them (`unlike_held`).
use mathlib.Core.Path.{◌≡◌, refl}
use mathlib.Core.Bool.{false}
use mathlib.Core.List.{List, [], ◌∷◌, map}
use lib.IntN.{ℤ, pos}
use Rattle.verdict.specs.Samples.{−}
use Rattle.verdict.specs.Stages.{shows}
use Rattle.verdict.specs.declared.Outcome.TheVariants.{Settling}
use Rattle.verdict_exchanges.specs.Exchanges.{exchanged, exchange_of, answer_of, alike, told_in}
use Rattle.verdict_settling.specs.AnswersByKind.{pair_of, judged_by_kind, rank_by_kind, bounded_by_kind}
use Rattle.verdict_settling.specs.AnswersComputing.{computing}
use Rattle.verdict_settling.specs.SettlingJudging.{loop_of, settling_of}
use Rattle.verdict_settling_exchanges.specs.Exchanged.{settled_loop_exchanges, settling_exchanges}
use Rattle.verdict_settling_exchanges.specs.UnlikeSettling.{unlike_loop_bytes, unlike_settling_bytes, unlike_rows, unlike_parts}

-- a rank list of three places
abbrev three : List ℤ
three = pos 7 ∷ pos 8 ∷ pos 9 ∷ []

pub unlike_held :
    (loop_of (pair_of unlike_loop_bytes unlike_settling_bytes) ≡ unlike_rows)
    × (settling_of (pair_of unlike_loop_bytes unlike_settling_bytes) ≡ unlike_parts)
unfolding computing unlike_loop_bytes unlike_settling_bytes unlike_rows unlike_parts
unlike_held = (refl, refl)

-- accepted, with the rank (22, -44); from (1, 1), -2 - (-6 + 2) = 2 steps at most before the threshold
pub unlike_accepted :
    (judged_by_kind unlike_loop_bytes unlike_settling_bytes three ≡ shows (Settling (− 17) (pos 1)))
    × (rank_by_kind unlike_loop_bytes unlike_settling_bytes three ≡ pos 22 ∷ − 44 ∷ pos 9 ∷ [])
    × ((bounded_by_kind unlike_loop_bytes unlike_settling_bytes (pos 1 ∷ pos 1 ∷ [])).bound ≡ 2)
unfolding computing unlike_loop_bytes unlike_settling_bytes
unlike_accepted = (refl, refl, refl)

pub every_settled_loop_exchange :
    map (λ line. judged_by_kind (exchange_of line unlike_loop_bytes) unlike_settling_bytes three) settled_loop_exchanges
    ≡ map answer_of settled_loop_exchanges
unfolding computing exchanged exchange_of answer_of settled_loop_exchanges unlike_loop_bytes unlike_settling_bytes
every_settled_loop_exchange = refl

pub every_settling_exchange :
    map (λ line. judged_by_kind unlike_loop_bytes (exchange_of line unlike_settling_bytes) three) settling_exchanges
    ≡ map answer_of settling_exchanges
unfolding computing exchanged exchange_of answer_of settling_exchanges unlike_loop_bytes unlike_settling_bytes
every_settling_exchange = refl

-- ---- none has the answer of the record itself

pub no_settling_exchange_unseen :
    (told_in settled_loop_exchanges (shows (Settling (− 17) (pos 1))) ≡ false)
    × (told_in settling_exchanges (shows (Settling (− 17) (pos 1))) ≡ false)
unfolding computing answer_of alike told_in settled_loop_exchanges settling_exchanges
no_settling_exchange_unseen = (refl, refl)
