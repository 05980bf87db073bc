-- Every line of the table of exchanges holds: each exchanged record has the answer that stands beside it (`every-..-exchange`), and none is the answer of the
-- record itself (`no_exchange_unseen`).
use mathlib.Core.Path.{◌≡◌, refl}
use mathlib.Core.Bool.{false}
use mathlib.Core.List.{map}
use Rattle.record.specs.Contents.{rows_values, row_values}
use Rattle.record.specs.Samples as Records
use Rattle.verdict.specs.Computing.{computing}
use Rattle.verdict.specs.Samples.{loop_bytes, unlike_loop, unlike_ranking, excluded_loop, unlike_exclusion, lasso_loop, unlike_lasso}
use Rattle.verdict_exchanges.specs.Exchanges.{exchanged, exchange_of, answer_of, judged, alike, told_in}
use Rattle.verdict_exchanges.specs.Exchanged.{loop_exchanges, ranking_exchanges, exclusion_exchanges, lasso_exchanges}

-- the loop's fields
pub every_loop_exchange : map (λ line. judged (exchange_of line unlike_loop) unlike_ranking) loop_exchanges ≡ map answer_of loop_exchanges
unfolding computing exchanged exchange_of answer_of judged loop_exchanges unlike_loop unlike_ranking Records.unlike_loop Records.unlike_ranking
every_loop_exchange = refl

pub every_ranking_exchange : map (λ line. judged unlike_loop (exchange_of line unlike_ranking)) ranking_exchanges ≡ map answer_of ranking_exchanges
unfolding computing exchanged exchange_of answer_of judged ranking_exchanges unlike_loop unlike_ranking Records.unlike_loop Records.unlike_ranking
every_ranking_exchange = refl

pub every_exclusion_exchange : map (λ line. judged excluded_loop (exchange_of line unlike_exclusion)) exclusion_exchanges ≡ map answer_of exclusion_exchanges
unfolding computing exchanged exchange_of answer_of judged exclusion_exchanges excluded_loop unlike_exclusion Records.unlike_exclusion loop_bytes rows_values row_values
every_exclusion_exchange = refl

pub every_lasso_exchange : map (λ line. judged lasso_loop (exchange_of line unlike_lasso)) lasso_exchanges ≡ map answer_of lasso_exchanges
unfolding computing exchanged exchange_of answer_of judged lasso_exchanges lasso_loop unlike_lasso Records.unlike_lasso loop_bytes rows_values row_values
every_lasso_exchange = refl

pub no_exchange_unseen :
    (told_in loop_exchanges (judged unlike_loop unlike_ranking) ≡ false)
    × (told_in ranking_exchanges (judged unlike_loop unlike_ranking) ≡ false)
    × (told_in exclusion_exchanges (judged excluded_loop unlike_exclusion) ≡ false)
    × (told_in lasso_exchanges (judged lasso_loop unlike_lasso) ≡ false)
unfolding computing answer_of judged alike told_in loop_exchanges ranking_exchanges exclusion_exchanges lasso_exchanges unlike_loop unlike_ranking excluded_loop unlike_exclusion lasso_loop unlike_lasso Records.unlike_loop Records.unlike_ranking Records.unlike_exclusion Records.unlike_lasso loop_bytes rows_values row_values
no_exchange_unseen = (refl, refl, refl, refl)
