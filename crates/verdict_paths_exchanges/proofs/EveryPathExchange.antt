-- Every line of the table of exchanges holds: each exchanged record has the answer that stands beside it (`every-..-exchange`), and none is the answer
-- of the record itself (`no_path_exchange_unseen`), which is accepted. The records hold the values that stand beside them (`unlike_held`).
use mathlib.Core.Path.{◌≡◌, refl}
use mathlib.Core.Bool.{false}
use mathlib.Core.List.{[], map}
use Rattle.record_paths.specs.PathCertificates.{counted}
use Rattle.verdict.specs.Stages.{shows}
use Rattle.verdict.specs.declared.Outcome.TheVariants.{Lexicographic}
use Rattle.verdict_exchanges.specs.Exchanges.{exchanged, exchange_of, answer_of, alike, told_in}
use Rattle.verdict_paths.specs.JudgingByLoop.{judged}
use Rattle.verdict_paths.specs.JudgingComputing.{computing}
use Rattle.verdict_paths.specs.PathContents.{branches_in, lexicographic_in}
use Rattle.verdict_paths_exchanges.specs.Exchanged.{paths_exchanges, argument_exchanges, one_path_exchanges, one_argument_exchanges}
use Rattle.verdict_paths_exchanges.specs.UnlikePaths.{unlike_paths_bytes, unlike_argument_bytes, unlike_paths, unlike_paths_argument}
use Rattle.verdict_paths_exchanges.specs.UnlikePaths.{unlike_path_bytes, unlike_weights_bytes, unlike_path, unlike_path_argument}

pub unlike_held :
    (branches_in unlike_paths_bytes ≡ unlike_paths)
    × (lexicographic_in (counted unlike_paths_bytes) unlike_argument_bytes ≡ unlike_paths_argument)
    × (branches_in unlike_path_bytes ≡ unlike_path)
    × (lexicographic_in (counted unlike_path_bytes) unlike_weights_bytes ≡ unlike_path_argument)
unfolding
    computing unlike_paths_bytes unlike_argument_bytes unlike_paths unlike_paths_argument unlike_path_bytes unlike_weights_bytes unlike_path
    unlike_path_argument
unlike_held = (refl, refl, refl, refl)

pub unlike_accepted :
    (judged unlike_paths_bytes unlike_argument_bytes [] ≡ shows Lexicographic) × (judged unlike_path_bytes unlike_weights_bytes [] ≡ shows Lexicographic)
unfolding computing unlike_paths_bytes unlike_argument_bytes unlike_path_bytes unlike_weights_bytes
unlike_accepted = (refl, refl)

-- ---- two paths

pub every_paths_exchange :
    map (λ line. judged (exchange_of line unlike_paths_bytes) unlike_argument_bytes []) paths_exchanges ≡ map answer_of paths_exchanges
unfolding computing exchanged exchange_of answer_of paths_exchanges unlike_paths_bytes unlike_argument_bytes
every_paths_exchange = refl

pub every_argument_exchange :
    map (λ line. judged unlike_paths_bytes (exchange_of line unlike_argument_bytes) []) argument_exchanges ≡ map answer_of argument_exchanges
unfolding computing exchanged exchange_of answer_of argument_exchanges unlike_paths_bytes unlike_argument_bytes
every_argument_exchange = refl

-- ---- one path over two variables

pub every_one_path_exchange :
    map (λ line. judged (exchange_of line unlike_path_bytes) unlike_weights_bytes []) one_path_exchanges ≡ map answer_of one_path_exchanges
unfolding computing exchanged exchange_of answer_of one_path_exchanges unlike_path_bytes unlike_weights_bytes
every_one_path_exchange = refl

pub every_one_argument_exchange :
    map (λ line. judged unlike_path_bytes (exchange_of line unlike_weights_bytes) []) one_argument_exchanges ≡ map answer_of one_argument_exchanges
unfolding computing exchanged exchange_of answer_of one_argument_exchanges unlike_path_bytes unlike_weights_bytes
every_one_argument_exchange = refl

-- ---- none has the answer of the record itself

pub no_path_exchange_unseen :
    (told_in paths_exchanges (shows Lexicographic) ≡ false)
    × (told_in argument_exchanges (shows Lexicographic) ≡ false)
    × (told_in one_path_exchanges (shows Lexicographic) ≡ false)
    × (told_in one_argument_exchanges (shows Lexicographic) ≡ false)
unfolding computing answer_of alike told_in paths_exchanges argument_exchanges one_path_exchanges one_argument_exchanges
no_path_exchange_unseen = (refl, refl, refl, refl)
