-- Which kinds a call wants. 01: "The loop reader wants kind 1, the certificate reader kinds 2 to 4", of a bound call "kind 3 gives
-- 4", and "A kind not named for a call gives 4". What a call wants is a value, and each call has its own: here `loops_read`,
-- `certificates_read` and `kinds_written`; where judging and bound are defined (crate `verdict`) `loops_judged`,
-- `certificates_judged` and `certificates_bounded`. So a later kind can come to one call without another.
use Rattle.std.specs.Prelude.{Bool, true, false}
use Rattle.record.specs.declared.Wanted.{Wanted}
use Rattle.record.specs.Layouts.{Kind, loop, ranking, exclusion, lasso, other, is_loop}

-- the certificates that are wanted, by kind
unfoldable pub wants_of : Wanted → Kind → Bool
wants_of w loop = false
wants_of w ranking = w.ranking
wants_of w exclusion = w.exclusion
wants_of w lasso = w.lasso
wants_of w other = false

-- "The loop reader wants kind 1, the certificate reader kinds 2 to 4."
abbrev pub loops_read : Kind → Bool
loops_read = is_loop

abbrev pub certificates_read : Kind → Bool
certificates_read = wants_of (record { ranking = true; exclusion = true; lasso = true })

-- a writer takes each of the four kinds
unfoldable pub kinds_written : Kind → Bool
kinds_written loop = true
kinds_written ranking = true
kinds_written exclusion = true
kinds_written lasso = true
kinds_written other = false
