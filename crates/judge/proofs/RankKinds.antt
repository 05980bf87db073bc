-- The kinds that have a rank share one text.
use mathlib.Core.Path.{◌≡◌}
use mathlib.Core.Bool.{true, false≢true}
use Rattle.record.specs.Layouts.{Kind, loop, ranking, exclusion, lasso, other, has_rank}

pub by_rank : (P : Kind → Type 0) (k : Kind) → has_rank k ≡ true → P ranking → P lasso → P k
unfolding has_rank
by_rank P loop h r l = absurd (false≢true h)
by_rank P ranking h r l = r
by_rank P exclusion h r l = absurd (false≢true h)
by_rank P lasso h r l = l
by_rank P other h r l = absurd (false≢true h)
