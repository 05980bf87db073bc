-- What the writers of lines are proved by: a text put word after word, and what the words of a line are.
use Rattle.decimal.proofs.RoomLaws.{length_written, written_on}
use Rattle.sheet_lines.proofs.LineLaws.{line_pair, line_refused, line_rank, line_count, nothing_line, lexicographic_line, settling_line, ranking_line, lasso_line, whole_exclusion_line, fractions_exclusion_line}

pub ruleset writing = (length_written, written_on, line_pair, line_refused, line_rank, line_count)

-- what follows the count, by the outcome
pub ruleset each_outcome = (nothing_line, lexicographic_line, settling_line, ranking_line, lasso_line, whole_exclusion_line, fractions_exclusion_line)
