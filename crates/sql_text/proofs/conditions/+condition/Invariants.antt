use Rattle.sql_text.proofs.conditions.+condition.Given as goal

abbrev pub decreases-and_at : goal.decreases-and_at
decreases-and_at l = l.depth

abbrev pub decreases-and_tail_at : goal.decreases-and_tail_at
decreases-and_tail_at l = l.depth

abbrev pub decreases-not_at : goal.decreases-not_at
decreases-not_at l = l.depth

abbrev pub decreases-or_at : goal.decreases-or_at
decreases-or_at l = l.depth

abbrev pub decreases-or_tail_at : goal.decreases-or_tail_at
decreases-or_tail_at l = l.depth
