use Rattle.table_core.proofs.value_text.+write_last_digits.Given as goal

abbrev pub decreases-write_last_digits : goal.decreases-write_last_digits
decreases-write_last_digits l = l.count
