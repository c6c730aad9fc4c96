use Rattle.sql_text.specs.Reading.{tree_of}
use Rattle.sql_writing.proofs.Written.{size}
use Rattle.sql_writing.proofs.writing.+write_cond.Given as goal

abbrev pub decreases-write_cond : goal.decreases-write_cond
decreases-write_cond l = size (tree_of l.cond.now)
