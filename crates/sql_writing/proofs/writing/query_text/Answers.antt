use Rattle.sql_text.specs.Reading.{query_of}
use Rattle.sql_writing.proofs.Written.{can_stand}
use Rattle.sql_writing.proofs.writing.query_text.Goals as goal

pub write_where-requires : goal.write_where-requires
write_where-requires c = can_stand (query_of c.args.query.now) c.requires
