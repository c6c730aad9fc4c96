use Rattle.sql_text.specs.Reading.{query_of}
use Rattle.sql_writing.proofs.SpelledQueries.{text_is_read}
use Rattle.sql_writing.proofs.writing.write_query.Goals as goal

pub returns-clause-read : goal.returns-clause-read
returns-clause-read c = text_is_read (query_of c.args.query.now) c.query_text.result c.requires c.query_text.ensures
