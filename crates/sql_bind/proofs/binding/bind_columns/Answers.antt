use Rattle.sql_text.specs.Reading.{query_of}
use Rattle.sql_bind.proofs.Sound.{sound_where}
use Rattle.sql_bind.proofs.binding.bind_columns.Goals as goal

pub bind_where-requires-clause-sound : goal.bind_where-requires-clause-sound
bind_where-requires-clause-sound c = sound_where c.args.columns.now (query_of c.args.query.now) c.in_ok-keys.ensures.judged
