use Rattle.trial_sql.proofs.texts.rewritten.Goals as goal

pub write_query-requires : goal.write_query-requires
write_query-requires g c = (c.args.text.now, c.in-Ok.ensures.found)
