use Rattle.inspect_notes.proofs.noting.read.Goals as goal

pub memory_of-requires : goal.memory_of-requires
memory_of-requires c = c.one_query.ensures.read c.args.text.now c.requires.query.0 c.in-Err.refusal c.requires.query.1 c.in-Err.ensures.refused
