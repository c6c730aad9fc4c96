use Rattle.std.proofs.lemmas.List.{map-set}
use Rattle.table_core.specs.Codes.{code_of}
use Rattle.table_core.proofs.codes.Codes.set.Goals as goal

pub returns : goal.returns
returns c = rw (← c.self.view_is, ← c.word_of.ensures) (map-set code_of c.self.inside.codes.items c.args.place c.word_of.result)
