use Rattle.std.proofs.Common.{sym, ◌∙◌}
use Rattle.prepare_text.proofs.Going.{marked-held, unmarked-held}
use Rattle.prepare_text.proofs.source.Source.skip_mark.Goals as goal

pub returns-then-has_mark-clause-held : goal.returns-then-has_mark-clause-held
returns-then-has_mark-clause-held g c =
    let s = c.args.self.now in
    marked-held (g.R.Read.remaining s.input) s.at s.text.items c.requires.at (sym (rw c.as_slice.ensures.value at c.has_mark.ensures) ∙ c.if-has_mark.true)

pub returns-else-has_mark-clause-held : goal.returns-else-has_mark-clause-held
returns-else-has_mark-clause-held g c =
    let s = c.args.self.now in
    unmarked-held (g.R.Read.remaining s.input) s.at s.text.items c.requires.at (sym (rw c.as_slice.ensures.value at c.has_mark.ensures) ∙ c.if-has_mark.false) c.requires.front
