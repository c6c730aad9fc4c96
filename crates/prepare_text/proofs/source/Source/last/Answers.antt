use Rattle.std.proofs.Common.{[], sym, ◌∙◌, refl}
use Rattle.csv.specs.Records.{fields_of}
use Rattle.csv.specs.declared.parser.State.TheVariants as st
use Rattle.prepare_text.proofs.Going.{last-takes, over-end}
use Rattle.prepare_text.specs.Source.{held}
use Rattle.prepare_text.specs.Walk.{format, walk_of}
use Rattle.prepare_text.proofs.source.Source.last.Goals as goal

pub returns-then-not-is_in_record-clause-ended : goal.returns-then-not-is_in_record-clause-ended
returns-then-not-is_in_record-clause-ended g c _ =
    let s = c.args.self.now in
    over-end (format s.walker.marks) (walk_of s.walker (fields_of c.args.row.now)) (held g.R.Read.remaining s) c.requires.ended
    (sym c.is_in_record.ensures ∙ c.if-not-is_in_record.true)

pub returns-clause-found : goal.returns-clause-found
returns-clause-found g c _ =
    let s = c.args.self.now in
    let kept = c.end_field.ensures.place in
    rw (kept.0, kept.2, c.in_ok-end_field.ensures.fields) (last-takes (format s.walker.marks) (walk_of s.walker (fields_of c.args.row.now))
    (record { state = st.StartRecord; lines = s.walker.lines; fields = []; field = c.end_field.new.self.field.items }) (held g.R.Read.remaining s) c.requires.ended
    (sym c.is_in_record.ensures ∙ c.if-not-is_in_record.false) refl)
