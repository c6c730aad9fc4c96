use Rattle.std.proofs.Common.{◌≡◌, ◌+◌, drop, refl}
use Rattle.std.proofs.lemmas.List.{drop-drop}
use Rattle.csv.specs.Records.{fields_of}
use Rattle.prepare_text.proofs.Going.{ends-take}
use Rattle.prepare_text.proofs.source.Source.walk.Goals as goal

pub returns-in-Some-clause-found : goal.returns-in-Some-clause-found
returns-in-Some-clause-found g c _ =
    let s = c.args.self.now in
    let text = s.text.items in
    let n = c.in-Some.n in
    let deep : drop n (drop s.at text) ≡ drop (s.at + n) text = drop-drop n s.at text in
    let ends = rw (c.behind.ensures, c.as_slice.ensures.value, deep) at ((rw c.in-Some.is at c.in_ok-n.ensures.found) n refl) in
    ends-take s.walker c.walk.new.self (fields_of c.args.row.now) (fields_of c.walk.new.row) (drop s.at text) (drop (s.at + n) text) (g.R.Read.remaining s.input)
    c.walk.ensures.marks ends
