use Rattle.std.proofs.Common.{◌∙◌, ap}
use Rattle.csv.specs.Records.{fields_of}
use Rattle.prepare_page.proofs.Adding.{named-by}
use Rattle.prepare_page.specs.Looks.{looked_at}
use Rattle.prepare_page.proofs.look.is_named.Goals as goal

pub returns : goal.returns
returns c = named-by c.args.marks c.args.text.now c.args.titles (fields_of c.args.first.now) c.looked_at.result c.in_ok-under.under _
    (c.looked_at.ensures ∙ ap looked_at c.len.ensures) c.in_ok-under.ensures c.has_names.ensures
