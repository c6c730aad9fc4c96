use Rattle.std.proofs.Common.{List, subst, ℕ}
use Rattle.prepare_look.specs.Rows.{rows_of}
use Rattle.prepare_page.specs.Widths.{IsMost}
use Rattle.prepare_page.proofs.Adding.{usual-of}
use Rattle.prepare_page.proofs.usual.usual_of.Goals as goal

pub returns : goal.returns
returns c = usual-of (rows_of c.args.marks c.args.text.now) c.in_ok-widths.widths c.most.result c.in_ok-widths.ensures
    (subst (λ (l : List ℕ). IsMost l 4097 c.most.result) c.as_slice.ensures.value c.most.ensures.most) c.most.ensures.records
