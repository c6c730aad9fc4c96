use Rattle.prepare_page.proofs.blanks.are_table.Goals as goal

pub returns : goal.returns
returns c = record {
  usual = c.in_ok-usual.usual;
  under = c.in_ok-under.under;
  widths = c.in_ok-usual.ensures;
  survey = c.in_ok-under.ensures;
  is = c.is_table.ensures;
}
