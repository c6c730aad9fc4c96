use Rattle.prepare_page.proofs.delimiter.delimiter_of.Goals as goal

pub returns : goal.returns
returns c = record {
  semicolon = c.in_ok-semicolon.semicolon;
  tab = c.in_ok-tab.tab;
  bar = c.in_ok-bar.bar;
  comma = c.in_ok-comma.comma;
  by_semicolons = c.in_ok-semicolon.ensures;
  by_tabs = c.in_ok-tab.ensures;
  by_bars = c.in_ok-bar.ensures;
  by_commas = c.in_ok-comma.ensures;
  is = c.best.ensures;
}
