use Rattle.filter_zones.proofs.ends.EndMasks.with_first.Goals as goal

pub returns-clause-first : goal.returns-clause-first
returns-clause-first c = λ i. record {
  has_null = c.pushed.ensures.first i;
  there = c.pushed-2.ensures.first i;
  low_below = c.pushed-3.ensures.first i;
  low_above = c.pushed-4.ensures.first i;
  high_below = c.pushed-5.ensures.first i;
  high_above = c.pushed-6.ensures.first i;
}

pub returns-clause-others : goal.returns-clause-others
returns-clause-others c = λ j low i. record {
  has_null = c.pushed.ensures.others j low i;
  there = c.pushed-2.ensures.others j low i;
  low_below = c.pushed-3.ensures.others j low i;
  low_above = c.pushed-4.ensures.others j low i;
  high_below = c.pushed-5.ensures.others j low i;
  high_above = c.pushed-6.ensures.others j low i;
}
