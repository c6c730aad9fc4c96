use Rattle.std.proofs.Common.{Some, ap, arith, subst, sym}
use Rattle.setting_text.specs.Reading.{AreShort}
use Rattle.setting_text.proofs.Wording.{left_end, left_moved, left_next, left_none, left_uncons, short_more}
use Rattle.setting_text.proofs.lists.numbers_of.Goals as goal

pub returns-in_default-number-clause-reads : goal.returns-in_default-number-clause-reads
returns-in_default-number-clause-reads c = λ ns short is.
    absurd (left_none c.loop-rest.list ns _ _ c.number.result c.in_default-number.is c.number.ensures
    (left_uncons _ c.loop-rest.rest.now _ c.loop-rest.list ns c.in-len1-up.len_at_least (c.loop-rest.invariant.reads ns short is)))

pub loop-rest-preserved : goal.loop-rest-preserved
loop-rest-preserved c = record {
  short = subst AreShort (sym c.in_ok-push_back.ensures.items) (short_more c.loop-rest.list c.in-Some.n c.loop-rest.invariant.short (omega arith));
  reads = λ ns short is.
      left_moved _ _ ns _ c.in_ok-push_back.ensures.items (left_next c.loop-rest.list ns _ _ c.in-Some.n c.in-Some.ensures
      (left_uncons _ c.loop-rest.rest.now _ c.loop-rest.list ns c.in-len1-up.len_at_least (c.loop-rest.invariant.reads ns short is)));
}

pub returns-clause-reads : goal.returns-clause-reads
returns-clause-reads c = λ ns short is. ap Some (left_end _ c.loop-rest.rest.now c.loop-rest.list ns c.in_default.len_below (c.loop-rest.invariant.reads ns short is))
