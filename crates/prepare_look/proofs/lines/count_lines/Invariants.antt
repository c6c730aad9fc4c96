use Rattle.std.proofs.Common.{◌≡◌, ◌+◌, ◌≤◌, drop, false}
use Rattle.prepare_look.specs.Lines.{count, is_feed, is_return, line_ends, pairs}
use Rattle.prepare_look.proofs.lines.count_lines.Given as goal

abbrev pub invariant-loop-i : goal.invariant-loop-i
invariant-loop-i l = record {
  few : (l.feeds ≤ l.i) × (l.returns ≤ l.i) × (l.pairs ≤ l.i) × (l.ends ≤ l.i);
  feeds : l.feeds + count is_feed (drop l.i l.text) ≡ count is_feed l.text;
  returns : l.returns + count is_return (drop l.i l.text) ≡ count is_return l.text;
  pairs : l.pairs + pairs l.behind_return (drop l.i l.text) ≡ pairs false l.text;
  ends : l.ends + line_ends l.behind_return (drop l.i l.text) ≡ line_ends false l.text;
}
