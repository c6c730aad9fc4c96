use Rattle.std.proofs.Common.{arith}
use Rattle.scan_story.specs.Views.{past}
use Rattle.help_book.proofs.picks.load.Goals as goal

pub pick_load-requires : goal.pick_load-requires
pick_load-requires g c = record {
  setting = c.args.s.now;
  history = past c.args.entries.now;
  stands = c.requires;
  active = grind (arith, c.is_active.ensures, c.if-not-is_active.false, c.if-not-is_active.ensures);
}
