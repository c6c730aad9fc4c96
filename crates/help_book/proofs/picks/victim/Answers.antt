use Rattle.std.proofs.Common.{◌∙◌, ap, sym}
use Rattle.scan_story.specs.Views.{past}
use Rattle.help_book.specs.Begun.{begins_some}
use Rattle.help_book.proofs.Listed.{none_begun}
use Rattle.help_book.proofs.picks.victim.Goals as goal

pub pick_victim-requires : goal.pick_victim-requires
pick_victim-requires g c = record {
  setting = c.args.s.now;
  history = past c.args.entries.now;
  stands = c.requires.stands;
  none_begun = λ l u. none_begun l (ap begins_some (sym u) ∙ (sym c.in_ok-filling.ensures ∙ c.if-filling.false));
}
