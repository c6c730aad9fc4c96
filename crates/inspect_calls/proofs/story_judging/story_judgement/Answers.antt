use Rattle.std.proofs.Common.{ℕ, List, inl, subst, sym}
use Rattle.inspect_calls.specs.Output.{IsReadAs}
use Rattle.inspect_calls.proofs.story_judging.story_judgement.Goals as goal

pub returns-in-Ok : goal.returns-in-Ok
returns-in-Ok g c = inl (record {
  between = g.F.Shelf.faults c.read_file.new.shelf;
  then_held = g.F.Shelf.held c.read_file.new.shelf;
  text = c.as_slice.result.now;
  read = subst (λ (l : List ℕ). IsReadAs (g.F.Shelf.held c.args.shelf.now) c.args.setting.now l) (sym c.as_slice.ensures.same) c.in-Ok.ensures.read;
  same = c.in-Ok.ensures.held;
  judged = c.judged_from.ensures;
})
