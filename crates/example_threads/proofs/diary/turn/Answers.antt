use Rattle.std.proofs.Common.{◌++◌, [], ◌∷◌, List, sym, ap, ◌∙◌}
use Rattle.scan_story.specs.declared.entry.Entry.{Entry}
use Rattle.baton.specs.Passes.{PassView}
use Rattle.example_threads.proofs.diary.turn.Goals as goal

pub give-requires-clause-story : goal.give-requires-clause-story
give-requires-clause-story g c =
    let added = c.args.entry ∷ [] in
    let pass = c.take-diary.ensures.pass in
    (added, c.in-Ok.ensures.wrote ∙ ap (λ (l : List Entry). l ++ added) (sym (ap (λ (p : PassView). p.seen) pass)), (c.requires.own ∙ sym (ap (λ (p : PassView). p.number) pass), tt))
