use Rattle.std.proofs.Common.{◌≡◌, ap, ◌∙◌, subst}
use Rattle.scan_story.specs.Makers.{Adds, entries_by}
use Rattle.scan_story.proofs.Growing.{adds_mine}
use Rattle.baton.specs.declared.view.View.{View}
use Rattle.baton.specs.Passes.{PassView}
use Rattle.baton.proofs.baton.Baton.give.Goals as goal

pub returns-clause-mine : goal.returns-clause-mine
returns-clause-mine g c added is =
    let story = g.T.Storied.story c.args.state in
    let number = ap (λ (p : PassView). p.number) c.pass.view_is in
    let adds : Adds c.args.pass.now.number c.args.pass.now.seen story = c.requires.story in
    let own = subst (λ (p : PassView). entries_by p.number p.seen ≡ p.mine) c.pass.view_is c.pass.invariant.2 in
    ap (λ (v : View). v.share.mine) c.push.ensures.gave ∙ (ap (λ n. entries_by n story) number ∙ adds_mine _ _ story _ added adds own is)
