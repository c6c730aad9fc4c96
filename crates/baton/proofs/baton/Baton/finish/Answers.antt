use Rattle.std.proofs.Common.{List, sym, ap, ◌∙◌, subst, All, arith}
use Rattle.atomic_table.specs.Seated.{TableId}
use Rattle.scan_story.specs.declared.entry.Entry.{Entry}
use Rattle.scan_story.specs.declared.origin.Start.{Start}
use Rattle.baton.specs.declared.view.Share.{Share}
use Rattle.baton.specs.declared.view.View.{View}
use Rattle.baton.specs.Passes.{PassView, AgreesWith, IsFree, line_id, pass_view}
use Rattle.baton.proofs.Endings.{agrees_pop, free_pop}
use Rattle.baton.proofs.baton.Baton.finish.Goals as goal

pub loop-pass-init : goal.loop-pass-init
loop-pass-init g c =
    let o = g.T.Storied.origin c.pop-state.result in
    let s = g.T.Storied.story c.pop-state.result in
    let took = c.pop-state.ensures.took in
    let popped = c.in-Some.ensures.items in
    let free = (free_pop c.args.self c.args.passes.items c.pop.new.self.items c.in-Some.last popped c.requires.free).0 in
    let here : AgreesWith o s c.in-Some.last = subst (AgreesWith o s) c.last.view_is took.0 in (
      c.pop-state.ensures.queue,
      ap (λ (v : View). v.role) took.1,
      ap (λ (v : View). v.holding) took.1,
      ap (λ (v : View). v.share.origin) took.1 ∙ sym took.0.origin,
      ap (λ (v : View). v.share.seen) took.1,
      subst (λ (id : TableId). All (IsFree id) c.pop.new.self.items) (sym c.self.view_is) free,
      agrees_pop o s c.args.passes.items c.pop.new.self.items c.in-Some.last popped here,
    )

pub absorb-requires-clause-queue : goal.absorb-requires-clause-queue
absorb-requires-clause-queue g c =
    let i = c.loop-pass.invariant in
    let popped = c.in-Some-pop.ensures.items in
    let free = (free_pop (line_id c.self.inside.line) c.loop-pass.passes.items c.pop-in-loop-pass.new.self.items c.in-Some-pop.pass popped i.5).1 in
    (i.0, (ap (λ (p : PassView). p.baton) c.pass.view_is ∙ free.0, c.pass.invariant.0))

pub loop-pass-preserved : goal.loop-pass-preserved
loop-pass-preserved g c =
    let o = g.T.Storied.origin c.pop-state.result in
    let s = g.T.Storied.story c.pop-state.result in
    let i = c.loop-pass.invariant in
    let popped = c.in-Some-pop.ensures.items in
    let same = c.absorb.ensures.same in
    let free = (free_pop (line_id c.self.inside.line) c.loop-pass.passes.items c.pop-in-loop-pass.new.self.items c.in-Some-pop.pass popped i.5).0 in
    let other : PassView = pass_view c.pass.inside.seat in
    let agrees : AgreesWith o s other = subst (λ (x : Start × List Entry). AgreesWith x.0 x.1 other) (λ k. (i.3 k, i.4 k)) c.absorb.ensures.agrees in
    let here : AgreesWith o s c.in-Some-pop.pass = subst (AgreesWith o s) c.pass.view_is agrees in (
      c.absorb.ensures.queue,
      same.0,
      same.1,
      ap (λ (k : Share). k.origin) same.2 ∙ i.3,
      ap (λ (k : Share). k.seen) same.2 ∙ i.4,
      free,
      λ rest. i.6 (agrees_pop o s c.loop-pass.passes.items c.pop-in-loop-pass.new.self.items c.in-Some-pop.pass popped here rest),
    )

pub returns : goal.returns
returns g c = c.loop-pass.invariant.6 (λ k d lt. absurd (omega (arith, c.loop-pass.passes.ok.0, c.in_default-pop.ensures.cases.0)))
