use Rattle.std.proofs.Common.{◌≡◌, ◌+◌, [], vec_len, refl, sym, ap, ◌∙◌, arith}
use Rattle.std.proofs.lemmas.List.Elements.{All-same, All-push}
use Rattle.baton.specs.Passes.{PassView}
use Rattle.example_threads.specs.Diaries.{IsReady}
use Rattle.example_threads.proofs.Writers.{pop_new}
use Rattle.example_threads.proofs.diary.seated.Goals as goal

pub loop-pass-preserved : goal.loop-pass-preserved
loop-pass-preserved g c =
    let id = c.args.baton.now in
    let i = c.loop-pass.invariant in
    let m = vec_len c.pop.new.self in
    let n : vec_len c.loop-pass.passes ≡ m + 1 = sym c.in-Some.ensures.cases in
    let popped = pop_new id g.S.Origin.origin [] c.loop-pass.passes.items c.pop.new.self.items c.in-Some.pass (vec_len c.loop-pass.passes) m i.0 c.in-Some.ensures.items n in (
      popped.0,
      omega arith,
      omega (arith, c.push_reserved.ensures.len, c.push_reserved.ensures.capacity),
      omega (arith, c.push_reserved.ensures.len),
      All-same (IsReady id) _ _ c.push_reserved.ensures.items (All-push (IsReady id) _ _ i.4
          ((ap (λ (p : PassView). p.baton) popped.1, ap (λ (p : PassView). p.holding) popped.1), ap (λ (p : PassView). p.number) popped.1 ∙ sym c.len.ensures, ap (λ (p : PassView). p.mine) popped.1, refl)),
    )
