use Rattle.std.proofs.Common.{◌≡◌, ◌∙◌, ◌+◌, ◌-◌, ◌/◌, ◌%◌, ◌++◌, ◌∷◌, [], length, take, arith, ap, refl, sym, length-append}
use Rattle.std.proofs.lemmas.List.{take_more}
use Rattle.chunk_interest.specs.declared.need.Need.{Need}
use Rattle.batch_ends.specs.Noting.{IsOpened}
use Rattle.batch_ends.specs.declared.taken.Taken.{Taken}
use Rattle.batch_ends.proofs.Noted.{zip_more}
use Rattle.batch_ends.proofs.takings.takings_of.Goals as goal

pub loop-need-preserved : goal.loop-need-preserved
loop-need-preserved c =
    let needs = c.args.needs.now in
    let i = c.loop-need.need-index in
    let need = c.need-item.result in
    let old = c.loop-need.taken.items in
    let before = c.loop-need.invariant in
    let next : take (i + 1) needs ≡ take i needs ++ need ∷ [] = take_more needs i need c.loop-need-test.true ∙ ap (λ (n : Need). take i needs ++ n ∷ []) (sym c.need-item.is) in
    let taken : Taken = record { query = (need.query - 1) / c.args.parts + 1; part = (need.query - 1) % c.args.parts; worker = need.worker; chunks = c.in_ok-chunks.chunks } in
    let grown : c.push_reserved.new.self.items ≡ old ++ taken ∷ [] = c.push_reserved.ensures.items in
    let opened : IsOpened c.args.parts need taken = record { query = refl; part = refl; worker = refl; none = c.in_ok-chunks.ensures.items; room = omega (arith, c.in_ok-chunks.ensures.capacity, c.len.ensures.len) } in
    record {
      opened = zip_more (IsOpened c.args.parts) (take i needs) (take (i + 1) needs) old c.push_reserved.new.self.items need taken next grown before.opened opened;
      room = omega (arith, before.room, c.push_reserved.ensures.capacity);
      count = let long = ap length grown in omega (arith, long, length-append old (taken ∷ []), before.count);
    }
