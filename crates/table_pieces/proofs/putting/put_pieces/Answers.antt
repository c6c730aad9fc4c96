use Rattle.std.proofs.Common.{◌≡◌, ◌∙◌, ◌+◌, ◌<◌, ℕ, length, take, arith, length-take, subst}
use Rattle.table_pieces.specs.Parcels.{IsReadable}
use Rattle.table_pieces.specs.Putting.{ArePut}
use Rattle.table_pieces.proofs.Below.{some_more}
use Rattle.table_pieces.proofs.putting.put_pieces.Goals as goal

pub loop-next-preserved : goal.loop-next-preserved
loop-next-preserved g c =
    let s = c.args.shape.now in
    let rows = c.args.table.now.rows in
    let before = c.loop-next.invariant in
    let n = c.loop-next.next in
    let len = c.min-len.result in
    let held = g.D.Depot.held in
    let ok = c.in_ok-put_block.ensures in
    let long : length (take len c.loop-next.room) ≡ len = simp length-take (omega arith) in
    record {
      next = omega arith;
      put = subst (λ k. ArePut s rows (n + k) (n + k) (held c.args.depot.now) (held c.put_block.new.depot)) long (ok.stored (held c.args.depot.now) before.put);
      readable = some_more (IsReadable s rows) n len before.readable (subst (λ k. (i : ℕ) → i < k → IsReadable s rows (n + i)) long ok.readable);
      gets = c.put_block.ensures.gets ∙ before.gets;
      later = omega (arith, before.later, c.put_block.ensures.later);
    }
