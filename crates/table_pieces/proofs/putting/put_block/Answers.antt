use Rattle.std.proofs.Common.{◌≡◌, ◌∙◌, ◌+◌, arith, sym, subst}
use Rattle.std.proofs.lemmas.Result.{IfOk-at_ok}
use Rattle.coop_outside.specs.Pieces.{with_piece}
use Rattle.table_pieces.specs.Parcels.{IsFilled, IsMade, IsReadable}
use Rattle.table_pieces.proofs.Below.{one_more}
use Rattle.table_pieces.proofs.Storing.{put_more}
use Rattle.table_pieces.proofs.putting.put_block.Goals as goal

pub loop-parcel-preserved : goal.loop-parcel-preserved
loop-parcel-preserved g c =
    let s = c.args.shape.now in
    let rows = c.args.table.now.rows in
    let before = c.loop-parcel.invariant in
    let n = c.loop-parcel.piece in
    let i = c.loop-parcel.parcel-index in
    let parcel = c.parcel-item.result in
    let held = g.D.Depot.held in
    let filled : IsFilled s rows n parcel = subst (λ k. IsFilled s rows k parcel) (sym before.piece) (subst (IsFilled s rows (c.args.first + i)) (sym c.parcel-item.is) (c.fill_all.ensures i parcel c.loop-parcel-test.true)) in
    let made : IsMade s rows n parcel.bytes.items = IfOk-at_ok (λ _. IsMade s rows n parcel.bytes.items) c.in_ok-parcel.was filled in
    record {
      piece = omega (arith, before.piece);
      put = λ start are. put_more s rows n start (held c.loop-parcel.depot) (held c.put.new.self) (before.put start are) (subst (λ bytes. held c.put.new.self ≡ with_piece (held c.loop-parcel.depot) n bytes) (c.as_slice.ensures.value ∙ made.bytes) c.in-Ok.ensures.stored);
      readable = one_more (λ k. IsReadable s rows (c.args.first + k)) i before.readable (subst (IsReadable s rows) before.piece made.readable);
      gets = c.put.ensures.gets ∙ before.gets;
      later = omega (arith, before.later, c.put.ensures.later);
    }
