use Rattle.std.proofs.Common.{◌≡◌, length, ◌∙◌, refl, nat_lt}
use Rattle.coop_outside.proofs.Front.{reads-more}
use Rattle.coop_outside.proofs.reading.read_more.Goals as goal

pub returns-in_ok-extend_from_slice-in-Ok-clause-more :
    goal.returns-in_ok-extend_from_slice-in-Ok-clause-more
returns-in_ok-extend_from_slice-in-Ok-clause-more g c =
    let len : c.len.result ≡ length c.args.bytes.now.items = c.len.ensures ∙ c.args.bytes.now.ok.0 in
    reads-more (g.F.Shelf.held c.args.shelf.now) c.args.name.now c.args.bytes.now.items c.extend_from_slice.new.self.items c.read_at.new.buf c.in-Ok.count (length c.args.part.now)
    (nat_lt 0 c.in-Ok.count) refl (rw len at c.in-Ok.ensures.reads) c.in_ok-extend_from_slice-in-Ok.ensures.items c.read_at.auto.buf c.requires.room
