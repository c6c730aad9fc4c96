use Rattle.std.proofs.Common.{◌≡◌, length, arith, length-append}
use Rattle.table_core.proofs.Cutting.{cut-push, cuts-push}
use Rattle.table_core.proofs.texts.Texts.push.Goals as goal

pub invariant_of-self-in-Ok : goal.invariant_of-self-in-Ok
invariant_of-self-in-Ok c =
    let start : c.len-start.result ≡ length c.self.inside.bytes.items = omega (arith, c.len-start.ensures, c.self.inside.bytes.ok.0) in
    rw (c.in-Ok.ensures.items, c.in_ok-extend_from_slice.ensures.items, length-append, start)
    (cuts-push 0 c.self.inside.ends.items (length c.self.inside.bytes.items) (length c.args.text.now) c.self.invariant)

pub returns-in-Ok-clause-ok : goal.returns-in-Ok-clause-ok
returns-in-Ok-clause-ok c =
    let start : c.len-start.result ≡ length c.self.inside.bytes.items = omega (arith, c.len-start.ensures, c.self.inside.bytes.ok.0) in
    rw (c.in-Ok.ensures.items, c.in_ok-extend_from_slice.ensures.items, start, ← c.self.view_is)
    (cut-push 0 c.self.inside.ends.items c.self.inside.bytes.items c.args.text.now c.self.invariant)
