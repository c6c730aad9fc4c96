use Rattle.std.proofs.Common.{◌≡◌, ◌-◌, sym, arith, length, get_or, []}
use Rattle.std.specs.declared.cmp.Ordering.TheVariants.{Equal}
use Rattle.table_core.specs.Dict.{text_cmp}
use Rattle.table_core.proofs.Rising.{added-same}
use Rattle.table_core.proofs.dict.Dict.push.Goals as goal

pub returns-in-Equal : goal.returns-in-Equal
returns-in-Equal c =
    let xs = c.self.inside.texts in
    let n : c.len-len.result ≡ length xs = c.len-len.ensures in
    let here : text_cmp (get_or xs (c.len-len.result - 1) []) c.args.text.now ≡ Equal = rw (← c.get.ensures) (sym c.in-Equal.ensures) in
    record {
      ok = rw (← c.self.view_is, n) (added-same xs c.args.text.now (omega arith) (rw n at here));
      err = tt;
      rises = rw (← c.self.view_is) c.self.invariant;
    }
