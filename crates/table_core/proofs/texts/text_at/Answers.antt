use Rattle.std.proofs.Common.{◌≤◌, length, arith, sym, rules}
use Rattle.table_core.proofs.Cutting.{cut-get, cut-rises}
use Rattle.table_core.proofs.texts.text_at.Goals as goal

pub slice_bounds-result-count : goal.slice_bounds-result-count
slice_bounds-result-count c = omega (arith, c.start_of-start.ensures, (cut-rises 0 c.args.ends.now _ c.args.place c.requires.cuts c.requires.there).0)

pub slice_bounds-result-end : goal.slice_bounds-result-end
slice_bounds-result-end c = search (rules, (cut-rises 0 c.args.ends.now _ c.args.place c.requires.cuts c.requires.there).1)

pub returns : goal.returns
returns c = rw c.start_of-start.ensures (sym (cut-get 0 c.args.ends.now c.args.bytes.now c.args.place c.requires.there))

pub slice_bounds-result-start : goal.slice_bounds-result-start
slice_bounds-result-start c =
    let r = cut-rises 0 c.args.ends.now (length c.args.bytes.now) c.args.place c.requires.cuts c.requires.there in
    let k : c.start_of-start.result ≤ length c.args.bytes.now = omega (arith, c.start_of-start.ensures, r.0, r.1) in
    search (rules, k)
