use Rattle.std.proofs.Common.{◌≡◌, ◌+◌, List, ℕ, ap, refl, subst}
use Rattle.inspect_verdict.specs.Lines.{common}
use Rattle.inspect_verdict.proofs.Linewise.{end_short, is_parting}
use Rattle.inspect_verdict.proofs.parting.parting_at.Goals as goal

pub slice_bounds-before-count : goal.slice_bounds-before-count
slice_bounds-before-count c = end_short c.args.text.now c.args.end.now c.from_line-begun.result.now c.line_of_end-line.result c.line_of_end-line.ensures c.from_line-begun.ensures

pub returns : goal.returns
returns c other parts =
    let Found = λ (l : List ℕ). c.common_len-byte.result ≡ common l c.as_slice-2.result.now in
    let Both = λ (l : List ℕ). c.common_len-byte.result ≡ common c.in_ok-found.found l in
    let counted = subst Both c.as_slice-2.ensures (subst Found c.as_slice.ensures c.common_len-byte.ensures.value) in
    is_parting c.args.text.now other c.args.end.now c.args.more.now _ c.from_line-begun.result.now c.in_ok-found.found c.in_ok-expected.expected c.line_of_end-line.result _
    c.line_of_end-line.ensures c.from_line-begun.ensures refl c.in_ok-found.ensures c.in_ok-expected.ensures (ap (λ (n : ℕ). n + 1) counted) parts
