use Rattle.std.proofs.Common.{◌≡◌, ◌∙◌, ◌+◌, ◌-◌, ◌∷◌, length, drop, sym, ap, subst, arith, length-drop}
use Rattle.std.specs.Prelude.{reverse}
use Rattle.inspect_page.specs.Ahead.{IsAhead}
use Rattle.inspect_page.proofs.Back.{found_back, none_left}
use Rattle.inspect_page.proofs.scans.scans_of.Goals as goal

pub loop-place-init : goal.loop-place-init
loop-place-init c = let none = none_left c.args.entries.now in record {
  inside = omega arith;
  ahead = rw none (c.new-ahead.ensures (length c.args.entries.now + 1));
  found = rw none (ap reverse c.new-scans.ensures.items);
}

pub loop-place-preserved : goal.loop-place-preserved
loop-place-preserved c =
    let p = c.loop-place.place in
    let es = c.args.entries.now in
    let before = c.loop-place.ahead in
    let after = c.note.new.self in
    let e : p - 1 + 1 ≡ p = omega (arith, c.loop-place-test.true) in
    let split : drop (p - 1) es ≡ c.entry_at-entry.result ∷ drop p es = c.entry_at-entry.ensures ∙ ap (λ k. c.entry_at-entry.result ∷ drop k es) e in
    let ahead : IsAhead before (p - 1 + 1 + 1) (drop p es) =
    subst (λ k. IsAhead before (k + 1) (drop p es)) (sym e) c.loop-place.invariant.ahead in
    record {
      inside = omega (arith, c.loop-place.invariant.inside);
      ahead = subst (λ xs. IsAhead after (p - 1 + 1) xs) (sym split)
          (c.in_ok-note.ensures (drop p es) (omega (arith, length-drop p es, c.requires.size)) ahead);
      found = ap reverse c.in_ok-put.ensures
          ∙ found_back p c.entry_at-entry.result (drop p es) (drop (p - 1) es) c.loop-place.scans.items c.scan.result c.loop-place-test.true split
          c.loop-place.invariant.found (c.scan.ensures (drop p es) ahead);
    }
