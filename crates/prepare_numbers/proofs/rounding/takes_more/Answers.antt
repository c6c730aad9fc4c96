use Rattle.std.proofs.Common.{◌≡◌, ◌∙◌, ap, drop, sym, true, false}
use Rattle.std.proofs.lemmas.List.{take_rest}
use Rattle.std.specs.List.{list_any}
use Rattle.prepare_numbers.specs.Plain.{is_nonzero}
use Rattle.prepare_numbers.specs.Spells.{number}
use Rattle.prepare_numbers.proofs.Nearest.{first-decides, half-decides, rest-decides}
use Rattle.prepare_numbers.proofs.rounding.takes_more.Goals as goal

pub returns-then-first-ne53 : goal.returns-then-first-ne53
returns-then-first-ne53 c = first-decides (number c.args.kept.now) c.args.dropped.now c.requires.dropped c.in-len1-up.len_at_least c.if-first-ne53.true

pub returns-then-has_nonzero : goal.returns-then-has_nonzero
returns-then-has_nonzero c =
    let some : list_any is_nonzero (drop 1 c.args.dropped.now) ≡ true = ap (list_any is_nonzero) (sym (take_rest c.args.dropped.now 1)) ∙ sym c.has_nonzero.ensures ∙ c.if-has_nonzero.true in
    sym (rest-decides (number c.args.kept.now) c.args.dropped.now c.requires.dropped c.in-len1-up.len_at_least c.if-first-ne53.false some)

pub returns-else-has_nonzero : goal.returns-else-has_nonzero
returns-else-has_nonzero c =
    let none : list_any is_nonzero (drop 1 c.args.dropped.now) ≡ false = ap (list_any is_nonzero) (sym (take_rest c.args.dropped.now 1)) ∙ sym c.has_nonzero.ensures ∙ c.if-has_nonzero.false in
    rw c.is_odd.ensures (sym (half-decides (number c.args.kept.now) c.args.dropped.now c.requires.dropped c.in-len1-up.len_at_least c.if-first-ne53.false none))
