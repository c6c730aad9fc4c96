use Rattle.std.proofs.Common.{◌-◌, ◌∙◌, sym, arith, length, drop, take_all, length-drop}
use Rattle.prepare_look.proofs.Unmarked.{strip-long, strip-short}
use Rattle.prepare_look.proofs.reading.without_mark.Goals as goal

pub returns-then-text-lt3 : goal.returns-then-text-lt3
returns-then-text-lt3 c = sym (strip-short c.args.text.now (omega arith))

pub returns-then-has_mark : goal.returns-then-has_mark
returns-then-has_mark c =
    let xs = c.args.text.now in
    let h = rw (sym c.has_mark.ensures ∙ c.if-has_mark.true) at (strip-long xs (omega arith)) in
    take_all (length xs - 3) (drop 3 xs) (omega (arith, length-drop 3 xs)) ∙ sym h

pub returns : goal.returns
returns c =
    let h = rw (sym c.has_mark.ensures ∙ c.if-has_mark.false) at (strip-long c.args.text.now (omega arith)) in
    sym h
