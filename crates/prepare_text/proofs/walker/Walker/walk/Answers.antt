use Rattle.std.proofs.Common.{◌≡◌, ◌+◌, ◌++◌, ◌∷◌, drop, ap, sym, ◌∙◌}
use Rattle.std.proofs.lemmas.List.{drop_all}
use Rattle.csv.specs.Records.{fields_of}
use Rattle.prepare_text.proofs.Walking.{end-byte, next-byte}
use Rattle.prepare_text.specs.Walk.{Walk, ended, format, lined, onward, walk_of}
use Rattle.prepare_text.proofs.walker.Walker.walk.Goals as goal

pub loop-i-preserved : goal.loop-i-preserved
loop-i-preserved c =
    let xs = c.args.text.now in
    let i = c.loop-i.i in
    let cfg = format c.args.self.now.marks in
    let w = walk_of c.loop-i.self (fields_of c.loop-i.row) in
    let inv = c.loop-i.invariant in
    let on = rw inv.marks at c.in_ok-take.ensures.walked in
    let is = rw inv.marks at (sym c.in_ok-take.ensures.ended ∙ c.if-branch.false) in
    record {
      marks = c.take.ensures.marks ∙ inv.marks;
      clear = c.in_ok-take.ensures.clear;
      goes = λ more. inv.goes more ∙ next-byte cfg w xs more i c.loop-i-test.true is ∙ ap (λ (w : Walk). lined cfg w (drop (i + 1) xs ++ more)) (sym on);
    }

pub returns-then-branch-clause-found : goal.returns-then-branch-clause-found
returns-then-branch-clause-found c n e =
    let xs = c.args.text.now in
    let i = c.loop-i.i in
    let cfg = format c.args.self.now.marks in
    let w = walk_of c.loop-i.self (fields_of c.loop-i.row) in
    let inv = c.loop-i.invariant in
    let on = rw inv.marks at c.in_ok-take.ensures.walked in
    let is = rw inv.marks at (sym c.in_ok-take.ensures.ended ∙ c.if-branch.true) in
    let p : n ≡ i + 1 = cc e in
    rw p (λ more. inv.goes more ∙ end-byte cfg w xs more i c.loop-i-test.true is ∙ ap (λ (v : Walk). ended v ∷ lined cfg (onward v) (drop (i + 1) xs ++ more)) (sym on))

pub returns-clause-going : goal.returns-clause-going
returns-clause-going c _ = λ more. rw (drop_all c.loop-i.i c.args.text.now c.loop-i-test.false) at (c.loop-i.invariant.goes more)
