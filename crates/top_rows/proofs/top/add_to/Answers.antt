use Rattle.std.proofs.Common.{◌∙◌, sym, ap, subst, take}
use Rattle.top_rows.specs.Standing.{AreKeyed, numbered}
use Rattle.top_rows.proofs.Entries.{keyed_take, numbered-take}
use Rattle.top_rows.proofs.top.add_to.Goals as goal

pub returns-clause-ok : goal.returns-clause-ok
returns-clause-ok c = λ n. ap numbered c.cut.ensures ∙ numbered-take c.args.limit c.put.new.rows.entries ∙ ap (take c.args.limit) (c.in_ok-put.ensures.ok n)

pub returns-clause-keyed : goal.returns-clause-keyed
returns-clause-keyed c = subst (AreKeyed c.args.order.now) (sym c.cut.ensures) (keyed_take c.args.order.now c.args.limit c.put.new.rows.entries c.in_ok-put.ensures.keyed)
