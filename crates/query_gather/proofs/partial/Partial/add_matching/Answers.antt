use Rattle.std.proofs.Common.{subst}
use Rattle.std.proofs.lemmas.Result.{on_ok_weaker}
use Rattle.query_gather.specs.declared.partial.Partial.{Partial}
use Rattle.query_gather.specs.Partial.{IsNew, Stands}
use Rattle.query_gather.proofs.Standing.{numbered_more, top_more}
use Rattle.query_gather.proofs.partial.Partial.add_matching.Goals as goal

pub returns-in-Groups-clause-ok : goal.returns-in-Groups-clause-ok
returns-in-Groups-clause-ok c =
    on_ok_weaker c.add_row.result (λ h rows s new. numbered_more c.in-Groups.groups c.add_row.new.self c.args.number c.args.row.now h rows (subst (λ (p : Partial). Stands p rows) c.in-Groups.is s)) c.add_row.ensures.ok

pub returns-in-Top-clause-ok : goal.returns-in-Top-clause-ok
returns-in-Top-clause-ok c =
    on_ok_weaker c.add.result
    (λ h rows s new. top_more c.in-Top.top c.add.new.self (c.args.number, c.args.row.now) h rows (subst (λ (p : Partial). Stands p rows) c.in-Top.is s) (subst (λ (p : Partial). IsNew p rows c.args.number) c.in-Top.is new)) c.add.ensures.ok
