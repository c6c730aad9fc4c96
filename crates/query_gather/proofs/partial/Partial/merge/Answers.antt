use Rattle.std.proofs.Common.{◌++◌, List, subst, sym}
use Rattle.std.specs.Prelude.{OnOk, Result}
use Rattle.std.proofs.lemmas.Result.{on_ok_weaker}
use Rattle.table_core.specs.declared.cell.Cell.{Cell}
use Rattle.table_sets.specs.declared.memory.Memory.{Memory}
use Rattle.query_meaning.specs.Rows.{Numbered}
use Rattle.query_gather.specs.declared.partial.Partial.{Partial}
use Rattle.query_gather.specs.declared.partial.Partial.TheVariants.{Groups, Top}
use Rattle.query_gather.specs.Partial.{MayJoin, Stands}
use Rattle.query_gather.proofs.Standing.{groups_joined, top_joined}
use Rattle.query_gather.proofs.partial.Partial.merge.Goals.{in-Groups-Groups, in-Top-Top}
use Rattle.query_gather.proofs.partial.Partial.merge.Goals as goal

-- the new one stands for the rows of both
abbrev StandsForBoth : Partial → Partial → Partial → Type 0
StandsForBoth a b new = (rows more : List (Numbered Cell)) → Stands a rows → Stands b more → MayJoin a rows more → Stands new (rows ++ more)

pub returns-clause-ok : goal.returns-clause-ok
returns-clause-ok c = elim c.match-self.branch [
  | in-Groups-Groups w ↦
      let arm = w.in-Groups-Groups in
      let new = w.join_groups.new.groups in
      subst (λ (p : Partial). OnOk c.match-self.result (StandsForBoth c.args.self.now c.args.other p)) (sym w.self-is)
      (subst (λ (r : Result (Unit {0}) Memory). OnOk r (StandsForBoth c.args.self.now c.args.other (Groups new))) (sym w.result-is)
      (on_ok_weaker w.join_groups.result (λ h rows more s t apart. groups_joined arm.groups arm.other new h rows more (subst (λ (p : Partial). Stands p rows) arm.is-0 s) (subst (λ (p : Partial). Stands p more) arm.is-1 t)) w.join_groups.ensures.ok))
  | in-Top-Top w ↦
      let arm = w.in-Top-Top in
      let new = w.join_top.new.top in
      subst (λ (p : Partial). OnOk c.match-self.result (StandsForBoth c.args.self.now c.args.other p)) (sym w.self-is)
      (subst (λ (r : Result (Unit {0}) Memory). OnOk r (StandsForBoth c.args.self.now c.args.other (Top new))) (sym w.result-is)
      (on_ok_weaker w.join_top.result
      (λ h rows more s t apart. top_joined arm.top arm.other new h rows more (subst (λ (p : Partial). Stands p rows) arm.is-0 s) (subst (λ (p : Partial). Stands p more) arm.is-1 t) (subst (λ (p : Partial). MayJoin p rows more) arm.is-0 apart)) w.join_top.ensures.ok))
]
