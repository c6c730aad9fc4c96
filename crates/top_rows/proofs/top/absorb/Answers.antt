use Rattle.std.proofs.Common.{◌≡◌, ◌∙◌, ◌++◌, ◌∷◌, [], List, ap, subst, refl, rules, false}
use Rattle.table_core.specs.declared.cell.Cell.{Cell}
use Rattle.query_meaning.specs.Rows.{has_number}
use Rattle.top_rows.specs.Standing.{Entry, numbered}
use Rattle.top_rows.specs.Top.{Stands}
use Rattle.top_rows.proofs.Before.{Row}
use Rattle.top_rows.proofs.Stands.{IsPartly, partly_more, partly_all}
use Rattle.top_rows.proofs.top.absorb.Goals as goal

pub loop-standing-init : goal.loop-standing-init
loop-standing-init c =
    let start : c.into_iter-standing-iterator.result ≡ c.args.rows.now.entries = search rules in
    record {
      plan = refl;
      stands = λ before s d. record { done = before; stands = s; same = ap (λ es. before ++ numbered es) start };
    }

pub loop-standing-preserved : goal.loop-standing-preserved
loop-standing-preserved c =
    let r : Row = (c.in-Some.standing.now.number, c.in-Some.row.now.items) in
    let old = c.loop-standing.top in
    let new = c.add.new.self in
    let A : List Cell → Type 0 = λ cs. (rows : List Row) → Stands old rows → has_number rows r.0 ≡ false → Stands new (rows ++ (r.0, cs) ∷ []) in
    record {
      plan = c.add.ensures.plan ∙ c.loop-standing.invariant.plan;
      stands = λ before s d.
          let all = before ++ numbered c.args.rows.now.entries in
          let L : List Entry → Type 0 = λ es. IsPartly old (numbered es) all in
          partly_more old new r (numbered c.next.new.self) all (subst A c.deref.ensures.value c.in_ok-add.ensures.ok) d (subst L c.in-Some.ensures.steps (c.loop-standing.invariant.stands before s d));
    }

pub returns-clause-ok : goal.returns-clause-ok
returns-clause-ok c = λ before s d.
    let all = before ++ numbered c.args.rows.now.entries in
    let L : List Entry → Type 0 = λ es. IsPartly c.loop-standing.top (numbered es) all in
    partly_all c.loop-standing.top all (subst L c.in-None.ensures.steps.0 (c.loop-standing.invariant.stands before s d))
