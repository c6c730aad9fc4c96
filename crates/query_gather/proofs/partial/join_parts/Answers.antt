use Rattle.std.proofs.Common.{◌≡◌, ◌≤◌, ◌+◌, ◌++◌, ℕ, false, List, ◌∷◌, arith, subst}
use Rattle.std.specs.Prelude.{◌==◌, All}
use Rattle.std.proofs.lemmas.List.Elements.{All-from_recursion, recursion_from_All}
use Rattle.query_gather.specs.declared.partial.Partial.{Partial}
use Rattle.query_gather.specs.Partial.{IsAlike, joined, row_count, rows_of_all}
use Rattle.query_gather.proofs.Alike.{alike_on}
use Rattle.query_gather.proofs.Joining.{IsPartly, front, partly_more}
use Rattle.query_gather.proofs.partial.join_parts.Goals as goal
use Rattle.table_sets.specs.declared.limits.TheConstants.{MOST_ROWS}

pub loop-rest-preserved : goal.loop-rest-preserved
loop-rest-preserved c =
    let first = c.args.first in
    let whole = c.loop-rest.whole in
    let part = c.remove-part.result in
    let left = c.remove-part.new.self.items in
    let now = c.loop-rest.invariant in
    let merged = c.in_ok-merge.ensures in
    let e = front c.loop-rest.rest.items left part (subst (λ (n : ℕ). false ≡ (n == 0)) c.loop-rest.rest.ok.0 c.loop-rest-test.ensures) c.remove-part.ensures.value c.remove-part.ensures.items in
    let Alike : List Partial → Type 0 = λ ps. All (IsAlike first) ps in
    let Few : List Partial → Type 0 = λ ps. row_count whole + rows_of_all ps ≤ MOST_ROWS in
    let few = subst Few e now.few in
    record {
      whole = alike_on first whole c.merge.new.self now.whole merged.alike;
      alike = All-from_recursion (IsAlike first) left (recursion_from_All (IsAlike first) (part ∷ left) (subst Alike e now.alike)).1;
      few = omega (arith, few, merged.count);
      partly = λ rows lists s t m. partly_more whole c.merge.new.self part left (rows ++ joined lists) merged.alike merged.ok (subst (λ (ps : List Partial). IsPartly whole ps (rows ++ joined lists)) e (now.partly rows lists s t m));
    }
