use Rattle.std.proofs.Common.{◌≡◌, ◌∙◌, ◌<◌, ◌≤◌, ◌+◌, ◌*◌, ◌++◌, ◌∷◌, ℕ, List, [], length, take, drop, arith, rules, sym, ap, subst, append_assoc, length-append}
use Rattle.std.specs.Prelude.{Option}
use Rattle.std.specs.List.{All}
use Rattle.std.proofs.lemmas.List.{drop_more, map-append, take_all, take_more}
use Rattle.std.proofs.lemmas.List.Elements.{All-from_recursion, All-push}
use Rattle.std.proofs.Math.Nat.{add-mul, mul-le-mul_right}
use Rattle.table_sets.specs.Sets.{AreMembers}
use Rattle.filter_zones.specs.declared.cond.Cond.{Cond}
use Rattle.filter_zones.specs.Possible.{needed}
use Rattle.chunk_interest.specs.declared.need.Need.{Need}
use Rattle.batch_plan.specs.declared.task.Task.{Task}
use Rattle.batch_plan.specs.Scans.{need_of, needs, scans_from, scans_from_part}
use Rattle.batch_plan.proofs.Planned.{few_queries, is_setting, parts_long, some_queries}
use Rattle.batch_plan.proofs.needs.needs_of.Goals as goal

pub push_parts-requires-clause-query : goal.push_parts-requires-clause-query
push_parts-requires-clause-query c =
    let all : All (λ (t : Task). 1 ≤ t.query) c.args.tasks.now = All-from_recursion (λ (t : Task). 1 ≤ t.query) c.args.tasks.now (some_queries c.args.tasks.now 1 257 (omega arith) c.requires.numbers) in
    search (rules, all)

pub push_parts-requires-clause-short : goal.push_parts-requires-clause-short
push_parts-requires-clause-short c =
    let few = few_queries c.args.tasks.now 1 257 c.requires.numbers in
    let low : c.loop-task.task-index ≤ 256 = omega (arith, few, c.loop-task-test.true) in
    let product = mul-le-mul_right c.args.options.now.parts low in
    omega (arith, c.loop-task.invariant.count, product, c.requires.options.parts.1)

pub loop-task-preserved : goal.loop-task-preserved
loop-task-preserved c =
    let before = c.loop-task.invariant in
    let tasks = c.args.tasks.now in
    let zones = c.args.zones.now in
    let workers = c.args.options.now.workers in
    let parts = c.args.options.now.parts in
    let i = c.loop-task.task-index in
    let t = c.task-item.result in
    let old = c.loop-task.needs.items in
    let new = c.push_parts.new.needs.items in
    let low : i < length tasks = c.loop-task-test.true in
    let next : (i + 1) * parts ≡ i * parts + parts = omega (arith, add-mul i 1 parts) in
    let set : c.needed-chunks.result ≡ needed t.plan.cond zones = c.needed-chunks.ensures.chunks ∙ ap (λ (o : Option Cond). needed o zones) c.as_ref.ensures.value
    ∙ ap (λ (s : Task). needed s.plan.cond zones) c.task.view_is in
    let Mine = λ (n : ℕ). needs zones parts (scans_from_part workers parts t n 0 parts) in
    let Later = λ (n : ℕ). needs zones parts (scans_from workers parts n (drop (i + 1) tasks)) in
    let pushed : new ≡ old ++ Mine (i * parts) = c.in_ok-push_parts.ensures zones set ∙ ap (λ (n : ℕ). old ++ Mine n) before.count in
    let head : drop i tasks ≡ t ∷ drop (i + 1) tasks = drop_more tasks i t low ∙ ap (λ (s : Task). s ∷ drop (i + 1) tasks) (sym c.task-item.is) in
    let split : needs zones parts (scans_from workers parts (i * parts) (t ∷ drop (i + 1) tasks)) ≡ Mine (i * parts) ++ Later (i * parts + parts) =
    map-append (need_of zones parts) (scans_from_part workers parts t (i * parts) 0 parts) (scans_from workers parts (i * parts + parts) (drop (i + 1) tasks)) in
    let Rises = λ (s : Task). AreMembers 16 s.plan.columns in
    let first : take (i + 1) tasks ≡ take i tasks ++ t ∷ [] = take_more tasks i t low ∙ ap (λ (s : Task). take i tasks ++ s ∷ []) (sym c.task-item.is) in
    record {
      count = omega (arith, ap length pushed, length-append old (Mine (i * parts)), parts_long zones workers parts t (i * parts) 0 parts, before.count, next);
      needs = ap (λ (ns : List Need). ns ++ Later ((i + 1) * parts)) pushed
          ∙ append_assoc old (Mine (i * parts)) (Later ((i + 1) * parts))
          ∙ ap (λ (n : ℕ). old ++ (Mine (i * parts) ++ Later n)) next
          ∙ ap (λ (ns : List Need). old ++ ns) (sym split)
          ∙ ap (λ (ts : List Task). old ++ needs zones parts (scans_from workers parts (i * parts) ts)) (sym head)
          ∙ before.needs;
      columns = subst (All Rises) (sym first) (All-push Rises (take i tasks) t before.columns (subst Rises c.task.view_is c.len-columns.ensures.members));
    }

pub returns-clause-setting : goal.returns-clause-setting
returns-clause-setting c = λ ok name cursor.
    let tasks = c.args.tasks.now in
    let Rises = λ (s : Task). AreMembers 16 s.plan.columns in
    let all : take c.loop-task.task-index tasks ≡ tasks = take_all c.loop-task.task-index tasks (omega (arith, c.loop-task-test.false)) in
    is_setting c.args.shape.now c.args.zones.now tasks c.args.options.now c.requires name cursor (subst (All Rises) all c.loop-task.invariant.columns)
