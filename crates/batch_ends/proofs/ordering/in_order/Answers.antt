use Rattle.std.proofs.Common.{rules, ◌≡◌, ◌<◌, ◌+◌, ◌++◌, ◌∷◌, [], List, Result, length, map, take, drop, set, vec_len, arith, sym, ap, ◌∙◌, subst}
use Rattle.std.specs.Global.{Global}
use Rattle.std.specs.declared.collections.VecDeque.{VecDeque}
use Rattle.std.proofs.lemmas.List.{drop_more, length-map, map-set, take_more}
use Rattle.scan_story.specs.declared.cause.Cause.{Cause}
use Rattle.query_gather.specs.declared.partial.Partial.{Partial}
use Rattle.batch_ends.specs.declared.job.Job.{Job}
use Rattle.batch_ends.specs.Lists.{AreCounted, AreSorted, CameOfJob, list_of}
use Rattle.baton.proofs.Zips.{zip_pushed}
use Rattle.batch_ends.proofs.Sorting.{came_next, counted_next, map_at, not_empty, sorted_next}
use Rattle.batch_ends.proofs.ordering.in_order.Goals as goal
use Rattle.batch_ends.proofs.ordering.in_order.Goals.{After-pop_front}

abbrev Queue : Type 0
Queue = VecDeque (Result Partial Cause) Global

-- the lists as they are before the step, and the job whose turn it is
abbrev lists_now : After-pop_front → List (List (Result Partial Cause))
lists_now c = map (λ (q : Queue). q.items) c.loop-job.lists.items

inside : (c : After-pop_front) → c.job-item.result.worker < length (lists_now c)
inside c =
    let its : c.job-item.result.worker < vec_len c.args.lists = search (rules, c.requires.workers) in
    let long : length c.loop-job.lists.items ≡ vec_len c.loop-job.lists = search rules in
    omega (arith, its, long, c.loop-job.invariant.lists, length-map c.loop-job.lists.items (λ (q : Queue). q.items))

left : (c : After-pop_front) → drop c.loop-job.job-index c.args.jobs.now ≡ c.job-item.result ∷ drop (c.loop-job.job-index + 1) c.args.jobs.now
left c = drop_more c.args.jobs.now c.loop-job.job-index c.job-item.result c.loop-job-test.true ∙ ap (λ (j : Job). j ∷ drop (c.loop-job.job-index + 1) c.args.jobs.now) (sym c.job-item.is)

-- the list that is popped
popped : (c : After-pop_front) → list_of (lists_now c) c.job-item.result.worker ≡ c.index_mut.result.now.items
popped c =
    let long : length c.loop-job.lists.items ≡ length (lists_now c) = sym (length-map c.loop-job.lists.items (λ (q : Queue). q.items)) in
    map_at (λ (q : Queue). q.items) c.loop-job.lists.items c.job-item.result.worker c.index_mut.result.now [] (omega (arith, inside c, long)) ∙ ap (λ (q : Queue). q.items) (sym c.index_mut.ensures.value)

pub unreachable-requires : goal.unreachable-requires
unreachable-requires c =
    let at = (goal.at.unreachable-requires c).After-pop_front in
    let j = c.job-item.result in
    let rest = drop (c.loop-job.job-index + 1) c.args.jobs.now in
    let counted = subst (λ (l : List Job). AreCounted l (lists_now at)) (left at) c.loop-job.invariant.counted in
    let none : length c.index_mut.result.now.items ≡ 0 = search (rules, c.in_default.ensures.cases) in
    not_empty j rest (lists_now at) (inside at) counted (ap length (popped at) ∙ none)

pub loop-job-preserved : goal.loop-job-preserved
loop-job-preserved c =
    let at = (goal.at.loop-job-preserved c).After-pop_front in
    let i = c.loop-job.invariant in
    let place = c.loop-job.job-index in
    let jobs = c.args.jobs.now in
    let j = c.job-item.result in
    let rest = drop (place + 1) jobs in
    let x = c.in-Some.result in
    let items : Queue → List (Result Partial Cause) = λ q. q.items in
    let popped_now : list_of (lists_now at) j.worker ≡ x ∷ c.pop_front.new.self.items = popped at ∙ c.in-Some.ensures.items in
    let same : map items (set c.loop-job.lists.items j.worker c.pop_front.new.self) ≡ set (lists_now at) j.worker c.pop_front.new.self.items = map-set items c.loop-job.lists.items j.worker c.pop_front.new.self in
    record {
      count = omega (arith, i.count, c.push_reserved.ensures.len);
      room = omega (arith, i.room, c.push_reserved.ensures.capacity);
      lists = i.lists;
      counted = subst (AreCounted rest) (sym same)
          (counted_next j rest (lists_now at) x c.pop_front.new.self.items (inside at) popped_now (subst (λ (l : List Job). AreCounted l (lists_now at)) (left at) i.counted));
      sorted = λ o told z story sorted.
          let old = i.sorted o told z story sorted in
          let now = subst (λ (l : List Job). AreSorted o told z story l (lists_now at)) (left at) old.1 in (
            zip_pushed (CameOfJob o told z story) (take place jobs) (take (place + 1) jobs) c.loop-job.all.items c.push_reserved.new.self.items j x
                (take_more jobs place j c.loop-job-test.true ∙ ap (λ (k : Job). take place jobs ++ k ∷ []) (sym c.job-item.is)) c.push_reserved.ensures.items old.0
                (came_next j rest (lists_now at) x c.pop_front.new.self.items (inside at) popped_now o told z story now),
            subst (AreSorted o told z story rest) (sym same) (sorted_next j rest (lists_now at) x c.pop_front.new.self.items (inside at) popped_now o told z story now),
          );
    }
