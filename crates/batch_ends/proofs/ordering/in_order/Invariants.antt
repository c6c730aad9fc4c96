use Rattle.std.proofs.Common.{◌≡◌, ◌≤◌, List, length, map, take, drop, vec_len, vec_capacity}
use Rattle.scan_story.specs.declared.entry.Entry.{Entry}
use Rattle.scan_story.specs.declared.origin.Start.{Start}
use Rattle.frame_pool.specs.Frames.{Told}
use Rattle.piece_format.specs.Shape.{TableShape}
use Rattle.batch_ends.specs.Lists.{AreCounted, AreSorted, CameOfAll}
use Rattle.batch_ends.proofs.ordering.in_order.Given as goal

-- the lists have what came of the jobs that are left
abbrev pub invariant-loop-job : goal.invariant-loop-job
invariant-loop-job l = record {
  count : vec_len l.all ≡ l.job-index;
  room : length l.jobs ≤ vec_capacity l.all;
  lists : vec_len l.lists ≡ vec_len l.fn.lists;
  counted : AreCounted (drop l.job-index l.jobs) (map (λ x. x.items) l.lists.items);
  sorted : (o : Start) (told : Told) (z : TableShape) (story : List Entry) → AreSorted o told z story l.jobs (map (λ x. x.items) l.fn.lists.items)
      → CameOfAll o told z story (take l.job-index l.jobs) l.all.items × AreSorted o told z story (drop l.job-index l.jobs) (map (λ x. x.items) l.lists.items);
}
