-- What each policy chooses, and how its cursor moves.
use Rattle.std.specs.Prelude.{◌≡◌, ◌==◌, ◌+◌, ◌-◌, ◌%◌, ◌≤◌, ◌&&◌, not, true, ℕ, Bool, ◌≤ℤ◌}
use Rattle.std.specs.Prelude.{List, [], ◌∷◌, ◌++◌, nat_lt, filter, get_or, set, if◌then◌else◌}
use Rattle.scan_story.specs.declared.setting.PolicyName.{PolicyName}
use Rattle.scan_story.specs.declared.setting.PolicyName.TheVariants.{Relevance, Elevator, Normal, Attach}
use Rattle.scan_story.specs.declared.setting.Setting.{Setting}
use Rattle.scan_story.specs.Counting.{any_below, least_below}
use Rattle.scan_story.specs.Views.{History}
use Rattle.scan_story.specs.Numbers.{waiting, interested, close}
use Rattle.scan_story.specs.Ratios.{query_rank, load_ratio, use_ratio, keep_ratio, IsAtMost}
use Rattle.scan_story.specs.MayFollow.{is_target, is_ready, is_trigger, is_victim}

-- Best candidates

-- x is a candidate, and no candidate is better: AtMost y x says that y is at most as good as x
pub record IsBest (is_candidate : ℕ → Bool) (AtMost : ℕ → ℕ → Type 0) (x : ℕ) : Type 0 where
  pub candidate : is_candidate x ≡ true
  pub best : (y : ℕ) → is_candidate y ≡ true → AtMost y x

-- greatest f among the candidates
abbrev pub IsGreatest : (ℕ → Bool) → (ℕ → ℕ) → ℕ → Type 0
IsGreatest is_candidate f x = IsBest is_candidate (λ a b. f a ≤ f b) x

-- least f among the candidates
abbrev pub IsLeast : (ℕ → Bool) → (ℕ → ℕ) → ℕ → Type 0
IsLeast is_candidate f x = IsBest is_candidate (λ a b. f b ≤ f a) x

-- a candidate for a victim of least close
abbrev pub is_least_close : Setting → History → ℕ → Bool
is_least_close s h c = is_victim s h c
    && not (any_below (λ y. is_victim s h y && nat_lt (close s h y) (close s h c)) s.chunks)

-- Around the chunks, from a start

-- how far chunk c is from the start, going up and around
abbrev pub dist_from : Setting → ℕ → ℕ → ℕ
dist_from s start c = (c + s.chunks - start % s.chunks) % s.chunks

-- elevator: the cursor is one number
abbrev pub dist : Setting → List ℕ → ℕ → ℕ
dist s cursor c = dist_from s (get_or cursor 0 0) c

-- the least dist of a chunk that the query needs and that isn't wholly in frames for it
abbrev pub reach : Setting → History → List ℕ → ℕ → ℕ
reach s h cursor q = least_below (is_target s h q) (dist s cursor) s.chunks s.chunks

-- normal: the cursor is a list of chunks, the least recently used first

-- the chunk's place in the list, counted from 1; 0 where it isn't in the list
abbrev pub place_in : List ℕ → ℕ → ℕ
place_in [] c = 0
place_in (x ∷ xs) c = if x == c then 1 else (if place_in xs c == 0 then 0 else place_in xs c + 1)

-- the chunk is taken out and put at the end
abbrev pub moved_last : List ℕ → ℕ → List ℕ
moved_last cursor c = filter (λ x. not (x == c)) cursor ++ c ∷ []

-- attach: place 0 has the chunk of the last Deliver, place q one more than the start of q, or 0 before q is served

-- where the query's scan starts: its own start, or before it is served what stands at place 0
abbrev pub start_of : List ℕ → ℕ → ℕ
start_of cursor q = if get_or cursor q 0 == 0 then get_or cursor 0 0 else get_or cursor q 0 - 1

-- a query that is first served gets its start
abbrev pub served : List ℕ → ℕ → List ℕ
served cursor q = if get_or cursor q 0 == 0 then set cursor q (get_or cursor 0 0 + 1) else cursor

-- The choices of each policy, at its cursor

abbrev pub BestQuery : PolicyName → List ℕ → Setting → History → ℕ → Type 0
BestQuery Relevance cursor s h q = IsBest (is_trigger s h) (λ a b. query_rank s h a ≤ℤ query_rank s h b) q
BestQuery Elevator cursor s h q = IsLeast (is_trigger s h) (reach s h cursor) q
BestQuery Normal cursor s h q = IsGreatest (is_trigger s h) (waiting s h) q
BestQuery Attach cursor s h q = IsGreatest (is_trigger s h) (waiting s h) q

-- a chunk to load for the trigger q
abbrev pub BestLoad : PolicyName → List ℕ → Setting → History → ℕ → ℕ → Type 0
BestLoad Relevance cursor s h q c = IsBest (is_target s h q)
    (λ a b. IsAtMost (load_ratio s h q a) (load_ratio s h q b)) c
BestLoad Elevator cursor s h q c = IsLeast (is_target s h q) (dist s cursor) c
BestLoad Normal cursor s h q c = IsLeast (is_target s h q) (λ x. x) c
BestLoad Attach cursor s h q c = IsLeast (is_target s h q) (dist_from s (start_of cursor q)) c

-- a chunk to deliver to q
abbrev pub BestDelivery : PolicyName → List ℕ → Setting → History → ℕ → ℕ → Type 0
BestDelivery Relevance cursor s h q c = IsBest (is_ready s h q)
    (λ a b. IsAtMost (use_ratio s h q a) (use_ratio s h q b)) c
BestDelivery Elevator cursor s h q c = IsLeast (is_ready s h q) (dist s cursor) c
BestDelivery Normal cursor s h q c = IsLeast (is_ready s h q) (λ x. x) c
BestDelivery Attach cursor s h q c = IsLeast (is_ready s h q) (dist_from s (start_of cursor q)) c

-- a chunk to evict
abbrev pub BestVictim : PolicyName → List ℕ → Setting → History → ℕ → Type 0
BestVictim Relevance cursor s h c = IsBest (is_victim s h) (λ a b. IsAtMost (keep_ratio s h b) (keep_ratio s h a)) c
BestVictim Elevator cursor s h c = IsLeast (is_least_close s h) (dist s cursor) c
BestVictim Normal cursor s h c = IsLeast (is_least_close s h) (place_in cursor) c
BestVictim Attach cursor s h c = IsLeast (is_least_close s h) (interested s h) c

-- The cursor: the picks of a trigger and of a victim leave it

-- after chunk c was picked to be loaded for q
abbrev pub after_load : PolicyName → Setting → List ℕ → ℕ → ℕ → List ℕ
after_load Relevance s cursor q c = cursor
after_load Elevator s cursor q c = ((c + 1) % s.chunks) ∷ []
after_load Normal s cursor q c = moved_last cursor c
after_load Attach s cursor q c = served cursor q

-- after chunk c was picked to be delivered to q
abbrev pub after_delivery : PolicyName → List ℕ → ℕ → ℕ → List ℕ
after_delivery Relevance cursor q c = cursor
after_delivery Elevator cursor q c = cursor
after_delivery Normal cursor q c = moved_last cursor c
after_delivery Attach cursor q c = set (served cursor q) 0 c
