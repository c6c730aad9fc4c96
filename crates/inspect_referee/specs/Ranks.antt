-- The ranks by which each policy compares candidates.
use Rattle.std.specs.Prelude.{◌≡◌, ◌==◌, ◌&&◌, ◌||◌, true, false, ℕ, Bool, List, nat_lt, int_lt}
use Rattle.scan_story.specs.declared.setting.Setting.{Setting}
use Rattle.scan_story.specs.declared.setting.PolicyName.{PolicyName}
use Rattle.scan_story.specs.declared.setting.PolicyName.TheVariants.{Relevance, Elevator, Normal, Attach}
use Rattle.scan_story.specs.Views.{History}
use Rattle.scan_story.specs.Numbers.{waiting, interested, close}
use Rattle.scan_story.specs.Ratios.{query_rank, load_ratio, use_ratio, keep_ratio}
use Rattle.scan_story.specs.MayFollow.{is_target, is_ready, is_trigger, is_victim}
use Rattle.scan_story.specs.Policies.{dist_from, dist, reach, place_in, start_of}
use Rattle.scan_story.specs.Legal.{cursor_at}
use Rattle.relevance.specs.Best.{is_greater}
use Rattle.inspect_referee.specs.declared.rank.Choice.{Choice}
use Rattle.inspect_referee.specs.declared.rank.Choice.TheVariants.{Trigger, Load, Delivery, Victim}
use Rattle.inspect_referee.specs.declared.rank.Rank.{Rank}
use Rattle.inspect_referee.specs.declared.rank.Rank.TheVariants.{Urgency, Waited, Gain, Loss, Steps, Fitness}

-- the first rank is better
abbrev pub beats : Rank → Rank → Bool
beats (Urgency a) (Urgency b) = int_lt b a
beats (Waited a) (Waited b) = nat_lt b a
beats (Gain a) (Gain b) = is_greater a b
beats (Loss a) (Loss b) = is_greater b a
beats (Steps a) (Steps b) = nat_lt a b
beats (Fitness a k) (Fitness b m) = nat_lt a b || (a == b && nat_lt k m)
beats _ _ = false

-- The ranks under each policy, at its cursor

abbrev pub trigger_rank : PolicyName → List ℕ → Setting → History → ℕ → Rank
trigger_rank Relevance cursor s h q = Urgency (query_rank s h q)
trigger_rank Elevator cursor s h q = Steps (reach s h cursor q)
trigger_rank Normal cursor s h q = Waited (waiting s h q)
trigger_rank Attach cursor s h q = Waited (waiting s h q)

abbrev pub load_rank : PolicyName → List ℕ → Setting → History → ℕ → ℕ → Rank
load_rank Relevance cursor s h q c = Gain (load_ratio s h q c)
load_rank Elevator cursor s h q c = Steps (dist s cursor c)
load_rank Normal cursor s h q c = Steps c
load_rank Attach cursor s h q c = Steps (dist_from s (start_of cursor q) c)

abbrev pub delivery_rank : PolicyName → List ℕ → Setting → History → ℕ → ℕ → Rank
delivery_rank Relevance cursor s h q c = Gain (use_ratio s h q c)
delivery_rank Elevator cursor s h q c = Steps (dist s cursor c)
delivery_rank Normal cursor s h q c = Steps c
delivery_rank Attach cursor s h q c = Steps (dist_from s (start_of cursor q) c)

abbrev pub victim_rank : PolicyName → List ℕ → Setting → History → ℕ → Rank
victim_rank Relevance cursor s h c = Loss (keep_ratio s h c)
victim_rank Elevator cursor s h c = Fitness (close s h c) (dist s cursor c)
victim_rank Normal cursor s h c = Fitness (close s h c) (place_in cursor c)
victim_rank Attach cursor s h c = Fitness (close s h c) (interested s h c)

-- x may be chosen; loads and deliveries are chosen for q
abbrev pub is_candidate : Setting → History → Choice → ℕ → ℕ → Bool
is_candidate s h Trigger q x = is_trigger s h x
is_candidate s h Load q x = is_target s h q x
is_candidate s h Delivery q x = is_ready s h q x
is_candidate s h Victim q x = is_victim s h x

-- the rank of x under the setting's policy, at its cursor
abbrev pub rank_of : Setting → History → Choice → ℕ → ℕ → Rank
rank_of s h Trigger q x = trigger_rank s.policy (cursor_at s h) s h x
rank_of s h Load q x = load_rank s.policy (cursor_at s h) s h q x
rank_of s h Delivery q x = delivery_rank s.policy (cursor_at s h) s h q x
rank_of s h Victim q x = victim_rank s.policy (cursor_at s h) s h x

-- no candidate is better than x
abbrev pub NoneBetter : Setting → History → Choice → ℕ → ℕ → Type 0
NoneBetter s h choice q x =
    (y : ℕ) → is_candidate s h choice q y ≡ true → beats (rank_of s h choice q y) (rank_of s h choice q x) ≡ false

-- how far chunk c is from where q's scan starts, under attach
abbrev pub from_start : Setting → History → ℕ → ℕ → ℕ
from_start s h q c = dist_from s (start_of (cursor_at s h) q) c
