-- What is chosen is a candidate than which none is better, and the other way round.
use Rattle.std.proofs.Common.{◌≡◌, ◌≤◌, ◌≤ℤ◌, ◌==◌, ◌&&◌, ◌||◌, not, ℕ, ℤ, Bool, true, false, List, Option, is_none, is_some, nat_lt, int_lt, refl, ◌∙◌, ap, arith}
use Rattle.std.proofs.lemmas.Bool.Decides.{nat_tests}
use Rattle.std.proofs.lemmas.Int.{ints}
use Rattle.scan_story.specs.declared.setting.Setting.{Setting}
use Rattle.scan_story.specs.declared.setting.PolicyName.{PolicyName}
use Rattle.scan_story.specs.declared.setting.PolicyName.TheVariants.{Relevance, Elevator, Normal, Attach}
use Rattle.scan_story.specs.declared.view.Load.{Load as UnderwayLoad}
use Rattle.scan_story.specs.declared.entry.Entry.TheVariants.{Plan, Evict, Deliver}
use Rattle.scan_story.specs.Counting.{any_below}
use Rattle.scan_story.specs.Setting.{need_of}
use Rattle.scan_story.specs.Views.{History}
use Rattle.scan_story.specs.Loads.{underway}
use Rattle.scan_story.specs.Numbers.{close, interested, is_starved}
use Rattle.scan_story.specs.Ratios.{query_rank}
use Rattle.scan_story.specs.MayFollow.{MayPlan, is_target, is_ready, is_trigger, is_victim}
use Rattle.scan_story.specs.Policies.{IsLeast, BestQuery, BestLoad, BestDelivery, BestVictim, dist, is_least_close, place_in}
use Rattle.scan_story.specs.Legal.{Chosen, cursor_at}
use Rattle.interest_book.specs.declared.book.Book.{Book}
use Rattle.interest_book.specs.Stands.{Stands}
use Rattle.chunk_interest.proofs.Below.{any_at, either, none_at, none_from, same_number}
use Rattle.chunk_interest.proofs.Kept.{keeps, active_registered, starved_active, target_inside, victim_inside}
use Rattle.inspect_referee.specs.declared.rank.Choice.TheVariants.{Trigger, Load, Delivery, Victim}
use Rattle.inspect_referee.specs.Ranks.{beats, trigger_rank, load_rank, delivery_rank, victim_rank, NoneBetter}

-- Numbers and tests

not_below : (a b : ℕ) → nat_lt a b ≡ false → b ≤ a
not_below a b e = grind (arith, nat_tests)

below_not : (a b : ℕ) → b ≤ a → nat_lt a b ≡ false
below_not a b e = grind (arith, nat_tests)

not_higher : (a b : ℤ) → int_lt b a ≡ false → a ≤ℤ b
not_higher a b e = grind (arith, ints)

higher_not : (a b : ℤ) → a ≤ℤ b → int_lt b a ≡ false
higher_not a b e = grind (arith, ints)

both : (a b : Bool) → (a && b) ≡ true → (a ≡ true) × (b ≡ true)
both true b e = (refl, e)
both false b e = absurd cc

both_true : (a b : Bool) → a ≡ true → b ≡ true → (a && b) ≡ true
both_true true b s e = e
both_true false b s e = absurd cc

not_is : (b : Bool) → not b ≡ true → b ≡ false
not_is true e = absurd cc
not_is false e = refl

second : (a b : Bool) → a ≡ true → (a && b) ≡ false → b ≡ false
second true b s e = e
second false b s e = absurd cc

and_off : (a b : Bool) → (a ≡ true → b ≡ false) → (a && b) ≡ false
and_off true b f = f refl
and_off false b f = refl

or_off : (a b c : Bool) → a ≡ false → (b ≡ true → c ≡ false) → (a || (b && c)) ≡ false
or_off true b c e f = absurd cc
or_off false b c e f = and_off b c f

-- The fittest victim

abbrev closer_than : Setting → History → ℕ → ℕ → Bool
closer_than s h n y = is_victim s h y && nat_lt (close s h y) n

fit_none : (key : ℕ → ℕ) (s : Setting) (h : History) (c y : ℕ) → IsLeast (is_least_close s h) key c → is_victim s h y ≡ true
    → (nat_lt (close s h y) (close s h c) || (close s h y == close s h c && nat_lt (key y) (key c))) ≡ false
fit_none key s h c y best t =
    let p = both (is_victim s h c) (not (any_below (closer_than s h (close s h c)) s.chunks)) best.candidate in
    let none : any_below (closer_than s h (close s h c)) s.chunks ≡ false = not_is (any_below (closer_than s h (close s h c)) s.chunks) p.1 in
    let far : nat_lt (close s h y) (close s h c) ≡ false = second (is_victim s h y) (nat_lt (close s h y) (close s h c)) t (none_at (closer_than s h (close s h c)) s.chunks y none (victim_inside s h y t)) in
    let least : close s h y ≡ close s h c → is_least_close s h y ≡ true = λ same.
    both_true (is_victim s h y) (not (any_below (closer_than s h (close s h y)) s.chunks)) t (ap not (ap (λ (k : ℕ). any_below (closer_than s h k) s.chunks) same ∙ none)) in
    or_off (nat_lt (close s h y) (close s h c)) (close s h y == close s h c) (nat_lt (key y) (key c)) far
    (λ e. below_not (key y) (key c) (best.best y (least (same_number (close s h y) (close s h c) e))))

ordered : (a b k m : ℕ) → nat_lt a b ≡ false → nat_lt b a ≡ false → (a == b && nat_lt k m) ≡ false → m ≤ k
ordered a b k m ab ba e = grind (arith, nat_tests)

fit_best : (key : ℕ → ℕ) (s : Setting) (h : History) (c : ℕ) → is_victim s h c ≡ true
    → ((y : ℕ) → is_victim s h y ≡ true → (nat_lt (close s h y) (close s h c) || (close s h y == close s h c && nat_lt (key y) (key c))) ≡ false)
    → IsLeast (is_least_close s h) key c
fit_best key s h c t none = record {
  candidate = both_true (is_victim s h c) (not (any_below (closer_than s h (close s h c)) s.chunks)) t
      (ap not (none_from (closer_than s h (close s h c)) s.chunks (λ z lt. and_off (is_victim s h z) (nat_lt (close s h z) (close s h c))
      (λ e. (either (nat_lt (close s h z) (close s h c)) (close s h z == close s h c && nat_lt (key z) (key c)) (none z e)).0))));
  best = λ y e.
      let q = both (is_victim s h y) (not (any_below (closer_than s h (close s h y)) s.chunks)) e in
      let o = either (nat_lt (close s h y) (close s h c)) (close s h y == close s h c && nat_lt (key y) (key c)) (none y q.0) in
      let up = second (is_victim s h c) (nat_lt (close s h c) (close s h y)) t
      (none_at (closer_than s h (close s h y)) s.chunks c (not_is (any_below (closer_than s h (close s h y)) s.chunks) q.1) (victim_inside s h c t)) in
      ordered (close s h y) (close s h c) (key y) (key c) o.0 up o.1;
}

-- By policy

pub best_query : (name : PolicyName) (cursor : List ℕ) (s : Setting) (h : History) (q : ℕ) → is_trigger s h q ≡ true
    → ((y : ℕ) → is_trigger s h y ≡ true → beats (trigger_rank name cursor s h y) (trigger_rank name cursor s h q) ≡ false) → BestQuery name cursor s h q
best_query Relevance cursor s h q t none = record { candidate = t; best = λ y e. not_higher (query_rank s h y) (query_rank s h q) (none y e) }
best_query Elevator cursor s h q t none = record { candidate = t; best = λ y e. not_below _ _ (none y e) }
best_query Normal cursor s h q t none = record { candidate = t; best = λ y e. not_below _ _ (none y e) }
best_query Attach cursor s h q t none = record { candidate = t; best = λ y e. not_below _ _ (none y e) }

pub query_best : (name : PolicyName) (cursor : List ℕ) (s : Setting) (h : History) (q y : ℕ) → BestQuery name cursor s h q → is_trigger s h y ≡ true
    → beats (trigger_rank name cursor s h y) (trigger_rank name cursor s h q) ≡ false
query_best Relevance cursor s h q y k e = higher_not (query_rank s h y) (query_rank s h q) (k.best y e)
query_best Elevator cursor s h q y k e = below_not _ _ (k.best y e)
query_best Normal cursor s h q y k e = below_not _ _ (k.best y e)
query_best Attach cursor s h q y k e = below_not _ _ (k.best y e)

pub best_load : (name : PolicyName) (cursor : List ℕ) (s : Setting) (h : History) (q c : ℕ) → is_target s h q c ≡ true
    → ((y : ℕ) → is_target s h q y ≡ true → beats (load_rank name cursor s h q y) (load_rank name cursor s h q c) ≡ false) → BestLoad name cursor s h q c
best_load Relevance cursor s h q c t none = record { candidate = t; best = λ y e. not_below _ _ (none y e) }
best_load Elevator cursor s h q c t none = record { candidate = t; best = λ y e. not_below _ _ (none y e) }
best_load Normal cursor s h q c t none = record { candidate = t; best = λ y e. not_below _ _ (none y e) }
best_load Attach cursor s h q c t none = record { candidate = t; best = λ y e. not_below _ _ (none y e) }

pub load_best : (name : PolicyName) (cursor : List ℕ) (s : Setting) (h : History) (q c y : ℕ) → BestLoad name cursor s h q c → is_target s h q y ≡ true
    → beats (load_rank name cursor s h q y) (load_rank name cursor s h q c) ≡ false
load_best Relevance cursor s h q c y k e = below_not _ _ (k.best y e)
load_best Elevator cursor s h q c y k e = below_not _ _ (k.best y e)
load_best Normal cursor s h q c y k e = below_not _ _ (k.best y e)
load_best Attach cursor s h q c y k e = below_not _ _ (k.best y e)

pub best_delivery : (name : PolicyName) (cursor : List ℕ) (s : Setting) (h : History) (q c : ℕ) → is_ready s h q c ≡ true
    → ((y : ℕ) → is_ready s h q y ≡ true → beats (delivery_rank name cursor s h q y) (delivery_rank name cursor s h q c) ≡ false) → BestDelivery name cursor s h q c
best_delivery Relevance cursor s h q c t none = record { candidate = t; best = λ y e. not_below _ _ (none y e) }
best_delivery Elevator cursor s h q c t none = record { candidate = t; best = λ y e. not_below _ _ (none y e) }
best_delivery Normal cursor s h q c t none = record { candidate = t; best = λ y e. not_below _ _ (none y e) }
best_delivery Attach cursor s h q c t none = record { candidate = t; best = λ y e. not_below _ _ (none y e) }

pub delivery_best : (name : PolicyName) (cursor : List ℕ) (s : Setting) (h : History) (q c y : ℕ) → BestDelivery name cursor s h q c → is_ready s h q y ≡ true
    → beats (delivery_rank name cursor s h q y) (delivery_rank name cursor s h q c) ≡ false
delivery_best Relevance cursor s h q c y k e = below_not _ _ (k.best y e)
delivery_best Elevator cursor s h q c y k e = below_not _ _ (k.best y e)
delivery_best Normal cursor s h q c y k e = below_not _ _ (k.best y e)
delivery_best Attach cursor s h q c y k e = below_not _ _ (k.best y e)

pub best_victim : (name : PolicyName) (cursor : List ℕ) (s : Setting) (h : History) (c : ℕ) → is_victim s h c ≡ true
    → ((y : ℕ) → is_victim s h y ≡ true → beats (victim_rank name cursor s h y) (victim_rank name cursor s h c) ≡ false) → BestVictim name cursor s h c
best_victim Relevance cursor s h c t none = record { candidate = t; best = λ y e. not_below _ _ (none y e) }
best_victim Elevator cursor s h c t none = fit_best (dist s cursor) s h c t none
best_victim Normal cursor s h c t none = fit_best (place_in cursor) s h c t none
best_victim Attach cursor s h c t none = fit_best (interested s h) s h c t none

pub victim_best : (name : PolicyName) (cursor : List ℕ) (s : Setting) (h : History) (c y : ℕ) → BestVictim name cursor s h c → is_victim s h y ≡ true
    → beats (victim_rank name cursor s h y) (victim_rank name cursor s h c) ≡ false
victim_best Relevance cursor s h c y k e = below_not _ _ (k.best y e)
victim_best Elevator cursor s h c y k e = fit_none (dist s cursor) s h c y k e
victim_best Normal cursor s h c y k e = fit_none (place_in cursor) s h c y k e
victim_best Attach cursor s h c y k e = fit_none (interested s h) s h c y k e

-- By entry

all_four : (a b c d : Bool) → a ≡ true → b ≡ true → c ≡ true → d ≡ true → (a && b && c && d) ≡ true
all_four true true true d ea eb ec ed = ed
all_four true true false d ea eb ec ed = absurd cc
all_four true false c d ea eb ec ed = absurd cc
all_four false b c d ea eb ec ed = absurd cc

-- who may have a chunk loaded is a trigger
pub planned_trigger : (b : Book) (s : Setting) (h : History) (w q c : ℕ) → Stands b s h → MayPlan s h w q c → is_trigger s h q ≡ true
planned_trigger b s h w q c st may =
    all_four (is_some (need_of s q)) (is_none (underway s h)) (is_starved s h q) (any_below (is_target s h q) s.chunks)
    ((keeps s h st.setting st.followed).registered q (active_registered h q (starved_active s h q may.starved)))
    (ap (λ (o : Option UnderwayLoad). is_none o) may.none_underway) may.starved (any_at (is_target s h q) s.chunks c (target_inside s h q c may.target) may.target)

pub plan_chosen : (s : Setting) (h : History) (w q c : ℕ) → is_trigger s h q ≡ true → is_target s h q c ≡ true → NoneBetter s h Trigger q q → NoneBetter s h Load q c → Chosen s h (Plan w q c)
plan_chosen s h w q c trigger target first second = (best_query s.policy (cursor_at s h) s h q trigger first, best_load s.policy (cursor_at s h) s h q c target second)

pub deliver_chosen : (s : Setting) (h : History) (w q c : ℕ) → is_ready s h q c ≡ true → NoneBetter s h Delivery q c → Chosen s h (Deliver w q c)
deliver_chosen s h w q c ready none = best_delivery s.policy (cursor_at s h) s h q c ready none

pub evict_chosen : (s : Setting) (h : History) (w c : ℕ) → is_victim s h c ≡ true → NoneBetter s h Victim 0 c → Chosen s h (Evict w c)
evict_chosen s h w c victim none = best_victim s.policy (cursor_at s h) s h c victim none
