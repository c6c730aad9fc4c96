-- Each policy evicts only chunks that are close to no query, so nobody is starved by an eviction.
use Rattle.std.proofs.Common.{◌≡◌, ◌<◌, ◌≤◌, ◌+◌, ◌∷◌, [], ◌&&◌, not, ℕ, Bool, true, false, if◌then◌else◌, List, Option, None, Some, nat_lt, nat_le, min, refl, ap, subst, arith}
use Rattle.std.proofs.lemmas.Bool.Decides.{nat_tests}
use Rattle.std.specs.List.{list_any}
use Rattle.scan_story.specs.declared.entry.Entry.TheVariants.{Deliver, End, Evict, Failed, Fill, Filled, Plan, Register, Release, Stop}
use Rattle.scan_story.specs.declared.setting.Need.{Need}
use Rattle.scan_story.specs.declared.setting.PolicyName.{PolicyName}
use Rattle.scan_story.specs.declared.setting.PolicyName.TheVariants.{Attach, Elevator, Normal, Relevance}
use Rattle.scan_story.specs.declared.setting.Setting.{Setting}
use Rattle.scan_story.specs.Counting.{any_below, count_among, has}
use Rattle.scan_story.specs.Legal.{Legal, cursor_at}
use Rattle.scan_story.specs.MayFollow.{MayEvict, is_victim}
use Rattle.scan_story.specs.Numbers.{available, close, interested, is_starved}
use Rattle.scan_story.specs.Policies.{BestVictim, is_least_close}
use Rattle.scan_story.specs.Setting.{HasRoom, IsSetting, asks_for, chunks_in, need_of}
use Rattle.scan_story.specs.Views.{History, delivers, is_active, is_available, is_ended, is_stopped, is_wholly_framed, needs_chunk}
use Rattle.scan_story.proofs.Close.{victim_is_close_to_none}
use Rattle.story_laws.specs.Victims.{ChosenIsFar, EvictionStarvesNobody, HasFarVictim, VictimsWereFar}
use Rattle.story_laws.proofs.Active.{few_active, listed}
use Rattle.story_laws.proofs.Bools.{and_both, below, both_and, if_not, is_below, not_both, not_false, or_off}
use Rattle.story_laws.proofs.Counts.{any_none_at, any_nowhere, count_off}
use Rattle.story_laws.proofs.Grouped.{Grouped}
use Rattle.story_laws.proofs.Paid.{evict_two}
use Rattle.story_laws.proofs.Proper.{victim}
use Rattle.story_laws.proofs.Rooms.{far_victim}
use Rattle.story_laws.proofs.Sums.{among_less, found_query}
use Rattle.story_laws.proofs.Worth.{need_parts}

-- Among the candidates of least close

least_close : (s : Setting) (h : History) (c y : ℕ) → is_least_close s h c ≡ true → is_victim s h y ≡ true → close s h c ≤ close s h y
least_close s h c y best other =
    let o = and_both (is_victim s h c) (not (any_below (λ y. is_victim s h y && nat_lt (close s h y) (close s h c)) s.chunks)) best in
    let none = any_none_at (λ y. is_victim s h y && nat_lt (close s h y) (close s h c)) s.chunks y (not_false (any_below (λ y. is_victim s h y && nat_lt (close s h y) (close s h c)) s.chunks) o.1) (victim s h y other).chunk in
    not_less (close s h y) (close s h c) (if_not (nat_lt (close s h y) (close s h c)) (λ t. not_both (is_victim s h y && nat_lt (close s h y) (close s h c)) (both_and (is_victim s h y) (nat_lt (close s h y) (close s h c)) other t) none))
  where
    not_less : (a b : ℕ) → nat_lt a b ≡ false → b ≤ a
    not_less a b e = grind (arith, nat_tests)

none_closer : (s : Setting) (h : History) (c : ℕ) → is_least_close s h c ≡ true → HasFarVictim s h → close s h c ≡ 0
none_closer s h c best x = let le = least_close s h c x.chunk best x.victim in let far = x.far in omega (arith, le, far)

few_interested : (s : Setting) (h : History) (c : ℕ) → IsSetting s → Legal s h → interested s h c ≤ 32
few_interested s h c m legal =
    let k = m.workers in
    omega (arith, k.1, few_active s h m legal, among_less (λ n. is_active h n.query) (λ n. needs_chunk s h n.query c) s.needs)

far_by : (name : PolicyName) (s : Setting) (h : History) (cursor : List ℕ) (c : ℕ) → IsSetting s → Legal s h → BestVictim name cursor s h c → HasFarVictim s h → close s h c ≡ 0
far_by Relevance s h cursor c m legal best x = let g = m.groups in victim_is_close_to_none s h cursor c x.chunk g.1 (few_interested s h x.chunk m legal) best x.victim x.far
far_by Elevator s h cursor c m legal best x = none_closer s h c best.candidate x
far_by Normal s h cursor c m legal best x = none_closer s h c best.candidate x
far_by Attach s h cursor c m legal best x = none_closer s h c best.candidate x

pub best_is_far : (s : Setting) (h : History) → IsSetting s → Legal s h → ChosenIsFar s h
best_is_far s h m legal cursor c best x = far_by s.policy s h cursor c m legal best x

-- an eviction that is chosen is of a chunk that is close to no query
pub evicts_far : (s : Setting) (h : History) (w c : ℕ) → IsSetting s → HasRoom s → Grouped s → Legal s h → MayEvict s h w c → BestVictim s.policy (cursor_at s h) s h c → close s h c ≡ 0
evicts_far s h w c m room g legal may best =
    best_is_far s h m legal (cursor_at s h) c best (far_victim s h m room g legal may.load may.is_load.underway may.none_begun may.too_few)

pub victims_far : (s : Setting) (h : History) → IsSetting s → HasRoom s → Grouped s → Legal s h → VictimsWereFar s h
victims_far s [] m room g legal = tt
victims_far s (Evict w c ∷ h) m room g legal = (evicts_far s h w c m room g legal.2 legal.0 legal.1, victims_far s h m room g legal.2)
victims_far s (Register w q ∷ h) m room g legal = victims_far s h m room g legal.2
victims_far s (Plan w q c ∷ h) m room g legal = victims_far s h m room g legal.2
victims_far s (Fill w f p ∷ h) m room g legal = victims_far s h m room g legal.2
victims_far s (Filled w f p ∷ h) m room g legal = victims_far s h m room g legal.2
victims_far s (Failed w q p why ∷ h) m room g legal = victims_far s h m room g legal.2
victims_far s (Deliver w q c ∷ h) m room g legal = victims_far s h m room g legal.2
victims_far s (Release w q c ∷ h) m room g legal = victims_far s h m room g legal.2
victims_far s (Stop w q ∷ h) m room g legal = victims_far s h m room g legal.2
victims_far s (End w q ∷ h) m room g legal = victims_far s h m room g legal.2

-- An eviction starves nobody

-- nothing is available to a query without a need
available_need : (s : Setting) (h : History) (q : ℕ) → need_of s q ≡ None → available s h q ≡ 0
available_need s h q none =
    count_off (is_available s h q) s.chunks (any_nowhere (is_available s h q) s.chunks (λ c lt. if_not (is_available s h q c) (λ e. (
    let n = (and_both (needs_chunk s h q c) (is_wholly_framed s h q c) e).0 in
    let a = (need_parts (asks_for s q c) (is_stopped h q) (is_ended h q) (list_any (delivers q c) h) n).0 in
    not_both (asks_for s q c) a (ap (λ o. has (chunks_in o) c) none)))))

not_listed : (t : Need → Bool) (ns : List Need) → count_among t ns ≡ 0 → list_any t ns ≡ false
not_listed t [] e = refl
not_listed t (n ∷ ns) e = let o = zero (t n) e in or_off (t n) (list_any t ns) o.0 (not_listed t ns o.1)
  where
    zero : (b : Bool) → (if b then count_among t ns + 1 else count_among t ns) ≡ 0 → (b ≡ false) × (count_among t ns ≡ 0)
    zero true e = absurd (omega (arith, e))
    zero false e = (refl, e)

two_of : (s : Setting) (h : History) (w c q : ℕ) → Grouped s → close s h c ≡ 0 → is_active h q ≡ true → (o : Option Need) → need_of s q ≡ o → min (available s h q) 2 ≡ min (available s (Evict w c ∷ h) q) 2
two_of s h w c q g far a None none =
    let before = available_need s h q none in let after = available_need s (Evict w c ∷ h) q none in omega (arith, before, after)
two_of s h w c q g far a (Some m) on =
    let t : Need → Bool = λ n. is_active h n.query && is_available s h n.query c && nat_le (available s h n.query) 2 in
    let none : list_any t s.needs ≡ false = not_listed t s.needs far in
    let P : ℕ → Type 0 = λ x. (is_active h x && is_available s h x c && nat_le (available s h x) 2) ≡ false in
    let off : P q = subst P (found_query q m s.needs on) (if_not (t m) (λ e. not_both (list_any t s.needs) (listed q m t s.needs on e) none)) in
    evict_two s h w c q g (if_not (is_available s h q c && nat_le (available s h q) 2) (λ e. (let o = and_both (is_available s h q c) (nat_le (available s h q) 2) e in
    not_both (is_active h q && is_available s h q c && nat_le (available s h q) 2)
    (both_and (is_active h q && is_available s h q c) (nat_le (available s h q) 2) (both_and (is_active h q) (is_available s h q c) a o.0) o.1) off)))

pub starves_nobody : (s : Setting) (h : History) → IsSetting s → HasRoom s → Grouped s → Legal s h → EvictionStarvesNobody s h
starves_nobody s h m room g legal w c may q fed =
    let far = evicts_far s h w c m room g legal may.allowed may.chosen in
    if_not (is_starved s (Evict w c ∷ h) q) (λ e. (
    let o = and_both (is_active h q) (nat_lt (available s (Evict w c ∷ h) q) 2) e in
    let two = two_of s h w c q g far o.0 (need_of s q) refl in
    let few : available s (Evict w c ∷ h) q < 2 = below (available s (Evict w c ∷ h) q) 2 o.1 in
    not_both (is_starved s h q) (both_and (is_active h q) (nat_lt (available s h q) 2) o.0 (is_below (available s h q) 2 (omega (arith, two, few)))) fed))
