-- What pays for plans: a query that stops is worth two, and one that ends had nothing left.
use Rattle.std.proofs.Common.{◌≡◌, ◌<◌, ◌≤◌, ◌+◌, ◌∷◌, ◌==◌, ◌&&◌, ◌||◌, not, ℕ, true, false, if◌then◌else◌, Option, None, Some, refl, sym, subst, arith}
use Rattle.std.specs.List.{list_any}
use Rattle.scan_story.specs.declared.entry.Entry.TheVariants.{End, Failed, Stop}
use Rattle.scan_story.specs.declared.entry.Why.{Why}
use Rattle.scan_story.specs.declared.setting.Need.{Need}
use Rattle.scan_story.specs.declared.setting.Setting.{Setting}
use Rattle.scan_story.specs.declared.view.Load.{Load}
use Rattle.scan_story.specs.Counting.{count_below}
use Rattle.scan_story.specs.Loads.{underway}
use Rattle.scan_story.specs.MayFollow.{MayEnd, MayFail, MayStop}
use Rattle.scan_story.specs.Numbers.{available, needed}
use Rattle.scan_story.specs.Setting.{asks_for, need_of}
use Rattle.scan_story.specs.Views.{History, delivers, is_active, is_available, is_ended, is_registered, is_stopped, is_wholly_framed, needs_chunk}
use Rattle.story_laws.specs.Frames.{LoadsAreProper}
use Rattle.story_laws.specs.Lists.{sum_among}
use Rattle.story_laws.proofs.Active.{active_before_end, active_before_stop, active_of, active_parts}
use Rattle.story_laws.proofs.Bools.{and_both, none_some, not_both, or_off, other_number, same_number, self_number}
use Rattle.story_laws.proofs.Counts.{count_mono, count_zero}
use Rattle.story_laws.proofs.Grouped.{asking_need, worker_is}
use Rattle.story_laws.proofs.Paying.{Paid, Trigger, debt, debt_le, debt_mono, wealth}
use Rattle.story_laws.proofs.Sums.{found_query, sum_found, sum_mono}
use Rattle.story_laws.proofs.Worth.{end_drop, end_keep, need_parts, passes, stop_drop, stop_keep, two_at_least, worth, worth_end, worth_of, worth_small, worth_stop}

-- Stop and Failed

-- a starved active query that is worth two from now on
pub gains : (s : Setting) (h : History) (q : ℕ) (m : Need) (g : ℕ → ℕ) → need_of s q ≡ Some m → ((n : ℕ) → worth s h n ≤ g n) → 2 ≤ g q → is_active h q ≡ true → available s h q < 2
    → wealth s h + 1 ≤ sum_among (λ n. g n.query) s.needs
gains s h q m g is mono two a lt =
    let small = worth_small (is_registered h q) (is_stopped h q) (is_ended h q) (available s h q) a lt in
    let P : ℕ → Type 0 = λ x. worth s h x + 1 ≤ g x in
    let here : P q = omega (arith, small, two) in
    sum_found q m (λ n. worth s h n.query) (λ n. g n.query) s.needs is (λ n. mono n.query) (subst P (sym (found_query q m s.needs is)) here)

-- the same entry for a Stop and a Failed: both stop a query
worth_stopped : (s : Setting) (h : History) (q n : ℕ) → worth s h n
    ≤ worth_of (is_registered h n) ((q == n) || is_stopped h n) (is_ended h n) (count_below (passes ((q == n) || is_stopped h n) (is_ended h n) (asks_for s n) (λ c. list_any (delivers n c) h) (is_wholly_framed s h n)) s.chunks)
worth_stopped s h q n = worth_stop (q == n) (is_registered h n) (is_stopped h n) (is_ended h n) (asks_for s n) (λ c. list_any (delivers n c) h) (is_wholly_framed s h n) s.chunks

pub paid_stop : (s : Setting) (h : History) (w q : ℕ) → MayStop s h w q → Paid s h → Paid s (Stop w q ∷ h)
paid_stop s h w q may k =
    let m = worker_is (need_of s q) w may.on.on in
    let two : 2 ≤ worth s (Stop w q ∷ h) q = two_at_least (q == q) (is_stopped h q) (is_registered h q) (is_ended h q) (available s (Stop w q ∷ h) q) (self_number q) in
    let mono : wealth s h ≤ wealth s (Stop w q ∷ h) = sum_mono (λ n. worth s h n.query) (λ n. worth s (Stop w q ∷ h) n.query) s.needs (λ n. worth_stopped s h q n.query) in
    let owed : (u : Option Load) → underway s h ≡ u → wealth s h + debt h u ≤ wealth s (Stop w q ∷ h) + debt (Stop w q ∷ h) u = λ u e. elim u as (λ u. underway s h ≡ u → wealth s h + debt h u ≤ wealth s (Stop w q ∷ h) + debt (Stop w q ∷ h) u) [
      | None ↦ λ e. omega (arith, mono)
      | Some l ↦ λ e. elim (q == l.query) as (λ b. (q == l.query) ≡ b → wealth s h + debt h (Some l) ≤ wealth s (Stop w q ∷ h) + (if (is_registered h l.query && not (b || is_stopped h l.query) && not (is_ended h l.query)) then 1 else 0)) [
        | true ↦ λ t. (
            let P : ℕ → Type 0 = λ x. available s h x < 2 in
            let Q : ℕ → Type 0 = λ x. is_active h x ≡ true in
            let few : available s h q < 2 = subst P (sym (same_number q l.query t)) ((k.trigger l e).starved (subst Q (same_number q l.query t) may.on.active)) in
            omega (arith, debt_le h (Some l), gains s h q m.0 (worth s (Stop w q ∷ h)) m.1 (worth_stopped s h q) two may.on.active few)
            )
        | false ↦ λ t. omega (arith, mono)
      ] refl
    ] e in
    let old : (l : Load) → is_active (Stop w q ∷ h) l.query ≡ true → ((q == l.query) ≡ false) × (is_active h l.query ≡ true) =
    λ l a. active_before_stop (q == l.query) (is_registered h l.query) (is_stopped h l.query) (is_ended h l.query) a in
    let less : (n : ℕ) → available s (Stop w q ∷ h) n ≤ available s h n =
    λ n. count_mono (is_available s (Stop w q ∷ h) n) (is_available s h n) s.chunks
    (λ x lt e. stop_drop (q == n) (asks_for s n x) (is_stopped h n) (is_ended h n) (list_any (delivers n x) h) (is_wholly_framed s h n x) e) in
    record {
      paid = omega (arith, k.paid, owed (underway s h) refl);
      trigger = λ l u. (let t = k.trigger l u in record {
        known = t.known;
        lasting = t.lasting;
        starved = λ a. (let few = t.starved (old l a).1 in omega (arith, less l.query, few));
        wants = λ a. stop_keep (q == l.query) (asks_for s l.query l.chunk) (is_stopped h l.query) (is_ended h l.query) (list_any (delivers l.query l.chunk) h) (old l a).0 (t.wants (old l a).1);
      });
    }

pub paid_failed : (s : Setting) (h : History) (w q p : ℕ) (why : Why) → MayFail s h w q p why → Paid s h → Paid s (Failed w q p why ∷ h)
paid_failed s h w q p why may k =
    let l = may.load in
    let t = k.trigger l may.is_load.underway in
    let two : 2 ≤ worth s (Failed w q p why ∷ h) q = two_at_least (q == q) (is_stopped h q) (is_registered h q) (is_ended h q) (available s (Failed w q p why ∷ h) q) (self_number q) in
    let mono : wealth s h ≤ wealth s (Failed w q p why ∷ h) = sum_mono (λ n. worth s h n.query) (λ n. worth s (Failed w q p why ∷ h) n.query) s.needs (λ n. worth_stopped s h q n.query) in
    let owed : wealth s h + debt h (underway s h) ≤ wealth s (Failed w q p why ∷ h) = rw (may.is_load.underway) (
    elim (is_active h l.query) as (λ b. is_active h l.query ≡ b → wealth s h + (if b then 1 else 0) ≤ wealth s (Failed w q p why ∷ h)) [
      | true ↦ λ a. (
          let P : ℕ → Type 0 = λ x. available s h x < 2 in
          let Q : ℕ → Type 0 = λ x. is_active h x ≡ true in
          let R : ℕ → Type 0 = λ x. (m : Need) × (need_of s x ≡ Some m) in
          let m = subst R may.for_query (asking_need (need_of s l.query) l.chunk
          (need_parts (asks_for s l.query l.chunk) (is_stopped h l.query) (is_ended h l.query) (list_any (delivers l.query l.chunk) h) (t.wants a)).0) in
          gains s h q m.0 (worth s (Failed w q p why ∷ h)) m.1 (worth_stopped s h q) two (subst Q may.for_query a) (subst P may.for_query (t.starved a))
          )
      | false ↦ λ a. omega (arith, mono)
    ] refl) in
    record { paid = omega (arith, k.paid, owed); trigger = λ j u. absurd (none_some j u) }

-- End

needs_nothing : (s : Setting) (h : History) (q : ℕ) → needed s h q ≡ 0 → available s h q ≡ 0
needs_nothing s h q none = omega (arith, count_mono (is_available s h q) (needs_chunk s h q) s.chunks (λ x lt e. (and_both (needs_chunk s h q x) (is_wholly_framed s h q x) e).0))

-- an active trigger needs its chunk, so it doesn't end
trigger_goes_on : (s : Setting) (h : History) (w q : ℕ) (l : Load) → MayEnd s h w q → l.chunk < s.chunks → Trigger s h l → (q == l.query) ≡ false
trigger_goes_on s h w q l may small t =
    other_number q l.query (λ same. (
    let N : ℕ → Type 0 = λ x. needed s h x ≡ 0 in
    let A : ℕ → Type 0 = λ x. is_active h x ≡ true in
    not_both (needs_chunk s h l.query l.chunk) (t.wants (subst A same may.on.active)) (count_zero (needs_chunk s h l.query) s.chunks l.chunk (subst N same may.needs_nothing) small)
    ))

pub paid_end : (s : Setting) (h : History) (w q : ℕ) → MayEnd s h w q → LoadsAreProper s h → Paid s h → Paid s (End w q ∷ h)
paid_end s h w q may r k =
    let P : ℕ → Type 0 = λ x. available s h x ≡ 0 in
    let mono : wealth s h ≤ wealth s (End w q ∷ h) = sum_mono (λ n. worth s h n.query) (λ n. worth s (End w q ∷ h) n.query) s.needs
    (λ n. worth_end (q == n.query) (is_registered h n.query) (is_stopped h n.query) (is_ended h n.query) (asks_for s n.query) (λ c. list_any (delivers n.query c) h) (is_wholly_framed s h n.query) s.chunks
    (λ t. subst P (same_number q n.query t) (needs_nothing s h q may.needs_nothing))) in
    let apart : (l : Load) → underway s h ≡ Some l → (q == l.query) ≡ false = λ l u. trigger_goes_on s h w q l may (r l u).chunk (k.trigger l u) in
    let old : (l : Load) → is_active (End w q ∷ h) l.query ≡ true → ((q == l.query) ≡ false) × (is_active h l.query ≡ true) =
    λ l a. active_before_end (q == l.query) (is_registered h l.query) (is_stopped h l.query) (is_ended h l.query) a in
    let less : (n : ℕ) → available s (End w q ∷ h) n ≤ available s h n =
    λ n. count_mono (is_available s (End w q ∷ h) n) (is_available s h n) s.chunks
    (λ x lt e. end_drop (q == n) (asks_for s n x) (is_stopped h n) (is_ended h n) (list_any (delivers n x) h) (is_wholly_framed s h n x) e) in
    let owed : debt h (underway s h) ≤ debt (End w q ∷ h) (underway s h) =
    debt_mono h (End w q ∷ h) (underway s h) (λ l u a. (let p = active_parts (is_registered h l.query) (is_stopped h l.query) (is_ended h l.query) a in
    active_of (is_registered h l.query) (is_stopped h l.query) (is_ended (End w q ∷ h) l.query) p.0 p.1 (or_off (q == l.query) (is_ended h l.query) (apart l u) p.2))) in
    record {
      paid = omega (arith, k.paid, mono, owed);
      trigger = λ l u. (let t = k.trigger l u in record {
        known = t.known;
        lasting = or_off (q == l.query) (is_ended h l.query) (apart l u) t.lasting;
        starved = λ a. (let few = t.starved (old l a).1 in omega (arith, less l.query, few));
        wants = λ a. end_keep (q == l.query) (asks_for s l.query l.chunk) (is_stopped h l.query) (is_ended h l.query) (list_any (delivers l.query l.chunk) h) (old l a).0 (t.wants (old l a).1);
      });
    }
