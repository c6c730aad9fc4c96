-- The plans of a legal history are paid by its deliveries and by what its queries are worth, but for a load underway whose
-- trigger is active, which is starved.
use Rattle.std.proofs.Common.{◌≡◌, ◌<◌, ◌≤◌, ◌+◌, ◌∷◌, [], ◌==◌, ◌&&◌, ℕ, true, false, Some, nat_le, min, refl, sym, ◌∙◌, ap, arith}
use Rattle.std.proofs.lemmas.Bool.Decides.{nat_tests}
use Rattle.std.specs.List.{list_any}
use Rattle.scan_story.specs.declared.entry.Entry.{Entry}
use Rattle.scan_story.specs.declared.entry.Entry.TheVariants.{Deliver, End, Evict, Failed, Fill, Filled, Plan, Register, Release, Stop}
use Rattle.scan_story.specs.declared.setting.Setting.{Setting}
use Rattle.scan_story.specs.declared.view.Load.{Load}
use Rattle.scan_story.specs.Legal.{Legal}
use Rattle.scan_story.specs.Loads.{underway}
use Rattle.scan_story.specs.MayFollow.{MayDeliver}
use Rattle.scan_story.specs.Numbers.{available, close}
use Rattle.scan_story.specs.Setting.{AreDistinct, asks_for}
use Rattle.scan_story.specs.Views.{History, delivers, is_active, is_available, is_ended, is_registered, is_stopped, is_wholly_framed, needs_chunk}
use Rattle.story_laws.specs.Frames.{LoadsAreProper}
use Rattle.story_laws.specs.Victims.{VictimsWereFar}
use Rattle.story_laws.proofs.Bools.{and_both, and_more, and_off_left, and_off_right, flipped, if_not, none_some, not_both, other_number, same_number}
use Rattle.story_laws.proofs.Counts.{count_but, count_mono}
use Rattle.story_laws.proofs.Delivering.{ready}
use Rattle.story_laws.proofs.Grouped.{Grouped}
use Rattle.story_laws.proofs.Paying.{Paid, paid_fill, paid_filled, paid_plan, paid_register, same_debt, wealth}
use Rattle.story_laws.proofs.Proper.{evict_less, evict_stays, not_whole, sound}
use Rattle.story_laws.proofs.Standing.{whole_more}
use Rattle.story_laws.proofs.Stopping.{paid_end, paid_failed, paid_stop}
use Rattle.story_laws.proofs.Sums.{sum_one_less, sum_where}
use Rattle.story_laws.proofs.Worth.{deliver_keep, pass_drop, pass_keep, worth, worth_far, worth_less, worth_mono}

-- Deliver

paid_deliver : (s : Setting) (h : History) (w q c : ℕ) → AreDistinct s.needs → MayDeliver s h w q c → LoadsAreProper s h → Paid s h → Paid s (Deliver w q c ∷ h)
paid_deliver s h w q c d may r k =
    let less : (n : ℕ) → available s (Deliver w q c ∷ h) n ≤ available s h n =
    λ n. count_mono (is_available s (Deliver w q c ∷ h) n) (is_available s h n) s.chunks
    (λ x lt e. pass_drop (q == n && c == x) (asks_for s n x) (is_stopped h n) (is_ended h n) (list_any (delivers n x) h) (is_wholly_framed s h n x) e) in
    let one : (n : ℕ) → available s h n ≤ available s (Deliver w q c ∷ h) n + 1 =
    λ n. count_but (is_available s h n) (is_available s (Deliver w q c ∷ h) n) c s.chunks
    (λ x ne e. pass_keep (q == n && c == x) (asks_for s n x) (is_stopped h n) (is_ended h n) (list_any (delivers n x) h) (is_wholly_framed s h n x) (and_off_right (q == n) (c == x) ne) e) in
    let same : (n : ℕ) → (n == q) ≡ false → available s h n ≤ available s (Deliver w q c ∷ h) n =
    λ n ne. count_mono (is_available s h n) (is_available s (Deliver w q c ∷ h) n) s.chunks
    (λ x lt e. pass_keep (q == n && c == x) (asks_for s n x) (is_stopped h n) (is_ended h n) (list_any (delivers n x) h) (is_wholly_framed s h n x) (and_off_left (q == n) (c == x) (flipped n q ne)) e) in
    let spent : wealth s h ≤ wealth s (Deliver w q c ∷ h) + 1 = sum_one_less q (λ n. worth s h n.query) (λ n. worth s (Deliver w q c ∷ h) n.query) s.needs d
    (λ n ne. worth_mono (is_registered h n.query) (is_stopped h n.query) (is_ended h n.query) (available s h n.query) (available s (Deliver w q c ∷ h) n.query) (omega (arith, same n.query ne)))
    (λ n. worth_less (is_registered h n.query) (is_stopped h n.query) (is_ended h n.query) (available s h n.query) (available s (Deliver w q c ∷ h) n.query) (one n.query)) in
    let whole : is_wholly_framed s h q c ≡ true = (ready s h q c may.ready).whole in
    let apart : (l : Load) → underway s h ≡ Some l → (q == l.query && c == l.chunk) ≡ false =
    λ l u. if_not (q == l.query && c == l.chunk) (λ t. (let both = and_both (q == l.query) (c == l.chunk) t in
    not_both (is_wholly_framed s h l.query l.chunk)
    (ap (λ x. is_wholly_framed s h x l.chunk) (sym (same_number q l.query both.0)) ∙ ap (is_wholly_framed s h q) (sym (same_number c l.chunk both.1)) ∙ whole) (not_whole s h l (r l u)))) in
    record {
      paid = omega (arith, k.paid, spent, same_debt h (Deliver w q c ∷ h) (underway s h) (λ x. refl));
      trigger = λ l u. (let t = k.trigger l u in record {
        known = t.known;
        lasting = t.lasting;
        starved = λ a. (let few = t.starved a in omega (arith, less l.query, few));
        wants = λ a. deliver_keep (q == l.query && c == l.chunk) (asks_for s l.query l.chunk) (is_stopped h l.query) (is_ended h l.query) (list_any (delivers l.query l.chunk) h) (apart l u) (t.wants a);
      });
    }

paid_release : (s : Setting) (h : History) (w q c : ℕ) → Paid s h → Paid s (Release w q c ∷ h)
paid_release s h w q c k = record {
  paid = omega (arith, k.paid, same_debt h (Release w q c ∷ h) (underway s h) (λ x. refl));
  trigger = λ l u. (let t = k.trigger l u in record { known = t.known; lasting = t.lasting; starved = t.starved; wants = t.wants });
}

-- Evict, of a chunk that is close to no query

more_than_two : (m : ℕ) → nat_le m 2 ≡ false → 2 < m
more_than_two m e = grind (arith, nat_tests)

pub evict_available : (s : Setting) (h : History) (w c q x : ℕ) → is_available s (Evict w c ∷ h) q x ≡ true → is_available s h q x ≡ true
evict_available s h w c q x =
    and_more (needs_chunk s h q x) (is_wholly_framed s (Evict w c ∷ h) q x) (is_wholly_framed s h q x) (whole_more s (Evict w c ∷ h) h q x (λ p m. evict_less s h w c p))

-- pieces of another chunk stay
evict_keeps_whole : (s : Setting) (h : History) (w c q x : ℕ) → Grouped s → (c == x) ≡ false → is_wholly_framed s h q x ≡ true → is_wholly_framed s (Evict w c ∷ h) q x ≡ true
evict_keeps_whole s h w c q x g ne = whole_more s h (Evict w c ∷ h) q x (λ p m. evict_stays s h w c p (ap (λ z. z == c) (g.read q x p m) ∙ flipped c x ne))

-- as many are available as before, up to two
pub evict_two : (s : Setting) (h : History) (w c q : ℕ) → Grouped s → (is_available s h q c && nat_le (available s h q) 2) ≡ false → min (available s h q) 2 ≡ min (available s (Evict w c ∷ h) q) 2
evict_two s h w c q g far =
    let less : available s (Evict w c ∷ h) q ≤ available s h q = count_mono (is_available s (Evict w c ∷ h) q) (is_available s h q) s.chunks (λ x lt e. evict_available s h w c q x e) in
    let stay : (x : ℕ) → (c == x) ≡ false → is_available s h q x ≡ true → is_available s (Evict w c ∷ h) q x ≡ true =
    λ x ne. and_more (needs_chunk s h q x) (is_wholly_framed s h q x) (is_wholly_framed s (Evict w c ∷ h) q x) (evict_keeps_whole s h w c q x g ne) in
    elim (is_available s h q c) as (λ b. is_available s h q c ≡ b → (b && nat_le (available s h q) 2) ≡ false → min (available s h q) 2 ≡ min (available s (Evict w c ∷ h) q) 2) [
      | true ↦ λ a f. omega (arith, less, more_than_two (available s h q) f, count_but (is_available s h q) (is_available s (Evict w c ∷ h) q) c s.chunks stay)
      | false ↦ λ a f. (
          let same : available s h q ≤ available s (Evict w c ∷ h) q = count_mono (is_available s h q) (is_available s (Evict w c ∷ h) q) s.chunks
          (λ x lt e. stay x (other_number c x (λ t. not_both (is_available s h q x) e (ap (is_available s h q) (sym t) ∙ a))) e) in
          omega (arith, less, same)
          )
    ] refl far

paid_evict : (s : Setting) (h : History) (w c : ℕ) → Grouped s → close s h c ≡ 0 → Paid s h → Paid s (Evict w c ∷ h)
paid_evict s h w c g far k =
    let more : wealth s h ≤ wealth s (Evict w c ∷ h) =
    sum_where (λ n. is_active h n.query && is_available s h n.query c && nat_le (available s h n.query) 2) (λ n. worth s h n.query) (λ n. worth s (Evict w c ∷ h) n.query) s.needs far
    (λ n no. worth_far (is_registered h n.query) (is_stopped h n.query) (is_ended h n.query) (is_available s h n.query c) (nat_le (available s h n.query) 2)
    (available s h n.query) (available s (Evict w c ∷ h) n.query) no (evict_two s h w c n.query g)) in
    let less : (q : ℕ) → available s (Evict w c ∷ h) q ≤ available s h q = λ q. count_mono (is_available s (Evict w c ∷ h) q) (is_available s h q) s.chunks (λ x lt e. evict_available s h w c q x e) in
    record {
      paid = omega (arith, k.paid, more, same_debt h (Evict w c ∷ h) (underway s h) (λ x. refl));
      trigger = λ l u. (let t = k.trigger l u in record { known = t.known; lasting = t.lasting; starved = λ a. (let few = t.starved a in omega (arith, less l.query, few)); wants = t.wants });
    }

-- All

paid_next : (s : Setting) (h : History) (e : Entry) → Grouped s → AreDistinct s.needs → VictimsWereFar s (e ∷ h) → Legal s (e ∷ h) → Paid s h → Paid s (e ∷ h)
paid_next s h (Register w q) g d far legal k = paid_register s h w q legal.0 k
paid_next s h (Plan w q c) g d far legal k = paid_plan s h w q c legal.0 k
paid_next s h (Evict w c) g d far legal k = paid_evict s h w c g far.0 k
paid_next s h (Fill w f p) g d far legal k = paid_fill s h w f p legal.0 k
paid_next s h (Filled w f p) g d far legal k = paid_filled s h w f p g legal.0 (sound s h g legal.2) (sound s (Filled w f p ∷ h) g legal) k
paid_next s h (Failed w q p why) g d far legal k = paid_failed s h w q p why legal.0 k
paid_next s h (Deliver w q c) g d far legal k = paid_deliver s h w q c d legal.0 (sound s h g legal.2).load k
paid_next s h (Release w q c) g d far legal k = paid_release s h w q c k
paid_next s h (Stop w q) g d far legal k = paid_stop s h w q legal.0 k
paid_next s h (End w q) g d far legal k = paid_end s h w q legal.0 (sound s h g legal.2).load k

pub far_before : (s : Setting) (h : History) (e : Entry) → VictimsWereFar s (e ∷ h) → VictimsWereFar s h
far_before s h (Evict w c) far = far.1
far_before s h (Register w q) far = far
far_before s h (Plan w q c) far = far
far_before s h (Fill w f p) far = far
far_before s h (Filled w f p) far = far
far_before s h (Failed w q p why) far = far
far_before s h (Deliver w q c) far = far
far_before s h (Release w q c) far = far
far_before s h (Stop w q) far = far
far_before s h (End w q) far = far

pub paid : (s : Setting) (h : History) → Grouped s → AreDistinct s.needs → VictimsWereFar s h → Legal s h → Paid s h
paid s [] g d far legal = record { paid = omega arith; trigger = λ l u. absurd (none_some l u) }
paid s (e ∷ h) g d far legal = paid_next s h e g d far legal (paid s h g d (far_before s h e far) legal.2)
