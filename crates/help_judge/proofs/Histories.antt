-- The tests of whole histories decide what the definitions say.
use Rattle.scan_story.specs.Counting.{count_among}
use Rattle.std.proofs.Common.{◌≡◌, ◌∷◌, [], not, ℕ, Bool, true, false, List, Option, None, Some, ◌==◌, ◌||◌, is_some, is_none, nat_le, refl}
use Rattle.scan_story.specs.declared.entry.Why.TheVariants.{Fault, Damage}
use Rattle.scan_story.specs.declared.setting.Setting.{Setting}
use Rattle.scan_story.specs.declared.entry.Entry.TheVariants.{Register, Plan, Evict, Fill, Filled, Failed, Deliver, Release, Stop, End}
use Rattle.scan_story.specs.Counting.{any_below}
use Rattle.std.specs.List.{list_all, AllByRecursion}
use Rattle.scan_story.specs.declared.setting.Need.{Need}
use Rattle.scan_story.specs.Loads.{underway}
use Rattle.scan_story.specs.Views.{History, registers, is_ended, is_stopped, held_by}
use Rattle.scan_story.specs.Whole.{has_taken, had_piece, IsWhole, Undisturbed}
use Rattle.scan_story.specs.Causes.{Licensed}
use Rattle.help_judge.specs.Tests.{is_undisturbed, is_licensed, is_rise, is_finished, is_complete}
use Rattle.help_judge.proofs.Bools.{and2, and3, all2, all3, not_is, not_true, le_is, le_true, none_is, none_true, eqb_is, eqb_true}
use Rattle.help_judge.proofs.Best.{none_at, none_under}
use Rattle.help_judge.proofs.Legality.{rise_is, rise_true}

pub undisturbed_is : (s : Setting) (h : History) → is_undisturbed s h ≡ true → Undisturbed s h
undisturbed_is s [] e = tt
undisturbed_is s (Evict w c ∷ h) e =
    let p = and2 (not (any_below (λ v. has_taken h v c) s.workers)) (is_undisturbed s h) e in
    (λ v lt. none_at (λ v. has_taken h v c) s.workers v (not_is (any_below (λ v. has_taken h v c) s.workers) p.0) lt, undisturbed_is s h p.1)
undisturbed_is s (Fill w f x ∷ h) e =
    let p = and2 (not (any_below (λ v. had_piece s h v f) s.workers)) (is_undisturbed s h) e in
    (λ v lt. none_at (λ v. had_piece s h v f) s.workers v (not_is (any_below (λ v. had_piece s h v f) s.workers) p.0) lt, undisturbed_is s h p.1)
undisturbed_is s (Register w q ∷ h) e = undisturbed_is s h e
undisturbed_is s (Plan w q c ∷ h) e = undisturbed_is s h e
undisturbed_is s (Filled w f x ∷ h) e = undisturbed_is s h e
undisturbed_is s (Failed w q x why ∷ h) e = undisturbed_is s h e
undisturbed_is s (Deliver w q c ∷ h) e = undisturbed_is s h e
undisturbed_is s (Release w q c ∷ h) e = undisturbed_is s h e
undisturbed_is s (Stop w q ∷ h) e = undisturbed_is s h e
undisturbed_is s (End w q ∷ h) e = undisturbed_is s h e

pub undisturbed_true : (s : Setting) (h : History) → Undisturbed s h → is_undisturbed s h ≡ true
undisturbed_true s [] k = refl
undisturbed_true s (Evict w c ∷ h) k =
    all2 (not (any_below (λ v. has_taken h v c) s.workers)) (is_undisturbed s h)
    (not_true (any_below (λ v. has_taken h v c) s.workers) (none_under (λ v. has_taken h v c) s.workers k.0)) (undisturbed_true s h k.1)
undisturbed_true s (Fill w f x ∷ h) k =
    all2 (not (any_below (λ v. had_piece s h v f) s.workers)) (is_undisturbed s h)
    (not_true (any_below (λ v. had_piece s h v f) s.workers) (none_under (λ v. had_piece s h v f) s.workers k.0)) (undisturbed_true s h k.1)
undisturbed_true s (Register w q ∷ h) k = undisturbed_true s h k
undisturbed_true s (Plan w q c ∷ h) k = undisturbed_true s h k
undisturbed_true s (Filled w f x ∷ h) k = undisturbed_true s h k
undisturbed_true s (Failed w q x why ∷ h) k = undisturbed_true s h k
undisturbed_true s (Deliver w q c ∷ h) k = undisturbed_true s h k
undisturbed_true s (Release w q c ∷ h) k = undisturbed_true s h k
undisturbed_true s (Stop w q ∷ h) k = undisturbed_true s h k
undisturbed_true s (End w q ∷ h) k = undisturbed_true s h k

pub licensed_is : (told : Bool) (from to : ℕ) (h : History) → is_licensed told from to h ≡ true → Licensed told from to h
licensed_is told from to [] e = le_is from to e
licensed_is told from to (Failed w q x (Fault b a) ∷ h) e = let p = and3 (nat_le a to) (is_rise b a) (is_licensed told from b h) e in (le_is a to p.0, rise_is b a p.1, licensed_is told from b h p.2)
licensed_is told from to (Failed w q x (Damage i) ∷ h) e = let p = and2 (not told) (is_licensed told from to h) e in (not_is told p.0, licensed_is told from to h p.1)
licensed_is told from to (Evict w c ∷ h) e = licensed_is told from to h e
licensed_is told from to (Fill w f x ∷ h) e = licensed_is told from to h e
licensed_is told from to (Register w q ∷ h) e = licensed_is told from to h e
licensed_is told from to (Plan w q c ∷ h) e = licensed_is told from to h e
licensed_is told from to (Filled w f x ∷ h) e = licensed_is told from to h e
licensed_is told from to (Deliver w q c ∷ h) e = licensed_is told from to h e
licensed_is told from to (Release w q c ∷ h) e = licensed_is told from to h e
licensed_is told from to (Stop w q ∷ h) e = licensed_is told from to h e
licensed_is told from to (End w q ∷ h) e = licensed_is told from to h e

pub licensed_true : (told : Bool) (from to : ℕ) (h : History) → Licensed told from to h → is_licensed told from to h ≡ true
licensed_true told from to [] k = le_true from to k
licensed_true told from to (Failed w q x (Fault b a) ∷ h) k = all3 (nat_le a to) (is_rise b a) (is_licensed told from b h) (le_true a to k.0) (rise_true b a k.1) (licensed_true told from b h k.2)
licensed_true told from to (Failed w q x (Damage i) ∷ h) k = all2 (not told) (is_licensed told from to h) (not_true told k.0) (licensed_true told from to h k.1)
licensed_true told from to (Evict w c ∷ h) k = licensed_true told from to h k
licensed_true told from to (Fill w f x ∷ h) k = licensed_true told from to h k
licensed_true told from to (Register w q ∷ h) k = licensed_true told from to h k
licensed_true told from to (Plan w q c ∷ h) k = licensed_true told from to h k
licensed_true told from to (Filled w f x ∷ h) k = licensed_true told from to h k
licensed_true told from to (Deliver w q c ∷ h) k = licensed_true told from to h k
licensed_true told from to (Release w q c ∷ h) k = licensed_true told from to h k
licensed_true told from to (Stop w q ∷ h) k = licensed_true told from to h k
licensed_true told from to (End w q ∷ h) k = licensed_true told from to h k

some_is : {X : Type 0} (o : Option X) → is_some o ≡ false → o ≡ None
some_is None e = refl
some_is (Some x) e = absurd cc

some_false : {X : Type 0} (o : Option X) → o ≡ None → is_some o ≡ false
some_false None e = refl
some_false (Some x) e = absurd cc

registered_is : (h : History) (ns : List Need) → list_all (λ n. is_finished h n.query) ns ≡ true → AllByRecursion (λ (n : Need). count_among (registers n.query) h ≡ 1) ns
registered_is h [] e = tt
registered_is h (n ∷ ns) e = let p = and2 (is_finished h n.query) (list_all (λ m. is_finished h m.query) ns) e in
    let t = and2 (count_among (registers n.query) h == 1) (is_ended h n.query || is_stopped h n.query) p.0 in
    (eqb_is (count_among (registers n.query) h) 1 t.0, registered_is h ns p.1)

finished_is : (h : History) (ns : List Need) → list_all (λ n. is_finished h n.query) ns ≡ true → AllByRecursion (λ (n : Need). (is_ended h n.query || is_stopped h n.query) ≡ true) ns
finished_is h [] e = tt
finished_is h (n ∷ ns) e = let p = and2 (is_finished h n.query) (list_all (λ m. is_finished h m.query) ns) e in
    let t = and2 (count_among (registers n.query) h == 1) (is_ended h n.query || is_stopped h n.query) p.0 in
    (t.1, finished_is h ns p.1)

finished_true : (h : History) (ns : List Need) → AllByRecursion (λ (n : Need). count_among (registers n.query) h ≡ 1) ns → AllByRecursion (λ (n : Need). (is_ended h n.query || is_stopped h n.query) ≡ true) ns
    → list_all (λ n. is_finished h n.query) ns ≡ true
finished_true h [] r f = refl
finished_true h (n ∷ ns) r f =
    all2 (is_finished h n.query) (list_all (λ m. is_finished h m.query) ns)
    (all2 (count_among (registers n.query) h == 1) (is_ended h n.query || is_stopped h n.query) (eqb_true (count_among (registers n.query) h) 1 r.0) f.0)
    (finished_true h ns r.1 f.1)

pub whole_is : (s : Setting) (h : History) → is_complete s h ≡ true → IsWhole s h
whole_is s h e =
    let p = and3 (list_all (λ n. is_finished h n.query) s.needs) (is_none (underway s h)) (not (any_below (λ w. is_some (held_by h w)) s.workers)) e in record {
      registered = registered_is h s.needs p.0;
      finished = finished_is h s.needs p.0;
      none_underway = none_is (underway s h) p.1;
      none_held = λ w lt. some_is (held_by h w) (none_at (λ w. is_some (held_by h w)) s.workers w (not_is (any_below (λ w. is_some (held_by h w)) s.workers) p.2) lt);
    }

pub whole_true : (s : Setting) (h : History) → IsWhole s h → is_complete s h ≡ true
whole_true s h k =
    all3 (list_all (λ n. is_finished h n.query) s.needs) (is_none (underway s h)) (not (any_below (λ w. is_some (held_by h w)) s.workers))
    (finished_true h s.needs k.registered k.finished) (none_true (underway s h) k.none_underway)
    (not_true (any_below (λ w. is_some (held_by h w)) s.workers) (none_under (λ w. is_some (held_by h w)) s.workers (λ w lt. some_false (held_by h w) (k.none_held w lt))))
