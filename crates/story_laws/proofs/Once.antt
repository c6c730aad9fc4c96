-- A query registers, ends and stops once at most, and a chunk is released once a Deliver.
use Rattle.std.proofs.Common.{◌≡◌, ◌≤◌, ◌+◌, ◌∷◌, [], ◌==◌, ◌||◌, ℕ, Bool, true, false, cond, if◌then◌else◌, List, length, find, Option, None, Some, is_some, refl, sym, ◌∙◌, ap, arith}
use Rattle.scan_story.specs.declared.entry.Entry.{Entry}
use Rattle.scan_story.specs.declared.entry.Entry.TheVariants.{Deliver, End, Evict, Failed, Fill, Filled, Plan, Register, Release, Stop}
use Rattle.scan_story.specs.declared.setting.Need.{Need}
use Rattle.scan_story.specs.declared.setting.Setting.{Setting}
use Rattle.scan_story.specs.declared.view.Hold.{Hold}
use Rattle.scan_story.specs.Counting.{count_among, count_below}
use Rattle.scan_story.specs.Legal.{Legal}
use Rattle.scan_story.specs.MayFollow.{Allowed}
use Rattle.scan_story.specs.Setting.{IsSetting, need_of, worker_of}
use Rattle.scan_story.specs.Spent.{deliveries}
use Rattle.scan_story.specs.Views.{History, held_by, is_ended, is_registered, is_stopped}
use Rattle.scan_story.proofs.Counts.{among_within}
use Rattle.story_laws.specs.Frames.{HoldersAreWorkers}
use Rattle.story_laws.proofs.Active.{active_parts}
use Rattle.story_laws.proofs.Bools.{equal_number, if_here, none_some, not_both, or_left, or_right, same_some, self_number}
use Rattle.story_laws.proofs.Counts.{count_but, count_grows, count_nothing}
use Rattle.story_laws.proofs.Grouped.{Grouped, worker_is}
use Rattle.story_laws.proofs.Holds.{holding}
use Rattle.story_laws.proofs.Sums.{found_query}
use Rattle.story_laws.proofs.Tallies.{is_end, is_register, is_release, is_stop}

-- how many queries of the needs pass
abbrev passing : Setting → (ℕ → Bool) → ℕ
passing s t = count_among (λ n. t n.query) s.needs

more_among : (t u : Need → Bool) (ns : List Need) → ((n : Need) → t n ≡ true → u n ≡ true) → count_among t ns ≤ count_among u ns
more_among t u [] f = omega arith
more_among t u (n ∷ ns) f = step (t n) (u n) (f n) (more_among t u ns f)
  where
    step : (a b : Bool) → (a ≡ true → b ≡ true) → count_among t ns ≤ count_among u ns → (if a then count_among t ns + 1 else count_among t ns) ≤ (if b then count_among u ns + 1 else count_among u ns)
    step true true g le = omega (arith, le)
    step true false g le = let bad = g refl in absurd cc
    step false true g le = omega (arith, le)
    step false false g le = le

-- the need that is found passes u and not t
one_among : (q : ℕ) (m : Need) (t u : Need → Bool) (ns : List Need) → find (λ n. n.query == q) ns ≡ Some m → ((n : Need) → t n ≡ true → u n ≡ true) → t m ≡ false → u m ≡ true → count_among t ns + 1 ≤ count_among u ns
one_among q m t u [] on f off is = absurd (none_some m on)
one_among q m t u (n ∷ ns) on f off is =
    elim (n.query == q) as (λ b. cond b (Some n) (find (λ k. k.query == q) ns) ≡ Some m → count_among t (n ∷ ns) + 1 ≤ count_among u (n ∷ ns)) [
      | true ↦ λ e. here (t n) (u n) (ap t (same_some n m e) ∙ off) (ap u (same_some n m e) ∙ is) (more_among t u ns f)
      | false ↦ λ e. there (t n) (u n) (f n) (one_among q m t u ns e f off is)
    ] on
  where
    here : (a b : Bool) → a ≡ false → b ≡ true → count_among t ns ≤ count_among u ns → (if a then count_among t ns + 1 else count_among t ns) + 1 ≤ (if b then count_among u ns + 1 else count_among u ns)
    here true b i j le = absurd cc
    here false true i j le = omega (arith, le)
    here false false i j le = absurd cc

    there : (a b : Bool) → (a ≡ true → b ≡ true) → count_among t ns + 1 ≤ count_among u ns → (if a then count_among t ns + 1 else count_among t ns) + 1 ≤ (if b then count_among u ns + 1 else count_among u ns)
    there true true g le = omega (arith, le)
    there true false g le = let bad = g refl in absurd cc
    there false true g le = omega (arith, le)
    there false false g le = le

passing_more : (s : Setting) (q : ℕ) (t : ℕ → Bool) → passing s t ≤ passing s (λ x. (q == x) || t x)
passing_more s q t = more_among (λ n. t n.query) (λ n. (q == n.query) || t n.query) s.needs (λ n e. or_right (q == n.query) (t n.query) e)

passing_new : (s : Setting) (q w : ℕ) (t : ℕ → Bool) → worker_of s q ≡ Some w → t q ≡ false → passing s t + 1 ≤ passing s (λ x. (q == x) || t x)
passing_new s q w t on fresh =
    let m = worker_is (need_of s q) w on in
    let same : m.0.query ≡ q = found_query q m.0 s.needs m.1 in
    one_among q m.0 (λ n. t n.query) (λ n. (q == n.query) || t n.query) s.needs m.1 (λ n e. or_right (q == n.query) (t n.query) e) (ap t same ∙ fresh)
    (or_left (q == m.0.query) (t m.0.query) (equal_number q m.0.query (sym same)))

-- Registers, Ends and Stops: at most one a query; Releases: at most one a Deliver
record Once (s : Setting) (h : History) : Type 0 where
  registers : count_among is_register h ≤ passing s (is_registered h)
  ends : count_among is_end h ≤ passing s (is_ended h)
  stops : count_among is_stop h ≤ passing s (is_stopped h)
  releases : count_among is_release h + count_below (λ w. is_some (held_by h w)) s.workers ≤ deliveries h

is_some_if : (b : Bool) (x : Hold) (u : Option Hold) → b ≡ false → is_some (if b then Some x else u) ≡ true → is_some u ≡ true
is_some_if true x u e f = absurd cc
is_some_if false x u e f = f

kept_some : (b : Bool) (u : Option Hold) → is_some (if b then None else u) ≡ true → is_some u ≡ true
kept_some true u f = absurd (not_both false f refl)
kept_some false u f = f

once_deliver : (s : Setting) (h : History) (w q c : ℕ) → count_below (λ v. is_some (held_by (Deliver w q c ∷ h) v)) s.workers ≤ count_below (λ v. is_some (held_by h v)) s.workers + 1
once_deliver s h w q c =
    count_but (λ v. is_some (held_by (Deliver w q c ∷ h) v)) (λ v. is_some (held_by h v)) w s.workers (λ v ne f. is_some_if (w == v) (record { query = q; chunk = c }) (held_by h v) ne f)

once_release : (s : Setting) (h : History) (w q c : ℕ) → HoldersAreWorkers s h → held_by h w ≡ Some (record { query = q; chunk = c })
    → count_below (λ v. is_some (held_by (Release w q c ∷ h) v)) s.workers + 1 ≤ count_below (λ v. is_some (held_by h v)) s.workers
once_release s h w q c on held =
    count_grows (λ v. is_some (held_by (Release w q c ∷ h) v)) (λ v. is_some (held_by h v)) s.workers w (λ v lt f. kept_some (w == v) (held_by h v) f)
    (on w (record { query = q; chunk = c }) held).worker (ap is_some (if_here (w == w) None (held_by h w) (self_number w))) (ap is_some held)

once_next : (s : Setting) (h : History) (e : Entry) → HoldersAreWorkers s h → Allowed s h e → Once s h → Once s (e ∷ h)
once_next s h (Register w q) on may k =
    record { registers = omega (arith, k.registers, passing_new s q w (is_registered h) may.on may.first); ends = k.ends; stops = k.stops; releases = k.releases }
once_next s h (End w q) on may k = record {
  registers = k.registers;
  ends = omega (arith, k.ends, passing_new s q w (is_ended h) may.on.on (active_parts (is_registered h q) (is_stopped h q) (is_ended h q) may.on.active).2);
  stops = k.stops;
  releases = k.releases;
}
once_next s h (Stop w q) on may k = record {
  registers = k.registers;
  ends = k.ends;
  stops = omega (arith, k.stops, passing_new s q w (is_stopped h) may.on.on (active_parts (is_registered h q) (is_stopped h q) (is_ended h q) may.on.active).1);
  releases = k.releases;
}
once_next s h (Failed w q p why) on may k = record { registers = k.registers; ends = k.ends; stops = omega (arith, k.stops, passing_more s q (is_stopped h)); releases = k.releases }
once_next s h (Deliver w q c) on may k = record { registers = k.registers; ends = k.ends; stops = k.stops; releases = omega (arith, k.releases, once_deliver s h w q c) }
once_next s h (Release w q c) on may k = record { registers = k.registers; ends = k.ends; stops = k.stops; releases = omega (arith, k.releases, once_release s h w q c on may) }
once_next s h (Plan w q c) on may k = record { registers = k.registers; ends = k.ends; stops = k.stops; releases = k.releases }
once_next s h (Evict w c) on may k = record { registers = k.registers; ends = k.ends; stops = k.stops; releases = k.releases }
once_next s h (Fill w f p) on may k = record { registers = k.registers; ends = k.ends; stops = k.stops; releases = k.releases }
once_next s h (Filled w f p) on may k = record { registers = k.registers; ends = k.ends; stops = k.stops; releases = k.releases }

once : (s : Setting) (h : History) → IsSetting s → Grouped s → Legal s h → Once s h
once s [] m g legal = record { registers = omega arith; ends = omega arith; stops = omega arith; releases = omega (arith, count_nothing s.workers) }
once s (e ∷ h) m g legal = once_next s h e (holding s h m g legal.2).holder legal.0 (once s h m g legal.2)

-- what is said of it in numbers
pub record Few (s : Setting) (h : History) : Type 0 where
  pub registers : count_among is_register h ≤ length s.needs
  pub ends : count_among is_end h ≤ length s.needs
  pub stops : count_among is_stop h ≤ length s.needs
  pub releases : count_among is_release h ≤ deliveries h

pub few : (s : Setting) (h : History) → IsSetting s → Grouped s → Legal s h → Few s h
few s h m g legal =
    let k = once s h m g legal in
    record {
      registers = omega (arith, k.registers, among_within (λ n. is_registered h n.query) s.needs);
      ends = omega (arith, k.ends, among_within (λ n. is_ended h n.query) s.needs);
      stops = omega (arith, k.stops, among_within (λ n. is_stopped h n.query) s.needs);
      releases = omega (arith, k.releases);
    }
