-- Each step keeps what the lobby keeps.
use Rattle.std.proofs.Common.{◌≡◌, ◌==◌, ◌+◌, ◌<◌, ◌≤◌, ◌||◌, true, false, ℕ, Bool, if◌then◌else◌, refl, sym, ◌∙◌, ap, subst, arith}
use Rattle.scan_story.specs.Counting.{count_below}
use Rattle.story_laws.proofs.Bools.{if_other, not_both, or_left, or_right, other_number, same_number, self_number}
use Rattle.story_laws.proofs.Counts.{count_same, any_counted, any_find, count_grows, count_mono, count_nothing, count_or}
use Rattle.waiting_core.specs.Put.{put}
use Rattle.waiting_core.specs.Lobby.{Stage, Lobby, Keeps, StepsKeep, NobodySleepsOn, IsOld, goes, is_holder, is_fresh, may_sleep, is_about, is_asleep, has_taken, has_raised, is_to_raise, is_on_its_way}
use Rattle.waiting_core.specs.Lobby.Stage.{Out, Holds, Comes, Read, Entered, Looked, Asleep, Gave, Found, Taken, Raised}
use Rattle.waiting_core.specs.Lobby.Does.{Wants, Takes, Reads, Enters, Finds, Misses, Sleeps, Stays, Starts, Gives, SeesNone, SeesSome, IsLate, Counts, Raises, Wakes, WakesNone}
use Rattle.waiting_core.proofs.Puts.{changed}

-- What the change of one worker does to a count

abbrev pub one : Bool → ℕ
one true = 1
one false = 0

one_most : (b : Bool) → one b ≤ 1
one_most true = omega arith
one_most false = omega arith

-- how many of the k workers pass
abbrev pub num : ℕ → (Stage → Bool) → (ℕ → Stage) → ℕ
num k p at = count_below (λ v. p (at v)) k

pub count_moved : (p : Stage → Bool) (at : ℕ → Stage) (w : ℕ) (b : Stage) (k : ℕ) → w < k → num k p (put at w b) + one (p (at w)) ≡ num k p at + one (p b)
count_moved p at w b k lt =
    let c = changed (λ v. p (at v)) w (p (at w)) (p b) k lt refl in
    let same = count_same (λ v. p (put at w b v)) (put (λ v. p (at v)) w (p b)) k (λ v. inside (v == w) (at v)) in
    let x = one_if (p (at w)) in
    let y = one_if (p b) in
    omega (arith, c, same, x, y)
  where
    inside : (t : Bool) (x : Stage) → p (if t then b else x) ≡ (if t then p b else p x)
    inside true x = refl
    inside false x = refl

    one_if : (t : Bool) → one t ≡ (if t then 1 else 0)
    one_if true = refl
    one_if false = refl

-- a worker goes from a to b
pub record Change (k : ℕ) (c : ℕ) (at : ℕ → Stage) (w : ℕ) (a b : Stage) : Type 0 where
  pub holder : num k is_holder (put at w b) + one (is_holder a) ≡ num k is_holder at + one (is_holder b)
  pub fresh : num k (is_fresh c) (put at w b) + one (is_fresh c a) ≡ num k (is_fresh c) at + one (is_fresh c b)
  pub sleep : num k (may_sleep c) (put at w b) + one (may_sleep c a) ≡ num k (may_sleep c) at + one (may_sleep c b)
  pub about : num k (is_about c) (put at w b) + one (is_about c a) ≡ num k (is_about c) at + one (is_about c b)
  pub asleep : num k is_asleep (put at w b) + one (is_asleep a) ≡ num k is_asleep at + one (is_asleep b)
  pub taken : num k has_taken (put at w b) + one (has_taken a) ≡ num k has_taken at + one (has_taken b)
  pub raised : num k has_raised (put at w b) + one (has_raised a) ≡ num k has_raised at + one (has_raised b)
  pub raise : num k is_to_raise (put at w b) + one (is_to_raise a) ≡ num k is_to_raise at + one (is_to_raise b)
  pub way : num k is_on_its_way (put at w b) + one (is_on_its_way a) ≡ num k is_on_its_way at + one (is_on_its_way b)

pub change : (k c : ℕ) (at : ℕ → Stage) (w : ℕ) (a b : Stage) → w < k → at w ≡ a → Change k c at w a b
change k c at w a b lt e = record {
  holder = by is_holder;
  fresh = by (is_fresh c);
  sleep = by (may_sleep c);
  about = by (is_about c);
  asleep = by is_asleep;
  taken = by has_taken;
  raised = by has_raised;
  raise = by is_to_raise;
  way = by is_on_its_way;
}
  where
    by : (p : Stage → Bool) → num k p (put at w b) + one (p a) ≡ num k p at + one (p b)
    by p = subst (λ x. num k p (put at w b) + one (p x) ≡ num k p at + one (p b)) e (count_moved p at w b k lt)

old_moved : (c : ℕ) (at : ℕ → Stage) (w : ℕ) (b : Stage) → ((v : ℕ) → IsOld c (at v)) → IsOld c b → (v : ℕ) → IsOld c (put at w b v)
old_moved c at w b old new v = pick (v == w)
  where
    pick : (t : Bool) → IsOld c (if t then b else at v)
    pick true = new
    pick false = old v

-- One kind within another

within : (k : ℕ) (p q : Stage → Bool) (at : ℕ → Stage) → ((x : Stage) → p x ≡ true → q x ≡ true) → num k p at ≤ num k q at
within k p q at f = count_mono (λ v. p (at v)) (λ v. q (at v)) k (λ v lt e. f (at v) e)

about_fresh : (c : ℕ) (x : Stage) → is_about c x ≡ true → is_fresh c x ≡ true
about_fresh c Out e = absurd cc
about_fresh c Holds e = absurd cc
about_fresh c Comes e = absurd cc
about_fresh c (Read n) e = absurd cc
about_fresh c (Entered n) e = absurd cc
about_fresh c (Looked n) e = e
about_fresh c (Asleep n) e = absurd cc
about_fresh c Gave e = absurd cc
about_fresh c Found e = absurd cc
about_fresh c Taken e = absurd cc
about_fresh c Raised e = absurd cc

asleep_sleep : (c : ℕ) (x : Stage) → is_asleep x ≡ true → may_sleep c x ≡ true
asleep_sleep c Out e = absurd cc
asleep_sleep c Holds e = absurd cc
asleep_sleep c Comes e = absurd cc
asleep_sleep c (Read n) e = absurd cc
asleep_sleep c (Entered n) e = absurd cc
asleep_sleep c (Looked n) e = absurd cc
asleep_sleep c (Asleep n) e = refl
asleep_sleep c Gave e = absurd cc
asleep_sleep c Found e = absurd cc
asleep_sleep c Taken e = absurd cc
asleep_sleep c Raised e = absurd cc

sleep_either : (c : ℕ) (x : Stage) → may_sleep c x ≡ true → (is_fresh c x || is_asleep x) ≡ true
sleep_either c Out e = absurd cc
sleep_either c Holds e = absurd cc
sleep_either c Comes e = absurd cc
sleep_either c (Read n) e = absurd cc
sleep_either c (Entered n) e = or_left (n == c) false e
sleep_either c (Looked n) e = or_left (n == c) false e
sleep_either c (Asleep n) e = or_right (n == c) true refl
sleep_either c Gave e = absurd cc
sleep_either c Found e = absurd cc
sleep_either c Taken e = absurd cc
sleep_either c Raised e = absurd cc

taken_raise : (x : Stage) → has_taken x ≡ true → is_to_raise x ≡ true
taken_raise Out e = absurd cc
taken_raise Holds e = absurd cc
taken_raise Comes e = absurd cc
taken_raise (Read n) e = absurd cc
taken_raise (Entered n) e = absurd cc
taken_raise (Looked n) e = absurd cc
taken_raise (Asleep n) e = absurd cc
taken_raise Gave e = absurd cc
taken_raise Found e = absurd cc
taken_raise Taken e = refl
taken_raise Raised e = absurd cc

raise_way : (x : Stage) → is_to_raise x ≡ true → is_on_its_way x ≡ true
raise_way Out e = absurd cc
raise_way Holds e = absurd cc
raise_way Comes e = refl
raise_way (Read n) e = refl
raise_way (Entered n) e = refl
raise_way (Looked n) e = absurd cc
raise_way (Asleep n) e = absurd cc
raise_way Gave e = refl
raise_way Found e = refl
raise_way Taken e = refl
raise_way Raised e = absurd cc

raised_way : (x : Stage) → has_raised x ≡ true → is_on_its_way x ≡ true
raised_way Out e = absurd cc
raised_way Holds e = absurd cc
raised_way Comes e = refl
raised_way (Read n) e = refl
raised_way (Entered n) e = refl
raised_way (Looked n) e = absurd cc
raised_way (Asleep n) e = absurd cc
raised_way Gave e = refl
raised_way Found e = refl
raised_way Taken e = refl
raised_way Raised e = refl

-- the orders between the counts
record Orders (k c : ℕ) (at : ℕ → Stage) : Type 0 where
  about : num k (is_about c) at ≤ num k (is_fresh c) at
  asleep : num k is_asleep at ≤ num k (may_sleep c) at
  sleep : num k (may_sleep c) at ≤ num k (is_fresh c) at + num k is_asleep at
  taken : num k has_taken at ≤ num k is_to_raise at
  raise : num k is_to_raise at ≤ num k is_on_its_way at
  raised : num k has_raised at ≤ num k is_on_its_way at

orders : (k c : ℕ) (at : ℕ → Stage) → Orders k c at
orders k c at = record {
  about = within k (is_about c) (is_fresh c) at (about_fresh c);
  asleep = within k is_asleep (may_sleep c) at (asleep_sleep c);
  sleep = (let a = within k (may_sleep c) (λ x. is_fresh c x || is_asleep x) at (sleep_either c) in let b = count_or (λ v. is_fresh c (at v)) (λ v. is_asleep (at v)) k in omega (arith, a, b));
  taken = within k has_taken is_to_raise at taken_raise;
  raise = within k is_to_raise is_on_its_way at raise_way;
  raised = within k has_raised is_on_its_way at raised_way;
}

-- Steps

pub desk_most : (b : Bool) → (if b then 0 else 1) ≤ (let z : ℕ = 1 in z)
desk_most true = omega arith
desk_most false = omega arith

-- a step of a worker that has not the desk, nor gets it, and changes neither calls nor desk
keeps_by : (k w : ℕ) (r : Lobby) (a b : Stage) (m : ℕ) → w < k → r.at w ≡ a → Keeps k r → is_holder a ≡ false → is_holder b ≡ false → IsOld r.calls b
    → (Change k r.calls r.at w a b → Orders k r.calls r.at → Orders k r.calls (put r.at w b) → num k (is_fresh r.calls) (put r.at w b) ≤ m + num k has_taken (put r.at w b))
    → (Change k r.calls r.at w a b → Orders k r.calls r.at → Orders k r.calls (put r.at w b) → num k (may_sleep r.calls) (put r.at w b) ≤ m + num k has_taken (put r.at w b) + num k has_raised (put r.at w b))
    → (Change k r.calls r.at w a b → Orders k r.calls r.at → Orders k r.calls (put r.at w b) → r.free ≡ true → 0 < num k (is_about r.calls) (put r.at w b) → 0 < num k is_to_raise (put r.at w b))
    → (Change k r.calls r.at w a b → Orders k r.calls r.at → Orders k r.calls (put r.at w b) → r.free ≡ true → 0 < num k is_asleep (put r.at w b) → 0 < num k is_on_its_way (put r.at w b))
    → Keeps k (record (goes r w b) { waiting = m })
keeps_by k w r a b m lt e i ha hb old fresh all about asleep =
    let x = change k r.calls r.at w a b lt e in
    let o = orders k r.calls r.at in
    let p = orders k r.calls (put r.at w b) in
    record {
      old = old_moved r.calls r.at w b i.old old;
      desk = (let h = x.holder in let oa = ap one ha in let ob = ap one hb in let d = i.desk in omega (arith, h, oa, ob) ∙ d);
      fresh = fresh x o p;
      all = all x o p;
      about = about x o p;
      asleep = asleep x o p;
    }

-- what a worker has read
read_old : (c : ℕ) (at : ℕ → Stage) (w : ℕ) (a : Stage) → ((v : ℕ) → IsOld c (at v)) → at w ≡ a → IsOld c a
read_old c at w a old e = subst (IsOld c) e (old w)

-- and none has read more
none_after : (k c : ℕ) (at : ℕ → Stage) → ((v : ℕ) → IsOld c (at v)) → num k (is_fresh (c + 1)) at ≡ 0
none_after k c at old =
    let a : num k (is_fresh (c + 1)) at ≤ count_below (λ v. false) k = count_mono (λ v. is_fresh (c + 1) (at v)) (λ v. false) k (λ v lt e. absurd (new (at v) (old v) e)) in
    omega (arith, a, count_nothing k)
  where
    above : (n : ℕ) → n ≤ c → (n == (c + 1)) ≡ true → ⊥
    above n le e = omega (arith, le, same_number n (c + 1) e)

    new : (x : Stage) → IsOld c x → is_fresh (c + 1) x ≡ true → ⊥
    new (Entered n) o e = above n o e
    new (Looked n) o e = above n o e
    new (Asleep n) o e = above n o e
    new Out o e = not_both false e refl
    new Holds o e = not_both false e refl
    new Comes o e = not_both false e refl
    new (Read n) o e = not_both false e refl
    new Gave o e = not_both false e refl
    new Found o e = not_both false e refl
    new Taken o e = not_both false e refl
    new Raised o e = not_both false e refl

older : (c : ℕ) (x : Stage) → IsOld c x → IsOld (c + 1) x
older c (Read n) o = omega (arith, o)
older c (Entered n) o = omega (arith, o)
older c (Looked n) o = omega (arith, o)
older c (Asleep n) o = omega (arith, o)
older c Out o = tt
older c Holds o = tt
older c Comes o = tt
older c Gave o = tt
older c Found o = tt
older c Taken o = tt
older c Raised o = tt

-- an asleep worker isn't one that has raised the calls
pub is_other : (at : ℕ → Stage) (w v n : ℕ) → at w ≡ Raised → at v ≡ Asleep n → (v == w) ≡ false
is_other at w v n e f = other_number v w (λ same. not_both (has_raised (at v)) (ap (λ x. has_raised (at x)) same ∙ ap has_raised e) (ap has_raised f))

raises : (k w : ℕ) (r : Lobby) → w < k → r.at w ≡ Taken → Keeps k r → Keeps k (record (goes r w Raised) { calls = r.calls + 1 })
raises k w r lt e i =
    let at = put r.at w Raised in
    let x = change k r.calls r.at w Taken Raised lt e in
    let old : (v : ℕ) → IsOld r.calls (at v) = old_moved r.calls r.at w Raised i.old tt in
    let none : num k (is_fresh (r.calls + 1)) at ≡ 0 = none_after k r.calls at old in
    let o = orders k (r.calls + 1) at in
    let p = orders k r.calls at in
    record {
      old = λ v. older r.calls (at v) (old v);
      desk = (let h = x.holder in omega (arith, h) ∙ i.desk);
      fresh = omega (arith, none);
      all = (let a = o.sleep in let b = p.asleep in let c = x.sleep in let d = x.taken in let f = x.raised in let g = i.all in omega (arith, none, a, b, c, d, f, g));
      about = λ f n. (let a = o.about in absurd (omega (arith, none, n, a)));
      asleep = λ f n. (let a = x.asleep in let b = x.way in let before : 0 < num k is_asleep r.at = omega (arith, n, a) in let c = i.asleep f before in omega (arith, c, b));
    }

takes : (k w : ℕ) (r : Lobby) (a : Stage) → w < k → r.at w ≡ a → r.free ≡ true → Keeps k r → is_holder a ≡ false → has_taken a ≡ false → has_raised a ≡ false → Keeps k (record (goes r w Holds) { free = false })
takes k w r a lt e free i ha ta ra =
    let x = change k r.calls r.at w a Holds lt e in
    let oh = ap one ha in let ot = ap one ta in let or = ap one ra in
    record {
      old = old_moved r.calls r.at w Holds i.old tt;
      desk = (let h = x.holder in let d = i.desk ∙ ap (λ (b : Bool). if b then 0 else 1) free in omega (arith, h, oh, d));
      fresh = (let a = x.fresh in let b = x.taken in let c = i.fresh in omega (arith, a, b, c, ot));
      all = (let a = x.sleep in let b = x.taken in let d = x.raised in let c = i.all in omega (arith, a, b, c, d, ot, or));
      about = λ f n. absurd (not_both false f refl);
      asleep = λ f n. absurd (not_both false f refl);
    }

gives : (k w : ℕ) (r : Lobby) → w < k → r.at w ≡ Holds → Keeps k r → Keeps k (record (goes r w Gave) { free = true })
gives k w r lt e i =
    let x = change k r.calls r.at w Holds Gave lt e in
    let p = orders k r.calls (put r.at w Gave) in
    record {
      old = old_moved r.calls r.at w Gave i.old tt;
      desk = (let h = x.holder in let d = i.desk in let most = desk_most r.free in omega (arith, h, d, most));
      fresh = (let a = x.fresh in let b = x.taken in let c = i.fresh in omega (arith, a, b, c));
      all = (let a = x.sleep in let b = x.taken in let d = x.raised in let c = i.all in omega (arith, a, b, c, d));
      about = λ f n. (let a = x.raise in omega (arith, a));
      asleep = λ f n. (let a = x.way in omega (arith, a));
    }

-- a worker that finds nobody waiting calls nobody
calls_none : (k w : ℕ) (r : Lobby) (a : Stage) → w < k → r.at w ≡ a → r.waiting ≡ 0 → Keeps k r → is_holder a ≡ false → has_taken a ≡ false → has_raised a ≡ false → is_fresh r.calls a ≡ false → may_sleep r.calls a ≡ false → is_about r.calls a ≡ false → is_asleep a ≡ false → Keeps k (record (goes r w Out) { waiting = r.waiting })
calls_none k w r a lt e empty i ha ta ra fa sa ba za =
    let ot = ap one ta in let or = ap one ra in let of = ap one fa in let os = ap one sa in let ob = ap one ba in let oz = ap one za in
    keeps_by k w r a Out r.waiting lt e i ha refl tt
    (λ x o p. omega (arith, x.fresh, x.taken, i.fresh, ot, of)) (λ x o p. omega (arith, x.sleep, x.taken, x.raised, i.all, ot, or, os))
    (λ x o p f n. omega (arith, n, empty, x.about, ob, o.about, i.fresh, x.taken, ot, p.taken))
    (λ x o p f n. omega (arith, n, empty, x.asleep, oz, o.asleep, i.all, x.taken, ot, x.raised, or, p.taken, p.raise, p.raised))

wakes : (k w v n : ℕ) (r : Lobby) → w < k → v < k → r.at w ≡ Raised → r.at v ≡ Asleep n → Keeps k r → Keeps k (goes (goes r w Out) v Comes)
wakes k w v n r lw lv e f i =
    let mid = put r.at w Out in
    let there : mid v ≡ Asleep n = if_other (v == w) Out (r.at v) (is_other r.at w v n e f) ∙ f in
    let x = change k r.calls r.at w Raised Out lw e in
    let y = change k r.calls mid v (Asleep n) Comes lv there in
    record {
      old = old_moved r.calls mid v Comes (old_moved r.calls r.at w Out i.old tt) tt;
      desk = (let a = x.holder in let b = y.holder in omega (arith, a, b) ∙ i.desk);
      fresh = (let a = x.fresh in let b = y.fresh in let c = x.taken in let d = y.taken in let g = i.fresh in omega (arith, a, b, c, d, g));
      all = (let a = x.sleep in let b = y.sleep in let c = x.taken in let d = y.taken in let j = x.raised in let l = y.raised in let g = i.all in omega (arith, a, b, c, d, j, l, g));
      about = λ free n. (let a = x.about in let b = y.about in let c = x.raise in let d = y.raise in let before : 0 < num k (is_about r.calls) r.at = omega (arith, n, a, b) in let g = i.about free before in omega (arith, g, c, d));
      asleep = λ free n. (let b = y.way in omega (arith, b));
    }

pub steps_keep : StepsKeep
steps_keep k w Wants r t lt s i = subst (Keeps k) (sym s.1) (keeps_by k w r Out Comes r.waiting lt s.0 i refl refl tt
    (λ x o p. omega (arith, x.fresh, x.taken, i.fresh)) (λ x o p. omega (arith, x.sleep, x.taken, x.raised, i.all))
    (λ x o p f n. omega (arith, x.raise, i.about f (omega (arith, n, x.about)))) (λ x o p f n. omega (arith, x.way)))
steps_keep k w Takes r t lt s i = subst (Keeps k) (sym s.2) (takes k w r Comes lt s.0 s.1 i refl refl refl)
steps_keep k w Reads r t lt s i = subst (Keeps k) (sym s.1) (keeps_by k w r Comes (Read r.calls) r.waiting lt s.0 i refl refl (omega arith)
    (λ x o p. omega (arith, x.fresh, x.taken, i.fresh)) (λ x o p. omega (arith, x.sleep, x.taken, x.raised, i.all))
    (λ x o p f n. omega (arith, x.raise, i.about f (omega (arith, n, x.about)))) (λ x o p f n. omega (arith, x.way)))
steps_keep k w Enters r t lt s i = subst (Keeps k) (sym s.2) (keeps_by k w r (Read s.0) (Entered s.0) (r.waiting + 1) lt s.1 i refl refl (read_old r.calls r.at w (Read s.0) i.old s.1)
    (λ x o p. omega (arith, x.fresh, x.taken, i.fresh, one_most (s.0 == r.calls))) (λ x o p. omega (arith, x.sleep, x.taken, x.raised, i.all, one_most (s.0 == r.calls)))
    (λ x o p f n. omega (arith, x.raise, i.about f (omega (arith, n, x.about)))) (λ x o p f n. omega (arith, x.way)))
steps_keep k w Finds r t lt s i = subst (Keeps k) (sym s.3) (takes k w r (Entered s.0) lt s.1 s.2 i refl refl refl)
steps_keep k w Misses r t lt s i = subst (Keeps k) (sym s.3) (keeps_by k w r (Entered s.0) (Looked s.0) r.waiting lt s.1 i refl refl (read_old r.calls r.at w (Entered s.0) i.old s.1)
    (λ x o p. omega (arith, x.fresh, x.taken, i.fresh)) (λ x o p. omega (arith, x.sleep, x.taken, x.raised, i.all))
    (λ x o p f n. absurd (not_both r.free f s.2)) (λ x o p f n. absurd (not_both r.free f s.2)))
steps_keep k w Sleeps r t lt s i =
    let fresh : one (s.0 == r.calls) ≡ 1 = ap one (ap (λ n. n == r.calls) s.2 ∙ self_number r.calls) in
    subst (Keeps k) (sym s.3) (keeps_by k w r (Looked s.0) (Asleep s.0) r.waiting lt s.1 i refl refl (read_old r.calls r.at w (Looked s.0) i.old s.1)
    (λ x o p. omega (arith, x.fresh, x.taken, i.fresh)) (λ x o p. omega (arith, x.sleep, x.taken, x.raised, i.all, fresh))
    (λ x o p f n. omega (arith, x.raise, i.about f (omega (arith, n, x.about))))
    (λ x o p f n. omega (arith, x.way, o.raise, i.about f (omega (arith, x.about, fresh)))))
steps_keep k w Stays r t lt s i = subst (Keeps k) (sym s.2) (keeps_by k w r (Looked s.0) Comes r.waiting lt s.1 i refl refl tt
    (λ x o p. omega (arith, x.fresh, x.taken, i.fresh)) (λ x o p. omega (arith, x.sleep, x.taken, x.raised, i.all))
    (λ x o p f n. omega (arith, x.raise, i.about f (omega (arith, n, x.about)))) (λ x o p f n. omega (arith, x.way)))
steps_keep k w Starts r t lt s i = subst (Keeps k) (sym s.2) (keeps_by k w r (Asleep s.0) Comes r.waiting lt s.1 i refl refl tt
    (λ x o p. omega (arith, x.fresh, x.taken, i.fresh)) (λ x o p. omega (arith, x.sleep, x.taken, x.raised, i.all))
    (λ x o p f n. omega (arith, x.raise, i.about f (omega (arith, n, x.about)))) (λ x o p f n. omega (arith, x.way)))
steps_keep k w Gives r t lt s i = subst (Keeps k) (sym s.1) (gives k w r lt s.0 i)
steps_keep k w SeesNone r t lt s i = subst (Keeps k) (sym s.2) (calls_none k w r Gave lt s.0 s.1 i refl refl refl refl refl refl refl)
steps_keep k w SeesSome r t lt s i = subst (Keeps k) (sym s.1) (keeps_by k w r Gave Found r.waiting lt s.0 i refl refl tt
    (λ x o p. omega (arith, x.fresh, x.taken, i.fresh)) (λ x o p. omega (arith, x.sleep, x.taken, x.raised, i.all))
    (λ x o p f n. omega (arith, x.raise, i.about f (omega (arith, n, x.about)))) (λ x o p f n. omega (arith, x.way)))
steps_keep k w IsLate r t lt s i = subst (Keeps k) (sym s.2) (calls_none k w r Found lt s.0 s.1 i refl refl refl refl refl refl refl)
steps_keep k w Counts r t lt s i = subst (Keeps k) (sym s.3) (keeps_by k w r Found Taken s.0 lt s.1 i refl refl tt
    (λ x o p. omega (arith, x.fresh, x.taken, i.fresh, s.2)) (λ x o p. omega (arith, x.sleep, x.taken, x.raised, i.all, s.2))
    (λ x o p f n. omega (arith, x.raise, i.about f (omega (arith, n, x.about)))) (λ x o p f n. omega (arith, x.way)))
steps_keep k w Raises r t lt s i = subst (Keeps k) (sym s.1) (raises k w r lt s.0 i)
steps_keep k w (Wakes v) r t lt s i = subst (Keeps k) (sym s.4) (wakes k w v s.0 r lt s.1 s.2 s.3 i)
steps_keep k w WakesNone r t lt s i =
    let nobody : num k is_asleep r.at ≡ 0 = s.1 in
    subst (Keeps k) (sym s.2) (keeps_by k w r Raised Out r.waiting lt s.0 i refl refl tt
    (λ x o p. omega (arith, x.fresh, x.taken, i.fresh)) (λ x o p. omega (arith, x.sleep, x.taken, x.raised, o.sleep, nobody, i.fresh))
    (λ x o p f n. omega (arith, x.raise, i.about f (omega (arith, n, x.about)))) (λ x o p f n. absurd (omega (arith, n, x.asleep, nobody))))

pub nobody_sleeps_on : NobodySleepsOn
nobody_sleeps_on k r i n = by_desk r.free refl
  where
    awake : (p : Stage → Bool) → ((x : Stage) → p x ≡ true → (is_holder x || is_on_its_way x) ≡ true) → 0 < num k p r.at → (w : ℕ) × (w < k) × ((is_holder (r.at w) || is_on_its_way (r.at w)) ≡ true)
    awake p f some = let w = any_find (λ v. p (r.at v)) k (any_counted (λ v. p (r.at v)) k some) in (w.0, w.1, f (r.at w.0) w.2)

    by_desk : (b : Bool) → r.free ≡ b → (w : ℕ) × (w < k) × ((is_holder (r.at w) || is_on_its_way (r.at w)) ≡ true)
    by_desk true e = awake is_on_its_way (λ x t. or_right (is_holder x) (is_on_its_way x) t) (i.asleep e n)
    by_desk false e = awake is_holder (λ x t. or_left (is_holder x) (is_on_its_way x) t) (let d = i.desk ∙ ap (λ (b : Bool). if b then 0 else 1) e in omega (arith, d))

-- where some worker passes, some are counted
pub some_counted : (p : ℕ → Bool) (k v : ℕ) → v < k → p v ≡ true → 0 < count_below p k
some_counted p k v lt e = omega (arith, count_grows (λ x. false) p k v (λ x l f. absurd (not_both false f refl)) lt refl e)
