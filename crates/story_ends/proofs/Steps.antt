-- As long as a history isn't whole, an entry that serves may come; and what each worker may do.
use Rattle.std.proofs.Common.{◌≡◌, ◌<◌, ◌≤◌, ◌+◌, ◌∷◌, [], ◌==◌, ◌&&◌, ◌||◌, ◌⊎◌, not, ℕ, zero, suc, Bool, true, false, if◌then◌else◌, List, length, Option, None, Some, is_none, is_some, nat_lt, refl, ◌∙◌, sym, ap, subst, arith, inl, inr}
use Rattle.std.proofs.lemmas.Bool.Decides.{nat_tests}
use Rattle.std.specs.List.{AllByRecursion, list_any}
use Rattle.scan_story.specs.declared.entry.Entry.TheVariants.{Deliver, End, Evict, Failed, Fill, Filled, Plan, Register, Release, Stop}
use Rattle.scan_story.specs.declared.setting.Need.{Need}
use Rattle.scan_story.specs.declared.setting.Setting.{Setting}
use Rattle.scan_story.specs.declared.view.Hold.{Hold}
use Rattle.scan_story.specs.declared.view.Load.{Load}
use Rattle.scan_story.specs.Counting.{any_below, count_among, has}
use Rattle.scan_story.specs.Legal.{Legal, cursor_at}
use Rattle.scan_story.specs.Loads.{all_begun, begins, free_frames, is_free, is_load_by, underway}
use Rattle.scan_story.specs.MayFollow.{IsActiveOn, IsIdle, IsLoadOf, is_ready, is_target, is_trigger}
use Rattle.scan_story.specs.Numbers.{available, is_starved, needed}
use Rattle.scan_story.specs.Setting.{HasRoom, IsNeed, IsSetting, need_of, worker_in}
use Rattle.scan_story.specs.Views.{History, held_by, is_active, is_available, is_ended, is_registered, is_stopped, is_wholly_framed, needs_chunk, registers}
use Rattle.scan_story.specs.Whole.{IsWhole}
use Rattle.story_laws.specs.Every.{MayCome, OfEveryLegal}
use Rattle.story_laws.proofs.Active.{each_found}
use Rattle.story_laws.proofs.Bools.{and_both, both_and, below, either, equal_number, if_not, is_below, not_both, not_false, or_false, or_left, or_right, same_number, self_number, unequal}
use Rattle.story_laws.proofs.Counts.{any_at, any_counted, any_find, any_none_at, count_off, last_or_below}
use Rattle.story_laws.proofs.Grouped.{worker_below, worker_is}
use Rattle.story_laws.proofs.Filling.{drops}
use Rattle.story_laws.proofs.Laws.{always_a_far_victim, loads_are_proper}
use Rattle.story_laws.proofs.Lists.{all_has, filter_has, some_has, some_left}
use Rattle.story_laws.proofs.Sums.{among_none}
use Rattle.story_ends.specs.Going.{Awaits, EachGoesOn, GoesOn, IsDone, IsOver, MayGoOn, SomebodyGoesOn}
use Rattle.story_ends.proofs.Choice.{has_delivery, has_load, has_query, has_victim, is_delivery_there, is_load_there, is_query_there, is_victim_there}
use Rattle.story_ends.proofs.Enough.{enough, unbegun}

-- The worker of the load underway evicts, begins a fill, or ends one

own_load : (s : Setting) (h : History) (l : Load) → underway s h ≡ Some l → IsLoadOf s h l.worker l
own_load s h l u = record { underway = u; by_worker = refl }

evicts : (s : Setting) (h : History) (l : Load) → IsSetting s → HasRoom s → Legal s h → underway s h ≡ Some l
    → l.begun ≡ [] → free_frames s h < length l.missing → MayGoOn s h l.worker
evicts s h l m room legal u none few =
    let far = always_a_far_victim s h m room legal l u none few in
    let best = has_victim s.policy (cursor_at s h) s h far.chunk far.victim in
    record {
      entry = Evict l.worker best.0;
      by_worker = refl;
      serves = refl;
      may = record {
        allowed = record {
          load = l;
          is_load = own_load s h l u;
          none_begun = none;
          too_few = few;
          victim = is_victim_there s s.policy (cursor_at s h) h best.0 best.1;
        };
        chosen = best.1;
      };
    }

begins_one : (s : Setting) (h : History) (l : Load) → underway s h ≡ Some l
    → length l.missing ≤ free_frames s h + length l.begun → length l.begun + unbegun l ≤ length l.missing
    → (p : ℕ) → has l.missing p ≡ true → begins l p ≡ false → MayGoOn s h l.worker
begins_one s h l u room few p is off =
    let left = drops (begins l) l.missing p is off in
    let some : 0 < free_frames s h = omega (arith, room, few, left) in
    let f = any_find (is_free s h) s.frames (any_counted (is_free s h) s.frames some) in
    record {
      entry = Fill l.worker f.0 p;
      by_worker = refl;
      serves = refl;
      may = record {
        allowed = record {
          load = l;
          is_load = own_load s h l u;
          enough = room;
          frame = f.1;
          free = f.2;
          piece = is;
          not_begun = off;
        };
        chosen = tt;
      };
    }

-- a missing piece that wasn't begun
unbegun_one : (l : Load) → all_begun l ≡ false → (p : ℕ) × (has l.missing p ≡ true) × (begins l p ≡ false)
unbegun_one l off =
    let r = some_has (λ p. true) _ (some_left (begins l) l.missing off) in
    let o = filter_has (λ p. not (begins l p)) l.missing r.0 r.1 in
    (r.0, o.0, not_false (begins l r.0) o.1)

fills : (s : Setting) (h : History) (l : Load) → IsSetting s → HasRoom s → Legal s h → underway s h ≡ Some l
    → all_begun l ≡ false → MayGoOn s h l.worker
fills s h l m room legal u off =
    let k = enough s h legal l u in
    let p = unbegun_one l off in
    by k.room k.few p.0 p.1 p.2
  where
    not_less : (a b c : ℕ) → nat_lt a b ≡ false → b ≤ a + c
    not_less a b c e = grind (arith, nat_tests)

    by : (l.begun ≡ []) ⊎ (length l.missing ≤ free_frames s h + length l.begun)
        → length l.begun + unbegun l ≤ length l.missing
        → (p : ℕ) → has l.missing p ≡ true → begins l p ≡ false → MayGoOn s h l.worker
    by (inr enough) few p is off = begins_one s h l u enough few p is off
    by (inl none) few p is off = pick (nat_lt (free_frames s h) (length l.missing)) refl
      where
        pick : (t : Bool) → nat_lt (free_frames s h) (length l.missing) ≡ t → MayGoOn s h l.worker
        pick true e = evicts s h l m room legal u none (below (free_frames s h) (length l.missing) e)
        pick false e =
            begins_one s h l u (not_less (free_frames s h) (length l.missing) (length l.begun) e) few p is off

-- the frame of a piece that was begun
begun_where : (bs : List (ℕ × ℕ)) (p : ℕ) → list_any (λ b. b.1 == p) bs ≡ true
    → (f : ℕ) × (list_any (λ b. b.0 == f && b.1 == p) bs ≡ true)
begun_where [] p e = absurd (not_both false e refl)
begun_where (b ∷ bs) p e =
    either (b.1 == p) (list_any (λ b. b.1 == p) bs) e
    (λ a. (
      b.0,
      or_left (b.0 == b.0 && b.1 == p) (list_any (λ k. k.0 == b.0 && k.1 == p) bs)
          (both_and (b.0 == b.0) (b.1 == p) (self_number b.0) a),
    ))
    (λ a. (let r = begun_where bs p a in
    (r.0, or_right (b.0 == r.0 && b.1 == p) (list_any (λ k. k.0 == r.0 && k.1 == p) bs) r.1)))

ends_one : (s : Setting) (h : History) (l : Load) → IsSetting s → HasRoom s → Legal s h → underway s h ≡ Some l
    → all_begun l ≡ true → MayGoOn s h l.worker
ends_one s h l m room legal u all =
    let r = loads_are_proper s h m room legal l u in
    let p = some_has (λ p. not (has l.filled p)) l.missing r.missing.open_yet in
    let f = begun_where l.begun p.0 (all_has (begins l) l.missing p.0 all p.1) in
    record {
      entry = Filled l.worker f.0 p.0;
      by_worker = refl;
      serves = refl;
      may = record {
        allowed = record {
          load = l;
          is_load = own_load s h l u;
          begun = f.1;
          not_filled = not_false (has l.filled p.0) p.2;
          all_begun = all;
        };
        chosen = tt;
      };
    }

pub loading : (s : Setting) (h : History) (l : Load) → IsSetting s → HasRoom s → Legal s h → underway s h ≡ Some l
    → MayGoOn s h l.worker
loading s h l m room legal u = pick (all_begun l) refl
  where
    pick : (b : Bool) → all_begun l ≡ b → MayGoOn s h l.worker
    pick true e = ends_one s h l m room legal u e
    pick false e = fills s h l m room legal u e

-- Who holds a chunk releases it

releases : (s : Setting) (h : History) (w : ℕ) (o : Hold) → held_by h w ≡ Some o → MayGoOn s h w
releases s h w o e = record {
  entry = Release w o.query o.chunk;
  by_worker = refl;
  serves = refl;
  may = record { allowed = e; chosen = tt };
}

-- An idle worker's active query: it ends, takes a chunk, or a load is planned

zero_is : (k : ℕ) → nat_lt 0 k ≡ false → k ≡ 0
zero_is k e = grind (arith, nat_tests)

pub may_end : (s : Setting) (h : History) (w q : ℕ) → IsActiveOn s h q w → IsIdle s h w → needed s h q ≡ 0
    → MayCome s h (End w q)
may_end s h w q on idle none = record { allowed = record { on = on; idle = idle; needs_nothing = none }; chosen = tt }

pub may_deliver : (s : Setting) (h : History) (w q c : ℕ) → IsSetting s → IsActiveOn s h q w → IsIdle s h w
    → is_ready s h q c ≡ true → (x : ℕ) × MayCome s h (Deliver w q x)
may_deliver s h w q c m on idle ready =
    let best = has_delivery s.policy (cursor_at s h) s h q c m on.active ready in (
      best.0,
      record {
        allowed = record {
          on = on;
          idle = idle;
          ready = is_delivery_there s s.policy (cursor_at s h) h q best.0 best.1;
        };
        chosen = best.1;
      },
    )

-- a trigger is there, so some query and chunk are best
planned : (s : Setting) (h : History) (w q : ℕ) → IsSetting s → w < s.workers → held_by h w ≡ None → underway s h ≡ None
    → is_trigger s h q ≡ true → (r : ℕ) × (c : ℕ) × MayCome s h (Plan w r c)
planned s h w q m lt free u trigger =
    let r = has_query s.policy (cursor_at s h) s h q m trigger in
    let is = is_query_there s s.policy (cursor_at s h) h r.0 r.1 in
    let o = and_both (is_some (need_of s r.0) && is_none (underway s h) && is_starved s h r.0)
    (any_below (is_target s h r.0) s.chunks) is in
    let y = any_find (is_target s h r.0) s.chunks o.1 in
    let c = has_load s.policy (cursor_at s h) s h r.0 y.0 y.2 in (
      r.0,
      c.0,
      record {
        allowed = record {
          worker = lt;
          none_underway = u;
          holds_nothing = free;
          starved = (and_both (is_some (need_of s r.0) && is_none (underway s h)) (is_starved s h r.0) o.0).1;
          target = is_load_there s s.policy (cursor_at s h) h r.0 c.0 c.1;
        };
        chosen = (r.1, c.1);
      },
    )

-- a query that needs chunks, none of which is available, is a trigger
hungry : (s : Setting) (h : History) (q : ℕ) → is_some (need_of s q) ≡ true → is_active h q ≡ true → underway s h ≡ None
    → nat_lt 0 (needed s h q) ≡ true → any_below (is_available s h q) s.chunks ≡ false → is_trigger s h q ≡ true
hungry s h q is a u e t =
    let c =
    any_find (needs_chunk s h q) s.chunks (any_counted (needs_chunk s h q) s.chunks (below 0 (needed s h q) e)) in
    let nowhere : is_available s h q c.0 ≡ false = any_none_at (is_available s h q) s.chunks c.0 t c.1 in
    let unwhole : is_wholly_framed s h q c.0 ≡ false = if_not (is_wholly_framed s h q c.0)
    (λ x. not_both (is_available s h q c.0) (both_and (needs_chunk s h q c.0) (is_wholly_framed s h q c.0) c.2 x) nowhere) in
    let target : is_target s h q c.0 ≡ true =
    all_three (nat_lt c.0 s.chunks) (needs_chunk s h q c.0) (is_wholly_framed s h q c.0) (is_below c.0 s.chunks c.1) c.2 unwhole in
    let none = count_off (is_available s h q) s.chunks t in
    let starved : is_starved s h q ≡ true =
    both_and (is_active h q) (nat_lt (available s h q) 2) a (is_below (available s h q) 2 (omega (arith, none))) in
    all_four (is_some (need_of s q)) (is_none (underway s h)) (is_starved s h q) (any_below (is_target s h q) s.chunks)
    is (ap is_none u) starved (any_at (is_target s h q) s.chunks c.0 c.1 target)
  where
    all_three : (a b c : Bool) → a ≡ true → b ≡ true → c ≡ false → (a && b && not c) ≡ true
    all_three a b c i j k = rw (i, j, k) refl

    all_four : (a b c d : Bool) → a ≡ true → b ≡ true → c ≡ true → d ≡ true → (a && b && c && d) ≡ true
    all_four a b c d i j k l = rw (i, j, k, l) refl

pub may_plan : (s : Setting) (h : History) (w q : ℕ) → IsSetting s → IsActiveOn s h q w → IsIdle s h w
    → underway s h ≡ None → nat_lt 0 (needed s h q) ≡ true → any_below (is_available s h q) s.chunks ≡ false
    → (r : ℕ) × (c : ℕ) × MayCome s h (Plan w r c)
may_plan s h w q m on idle u e t =
    let n = worker_is (need_of s q) w on.on in
    planned s h w q m (worker_below s q w m on.on) idle.holds_nothing u (hungry s h q (ap is_some n.1) on.active u e t)

-- the load underway is another's
pub awaits : (s : Setting) (h : History) (w : ℕ) (l : Load) → IsSetting s → HasRoom s → Legal s h → IsIdle s h w
    → underway s h ≡ Some l → Awaits s h w
awaits s h w l m room legal idle u = record {
  load = l;
  underway = u;
  others =
      λ same. not_both (l.worker == w) (equal_number l.worker w same) (sym (ap (is_load_by w) u) ∙ idle.loads_nothing);
  goes_on = loading s h l m room legal u;
}

turns : (s : Setting) (h : History) (w q : ℕ) → IsSetting s → HasRoom s → Legal s h → IsActiveOn s h q w → IsIdle s h w
    → MayGoOn s h w ⊎ Awaits s h w
turns s h w q m room legal on idle = by_needed (nat_lt 0 (needed s h q)) refl
  where
    by_load : (u : Option Load) → underway s h ≡ u → nat_lt 0 (needed s h q) ≡ true
        → any_below (is_available s h q) s.chunks ≡ false → MayGoOn s h w ⊎ Awaits s h w
    by_load (Some l) u e t = inr (awaits s h w l m room legal idle u)
    by_load None u e t = inl (
        let x = may_plan s h w q m on idle u e t in
        record { entry = Plan w x.0 x.1; by_worker = refl; serves = refl; may = x.2 })

    by_available : (b : Bool) → any_below (is_available s h q) s.chunks ≡ b → nat_lt 0 (needed s h q) ≡ true
        → MayGoOn s h w ⊎ Awaits s h w
    by_available false t e = by_load (underway s h) refl e t
    by_available true t e = inl (
        let c = any_find (is_available s h q) s.chunks t in
        let ready = both_and (nat_lt c.0 s.chunks) (is_available s h q c.0) (is_below c.0 s.chunks c.1) c.2 in
        let x = may_deliver s h w q c.0 m on idle ready in
        record { entry = Deliver w q x.0; by_worker = refl; serves = refl; may = x.1 })

    by_needed : (b : Bool) → nat_lt 0 (needed s h q) ≡ b → MayGoOn s h w ⊎ Awaits s h w
    by_needed true e = by_available (any_below (is_available s h q) s.chunks) refl e
    by_needed false e =
        inl (record { entry = End w q; by_worker = refl; serves = refl; may = may_end s h w q on idle (zero_is (needed s h q) e) })

-- An idle worker without an active query registers one, or is done

registers_one : (s : Setting) (h : History) (n : Need) → need_of s n.query ≡ Some n → IsIdle s h n.worker
    → list_any (λ k. k.worker == n.worker && is_active h k.query) s.needs ≡ false → is_registered h n.query ≡ false
    → MayGoOn s h n.worker
registers_one s h n at idle alone off = record {
  entry = Register n.worker n.query;
  by_worker = refl;
  serves = refl;
  may = record {
    allowed = record { first = off; on = ap worker_in at; alone = alone; idle = idle };
    chosen = tt;
  };
}

-- each need is the one of its query
abbrev Found : Setting → Need → Type 0
Found s n = need_of s n.query ≡ Some n

some_active : (s : Setting) (h : History) (w : ℕ) (ns : List Need) → AllByRecursion (Found s) ns
    → list_any (λ k. k.worker == w && is_active h k.query) ns ≡ true → (q : ℕ) × IsActiveOn s h q w
some_active s h w [] all e = absurd (not_both false e refl)
some_active s h w (n ∷ ns) all e =
    either (n.worker == w && is_active h n.query) (list_any (λ k. k.worker == w && is_active h k.query) ns) e
    (λ a. (let o = and_both (n.worker == w) (is_active h n.query) a in
    (n.query, record { active = o.1; on = ap worker_in all.0 ∙ ap Some (same_number n.worker w o.0) })))
    (λ a. some_active s h w ns all.1 a)

abbrev AllOver : History → ℕ → List Need → Type 0
AllOver h w ns = AllByRecursion (λ (n : Need). n.worker ≡ w → IsOver h n.query) ns

-- a query that isn't active is registered and over, or isn't registered
over : (r t e : Bool) → (r && not t && not e) ≡ false → r ≡ true → (e || t) ≡ true
over true true true a b = refl
over true true false a b = refl
over true false true a b = refl
over true false false a b = absurd cc
over false t e a b = absurd cc

-- some query of the worker isn't registered, or each is over
some_new : (s : Setting) (h : History) (w : ℕ) (ns : List Need) → AllByRecursion (Found s) ns
    → list_any (λ k. k.worker == w && is_active h k.query) ns ≡ false
    → AllOver h w ns ⊎ ((n : Need) × (n.worker ≡ w) × Found s n × (is_registered h n.query ≡ false))
some_new s h w [] all none = inl tt
some_new s h w (n ∷ ns) all none =
    let o =
    or_false (n.worker == w && is_active h n.query)
    (list_any (λ k. k.worker == w && is_active h k.query) ns) none in
    pick (n.worker == w) (is_registered h n.query) refl refl o.0 (some_new s h w ns all.1 o.1)
  where
    pick : (a b : Bool) → (n.worker == w) ≡ a → is_registered h n.query ≡ b
        → (n.worker == w && is_active h n.query) ≡ false
        → AllOver h w ns ⊎ ((k : Need) × (k.worker ≡ w) × Found s k × (is_registered h k.query ≡ false))
        → AllOver h w (n ∷ ns) ⊎ ((k : Need) × (k.worker ≡ w) × Found s k × (is_registered h k.query ≡ false))
    pick a b i j off (inr r) = inr r
    pick false b i j off (inl r) = inl ((λ same. absurd (unequal n.worker w i same)), r)
    pick true false i j off (inl r) = inr (n, same_number n.worker w i, all.0, j)
    pick true true i j off (inl r) = inl (
      (λ same. (
          let quiet : is_active h n.query ≡ false =
          if_not (is_active h n.query) (λ t. not_both (n.worker == w && is_active h n.query) (both_and (n.worker == w) (is_active h n.query) i t) off) in
          record { registered = j; finished = over (is_registered h n.query) (is_stopped h n.query) (is_ended h n.query) quiet j })),
      r,
    )

rests : (s : Setting) (h : History) (w : ℕ) → IsSetting s → HasRoom s → Legal s h → IsIdle s h w
    → IsDone s h w ⊎ (MayGoOn s h w ⊎ Awaits s h w)
rests s h w m room legal idle = by_active (list_any (λ k. k.worker == w && is_active h k.query) s.needs) refl
  where
    by_new : list_any (λ k. k.worker == w && is_active h k.query) s.needs ≡ false
        → AllOver h w s.needs ⊎ ((n : Need) × (n.worker ≡ w) × Found s n × (is_registered h n.query ≡ false))
        → IsDone s h w ⊎ (MayGoOn s h w ⊎ Awaits s h w)
    by_new none (inl all) = inl (record { idle = idle; over = all })
    by_new none (inr n) =
        inr (inl (subst (MayGoOn s h) n.1 (registers_one s h n.0 n.2 (subst (IsIdle s h) (sym n.1) idle)
        (subst (λ v. list_any (λ k. k.worker == v && is_active h k.query) s.needs ≡ false) (sym n.1) none) n.3)))

    by_active : (b : Bool) → list_any (λ k. k.worker == w && is_active h k.query) s.needs ≡ b
        → IsDone s h w ⊎ (MayGoOn s h w ⊎ Awaits s h w)
    by_active true e = (
        let q = some_active s h w s.needs (each_found s.needs m.distinct) e in
        inr (turns s h w q.0 m room legal q.1 idle))
    by_active false e = by_new e (some_new s h w s.needs (each_found s.needs m.distinct) e)

pub each_goes_on : OfEveryLegal EachGoesOn
each_goes_on s h m room legal w lt = by_hold (held_by h w) refl
  where
    by_load : held_by h w ≡ None → (b : Bool) → is_load_by w (underway s h) ≡ b
        → IsDone s h w ⊎ (MayGoOn s h w ⊎ Awaits s h w)
    by_load free true e = inr (inl (
        let l = loader (underway s h) refl e in
        subst (MayGoOn s h) l.2 (loading s h l.0 m room legal l.1)))
      where
        loader : (u : Option Load) → underway s h ≡ u → is_load_by w u ≡ true
            → (l : Load) × (underway s h ≡ Some l) × (l.worker ≡ w)
        loader None u e = absurd (not_both false e refl)
        loader (Some l) u e = (l, u, same_number l.worker w e)
    by_load free false e = rests s h w m room legal (record { holds_nothing = free; loads_nothing = e })

    by_hold : (o : Option Hold) → held_by h w ≡ o → IsDone s h w ⊎ (MayGoOn s h w ⊎ Awaits s h w)
    by_hold (Some o) e = inr (inl (releases s h w o e))
    by_hold None e = by_load e (is_load_by w (underway s h)) refl

-- Where each worker is done, the history is whole

abbrev pub AllDone : Setting → History → ℕ → Type 0
AllDone s h k = (w : ℕ) → w < k → IsDone s h w

on_of : (s : Setting) (h : History) (w : ℕ) → MayGoOn s h w → GoesOn s h
on_of s h w on = record { entry = on.entry; serves = on.serves; may = on.may }

all_done : (s : Setting) (h : History) → EachGoesOn s h → (k : ℕ) → k ≤ s.workers → AllDone s h k ⊎ GoesOn s h
all_done s h each zero le = inl (λ w lt. absurd (omega (arith, lt)))
all_done s h each (suc k) le = step (all_done s h each k (omega (arith, le))) (each k (omega (arith, le)))
  where
    last : (w : ℕ) → w < suc k → AllDone s h k → IsDone s h k → (b : Bool) → (w == k) ≡ b → IsDone s h w
    last w lt all d true e = subst (IsDone s h) (sym (same_number w k e)) d
    last w lt all d false e = all w (last_or_below w k lt e)

    step : AllDone s h k ⊎ GoesOn s h → IsDone s h k ⊎ (MayGoOn s h k ⊎ Awaits s h k) → AllDone s h (suc k) ⊎ GoesOn s h
    step (inr on) r = inr on
    step (inl all) (inl d) = inl (λ w lt. last w lt all d (w == k) refl)
    step (inl all) (inr (inl on)) = inr (on_of s h k on)
    step (inl all) (inr (inr a)) = inr (on_of s h a.load.worker a.goes_on)

once_each : (s : Setting) (h : History) (q : ℕ) → Legal s h → is_registered h q ≡ true → count_among (registers q) h ≡ 1
once_each s [] q legal e = absurd (not_both false e refl)
once_each s (Register w r ∷ h) q legal e = step (r == q) refl (once_each s h q legal.2) e
  where
    step : (b : Bool) → (r == q) ≡ b → (is_registered h q ≡ true → count_among (registers q) h ≡ 1)
        → (b || is_registered h q) ≡ true → (if b then count_among (registers q) h + 1 else count_among (registers q) h) ≡ 1
    step true i f e = (
        let off : is_registered h q ≡ false =
        subst (λ x. is_registered h x ≡ false) (same_number r q i) legal.0.first in
        omega (arith, among_none (registers q) h off))
    step false i f e = f e
once_each s (Plan w r c ∷ h) q legal e = once_each s h q legal.2 e
once_each s (Evict w c ∷ h) q legal e = once_each s h q legal.2 e
once_each s (Fill w f p ∷ h) q legal e = once_each s h q legal.2 e
once_each s (Filled w f p ∷ h) q legal e = once_each s h q legal.2 e
once_each s (Failed w r p why ∷ h) q legal e = once_each s h q legal.2 e
once_each s (Deliver w r c ∷ h) q legal e = once_each s h q legal.2 e
once_each s (Release w r c ∷ h) q legal e = once_each s h q legal.2 e
once_each s (Stop w r ∷ h) q legal e = once_each s h q legal.2 e
once_each s (End w r ∷ h) q legal e = once_each s h q legal.2 e

pub whole : (s : Setting) (h : History) → IsSetting s → HasRoom s → Legal s h → AllDone s h s.workers → IsWhole s h
whole s h m room legal all = record {
  registered = once s.needs m.needs (λ w lt. (all w lt).over);
  finished = ended s.needs m.needs (λ w lt. (all w lt).over);
  none_underway = quiet (underway s h) refl;
  none_held = λ w lt. (all w lt).idle.holds_nothing;
}
  where
    quiet : (u : Option Load) → underway s h ≡ u → u ≡ None
    quiet None e = refl
    quiet (Some l) e = absurd (
        let lt = (loads_are_proper s h m room legal l e).worker in
        not_both (l.worker == l.worker) (self_number l.worker)
        (sym (ap (is_load_by l.worker) e) ∙ (all l.worker lt).idle.loads_nothing))

    once : (ns : List Need) → AllByRecursion (IsNeed s) ns → ((w : ℕ) → w < s.workers → AllOver h w ns)
        → AllByRecursion (λ (n : Need). count_among (registers n.query) h ≡ 1) ns
    once [] needs over = tt
    once (n ∷ ns) needs over = (
      once_each s h n.query legal ((over n.worker needs.0.worker).0 refl).registered,
      once ns needs.1 (λ w lt. (over w lt).1),
    )

    ended : (ns : List Need) → AllByRecursion (IsNeed s) ns → ((w : ℕ) → w < s.workers → AllOver h w ns)
        → AllByRecursion (λ (n : Need). (is_ended h n.query || is_stopped h n.query) ≡ true) ns
    ended [] needs over = tt
    ended (n ∷ ns) needs over = (
      ((over n.worker needs.0.worker).0 refl).finished,
      ended ns needs.1 (λ w lt. (over w lt).1),
    )

pub somebody_goes_on : OfEveryLegal SomebodyGoesOn
somebody_goes_on s h m room legal = step (all_done s h (each_goes_on s h m room legal) s.workers (omega arith))
  where
    step : AllDone s h s.workers ⊎ GoesOn s h → SomebodyGoesOn s h
    step (inl all) = inl (whole s h m room legal all)
    step (inr on) = inr on
