-- Workers that take their stations, and leave them.
use Rattle.std.proofs.Common.{◌≡◌, ◌+◌, ◌*◌, ◌++◌, ◌∷◌, [], ℕ, zero, suc, List, All, Some, map, reverse, vec_len, vec_capacity, add-one, arith, append_assoc, refl, sym, ap, ◌∙◌, subst}
use Rattle.std.proofs.lemmas.List.{append-nil, map-append, reverse-append, same_from_push}
use Rattle.std.proofs.lemmas.List.Elements.{All-nil, All-pop, All-push, All-same}
use Rattle.atomic_table.specs.Seated.{TableId}
use Rattle.scan_story.specs.declared.origin.Start.{Start}
use Rattle.baton.specs.Passes.{IsFree, PassView, new_pass, new_passes}
use Rattle.frame_pool.specs.Berths.{BerthView, IsBlank, IsOf, PoolView}
use Rattle.piece_format.specs.Shape.{TableShape}
use Rattle.cscan.specs.Stations.{IsSeated, Waits}
use Rattle.batch_run.specs.declared.crew.Crew.{Crew}
use Rattle.batch_run.specs.declared.worker.Worker.{Worker}
use Rattle.batch_run.specs.Crews.{AreFresh, IsCrew, IsFresh, passes_of}

abbrev Blank : PoolView → BerthView → Type 0
Blank pool b = IsOf pool b × IsBlank b

-- the last of the new passes is that of the last number
pub last_new : (id : TableId) (o : Start) (xs ys : List PassView) (x : PassView) (n m : ℕ) → xs ≡ new_passes id o [] n → xs ≡ ys ++ x ∷ [] → n ≡ m + 1 → (ys ≡ new_passes id o [] m) × (x ≡ new_pass id m o [])
last_new id o xs ys x n m all is next =
    let whole : xs ≡ new_passes id o [] m ++ new_pass id m o [] ∷ [] = all ∙ ap (new_passes id o []) (next ∙ add-one m) in
    same_from_push ys (new_passes id o [] m) x (new_pass id m o []) (sym is ∙ whole)

new_waits : (id : TableId) (o : Start) (n : ℕ) (p : PassView) → p ≡ new_pass id n o [] → Waits id o n p
new_waits id o n p is = subst (Waits id o n) (sym is) (refl, refl, refl, refl, refl)

-- a list turned round begins with what was its last
pub last_first : {A B : Type 0} (f : A → B) (xs : List A) (x : A) → reverse (map f (xs ++ x ∷ [])) ≡ f x ∷ reverse (map f xs)
last_first f xs x = ap reverse (map-append f xs (x ∷ [])) ∙ reverse-append (map f xs) (f x ∷ [])

pub new_free : (id : TableId) (o : Start) (n : ℕ) → All (IsFree id) (new_passes id o [] n)
new_free id o zero = All-nil (IsFree id)
new_free id o (suc n) = All-push (IsFree id) (new_passes id o [] n) (new_pass id n o []) (new_free id o n) (refl, refl)

module _ {S C P D : Type 0} where
  -- where nobody has a station, all passes are there
  pub all_passes : (c d : Crew S C P D) → d.workers.items ≡ [] → passes_of d ≡ passes_of c → d.passes.items ≡ passes_of c
  all_passes c d none same =
      let pass_of = λ (v : Worker S C P D). v.station.pass in
      sym (append-nil d.passes.items) ∙ (ap (λ (l : List (Worker S C P D)). d.passes.items ++ reverse (map pass_of l)) (sym none) ∙ same)

  -- a pass that its worker takes from the end of the passes, or leaves there
  pub passes_moved : (c d : Crew S C P D) (w : Worker S C P D) → c.passes.items ≡ d.passes.items ++ w.station.pass ∷ [] → d.workers.items ≡ c.workers.items ++ w ∷ [] → passes_of c ≡ passes_of d
  passes_moved c d w passes workers =
      let pass_of = λ (v : Worker S C P D). v.station.pass in
      let rest = reverse (map pass_of c.workers.items) in
      ap (λ (l : List PassView). l ++ rest) passes
      ∙ (append_assoc d.passes.items (w.station.pass ∷ []) rest
      ∙ ap (λ (l : List PassView). d.passes.items ++ l) (sym (ap (λ (l : List (Worker S C P D)). reverse (map pass_of l)) workers ∙ last_first pass_of c.workers.items w)))

  -- the crew d has one worker more at a station than c, with c's last berth and pass
  pub record IsSeatedOnce (c d : Crew S C P D) (w : Worker S C P D) : Type 0 where
    pub passes : c.passes.items ≡ d.passes.items ++ w.station.pass ∷ []
    pub berths : c.berths.items ≡ d.berths.items ++ w.station.berth ∷ []
    pub workers : d.workers.items ≡ c.workers.items ++ w ∷ []
    pub fewer_passes : vec_len c.passes ≡ vec_len d.passes + 1
    pub fewer_berths : vec_len c.berths ≡ vec_len d.berths + 1
    pub more_workers : vec_len d.workers ≡ vec_len c.workers + 1
    pub room : vec_capacity c.berths ≡ vec_capacity d.berths
    pub room_for_passes : vec_capacity c.passes ≡ vec_capacity d.passes

  abbrev Seated : Start → TableId → PoolView → Worker S C P D → Type 0
  Seated o id pool w = IsSeated id pool o [] w.station

  pub seats : (o : Start) (id : TableId) (pool : PoolView) (c d : Crew S C P D) (w : Worker S C P D) → IsSeatedOnce c d w → IsSeated id pool o [] w.station → IsCrew o id pool c → IsCrew o id pool d
  seats o id pool c d w move here crew = record {
    seated = All-same (Seated o id pool) d.workers.items (c.workers.items ++ w ∷ []) move.workers (All-push (Seated o id pool) c.workers.items w crew.seated here);
    blank = (All-pop (Blank pool) c.berths.items d.berths.items (Some w.station.berth) move.berths crew.blank).0;
    free = (All-pop (IsFree id) c.passes.items d.passes.items (Some w.station.pass) move.passes crew.free).0;
    some = crew.some;
    berths = omega (arith, crew.berths, move.fewer_berths, move.more_workers);
    pairs = omega (arith, crew.pairs, move.fewer_berths, move.fewer_passes);
    room = omega (arith, crew.room, move.room);
    room_for_passes = omega (arith, crew.room_for_passes, move.room_for_passes);
  }

  pub unseats : (o : Start) (id : TableId) (pool : PoolView) (c d : Crew S C P D) (w : Worker S C P D) → IsSeatedOnce c d w → IsCrew o id pool d → IsCrew o id pool c
  unseats o id pool c d w move crew =
      let left = All-pop (Seated o id pool) d.workers.items c.workers.items (Some w) move.workers crew.seated in
      let sits = left.1 in
      record {
        seated = left.0;
        blank = All-same (Blank pool) c.berths.items (d.berths.items ++ w.station.berth ∷ []) move.berths (All-push (Blank pool) d.berths.items w.station.berth crew.blank (sits.1.0, (sits.1.1, sits.1.2)));
        free = All-same (IsFree id) c.passes.items (d.passes.items ++ w.station.pass ∷ []) move.passes (All-push (IsFree id) d.passes.items w.station.pass crew.free (sits.0.0, sits.0.3));
        some = crew.some;
        berths = omega (arith, crew.berths, move.fewer_berths, move.more_workers);
        pairs = omega (arith, crew.pairs, move.fewer_berths, move.fewer_passes);
        room = omega (arith, crew.room, move.room);
        room_for_passes = omega (arith, crew.room_for_passes, move.room_for_passes);
      }

  -- New workers

  pub fresh_seated : (id : TableId) (o : Start) (pool : PoolView) (z : TableShape) (jobs : ℕ) (w : Worker S C P D) → IsFresh id o z jobs w → IsOf pool w.station.berth × IsBlank w.station.berth
      → vec_len w.station.buf ≡ 8 * pool.shape.words → IsSeated id pool o [] w.station
  fresh_seated id o pool z jobs w fresh blank long = (subst (λ (n : ℕ). Waits id o n w.station.pass) (sym fresh.number) (new_waits id o w.number w.station.pass fresh.pass), (blank.0, blank.1.0, blank.1.1), long)

  pub seats_fresh : (o : Start) (id : TableId) (z : TableShape) (jobs : ℕ) (c d : Crew S C P D) (w : Worker S C P D) → IsSeatedOnce c d w → vec_capacity d.workers ≡ vec_capacity c.workers → IsFresh id o z jobs w
      → AreFresh id o z jobs c → AreFresh id o z jobs d
  seats_fresh o id z jobs c d w move same here fresh = record {
    passes = (last_new id o c.passes.items d.passes.items w.station.pass (vec_len c.passes) (vec_len d.passes) fresh.passes move.passes move.fewer_passes).0;
    workers = All-same (IsFresh id o z jobs) d.workers.items (c.workers.items ++ w ∷ []) move.workers (All-push (IsFresh id o z jobs) c.workers.items w fresh.workers here);
    few = omega (arith, fresh.few, move.fewer_passes);
    room = omega (arith, fresh.room, move.fewer_passes, move.more_workers, same);
  }
