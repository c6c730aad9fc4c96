-- Between two entries the weight falls at each step, so where all are run again and again one is written.
use Rattle.std.proofs.Common.{◌≡◌, ◌==◌, ◌+◌, ◌-◌, ◌<◌, ◌≤◌, ◌⊎◌, ◌++◌, true, false, ℕ, suc, zero, Bool, nat_lt, [], ◌∷◌, length, Option, None, Some, max, refl, sym, ◌∙◌, ap, subst, arith, inl, inr}
use Rattle.std.proofs.Math.Nat.{le-max_left, le-max_right}
use Rattle.scan_story.specs.declared.entry.Entry.{Entry}
use Rattle.scan_story.specs.declared.setting.Setting.{Setting}
use Rattle.scan_story.specs.Legal.{Legal}
use Rattle.scan_story.specs.Setting.{IsSetting, HasRoom}
use Rattle.scan_story.specs.Views.{History}
use Rattle.scan_story.specs.Whole.{IsWhole}
use Rattle.story_laws.specs.Bounds.{capacity_for}
use Rattle.story_laws.specs.Every.{MayCome}
use Rattle.story_laws.proofs.Bools.{below, not_both, same_number}
use Rattle.story_laws.proofs.Counts.{last_or_below}
use Rattle.story_laws.proofs.Laws.{is_short}
use Rattle.story_ends.specs.Ending.{Ends, RunsAll}
use Rattle.story_ends.specs.Going.{GoesOn, IsDone}
use Rattle.story_ends.proofs.Over.{whole_is_over}
use Rattle.story_ends.proofs.Steps.{whole}
use Rattle.waiting_core.specs.Lobby as lobby
use Rattle.waiting_core.specs.Lobby.Stage.{Out}
use Rattle.waiting_core.specs.Whole as machine
use Rattle.waiting_core.specs.Whole.{IsAway, Sleeps, Whole}
use Rattle.waiting_core.specs.Whole.Task.{Away, Rests}
use Rattle.waiting_core.proofs.Holding.{Kept, above}
use Rattle.waiting_core.proofs.Going.{Ordered, ordered_at}
use Rattle.waiting_core.proofs.Sounds as sounds
use Rattle.waiting_core.proofs.Wholes.{kept_at, never_do_all_sleep}
use Rattle.waiting_ends.specs.Order.{Act, Crew, Step, is_own, writes}
use Rattle.waiting_ends.specs.Order.Act.{Makes, Releases}
use Rattle.waiting_ends.specs.Runs.{Goes, Grows, HasLost, HasNothing, IsRun, Play, RunsAreFair, RunsEnd, is_calm, story_at}
use Rattle.waiting_ends.proofs.Steps.{step_falls}
use Rattle.waiting_ends.proofs.Weights.{weight}

-- What is written

more_long : (more old : History) → length old ≤ length (more ++ old)
more_long [] old = omega arith
more_long (e ∷ more) old = let m = more_long more old in omega (arith, m)

grown : (b : Bool) (old new : History) → b ≡ true → Grows b old new → length old < length new
grown true old new e g = let f = ap length g.2 in let m = more_long g.1 old in omega (arith, f, m)
grown false old new e g = absurd (not_both false e refl)

grows : (b : Bool) (old new : History) → Grows b old new → (new ≡ old) ⊎ (length old < length new)
grows true old new g = inr (grown true old new refl g)
grows false old new g = inl g

-- the first of the entries that follow may come
first_of : (s : Setting) (old more : History) (e : Entry) → Legal s (e ∷ (more ++ old)) → (x : Entry) × MayCome s old x
first_of s old [] e l = (e, record { allowed = l.0; chosen = l.1 })
first_of s old (x ∷ more) e l = first_of s old more x l.2

-- What was done at each time

module _ (s : Setting) (who : ℕ → ℕ) (does : ℕ → Option Act) (at : ℕ → Play) (run : IsRun s who does at) where
  -- nothing, or a step
  abbrev Idled : ℕ → Type 0
  Idled n = (at (n + 1) ≡ at n) × (HasNothing s (who n) (at n) ⊎ HasLost who does n)

  abbrev Went : ℕ → Type 0
  Went n = (a : Act) × (does n ≡ Some a) × Goes s (who n) a (at n) (at (n + 1))

  done_at : (n : ℕ) → Idled n ⊎ Went n
  done_at n = by (does n) refl
    where
      by : (o : Option Act) → does n ≡ o → Idled n ⊎ Went n
      by None e = inl (run.idles n e)
      by (Some a) e = inr (a, e, run.goes n a e)

  abbrev machine_at : ℕ → Whole
  machine_at n = (at n).crew.whole

  machine_run : machine.IsRun s.workers machine_at
  machine_run = record { begins = ap (λ (p : Play). p.crew.whole) run.begins; steps = λ n. by n (done_at n) }
    where
      by_act : (n : ℕ) (a : Act) → who n < s.workers → Step s.workers (who n) a (at n).crew (at (n + 1)).crew
          → (machine_at (n + 1) ≡ machine_at n) ⊎ ((w : ℕ) × (d : machine.Does) × (w < s.workers) × machine.Step s.workers w d (machine_at n) (machine_at (n + 1)))
      by_act n (Makes d) lt step = inr (who n, d, lt, subst (machine.Step s.workers (who n) d (machine_at n)) (sym (ap (λ (c : Crew). c.whole) step.3)) step.1)
      by_act n Releases lt step = inl (ap (λ (c : Crew). c.whole) step.3)

      by : (n : ℕ) → Idled n ⊎ Went n
          → (machine_at (n + 1) ≡ machine_at n) ⊎ ((w : ℕ) × (d : machine.Does) × (w < s.workers) × machine.Step s.workers w d (machine_at n) (machine_at (n + 1)))
      by n (inl idle) = inl (ap (λ (p : Play). p.crew.whole) idle.0)
      by n (inr g) = by_act n g.0 g.2.is_one g.2.step

  kept : (n : ℕ) → Kept s.workers (machine_at n)
  kept n = kept_at s.workers machine_at machine_run n

  ordered : (n : ℕ) → Ordered s.workers (machine_at n)
  ordered n = ordered_at s.workers machine_at machine_run n

  abbrev heavy : ℕ → ℕ
  heavy n = weight s.workers (at n).crew

  abbrev long : ℕ → ℕ
  long n = length (at n).story

  -- from the one time to the other something was written, or the weight fell
  abbrev Advances : ℕ → ℕ → Type 0
  Advances n m = (long n < long m) ⊎ (heavy m < heavy n)

  goes_advances : (n : ℕ) (g : Went n) → is_own g.0 ≡ true → Advances n (n + 1)
  goes_advances n g own = by (writes (who n) g.0 (at n).crew) refl
    where
      by : (b : Bool) → writes (who n) g.0 (at n).crew ≡ b → Advances n (n + 1)
      by true e = inl (grown (writes (who n) g.0 (at n).crew) (at n).story (at (n + 1)).story e g.2.grows)
      by false e = inr (step_falls s.workers (who n) g.0 (at n).crew (at (n + 1)).crew g.2.is_one g.2.step own e (kept n) (ordered n))

  -- the story at the next time is the same, or longer
  next_story : (n : ℕ) → ((at (n + 1)).story ≡ (at n).story) ⊎ (long n < long (n + 1))
  next_story n = by (done_at n)
    where
      by : Idled n ⊎ Went n → ((at (n + 1)).story ≡ (at n).story) ⊎ (long n < long (n + 1))
      by (inl idle) = inl (ap (λ (p : Play). p.story) idle.0)
      by (inr g) = grows (writes (who n) g.0 (at n).crew) (at n).story (at (n + 1)).story g.2.grows

  later_story : (n d : ℕ) → ((at (n + d)).story ≡ (at n).story) ⊎ (long n < long (n + d))
  later_story n zero = inl (ap (story_at at) (omega arith))
  later_story n (suc d) = by (later_story n d) (next_story (n + d))
    where
      next : (at (n + suc d)).story ≡ (at (n + d + 1)).story
      next = ap (story_at at) (omega arith)

      by : ((at (n + d)).story ≡ (at n).story) ⊎ (long n < long (n + d)) → ((at (n + d + 1)).story ≡ (at (n + d)).story) ⊎ (long (n + d) < long (n + d + 1))
          → ((at (n + suc d)).story ≡ (at n).story) ⊎ (long n < long (n + suc d))
      by (inl same) (inl still) = inl (next ∙ (still ∙ same))
      by (inl same) (inr lt) = inr (let a = ap length same in let b = ap length next in omega (arith, a, b, lt))
      by (inr lt) (inl still) = inr (let a = ap length still in let b = ap length next in omega (arith, a, b, lt))
      by (inr lt) (inr more) = inr (let b = ap length next in omega (arith, lt, more, b))

  no_shorter : (n m : ℕ) → n ≤ m → long n ≤ long m
  no_shorter n m le = by (later_story n (m - n))
    where
      there : long (n + (m - n)) ≡ long m
      there = ap (λ t. long t) (omega (arith, le))

      by : ((at (n + (m - n))).story ≡ (at n).story) ⊎ (long n < long (n + (m - n))) → long n ≤ long m
      by (inl same) = let a = ap length same in omega (arith, a, there)
      by (inr lt) = omega (arith, lt, there)

  abbrev CalmFrom : ℕ → Type 0
  CalmFrom from = (n : ℕ) → from ≤ n → is_calm (does n) ≡ true

  calm_advances : (from : ℕ) → CalmFrom from → (n : ℕ) → from ≤ n → Went n → Advances n (n + 1)
  calm_advances from calm n le g = goes_advances n g (sym (ap is_calm g.1) ∙ calm n le)

  advances_on : (n m o : ℕ) → n ≤ m → m ≤ o → Advances n m → (at o ≡ at m) ⊎ Advances m o → Advances n o
  advances_on n m o lo hi (inl lt) z = inl (let a = no_shorter m o hi in omega (arith, lt, a))
  advances_on n m o lo hi (inr lt) (inl same) = inr (let a = ap (λ (p : Play). weight s.workers p.crew) same in omega (arith, a, lt))
  advances_on n m o lo hi (inr lt) (inr (inl more)) = inl (let a = no_shorter n m lo in omega (arith, a, more))
  advances_on n m o lo hi (inr lt) (inr (inr less)) = inr (omega (arith, lt, less))

  advances_to : (n a b : ℕ) → at a ≡ at b → Advances n a → Advances n b
  advances_to n a b e z = subst (λ (p : Play). (long n < length p.story) ⊎ (weight s.workers p.crew < heavy n)) e z

  advances_from : (a b m : ℕ) → at a ≡ at b → Advances a m → Advances b m
  advances_from a b m e z = subst (λ (p : Play). (length p.story < long m) ⊎ (heavy m < weight s.workers p.crew)) e z

  module _ (from : ℕ) (calm : CalmFrom from) where
    -- while no sleep ends by itself, nothing happens or the run advances
    advances : (n d : ℕ) → from ≤ n → (at (n + d) ≡ at n) ⊎ Advances n (n + d)
    advances n zero le = inl (ap at (omega arith))
    advances n (suc d) le = by (advances n d le) (done_at (n + d))
      where
        next : at (n + suc d) ≡ at (n + d + 1)
        next = ap at (omega arith)

        went : Went (n + d) → Advances (n + d) (n + suc d)
        went g = advances_to (n + d) (n + d + 1) (n + suc d) (sym next) (calm_advances from calm (n + d) (omega (arith, le)) g)

        by : (at (n + d) ≡ at n) ⊎ Advances n (n + d) → Idled (n + d) ⊎ Went (n + d) → (at (n + suc d) ≡ at n) ⊎ Advances n (n + suc d)
        by (inl same) (inl idle) = inl (next ∙ (idle.0 ∙ same))
        by (inl same) (inr g) = inr (advances_from (n + d) n (n + suc d) same (went g))
        by (inr z) (inl idle) = inr (advances_to n (n + d) (n + suc d) (sym (next ∙ idle.0)) z)
        by (inr z) (inr g) = inr (advances_on n (n + d) (n + suc d) (omega arith) (omega arith) z (inr (went g)))

    advances_by : (n m : ℕ) → from ≤ n → n ≤ m → (at m ≡ at n) ⊎ Advances n m
    advances_by n m le lo = subst (λ t. (at t ≡ at n) ⊎ Advances n t) (omega (arith, lo)) (advances n (m - n) le)

    -- each of the first j workers is run between the two times
    abbrev IsRound : ℕ → ℕ → ℕ → Type 0
    IsRound j n to = (v : ℕ) → v < j → (t : ℕ) × (n ≤ t) × (t < to) × (who t ≡ v)

    round_from : RunsAll s who → (n j : ℕ) → j ≤ s.workers → (to : ℕ) × (n ≤ to) × IsRound j n to
    round_from all n zero le = (n, omega arith, λ v lt. absurd (omega (arith, lt)))
    round_from all n (suc j) le = by (round_from all n j (omega (arith, le))) (all n j (omega (arith, le)))
      where
        by : (to : ℕ) × (n ≤ to) × IsRound j n to → (t : ℕ) × (n ≤ t) × (who t ≡ j) → (to : ℕ) × (n ≤ to) × IsRound (suc j) n to
        by r t = (max r.0 (t.0 + 1), omega (arith, r.1, left), each)
          where
            left : r.0 ≤ max r.0 (t.0 + 1)
            left = le-max_left r.0 (t.0 + 1)

            right : t.0 + 1 ≤ max r.0 (t.0 + 1)
            right = le-max_right r.0 (t.0 + 1)

            pick : (v : ℕ) → v < suc j → (b : Bool) → (v == j) ≡ b → (x : ℕ) × (n ≤ x) × (x < max r.0 (t.0 + 1)) × (who x ≡ v)
            pick v lt true e = (t.0, t.1, omega (arith, right), t.2 ∙ sym (same_number v j e))
            pick v lt false e = let x = r.2 v (last_or_below v j lt e) in (x.0, x.1, omega (arith, x.2, left), x.3)

            each : IsRound (suc j) n (max r.0 (t.0 + 1))
            each v lt = pick v lt (v == j) refl

    -- a step between the two times
    stepped : (n t to : ℕ) → from ≤ n → n ≤ t → t < to → Went t → Advances n to
    stepped n t to le lo hi g = by (advances_by n t le lo)
      where
        by : (at t ≡ at n) ⊎ Advances n t → Advances n to
        by (inl same) = advances_on n (t + 1) to (omega (arith, lo)) (omega (arith, hi)) (advances_from t n (t + 1) same (calm_advances from calm t (omega (arith, le, lo)) g)) (advances_by (t + 1) to (omega (arith, le, lo)) (omega (arith, hi)))
        by (inr z) = advances_on n t to lo (omega (arith, hi)) z (advances_by t to (omega (arith, le, lo)) (omega (arith, hi)))

    -- a worker that was run twice took a step, or another did, or it has nothing to do
    one_run : (n t u to : ℕ) → from ≤ n → n ≤ t → t < u → u < to → who t ≡ who u → Advances n to ⊎ HasNothing s (who u) (at n)
    one_run n t u to le lo mid hi same = by (advances_by n u le (omega (arith, lo, mid))) (done_at u)
      where
        in_time : (x : HasLost who does u) → (b : Bool) → nat_lt x.time t ≡ b → n ≤ x.time
        in_time x true e = absurd (x.since t (below x.time t e) mid same)
        in_time x false e = let a = above x.time t e in omega (arith, a, lo)

        idled : at u ≡ at n → HasNothing s (who u) (at u) ⊎ HasLost who does u → Advances n to ⊎ HasNothing s (who u) (at n)
        idled e (inl z) = inr (subst (HasNothing s (who u)) e z)
        idled e (inr x) = inl (stepped n x.time to le (in_time x (nat_lt x.time t) refl) (omega (arith, x.earlier, hi)) (x.act, x.step, run.goes x.time x.act x.step))

        by : (at u ≡ at n) ⊎ Advances n u → Idled u ⊎ Went u → Advances n to ⊎ HasNothing s (who u) (at n)
        by (inr z) d = inl (advances_on n u to (omega (arith, lo, mid)) (omega (arith, hi)) z (advances_by u to (omega (arith, le, lo, mid)) (omega (arith, hi))))
        by (inl e) (inl idle) = idled e idle.1
        by (inl e) (inr g) = inl (stepped n u to le (omega (arith, lo, mid)) hi g)

    in_rounds : (n mid to : ℕ) → from ≤ n → (j : ℕ) → IsRound j n mid → IsRound j mid to → Advances n to ⊎ ((v : ℕ) → v < j → HasNothing s v (at n))
    in_rounds n mid to le zero r q = inr (λ v lt. absurd (omega (arith, lt)))
    in_rounds n mid to le (suc j) r q = by (in_rounds n mid to le j (λ v lt. r v (omega (arith, lt))) (λ v lt. q v (omega (arith, lt)))) (
        let t = r j (omega arith) in let u = q j (omega arith) in
        own u.0 j u.3 (one_run n t.0 u.0 to le t.1 (omega (arith, t.2, u.1)) u.2 (t.3 ∙ sym u.3)))
      where
        own : (u v : ℕ) → who u ≡ v → Advances n to ⊎ HasNothing s (who u) (at n) → Advances n to ⊎ HasNothing s v (at n)
        own u v e z = subst (λ x. Advances n to ⊎ HasNothing s x (at n)) e z

        by : Advances n to ⊎ ((v : ℕ) → v < j → HasNothing s v (at n)) → Advances n to ⊎ HasNothing s j (at n) → Advances n to ⊎ ((v : ℕ) → v < suc j → HasNothing s v (at n))
        by (inl z) y = inl z
        by (inr all) (inl z) = inl z
        by (inr all) (inr idle) = inr (λ v lt. pick v lt (v == j) refl)
          where
            pick : (v : ℕ) → v < suc j → (b : Bool) → (v == j) ≡ b → HasNothing s v (at n)
            pick v lt true e = subst (λ u. HasNothing s u (at n)) (sym (same_number v j e)) idle
            pick v lt false e = all v (last_or_below v j lt e)

  -- where all may idle, each is done

  all_done : (n : ℕ) → ((v : ℕ) → v < s.workers → HasNothing s v (at n)) → (v : ℕ) → v < s.workers → IsDone s (at n).story v
  all_done n idle v lt = by (idle v lt)
    where
      sleeps_or : (u : ℕ) → HasNothing s u (at n) → Sleeps (machine_at n) u ⊎ IsAway (machine_at n) u
      sleeps_or u (inl x) = inl x
      sleeps_or u (inr x) = inr x.0

      away : IsAway (machine_at n) v
      away = never_do_all_sleep s.workers machine_at machine_run n (λ u l. sleeps_or u (idle u l)) v lt

      by : HasNothing s v (at n) → IsDone s (at n).story v
      by (inr x) = x.1
      by (inl (inl x)) = absurd (let bad : Out ≡ lobby.Stage.Asleep x.0 = sym away.1 ∙ x.1 in cc)
      by (inl (inr x)) = absurd (let rests = ((kept n).sound v).asleep (ap sounds.is_asleep x.1) in let bad : Away ≡ Rests = sym away.0 ∙ rests.0 in cc)

  module _ (m : IsSetting s) (room : HasRoom s) (all : RunsAll s who) (from : ℕ) (calm : CalmFrom from) where
    -- later something was written, or the history is whole
    abbrev Reaches : ℕ → Type 0
    Reaches n = (o : ℕ) × (n ≤ o) × ((long n < long o) ⊎ IsWhole s (at o).story)

    further : (n o : ℕ) → n ≤ o → Reaches o → Reaches n
    further n o le r = (r.0, omega (arith, le, r.1), by r.2)
      where
        by : (long o < long r.0) ⊎ IsWhole s (at r.0).story → (long n < long r.0) ⊎ IsWhole s (at r.0).story
        by (inl lt) = inl (let a = no_shorter n o le in omega (arith, a, lt))
        by (inr w) = inr w

    reach : (c n : ℕ) → from ≤ n → heavy n < c → Reaches n
    reach zero n le lt = absurd (omega (arith, lt))
    reach (suc c) n le lt = by (round_from from calm all n s.workers (omega arith)) (λ o lo less. reach c o lo less)
      where
        by : (mid : ℕ) × (n ≤ mid) × IsRound from calm s.workers n mid → ((o : ℕ) → from ≤ o → heavy o < c → Reaches o) → Reaches n
        by r go = pick (in_rounds from calm n r.0 q.0 le s.workers r.2 q.2)
          where
            q : (to : ℕ) × (r.0 ≤ to) × IsRound from calm s.workers r.0 to
            q = round_from from calm all r.0 s.workers (omega arith)

            far : n ≤ q.0
            far = omega (arith, r.1, q.1)

            pick : Advances n q.0 ⊎ ((v : ℕ) → v < s.workers → HasNothing s v (at n)) → Reaches n
            pick (inr idle) = (n, omega arith, inr (whole s (at n).story m room (run.legal n) (all_done n idle)))
            pick (inl (inl longer)) = (q.0, far, inl longer)
            pick (inl (inr less)) = further n q.0 far (go q.0 (omega (arith, le, far)) (omega (arith, less, lt)))

    reaches : (n : ℕ) → Reaches n
    reaches n =
        let far : n ≤ max from n = le-max_right from n in
        further n (max from n) far (reach (heavy (max from n) + 1) (max from n) (le-max_left from n) (omega arith))

    next_whole : (n : ℕ) → IsWhole s (at n).story → (at (n + 1)).story ≡ (at n).story
    next_whole n w = by (done_at n)
      where
        never : (b : Bool) → Grows b (at n).story (at (n + 1)).story → (at (n + 1)).story ≡ (at n).story
        never false g = g
        never true g = absurd (let x = first_of s (at n).story g.1 g.0 (subst (Legal s) g.2 (run.legal (n + 1))) in whole_is_over s (at n).story m room (run.legal n) w x.0 x.1)

        by : Idled n ⊎ Went n → (at (n + 1)).story ≡ (at n).story
        by (inl idle) = ap (λ (p : Play). p.story) idle.0
        by (inr g) = never (writes (who n) g.0 (at n).crew) g.2.grows

    stays : (n : ℕ) → IsWhole s (at n).story → (d : ℕ) → (at (n + d)).story ≡ (at n).story
    stays n w zero = ap (story_at at) (omega arith)
    stays n w (suc d) = by (stays n w d)
      where
        next : (at (n + suc d)).story ≡ (at (n + d + 1)).story
        next = ap (story_at at) (omega arith)

        by : (at (n + d)).story ≡ (at n).story → (at (n + suc d)).story ≡ (at n).story
        by e = next ∙ (next_whole (n + d) (subst (IsWhole s) (sym e) w) ∙ e)

    ends_from : (n : ℕ) → IsWhole s (at n).story → Ends s (story_at at)
    ends_from n w = record { time = n; whole = w; stays = λ o le. ap (story_at at) (omega (arith, le)) ∙ stays n w (o - n) }

    end : (left n : ℕ) → capacity_for s < long n + left → Ends s (story_at at)
    end zero n lt = let short = is_short s (at n).story m room (run.legal n) in absurd (omega (arith, lt, short))
    end (suc left) n lt = by (reaches n) (λ o less. end left o less)
      where
        by : Reaches n → ((o : ℕ) → capacity_for s < long o + left → Ends s (story_at at)) → Ends s (story_at at)
        by r go = pick r.2
          where
            pick : (long n < long r.0) ⊎ IsWhole s (at r.0).story → Ends s (story_at at)
            pick (inl longer) = go r.0 (omega (arith, lt, longer))
            pick (inr w) = ends_from r.0 w

    fair : (n : ℕ) → GoesOn s (at n).story → (o : ℕ) × (long n < long o)
    fair n on = by (reaches n)
      where
        by : Reaches n → (o : ℕ) × (long n < long o)
        by r = pick r.2
          where
            later : ((at (n + (r.0 - n))).story ≡ (at n).story) ⊎ (long n < long (n + (r.0 - n))) → IsWhole s (at r.0).story → (o : ℕ) × (long n < long o)
            later (inr lt) w = (n + (r.0 - n), lt)
            later (inl same) w = absurd (
                let here : n + (r.0 - n) ≡ r.0 = omega (arith, r.1) in
                let now : IsWhole s (at n).story = subst (IsWhole s) (sym (ap (story_at at) here) ∙ same) w in
                whole_is_over s (at n).story m room (run.legal n) now on.entry on.may)

            pick : (long n < long r.0) ⊎ IsWhole s (at r.0).story → (o : ℕ) × (long n < long o)
            pick (inl lt) = (r.0, lt)
            pick (inr w) = later (later_story n (r.0 - n)) w

pub runs_are_fair : RunsAreFair
runs_are_fair s who does at m room run all calm n on = fair s who does at run m room all calm.0 calm.1 n on

pub runs_end : RunsEnd
runs_end s who does at m room run all calm = end s who does at run m room all calm.0 calm.1 (capacity_for s + 1) 0 (omega arith)
