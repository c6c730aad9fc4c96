-- What a worker does while it has the desk keeps what the turns keep.
use Rattle.std.proofs.Common.{◌≡◌, ◌==◌, ◌+◌, ◌<◌, ◌⊎◌, ◌&&◌, not, true, false, ℕ, Bool, refl, sym, ◌∙◌, ap, subst, arith, inl, inr}
use Rattle.story_laws.proofs.Bools.{not_both, other_number, same_number}
use Rattle.waiting_core.specs.Put.{put}
use Rattle.waiting_core.specs.Lobby as lobby
use Rattle.waiting_core.specs.Lobby.Stage.{Out, Holds}
use Rattle.waiting_core.specs.Whole.{Whole, Task, After, IsFed, HasReason, keeps_desk, is_loading, is_hungry}
use Rattle.waiting_core.specs.Whole.After.{Turning, Working, Loading, Over}
use Rattle.waiting_core.specs.Whole.Task.{Away, Turns, LiesDown, Rests, Rises, Works, Loads, Looks, Sees, RingsFor}
use Rattle.waiting_core.proofs.Bells.{split}
use Rattle.waiting_core.proofs.Lobbies.{change, desk_most, some_counted}
use Rattle.waiting_core.proofs.Sounds.{IsSound, has_query}
use Rattle.waiting_core.proofs.Turnings.{IsRoused, IsUp, SomebodyUp, AnotherUp, WillBeSeen, Turned, is_up}
use Rattle.waiting_core.proofs.Puts.{off_put}

-- One worker at most has the desk

pub one_holder : (k : ℕ) (l : lobby.Lobby) (v w : ℕ) → lobby.Keeps k l → v < k → w < k → l.at v ≡ Holds → l.at w ≡ Holds → v ≡ w
one_holder k l v w keeps lv lw e f = pick (v == w) refl
  where
    pick : (b : Bool) → (v == w) ≡ b → v ≡ w
    pick true at = same_number v w at
    pick false at =
        let there : lobby.is_holder (put l.at w Out v) ≡ true = ap lobby.is_holder (off_put l.at w Out v at ∙ e) in
        let some = some_counted (λ x. lobby.is_holder (put l.at w Out x)) k v lv there in
        let c = change k l.calls l.at w Holds Out lw f in
        let less = c.holder in
        let desk = keeps.desk in
        let most = desk_most l.free in
        absurd (omega (arith, some, less, desk, most))

-- Whom a reason names

abbrev pub is_sees : Task → Bool
is_sees (Sees i b a) = true
is_sees _ = false

loading_up : (b : Bool) (x : Task) → is_loading x ≡ true → is_up b x ≡ true
loading_up b Away e = e
loading_up b Turns e = refl
loading_up b LiesDown e = refl
loading_up b Rests e = e
loading_up b Rises e = refl
loading_up b Works e = absurd (not_both false e refl)
loading_up b Loads e = refl
loading_up b (Looks i a) e = refl
loading_up b (Sees i c a) e = refl
loading_up b (RingsFor Turning) e = refl
loading_up b (RingsFor Working) e = absurd (not_both false e refl)
loading_up b (RingsFor Loading) e = refl
loading_up b (RingsFor Over) e = e

not_hungry : (a c : Bool) → c ≡ true → (a && not c) ≡ false
not_hungry true true e = refl
not_hungry false true e = refl
not_hungry true false e = absurd (not_both false e refl)
not_hungry false false e = refl

pub hungry_less : (a c d : Bool) → (d ≡ true → c ≡ true) → (a && not d) ≡ false → (a && not c) ≡ false
hungry_less true c true f e = not_hungry true c (f refl)
hungry_less true c false f e = absurd (not_both true refl e)
hungry_less false c d f e = refl

-- w has the desk, and its task is x after the step: the others have theirs as before, and whoever was roused is
pub record Held (k w : ℕ) (r t : Whole) (x : Task) : Type 0 where
  pub one : w < k
  pub task : t.task w ≡ x
  pub others : (v : ℕ) → (v == w) ≡ false → t.task v ≡ r.task v
  pub alone : (v : ℕ) → keeps_desk (r.task v) ≡ true → v ≡ w
  pub mono : (v : ℕ) → (v == w) ≡ false → IsRoused r v → IsRoused t v

module _ {k w : ℕ} {r t : Whole} {x : Task} (held : Held k w r t x) where
  alone_then : (v : ℕ) → keeps_desk (t.task v) ≡ true → v ≡ w
  alone_then v e = pick (v == w) refl
    where
      pick : (b : Bool) → (v == w) ≡ b → v ≡ w
      pick true at = same_number v w at
      pick false at = held.alone v (ap keeps_desk (sym (held.others v at)) ∙ e)

  -- who has another task than w's isn't w
  pub apart : (v : ℕ) (y : Task) → t.task v ≡ y → (x ≡ y → ⊥) → (v == w) ≡ false
  apart v y e ne = other_number v w (λ same. ne (sym held.task ∙ (ap t.task (sym same) ∙ e)))

  pub assemble : ((v : ℕ) → t.task v ≡ Rests → is_hungry t v ≡ false → IsRoused t v ⊎ WillBeSeen t v) → ((v : ℕ) → v < k → t.task v ≡ Rests → SomebodyUp k t)
      → (x ≡ LiesDown → (is_hungry t w ≡ true) × HasReason k w t) → ((i : ℕ) (a : After) → x ≡ Looks i a → (v : ℕ) → v < i → t.task v ≡ Rests → IsRoused t v)
      → ((i : ℕ) (b : Bool) (a : After) → x ≡ Sees i b a → (v : ℕ) → v < i → t.task v ≡ Rests → IsRoused t v ⊎ (b ≡ true))
      → ((i : ℕ) (a : After) → x ≡ Sees i true a → AnotherUp k w t) → Turned k t
  assemble called up decided looked seen found = record {
    called = called;
    up = up;
    decided = λ v e. (let same = alone_then v (ap keeps_desk e) in subst (λ z. (is_hungry t z ≡ true) × HasReason k z t) (sym same) (decided (sym held.task ∙ (ap t.task (sym same) ∙ e))));
    looked = λ v i a e. (let same = alone_then v (ap keeps_desk e) in looked i a (sym held.task ∙ (ap t.task (sym same) ∙ e)));
    seen = λ v i b a e. (let same = alone_then v (ap keeps_desk e) in seen i b a (sym held.task ∙ (ap t.task (sym same) ∙ e)));
    found = λ v i a e. (let same = alone_then v (ap keeps_desk e) in subst (λ z. AnotherUp k z t) (sym same) (found i a (sym held.task ∙ (ap t.task (sym same) ∙ e))));
  }

  -- w is up itself
  pub up_self : is_up (t.active w) x ≡ true → (v : ℕ) → v < k → t.task v ≡ Rests → SomebodyUp k t
  up_self e v lv f = record { worker = w; is_one = held.one; up = inl (ap (is_up (t.active w)) held.task ∙ e) }

  -- who rests and is roused is up
  pub roused_up : (v : ℕ) → v < k → t.task v ≡ Rests → IsRoused t v → SomebodyUp k t
  roused_up v lv e f = record { worker = v; is_one = lv; up = inr (e, f) }

  pub another_up : AnotherUp k w t → SomebodyUp k t
  another_up u = record { worker = u.worker; is_one = u.is_one; up = u.up }

  -- whoever else was up still is
  pub up_still : ((v : ℕ) → (v == w) ≡ false → t.active v ≡ r.active v) → AnotherUp k w r → AnotherUp k w t
  up_still act u = record { worker = u.worker; is_one = u.is_one; other = u.other; up = by u.up }
    where
      by : IsUp r u.worker → IsUp t u.worker
      by (inl e) = let a = act u.worker u.other in let b = held.others u.worker u.other in inl (rw (a, b) e)
      by (inr e) = inr (held.others u.worker u.other ∙ e.0, held.mono u.worker u.other e.1)

  -- w saw nobody before
  pub called_plain : Turned k r → is_sees (r.task w) ≡ false → ((v : ℕ) → (v == w) ≡ false → is_hungry t v ≡ false → is_hungry r v ≡ false)
      → (x ≡ Rests → is_hungry t w ≡ true) → (v : ℕ) → t.task v ≡ Rests → is_hungry t v ≡ false → IsRoused t v ⊎ WillBeSeen t v
  called_plain i plain hungry own v e f = pick (v == w) refl
    where
      pick : (b : Bool) → (v == w) ≡ b → IsRoused t v ⊎ WillBeSeen t v
      pick true at = let same = same_number v w at in absurd (not_both (is_hungry t w) (own (sym held.task ∙ (ap t.task (sym same) ∙ e))) (ap (is_hungry t) (sym same) ∙ f))
      pick false at = by (i.called v (sym (held.others v at) ∙ e) (hungry v at f))
        where
          by : IsRoused r v ⊎ WillBeSeen r v → IsRoused t v ⊎ WillBeSeen t v
          by (inl z) = inl (held.mono v at z)
          by (inr z) = absurd (not_both (is_sees (r.task w)) (ap (λ n. is_sees (r.task n)) (sym (held.alone z.0 (ap keeps_desk z.4))) ∙ ap is_sees z.4) plain)

  -- a reason names somebody who is up
  fed_up : Turned k r → ((v : ℕ) → IsSound k r v) → is_sees (r.task w) ≡ false → (y : IsFed k w r) → (z : Task) → r.task y.worker ≡ z → IsUp r y.worker
  fed_up i sound plain y Away e = absurd (not_both false (sym (ap has_query e) ∙ (sound y.worker).query y.active) refl)
  fed_up i sound plain y Turns e = inl (ap (is_up (r.active y.worker)) e)
  fed_up i sound plain y LiesDown e = inl (ap (is_up (r.active y.worker)) e)
  fed_up i sound plain y Rests e = by (i.called y.worker e (not_hungry (r.active y.worker) (r.has_chunk y.worker) y.fed))
    where
      by : IsRoused r y.worker ⊎ WillBeSeen r y.worker → IsUp r y.worker
      by (inl z) = inr (e, z)
      by (inr z) = absurd (not_both (is_sees (r.task w)) (ap (λ n. is_sees (r.task n)) (sym (held.alone z.0 (ap keeps_desk z.4))) ∙ ap is_sees z.4) plain)
  fed_up i sound plain y Rises e = inl (ap (is_up (r.active y.worker)) e)
  fed_up i sound plain y Works e = inl (ap (is_up (r.active y.worker)) e ∙ y.active)
  fed_up i sound plain y Loads e = inl (ap (is_up (r.active y.worker)) e)
  fed_up i sound plain y (Looks j a) e = inl (ap (is_up (r.active y.worker)) e)
  fed_up i sound plain y (Sees j b a) e = inl (ap (is_up (r.active y.worker)) e)
  fed_up i sound plain y (RingsFor Turning) e = inl (ap (is_up (r.active y.worker)) e)
  fed_up i sound plain y (RingsFor Working) e = inl (ap (is_up (r.active y.worker)) e ∙ y.active)
  fed_up i sound plain y (RingsFor Loading) e = inl (ap (is_up (r.active y.worker)) e)
  fed_up i sound plain y (RingsFor Over) e = absurd (not_both false (sym (ap has_query e) ∙ (sound y.worker).query y.active) refl)

  reason_up : Turned k r → ((v : ℕ) → IsSound k r v) → is_sees (r.task w) ≡ false → HasReason k w r → AnotherUp k w r ⊎ (is_loading (r.task w) ≡ true)
  reason_up i sound plain (inr y) = inl (record { worker = y.worker; is_one = y.is_one; other = y.other; up = fed_up i sound plain y (r.task y.worker) refl })
  reason_up i sound plain (inl y) = pick (y.worker == w) refl
    where
      pick : (b : Bool) → (y.worker == w) ≡ b → AnotherUp k w r ⊎ (is_loading (r.task w) ≡ true)
      pick true at = inr (ap (λ n. is_loading (r.task n)) (sym (same_number y.worker w at)) ∙ y.loads)
      pick false at = inl (record { worker = y.worker; is_one = y.is_one; other = at; up = inl (loading_up (r.active y.worker) (r.task y.worker) y.loads) })

  -- up where a reason is
  pub reason_then : Turned k r → ((v : ℕ) → IsSound k r v) → is_sees (r.task w) ≡ false → ((v : ℕ) → (v == w) ≡ false → t.active v ≡ r.active v) → (is_loading (r.task w) ≡ true → is_loading x ≡ true)
      → HasReason k w r → SomebodyUp k t
  reason_then i sound plain act loads reason = by (reason_up i sound plain reason)
    where
      by : AnotherUp k w r ⊎ (is_loading (r.task w) ≡ true) → SomebodyUp k t
      by (inl u) = another_up (up_still act u)
      by (inr e) = record { worker = w; is_one = held.one; up = inl (ap (is_up (t.active w)) held.task ∙ loading_up (t.active w) x (loads e)) }

  -- from one place to the next, after a load
  pub sees_on : (i : ℕ) (b c : Bool) (a : After) → r.task w ≡ Sees i b a → x ≡ Sees (i + 1) c a → Turned k r → ((v : ℕ) → (v == w) ≡ false → t.active v ≡ r.active v)
      → ((v : ℕ) → (v == w) ≡ false → is_hungry t v ≡ false → is_hungry r v ≡ false) → (IsRoused t i ⊎ (is_hungry t i ≡ true)) → (IsRoused t i ⊎ (c ≡ true)) → (b ≡ true → c ≡ true)
      → (c ≡ true → AnotherUp k w t) → Turned k t
  sees_on i b c a e f z act hungry here saw more found =
      assemble called (up_self (ap (is_up (t.active w)) f)) (λ g. absurd (other LiesDown (λ h. cc) g)) (λ j d g. absurd (other (Looks j d) (λ h. cc) g))
      (λ j d l g v le h. subst (λ y. IsRoused t v ⊎ (y ≡ true)) (same_flag j d l (sym f ∙ g)) (seen v (omega (arith, le, same_place j d l (sym f ∙ g))) h))
      (λ j l g. found (same_flag j true l (sym f ∙ g)))
    where
      other : (y : Task) → (Sees (i + 1) c a ≡ y → ⊥) → x ≡ y → ⊥
      other y ne g = ne (sym f ∙ g)

      same_flag : (j : ℕ) (d : Bool) (l : After) → Sees (i + 1) c a ≡ Sees j d l → c ≡ d
      same_flag j d l g = cc

      same_place : (j : ℕ) (d : Bool) (l : After) → Sees (i + 1) c a ≡ Sees j d l → i + 1 ≡ j
      same_place j d l g = cc

      off : (v : ℕ) → t.task v ≡ Rests → (v == w) ≡ false
      off v h = apart v Rests h (λ g. (let bad : Sees (i + 1) c a ≡ Rests = sym f ∙ g in cc))

      called : (v : ℕ) → t.task v ≡ Rests → is_hungry t v ≡ false → IsRoused t v ⊎ WillBeSeen t v
      called v h g = by (z.called v (sym (held.others v (off v h)) ∙ h) (hungry v (off v h) g))
        where
          at_place : IsRoused t i ⊎ (is_hungry t i ≡ true) → i ≡ v → IsRoused t v ⊎ WillBeSeen t v
          at_place (inl y) same = inl (subst (IsRoused t) same y)
          at_place (inr y) same = absurd (not_both (is_hungry t v) (ap (is_hungry t) (sym same) ∙ y) g)

          later : (i ≡ v) ⊎ (i < v) → IsRoused t v ⊎ WillBeSeen t v
          later (inl same) = at_place here same
          later (inr less) = inr (w, i + 1, c, a, held.task ∙ f, omega (arith, less))

          by : IsRoused r v ⊎ WillBeSeen r v → IsRoused t v ⊎ WillBeSeen t v
          by (inl y) = inl (held.mono v (off v h) y)
          by (inr y) =
              let same : Sees y.1 y.2 y.3 ≡ Sees i b a = sym y.4 ∙ (ap r.task (held.alone y.0 (ap keeps_desk y.4)) ∙ e) in
              let place : y.1 ≡ i = cc in
              later (split i v (omega (arith, place, y.5)))

      seen : (v : ℕ) → v < i + 1 → t.task v ≡ Rests → IsRoused t v ⊎ (c ≡ true)
      seen v le h = by (split v i (omega (arith, le)))
        where
          before : IsRoused r v ⊎ (b ≡ true) → IsRoused t v ⊎ (c ≡ true)
          before (inl y) = inl (held.mono v (off v h) y)
          before (inr y) = inr (more y)

          by : (v ≡ i) ⊎ (v < i) → IsRoused t v ⊎ (c ≡ true)
          by (inl same) = subst (λ n. IsRoused t n ⊎ (c ≡ true)) (sym same) saw
          by (inr less) = before (z.seen w i b a e v less (sym (held.others v (off v h)) ∙ h))

  -- a load or a stop is over: the places are to be looked at
  pub begins_to_see : (a : After) → x ≡ Sees 0 false a → Turned k t
  begins_to_see a f = assemble (λ v e g. inr (w, 0, false, a, held.task ∙ f, omega arith)) (up_self (ap (is_up (t.active w)) f)) (λ g. absurd (let bad : Sees 0 false a ≡ LiesDown = sym f ∙ g in cc))
      (λ j d g. absurd (let bad : Sees 0 false a ≡ Looks j d = sym f ∙ g in cc)) (λ j d l g v le. absurd (let bad : Sees 0 false a ≡ Sees j d l = sym f ∙ g in let zero : 0 ≡ j = cc in omega (arith, zero, le)))
      (λ j l g. absurd (let bad : Sees 0 false a ≡ Sees j true l = sym f ∙ g in let no : false ≡ true = cc in not_both true refl (sym no)))
