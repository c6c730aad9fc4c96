-- Each worker does one thing at a time: its task, and where it is at the desk and at the bell, fit each other.
use Rattle.std.proofs.Common.{◌≡◌, ◌==◌, ◌+◌, ◌<◌, ◌≤◌, ◌⊎◌, ◌&&◌, not, ◌||◌, true, false, ℕ, Bool, refl, sym, ◌∙◌, ap, subst, arith, inl, inr}
use Rattle.story_laws.proofs.Bools.{both_and, if_not, not_false, not_both, or_left, same_number}
use Rattle.waiting_core.specs.Put.{put}
use Rattle.waiting_core.specs.Lobby as lobby
use Rattle.waiting_core.specs.Bell as bell
use Rattle.waiting_core.specs.Lobby.Stage.{Out, Holds, Comes, Read, Entered, Looked, Asleep, Gave, Found, Taken, Raised}
use Rattle.waiting_core.specs.Bell.Ring.{Idle}
use Rattle.waiting_core.specs.Whole.{Whole, Task, Does, After, Step, wants, keeps_desk, goes_on, is_allowed, stays_active, does_next, made_due}
use Rattle.waiting_core.specs.Whole.After.{Turning, Working, Loading, Over}
use Rattle.waiting_core.specs.Whole.Task.{Away, Turns, LiesDown, Rests, Rises, Works, Loads, Looks, Sees, RingsFor}
use Rattle.waiting_core.specs.Whole.Does.{InLobby, Registers, Decides, CountsItself, ReadsRings, NotesPlace, FallsAsleep, StaysUp, Starts, GetsUp, HasRisen, CountsDown, TurnsTo, RingsForNone, FindsNobody, FindsOne, FindsNone, Settles, Stops, StopsLate, SeesNobody, SeesFed, SeesHungry, SeesAnother, HasSeen, IsToRing, ClearsPlace, CountsRings, RaisesRings, WakesOther, WakesNobody, HasRung, CallsNext}
use Rattle.waiting_core.proofs.Lobbies.{is_other}
use Rattle.waiting_core.proofs.Puts.{at_put, off_put, put_keep}

-- is between asking for the desk and having it
abbrev pub in_lobby : lobby.Stage → Bool
in_lobby Comes = true
in_lobby (Read n) = true
in_lobby (Entered n) = true
in_lobby (Looked n) = true
in_lobby (Asleep n) = true
in_lobby _ = false

abbrev pub is_asleep : bell.Rest → Bool
is_asleep (bell.Rest.Asleep n) = true
is_asleep _ = false

abbrev pub is_idle : bell.Ring → Bool
is_idle Idle = true
is_idle _ = false

abbrev pub is_over : After → Bool
is_over Over = true
is_over _ = false

-- may be to ring for another
abbrev pub rings : Task → Bool
rings (Looks i a) = true
rings (Sees i b a) = true
rings (RingsFor a) = true
rings _ = false

-- gets up, and may ring for itself
abbrev pub rises : Task → Bool
rises Rises = true
rises _ = false

abbrev pub may_ring : Task → Bool
may_ring x = rings x || rises x

-- may have an active query
abbrev pub has_query : Task → Bool
has_query Away = false
has_query (Looks i a) = not (is_over a)
has_query (Sees i b a) = not (is_over a)
has_query (RingsFor a) = not (is_over a)
has_query _ = true

pub record Sound (k v : ℕ) (x : Task) (p : lobby.Stage) (y : bell.Rest) (l : Bool) (g : bell.Ring) (d : ℕ → Bool) (a : Bool) : Type 0 where
  pub one : k ≤ v → x ≡ Away
  pub desk : keeps_desk x ≡ true → p ≡ Holds
  pub lobby : in_lobby p ≡ true → wants x ≡ true
  pub asleep : is_asleep y ≡ true → (x ≡ Rests) × (p ≡ Out)
  pub place : l ≡ true → x ≡ Rests
  pub due : (u : ℕ) → d u ≡ true → rings x ≡ true
  pub ring : is_idle g ≡ false → may_ring x ≡ true
  pub query : a ≡ true → has_query x ≡ true

abbrev pub IsSound : ℕ → Whole → ℕ → Type 0
IsSound k s v = Sound k v (s.task v) (s.lobby.at v) (s.bell.rest v) (s.bell.lies v) (s.bell.ring v) (s.due v) (s.active v)

-- Another worker's step

record SameOf (r t : Whole) (v : ℕ) : Type 0 where
  task : t.task v ≡ r.task v
  at : t.lobby.at v ≡ r.lobby.at v
  rest : is_asleep (t.bell.rest v) ≡ true → is_asleep (r.bell.rest v) ≡ true
  lies : t.bell.lies v ≡ true → r.bell.lies v ≡ true
  ring : is_idle (t.bell.ring v) ≡ false → is_idle (r.bell.ring v) ≡ false
  due : (u : ℕ) → t.due v u ≡ true → r.due v u ≡ true
  active : t.active v ≡ true → r.active v ≡ true

stays_sound : (k : ℕ) (r t : Whole) (v : ℕ) → SameOf r t v → IsSound k r v → IsSound k t v
stays_sound k r t v s i = record {
  one = λ le. s.task ∙ i.one le;
  desk = λ e. s.at ∙ i.desk (sym (ap keeps_desk s.task) ∙ e);
  lobby = λ e. ap wants s.task ∙ i.lobby (sym (ap in_lobby s.at) ∙ e);
  asleep = λ e. (let o = i.asleep (s.rest e) in (s.task ∙ o.0, s.at ∙ o.1));
  place = λ e. s.task ∙ i.place (s.lies e);
  due = λ u e. ap rings s.task ∙ i.due u (s.due u e);
  ring = λ e. ap may_ring s.task ∙ i.ring (s.ring e);
  query = λ e. ap has_query s.task ∙ i.query (s.active e);
}

-- only w does something
by_one : (k w : ℕ) (r t : Whole) → ((v : ℕ) → (v == w) ≡ false → SameOf r t v) → ((v : ℕ) → IsSound k r v) → IsSound k t w → (v : ℕ) → IsSound k t v
by_one k w r t same i new v = pick (v == w) refl
  where
    pick : (b : Bool) → (v == w) ≡ b → IsSound k t v
    pick true e = subst (IsSound k t) (sym (same_number v w e)) new
    pick false e = stays_sound k r t v (same v e) (i v)

-- What is known of a worker by its task

abbrev is_rests : Task → Bool
is_rests Rests = true
is_rests _ = false

record Up (s : Whole) (w : ℕ) : Type 0 where
  rest : is_asleep (s.bell.rest w) ≡ false
  lies : s.bell.lies w ≡ false

up : (k : ℕ) (r : Whole) (w : ℕ) → IsSound k r w → is_rests (r.task w) ≡ false → Up r w
up k r w i e = record {
  rest = if_not (is_asleep (r.bell.rest w)) (λ f. not_both false (sym e ∙ ap is_rests (i.asleep f).0) refl);
  lies = if_not (r.bell.lies w) (λ f. not_both false (sym e ∙ ap is_rests (i.place f)) refl);
}

record Still (s : Whole) (w : ℕ) : Type 0 where
  due : (u : ℕ) → s.due w u ≡ false
  ring : is_idle (s.bell.ring w) ≡ true

still : (k : ℕ) (r : Whole) (w : ℕ) → IsSound k r w → may_ring (r.task w) ≡ false → Still r w
still k r w i e = record {
  due = λ u. if_not (r.due w u) (λ f. not_both (may_ring (r.task w)) (or_left (rings (r.task w)) (rises (r.task w)) (i.due u f)) e);
  ring = by (is_idle (r.bell.ring w)) refl;
}
  where
    by : (b : Bool) → is_idle (r.bell.ring w) ≡ b → b ≡ true
    by true f = refl
    by false f = absurd (not_both (may_ring (r.task w)) (i.ring f) e)

-- A worker goes from one task to the next, while it has the desk or wants nothing

record Goes (k w : ℕ) (x : Task) (p : lobby.Stage) (y : bell.Rest) (l : Bool) (g : bell.Ring) (d : ℕ → Bool) (a : Bool) : Type 0 where
  desk : keeps_desk x ≡ true → p ≡ Holds
  lobby : in_lobby p ≡ false
  rest : is_asleep y ≡ false
  lies : l ≡ true → x ≡ Rests
  still : (rings x ≡ true) ⊎ (((u : ℕ) → d u ≡ false) × (is_idle g ≡ true))
  query : a ≡ true → has_query x ≡ true

goes_sound : (k w : ℕ) (x : Task) (p : lobby.Stage) (y : bell.Rest) (l : Bool) (g : bell.Ring) (d : ℕ → Bool) (a : Bool) → w < k → Goes k w x p y l g d a → Sound k w x p y l g d a
goes_sound k w x p y l g d a lt o = record {
  one = λ le. absurd (omega (arith, le, lt));
  desk = o.desk;
  lobby = λ e. absurd (not_both (in_lobby p) e o.lobby);
  asleep = λ e. absurd (not_both (is_asleep y) e o.rest);
  place = o.lies;
  due = λ u e. due o.still u e;
  ring = λ e. ring o.still e;
  query = o.query;
}
  where
    due : ((rings x ≡ true) ⊎ (((u : ℕ) → d u ≡ false) × (is_idle g ≡ true))) → (u : ℕ) → d u ≡ true → rings x ≡ true
    due (inl f) u e = f
    due (inr f) u e = absurd (not_both (d u) e (f.0 u))

    ring : ((rings x ≡ true) ⊎ (((u : ℕ) → d u ≡ false) × (is_idle g ≡ true))) → is_idle g ≡ false → may_ring x ≡ true
    ring (inl f) e = or_left (rings x) (rises x) f
    ring (inr f) e = absurd (not_both (is_idle g) f.1 e)

-- w's task is x now; the others' are as they were, but for their queries
module _ (k w : ℕ) (r : Whole) (lt : w < k) (i : (v : ℕ) → IsSound k r v) where
  abbrev after : Task → (ℕ → ℕ → Bool) → (ℕ → Bool) → (ℕ → Bool) → Whole
  after x d a c = record (does_next r w x) { due = d; active = a; has_chunk = c }

  others : (x : Task) (d : ℕ → ℕ → Bool) (a c : ℕ → Bool) → ((v : ℕ) → (v == w) ≡ false → (u : ℕ) → d v u ≡ true → r.due v u ≡ true)
      → ((v : ℕ) → (v == w) ≡ false → a v ≡ true → r.active v ≡ true) → (v : ℕ) → (v == w) ≡ false → SameOf r (after x d a c) v
  others x d a c due act v e = record {
    task = off_put r.task w x v e;
    at = refl;
    rest = λ f. f;
    lies = λ f. f;
    ring = λ f. f;
    due = due v e;
    active = act v e;
  }

  -- it isn't in the lobby, and didn't lie
  on_task : (o x : Task) (d : ℕ → ℕ → Bool) (a c : ℕ → Bool) → r.task w ≡ o → is_rests o ≡ false → (keeps_desk x ≡ true → r.lobby.at w ≡ Holds) → in_lobby (r.lobby.at w) ≡ false
      → ((v : ℕ) → (v == w) ≡ false → (u : ℕ) → d v u ≡ true → r.due v u ≡ true) → ((v : ℕ) → (v == w) ≡ false → a v ≡ true → r.active v ≡ true)
      → ((rings x ≡ true) ⊎ (((u : ℕ) → d w u ≡ false) × (is_idle (r.bell.ring w) ≡ true))) → (a w ≡ true → has_query x ≡ true) → (v : ℕ) → IsSound k (after x d a c) v
  on_task o x d a c e apart desk out due act quiet query =
      by_one k w r (after x d a c) (others x d a c due act) i (subst (λ (z : Task). Sound k w z (r.lobby.at w) (r.bell.rest w) (r.bell.lies w) (r.bell.ring w) (d w) (a w)) (sym (at_put r.task w x)) (goes_sound k w x (r.lobby.at w) (r.bell.rest w) (r.bell.lies w) (r.bell.ring w) (d w) (a w) lt (record {
        desk = desk;
        lobby = out;
        rest = u.rest;
        lies = λ f. absurd (not_both (r.bell.lies w) f u.lies);
        still = quiet;
        query = query;
      })))
    where
      u : Up r w
      u = up k r w (i w) (ap is_rests e ∙ apart)

  -- it has the desk
  on_desk : (o x : Task) (d : ℕ → ℕ → Bool) (a c : ℕ → Bool) → r.task w ≡ o → is_rests o ≡ false → r.lobby.at w ≡ Holds
      → ((v : ℕ) → (v == w) ≡ false → (u : ℕ) → d v u ≡ true → r.due v u ≡ true) → ((v : ℕ) → (v == w) ≡ false → a v ≡ true → r.active v ≡ true)
      → ((rings x ≡ true) ⊎ (((u : ℕ) → d w u ≡ false) × (is_idle (r.bell.ring w) ≡ true))) → (a w ≡ true → has_query x ≡ true) → (v : ℕ) → IsSound k (after x d a c) v
  on_desk o x d a c e apart at due act quiet query = on_task o x d a c e apart (λ f. at) (ap in_lobby at) due act quiet query

  quiet_by : (o : Task) → r.task w ≡ o → may_ring o ≡ false → (rings o ≡ true) ⊎ (((u : ℕ) → r.due w u ≡ false) × (is_idle (r.bell.ring w) ≡ true))
  quiet_by o e f = let s = still k r w (i w) (ap may_ring e ∙ f) in inr (s.due, s.ring)

  keeps : (o : Task) → r.task w ≡ o → keeps_desk o ≡ true → r.lobby.at w ≡ Holds
  keeps o e f = (i w).desk (ap keeps_desk e ∙ f)

  -- from one place to the next, with the query as it was
  looks_on : (o x : Task) (d : ℕ → ℕ → Bool) → r.task w ≡ o → keeps_desk o ≡ true → is_rests o ≡ false → rings x ≡ true → has_query x ≡ has_query o
      → ((v : ℕ) → (v == w) ≡ false → (u : ℕ) → d v u ≡ true → r.due v u ≡ true) → (v : ℕ) → IsSound k (after x d r.active r.has_chunk) v
  looks_on o x d e f apart g same due = on_desk o x d r.active r.has_chunk e apart (keeps o e f) due (λ v off h. h) (inl g) (λ h. same ∙ (sym (ap has_query e) ∙ (i w).query h))

  still_due : (v : ℕ) → (v == w) ≡ false → (u : ℕ) → r.due v u ≡ true → r.due v u ≡ true
  still_due v off u h = h

  put_due : (j : ℕ) (b : Bool) (v : ℕ) → (v == w) ≡ false → (u : ℕ) → made_due r w j b v u ≡ true → r.due v u ≡ true
  put_due j b v off u h = sym (ap (λ (f : ℕ → Bool). f u) (off_put r.due w (put (r.due w) j b) v off)) ∙ h

  put_active : (b : Bool) (v : ℕ) → (v == w) ≡ false → put r.active w b v ≡ true → r.active v ≡ true
  put_active b v off h = sym (off_put r.active w b v off) ∙ h

-- In the lobby

abbrev is_out : lobby.Stage → Bool
is_out Out = true
is_out _ = false

module _ (k w : ℕ) (r : Whole) (i : (v : ℕ) → IsSound k r v) where
  walks : (l : lobby.Lobby) (a b : lobby.Stage) → r.lobby.at w ≡ a → ((v : ℕ) → l.at v ≡ put r.lobby.at w b v) → (lobby.is_holder a && keeps_desk (r.task w)) ≡ false
      → (in_lobby b && (not (in_lobby a) && not (wants (r.task w)))) ≡ false → (is_out a && not (wants (r.task w))) ≡ false → (v : ℕ) → IsSound k (record r { lobby = l }) v
  walks l a b e f gives comes out = by_one k w r (record r { lobby = l }) others i own
    where
      others : (v : ℕ) → (v == w) ≡ false → SameOf r (record r { lobby = l }) v
      others v off = record {
        task = refl;
        at = f v ∙ off_put r.lobby.at w b v off;
        rest = λ g. g;
        lies = λ g. g;
        ring = λ g. g;
        due = λ u g. g;
        active = λ g. g;
      }

      here : l.at w ≡ b
      here = f w ∙ at_put r.lobby.at w b

      wanted : in_lobby b ≡ true → wants (r.task w) ≡ true
      wanted g = by (wants (r.task w)) refl (in_lobby a) refl
        where
          by : (x : Bool) → wants (r.task w) ≡ x → (y : Bool) → in_lobby a ≡ y → x ≡ true
          by true h y j = refl
          by false h true j = absurd (not_both (wants (r.task w)) ((i w).lobby (ap in_lobby e ∙ j)) h)
          by false h false j = absurd (not_both (in_lobby b && (not (in_lobby a) && not (wants (r.task w)))) (both_and (in_lobby b) (not (in_lobby a) && not (wants (r.task w))) g (both_and (not (in_lobby a)) (not (wants (r.task w))) (ap not j) (ap not h))) comes)

      own : IsSound k (record r { lobby = l }) w
      own = record {
        one = (i w).one;
        desk = λ g. absurd (not_both (lobby.is_holder a && keeps_desk (r.task w)) (both_and (lobby.is_holder a) (keeps_desk (r.task w)) (ap lobby.is_holder (sym e ∙ (i w).desk g)) g) gives);
        lobby = λ g. wanted (sym (ap in_lobby here) ∙ g);
        asleep = λ g. (let o = (i w).asleep g in absurd (not_both (is_out a && not (wants (r.task w))) (both_and (is_out a) (not (wants (r.task w))) (ap is_out (sym e ∙ o.1)) (ap not (ap wants o.0))) out));
        place = (i w).place;
        due = (i w).due;
        ring = (i w).ring;
        query = (i w).query;
      }

pub lobby_sound : (k w : ℕ) (d : lobby.Does) (r : Whole) (l : lobby.Lobby) → is_allowed d (r.task w) ≡ true → lobby.Step k w d r.lobby l → ((v : ℕ) → IsSound k r v) → (v : ℕ) → IsSound k (record r { lobby = l }) v
lobby_sound k w lobby.Does.Wants r l ok s i = walks k w r i l Out Comes s.0 (λ v. ap (λ (x : lobby.Lobby). x.at v) s.1) refl (ap not ok) (ap not ok)
lobby_sound k w lobby.Does.Takes r l ok s i = walks k w r i l Comes Holds s.0 (λ v. ap (λ (x : lobby.Lobby). x.at v) s.2) refl refl refl
lobby_sound k w lobby.Does.Reads r l ok s i = walks k w r i l Comes (Read r.lobby.calls) s.0 (λ v. ap (λ (x : lobby.Lobby). x.at v) s.1) refl refl refl
lobby_sound k w lobby.Does.Enters r l ok s i = walks k w r i l (Read s.0) (Entered s.0) s.1 (λ v. ap (λ (x : lobby.Lobby). x.at v) s.2) refl refl refl
lobby_sound k w lobby.Does.Finds r l ok s i = walks k w r i l (Entered s.0) Holds s.1 (λ v. ap (λ (x : lobby.Lobby). x.at v) s.3) refl refl refl
lobby_sound k w lobby.Does.Misses r l ok s i = walks k w r i l (Entered s.0) (Looked s.0) s.1 (λ v. ap (λ (x : lobby.Lobby). x.at v) s.3) refl refl refl
lobby_sound k w lobby.Does.Sleeps r l ok s i = walks k w r i l (Looked s.0) (Asleep s.0) s.1 (λ v. ap (λ (x : lobby.Lobby). x.at v) s.3) refl refl refl
lobby_sound k w lobby.Does.Stays r l ok s i = walks k w r i l (Looked s.0) Comes s.1 (λ v. ap (λ (x : lobby.Lobby). x.at v) s.2) refl refl refl
lobby_sound k w lobby.Does.Starts r l ok s i = walks k w r i l (Asleep s.0) Comes s.1 (λ v. ap (λ (x : lobby.Lobby). x.at v) s.2) refl refl refl
lobby_sound k w lobby.Does.Gives r l ok s i = walks k w r i l Holds Gave s.0 (λ v. ap (λ (x : lobby.Lobby). x.at v) s.1) (not_false (keeps_desk (r.task w)) ok) refl refl
lobby_sound k w lobby.Does.SeesNone r l ok s i = walks k w r i l Gave Out s.0 (λ v. ap (λ (x : lobby.Lobby). x.at v) s.2) refl refl refl
lobby_sound k w lobby.Does.SeesSome r l ok s i = walks k w r i l Gave Found s.0 (λ v. ap (λ (x : lobby.Lobby). x.at v) s.1) refl refl refl
lobby_sound k w lobby.Does.IsLate r l ok s i = walks k w r i l Found Out s.0 (λ v. ap (λ (x : lobby.Lobby). x.at v) s.2) refl refl refl
lobby_sound k w lobby.Does.Counts r l ok s i = walks k w r i l Found Taken s.1 (λ v. ap (λ (x : lobby.Lobby). x.at v) s.3) refl refl refl
lobby_sound k w lobby.Does.Raises r l ok s i = walks k w r i l Taken Raised s.0 (λ v. ap (λ (x : lobby.Lobby). x.at v) s.1) refl refl refl
lobby_sound k w (lobby.Does.Wakes u) r l ok s i =
    let mid : Whole = record r { lobby = lobby.goes r.lobby w Out } in
    let there : mid.lobby.at u ≡ Asleep s.0 = off_put r.lobby.at w Out u (is_other r.lobby.at w u s.0 s.2 s.3) ∙ s.3 in
    walks k u mid (walks k w r i (lobby.goes r.lobby w Out) Raised Out s.2 (λ v. refl) refl refl refl) l (Asleep s.0) Comes there (λ v. ap (λ (x : lobby.Lobby). x.at v) s.4) refl refl refl
lobby_sound k w lobby.Does.WakesNone r l ok s i = walks k w r i l Raised Out s.0 (λ v. ap (λ (x : lobby.Lobby). x.at v) s.2) refl refl refl

-- At the bell

stays_query : (a : After) (b : Bool) → stays_active a b ≡ true → not (is_over a) ≡ true
stays_query Turning b e = refl
stays_query Working b e = refl
stays_query Loading b e = refl
stays_query Over b e = e

pub goes_free : (a : After) → keeps_desk (goes_on a) ≡ false
goes_free Turning = refl
goes_free Working = refl
goes_free Loading = refl
goes_free Over = refl

goes_query : (a : After) → has_query (goes_on a) ≡ not (is_over a)
goes_query Turning = refl
goes_query Working = refl
goes_query Loading = refl
goes_query Over = refl

-- only the bell and its count changed
module _ (k : ℕ) (r : Whole) (i : (v : ℕ) → IsSound k r v) where
  abbrev rung : bell.Bell → (ℕ → ℕ → Bool) → Whole
  rung b d = record r { bell = b; due = d }

  same_of : (b : bell.Bell) (d : ℕ → ℕ → Bool) (v : ℕ) → (is_asleep (b.rest v) ≡ true → is_asleep (r.bell.rest v) ≡ true) → (b.lies v ≡ true → r.bell.lies v ≡ true)
      → (is_idle (b.ring v) ≡ false → is_idle (r.bell.ring v) ≡ false) → ((u : ℕ) → d v u ≡ true → r.due v u ≡ true) → SameOf r (rung b d) v
  same_of b d v rest lies ring due = record { task = refl; at = refl; rest = rest; lies = lies; ring = ring; due = due; active = λ f. f }

  all_same : (b : bell.Bell) (d : ℕ → ℕ → Bool) → ((v : ℕ) → is_asleep (b.rest v) ≡ true → is_asleep (r.bell.rest v) ≡ true) → ((v : ℕ) → b.lies v ≡ true → r.bell.lies v ≡ true)
      → ((v : ℕ) → is_idle (b.ring v) ≡ false → is_idle (r.bell.ring v) ≡ false) → ((v u : ℕ) → d v u ≡ true → r.due v u ≡ true) → (v : ℕ) → IsSound k (rung b d) v
  all_same b d rest lies ring due v = stays_sound k r (rung b d) v (same_of b d v (rest v) (lies v) (ring v) (due v)) (i v)

  -- w rests as y, and isn't asleep
  rests_up : (w : ℕ) (y : bell.Rest) → is_asleep y ≡ false → (v : ℕ) → IsSound k (rung (record r.bell { rest = put r.bell.rest w y }) r.due) v
  rests_up w y e = all_same (record r.bell { rest = put r.bell.rest w y }) r.due (λ v. put_keep is_asleep true r.bell.rest w y v (λ f. absurd (not_both (is_asleep y) f e))) (λ v f. f) (λ v f. f) (λ v u f. f)

  falls_asleep : (w n : ℕ) → r.task w ≡ Rests → r.lobby.at w ≡ Out → (v : ℕ) → IsSound k (rung (record r.bell { rest = put r.bell.rest w (bell.Rest.Asleep n) }) r.due) v
  falls_asleep w n e f =
      by_one k w r (rung b r.due) (λ v off. same_of b r.due v (λ g. sym (ap is_asleep (off_put r.bell.rest w (bell.Rest.Asleep n) v off)) ∙ g) (λ g. g) (λ g. g) (λ u g. g)) i
      (record { one = (i w).one; desk = (i w).desk; lobby = (i w).lobby; asleep = λ g. (e, f); place = (i w).place; due = (i w).due; ring = (i w).ring; query = (i w).query })
    where
      b : bell.Bell
      b = record r.bell { rest = put r.bell.rest w (bell.Rest.Asleep n) }

  -- w, which rings, is at the ring g
  rings_for : (w : ℕ) (a : After) (g : bell.Ring) → r.task w ≡ RingsFor a → (v : ℕ) → IsSound k (rung (record r.bell { ring = put r.bell.ring w g }) r.due) v
  rings_for w a g e =
      by_one k w r (rung b r.due) (λ v off. same_of b r.due v (λ f. f) (λ f. f) (λ f. sym (ap is_idle (off_put r.bell.ring w g v off)) ∙ f) (λ u f. f)) i
      (record { one = (i w).one; desk = (i w).desk; lobby = (i w).lobby; asleep = (i w).asleep; place = (i w).place; due = (i w).due; ring = λ f. ap may_ring e; query = (i w).query })
    where
      b : bell.Bell
      b = record r.bell { ring = put r.bell.ring w g }

  counts : (w u n : ℕ) → r.bell.ring w ≡ bell.Ring.Cleared u → (v : ℕ) → IsSound k (rung (record r.bell { ring = put r.bell.ring w (bell.Ring.Counted u n) }) r.due) v
  counts w u n e = all_same (record r.bell { ring = put r.bell.ring w (bell.Ring.Counted u n) }) r.due (λ v f. f) (λ v f. f)
      (λ v. put_keep is_idle false r.bell.ring w (bell.Ring.Counted u n) v (λ f. ap is_idle e)) (λ v x f. f)

  raises : (w u m : ℕ) → r.bell.ring w ≡ bell.Ring.Counted u m → (v : ℕ) → IsSound k (rung (bell.raised r.bell w u m) r.due) v
  raises w u m e = all_same (bell.raised r.bell w u m) r.due (λ v f. f) (λ v f. f) (λ v. put_keep is_idle false r.bell.ring w (bell.Ring.Raised u) v (λ f. ap is_idle e)) (λ v x f. f)

  wakes : (w u : ℕ) → (v : ℕ) → IsSound k (rung (record r.bell { ring = put r.bell.ring w Idle; rest = put r.bell.rest u bell.Rest.Up }) r.due) v
  wakes w u = all_same (record r.bell { ring = put r.bell.ring w Idle; rest = put r.bell.rest u bell.Rest.Up }) r.due (λ v. put_keep is_asleep true r.bell.rest u bell.Rest.Up v (λ f. absurd (not_both false f refl))) (λ v f. f)
      (λ v. put_keep is_idle false r.bell.ring w Idle v (λ f. absurd (not_both true refl f))) (λ v x f. f)

  wakes_nobody : (w : ℕ) → (v : ℕ) → IsSound k (rung (record r.bell { ring = put r.bell.ring w Idle }) r.due) v
  wakes_nobody w = all_same (record r.bell { ring = put r.bell.ring w Idle }) r.due (λ v f. f) (λ v f. f) (λ v. put_keep is_idle false r.bell.ring w Idle v (λ f. absurd (not_both true refl f))) (λ v x f. f)

  clears : (w u : ℕ) → r.bell.ring w ≡ bell.Ring.Rings u → (v : ℕ) → IsSound k (rung (bell.cleared r.bell w u) (made_due r w u false)) v
  clears w u e = all_same (bell.cleared r.bell w u) (made_due r w u false) (λ v f. f)
      (λ v. put_keep (λ b. b) true r.bell.lies u false v (λ f. absurd (not_both false f refl))) (λ v. put_keep is_idle false r.bell.ring w (bell.Ring.Cleared u) v (λ f. ap is_idle e)) less
    where
      inner : (x : ℕ) → put (r.due w) u false x ≡ true → r.due w x ≡ true
      inner x = put_keep (λ b. b) true (r.due w) u false x (λ f. absurd (not_both false f refl))

      less : (v x : ℕ) → made_due r w u false v x ≡ true → r.due v x ≡ true
      less v x f = put_keep (λ (d : ℕ → Bool). d x) true r.due w (put (r.due w) u false) v (inner x) f

  -- w has noted that it lies
  notes : (w n : ℕ) → w < k → r.task w ≡ LiesDown
      → (v : ℕ) → IsSound k (record (does_next r w Rests) { bell = record r.bell { rest = put r.bell.rest w (bell.Rest.Lies n); lies = put r.bell.lies w true } }) v
  notes w n lt e = by_one k w r t others i new
    where
      t : Whole
      t = record (does_next r w Rests) { bell = record r.bell { rest = put r.bell.rest w (bell.Rest.Lies n); lies = put r.bell.lies w true } }

      others : (v : ℕ) → (v == w) ≡ false → SameOf r t v
      others v off = record {
        task = off_put r.task w Rests v off;
        at = refl;
        rest = λ g. sym (ap is_asleep (off_put r.bell.rest w (bell.Rest.Lies n) v off)) ∙ g;
        lies = λ g. sym (off_put r.bell.lies w true v off) ∙ g;
        ring = λ g. g;
        due = λ u g. g;
        active = λ g. g;
      }

      here : t.task w ≡ Rests
      here = at_put r.task w Rests

      holds : r.lobby.at w ≡ Holds
      holds = (i w).desk (ap keeps_desk e)

      q : Still r w
      q = still k r w (i w) (ap may_ring e)

      new : IsSound k t w
      new = record {
        one = λ le. absurd (omega (arith, le, lt));
        desk = λ g. holds;
        lobby = λ g. absurd (not_both false (sym (ap in_lobby holds) ∙ g) refl);
        asleep = λ g. absurd (not_both false (sym (ap is_asleep (at_put r.bell.rest w (bell.Rest.Lies n))) ∙ g) refl);
        place = λ g. here;
        due = λ u g. absurd (not_both (r.due w u) g (q.due u));
        ring = λ g. absurd (not_both (is_idle (r.bell.ring w)) q.ring g);
        query = λ g. ap has_query here;
      }

  -- w has noted that it is up
  gets_up : (w : ℕ) → w < k → r.task w ≡ Rests → r.lobby.at w ≡ Out → r.bell.rest w ≡ bell.Rest.Up → (v : ℕ) → IsSound k (record (does_next r w Rises) { bell = bell.is_up r.bell w }) v
  gets_up w lt e f up = by_one k w r t others i new
    where
      t : Whole
      t = record (does_next r w Rises) { bell = bell.is_up r.bell w }

      others : (v : ℕ) → (v == w) ≡ false → SameOf r t v
      others v off = record {
        task = off_put r.task w Rises v off;
        at = refl;
        rest = λ g. g;
        lies = λ g. sym (off_put r.bell.lies w false v off) ∙ g;
        ring = λ g. sym (ap is_idle (off_put r.bell.ring w (bell.own_ring r.bell w) v off)) ∙ g;
        due = λ u g. g;
        active = λ g. g;
      }

      here : t.task w ≡ Rises
      here = at_put r.task w Rises

      q : Still r w
      q = still k r w (i w) (ap may_ring e)

      new : IsSound k t w
      new = record {
        one = λ le. absurd (omega (arith, le, lt));
        desk = λ g. absurd (not_both false (sym (ap keeps_desk here) ∙ g) refl);
        lobby = λ g. absurd (not_both false (sym (ap in_lobby f) ∙ g) refl);
        asleep = λ g. absurd (not_both false (sym (ap is_asleep up) ∙ g) refl);
        place = λ g. absurd (not_both false (sym (at_put r.bell.lies w false) ∙ g) refl);
        due = λ u g. absurd (not_both (r.due w u) g (q.due u));
        ring = λ g. ap may_ring here;
        query = λ g. ap has_query here;
      }

  -- w is up, and rings no more
  has_risen : (w : ℕ) → w < k → r.task w ≡ Rises → (v : ℕ) → IsSound k (record (does_next r w Turns) { bell = record r.bell { ring = put r.bell.ring w Idle } }) v
  has_risen w lt e = by_one k w r t others i new
    where
      t : Whole
      t = record (does_next r w Turns) { bell = record r.bell { ring = put r.bell.ring w Idle } }

      others : (v : ℕ) → (v == w) ≡ false → SameOf r t v
      others v off = record {
        task = off_put r.task w Turns v off;
        at = refl;
        rest = λ g. g;
        lies = λ g. g;
        ring = λ g. sym (ap is_idle (off_put r.bell.ring w Idle v off)) ∙ g;
        due = λ u g. g;
        active = λ g. g;
      }

      here : t.task w ≡ Turns
      here = at_put r.task w Turns

      u : Up r w
      u = up k r w (i w) (ap is_rests e)

      new : IsSound k t w
      new = record {
        one = λ le. absurd (omega (arith, le, lt));
        desk = λ g. absurd (not_both false (sym (ap keeps_desk here) ∙ g) refl);
        lobby = λ g. ap wants here;
        asleep = λ g. absurd (not_both (is_asleep (r.bell.rest w)) g u.rest);
        place = λ g. absurd (not_both (r.bell.lies w) g u.lies);
        due = λ x g. absurd (not_both false (sym (ap rings e) ∙ (i w).due x g) refl);
        ring = λ g. absurd (not_both true refl (sym (ap is_idle (at_put r.bell.ring w Idle)) ∙ g));
        query = λ g. ap has_query here;
      }

-- Each step

pub sound_step : (k w : ℕ) (d : Does) (r t : Whole) → w < k → Step k w d r t → ((v : ℕ) → IsSound k r v) → (v : ℕ) → IsSound k t v
sound_step k w (InLobby d) r t lt s i = subst (λ x. (v : ℕ) → IsSound k x v) (sym s.3) (lobby_sound k w d r s.0 s.1 s.2 i)
sound_step k w Registers r t lt s i = subst (λ x. (v : ℕ) → IsSound k x v) (sym s.3)
    (on_desk k w r lt i Away Works r.due (put r.active w true) (put r.has_chunk w s.0) s.2 refl s.1 (still_due k w r lt i) (put_active k w r lt i true) (quiet_by k w r lt i Away s.2 refl) (λ f. refl))
sound_step k w Decides r t lt s i = subst (λ x. (v : ℕ) → IsSound k x v) (sym s.4)
    (on_desk k w r lt i Turns LiesDown r.due r.active r.has_chunk s.1 refl s.0 (still_due k w r lt i) (λ v off f. f) (quiet_by k w r lt i Turns s.1 refl) (λ f. refl))
sound_step k w CountsItself r t lt s i = subst (λ x. (v : ℕ) → IsSound k x v) (sym s.2) i
sound_step k w ReadsRings r t lt s i = subst (λ x. (v : ℕ) → IsSound k x v) (sym (s.3 ∙ ap (λ (b : bell.Bell). record r { bell = b }) s.2.1)) (rests_up k r i w (bell.Rest.Reads (r.bell.rings w)) refl)
sound_step k w NotesPlace r t lt s i = subst (λ x. (v : ℕ) → IsSound k x v) (sym (s.4 ∙ ap (λ (b : bell.Bell). record (does_next r w Rests) { bell = b; adds = put r.adds w false }) s.3.2)) (notes k r i w s.3.0 lt s.1)
sound_step k w FallsAsleep r t lt s i = subst (λ x. (v : ℕ) → IsSound k x v) (sym (s.4 ∙ ap (λ (b : bell.Bell). record r { bell = b }) s.3.3)) (falls_asleep k r i w s.3.0 s.1 s.2)
sound_step k w StaysUp r t lt s i = subst (λ x. (v : ℕ) → IsSound k x v) (sym (s.4 ∙ ap (λ (b : bell.Bell). record r { bell = b }) s.3.2)) (rests_up k r i w bell.Rest.Up refl)
sound_step k w Starts r t lt s i = subst (λ x. (v : ℕ) → IsSound k x v) (sym (s.2 ∙ ap (λ (b : bell.Bell). record r { bell = b }) s.1.2)) (rests_up k r i w bell.Rest.Up refl)
sound_step k w GetsUp r t lt s i = subst (λ x. (v : ℕ) → IsSound k x v) (sym s.4) (gets_up k r i w lt s.0 s.1 s.2)
sound_step k w HasRisen r t lt s i = subst (λ x. (v : ℕ) → IsSound k x v) (sym s.2) (has_risen k r i w lt s.0)
sound_step k w CountsDown r t lt s i = subst (λ x. (v : ℕ) → IsSound k x v) (sym s.3) i
sound_step k w (TurnsTo a) r t lt s i = subst (λ x. (v : ℕ) → IsSound k x v) (sym s.5)
    (on_desk k w r lt i Turns (Looks 0 a) r.due (put r.active w (stays_active a (r.active w))) s.0 s.2 refl s.1 (still_due k w r lt i) (put_active k w r lt i (stays_active a (r.active w))) (inl refl)
    (λ f. stays_query a (r.active w) (sym (at_put r.active w (stays_active a (r.active w))) ∙ f)))
sound_step k w RingsForNone r t lt s i = subst (λ x. (v : ℕ) → IsSound k x v) (sym s.3) (looks_on k w r lt i (Looks 0 s.0) (RingsFor s.0) r.due s.1 refl refl refl refl (still_due k w r lt i))
sound_step k w FindsNobody r t lt s i = subst (λ x. (v : ℕ) → IsSound k x v) (sym s.4) (looks_on k w r lt i (Looks s.0 s.1) (Looks (s.0 + 1) s.1) r.due s.2 refl refl refl refl (still_due k w r lt i))
sound_step k w FindsOne r t lt s i = subst (λ x. (v : ℕ) → IsSound k x v) (sym s.5) (looks_on k w r lt i (Looks s.0 s.1) (RingsFor s.1) (made_due r w s.0 true) s.2 refl refl refl refl (put_due k w r lt i s.0 true))
sound_step k w FindsNone r t lt s i = subst (λ x. (v : ℕ) → IsSound k x v) (sym s.2) (looks_on k w r lt i (Looks k s.0) (RingsFor s.0) r.due s.1 refl refl refl refl (still_due k w r lt i))
sound_step k w Settles r t lt s i = subst (λ x. (v : ℕ) → IsSound k x v) (sym s.5)
    (on_desk k w r lt i Loads (Sees 0 false Turning) r.due s.0 s.1 s.3 refl s.2 (still_due k w r lt i) (λ v off f. s.4 v f) (inl refl) (λ f. refl))
sound_step k w Stops r t lt s i = subst (λ x. (v : ℕ) → IsSound k x v) (sym s.3)
    (on_desk k w r lt i Works (Sees 0 false Over) r.due (put r.active w false) r.has_chunk s.1 refl s.0 (still_due k w r lt i) (put_active k w r lt i false) (inl refl)
    (λ f. absurd (not_both false (sym (at_put r.active w false) ∙ f) refl)))
sound_step k w StopsLate r t lt s i = subst (λ x. (v : ℕ) → IsSound k x v) (sym s.3)
    (on_desk k w r lt i Works Away r.due r.active r.has_chunk s.1 refl s.0 (still_due k w r lt i) (λ v off f. f) (quiet_by k w r lt i Works s.1 refl) (λ f. absurd (not_both (r.active w) f s.2)))
sound_step k w SeesNobody r t lt s i = subst (λ x. (v : ℕ) → IsSound k x v) (sym s.5) (looks_on k w r lt i (Sees s.0 s.1 s.2) (Sees (s.0 + 1) s.1 s.2) r.due s.3 refl refl refl refl (still_due k w r lt i))
sound_step k w SeesFed r t lt s i = subst (λ x. (v : ℕ) → IsSound k x v) (sym s.7) (looks_on k w r lt i (Sees s.0 s.1 s.2) (Sees (s.0 + 1) s.1 s.2) (made_due r w s.0 true) s.3 refl refl refl refl (put_due k w r lt i s.0 true))
sound_step k w SeesHungry r t lt s i = subst (λ x. (v : ℕ) → IsSound k x v) (sym s.6) (looks_on k w r lt i (Sees s.0 false s.1) (Sees (s.0 + 1) true s.1) (made_due r w s.0 true) s.2 refl refl refl refl (put_due k w r lt i s.0 true))
sound_step k w SeesAnother r t lt s i = subst (λ x. (v : ℕ) → IsSound k x v) (sym s.5) (looks_on k w r lt i (Sees s.0 true s.1) (Sees (s.0 + 1) true s.1) r.due s.2 refl refl refl refl (still_due k w r lt i))
sound_step k w HasSeen r t lt s i = subst (λ x. (v : ℕ) → IsSound k x v) (sym s.3) (looks_on k w r lt i (Sees k s.0 s.1) (RingsFor s.1) r.due s.2 refl refl refl refl (still_due k w r lt i))
sound_step k w (IsToRing u) r t lt s i = subst (λ x. (v : ℕ) → IsSound k x v) (sym (s.6 ∙ ap (λ (b : bell.Bell). record r { bell = b }) s.5.1)) (rings_for k r i w s.1 (bell.Ring.Rings u) s.2)
sound_step k w ClearsPlace r t lt s i = subst (λ x. (v : ℕ) → IsSound k x v) (sym s.5) (clears k r i w s.0 s.3)
sound_step k w CountsRings r t lt s i = subst (λ x. (v : ℕ) → IsSound k x v) (sym (s.2 ∙ ap (λ (b : bell.Bell). record r { bell = b }) s.1.2)) (counts k r i w s.1.0 (r.bell.rings s.1.0) s.1.1)
sound_step k w RaisesRings r t lt s i = subst (λ x. (v : ℕ) → IsSound k x v) (sym (s.2 ∙ ap (λ (b : bell.Bell). record r { bell = b }) s.1.3)) (raises k r i w s.1.0 s.1.1 s.1.2)
sound_step k w WakesOther r t lt s i = subst (λ x. (v : ℕ) → IsSound k x v) (sym (s.4 ∙ ap (λ (b : bell.Bell). record r { bell = b }) s.3.4)) (wakes k r i w s.3.0)
sound_step k w WakesNobody r t lt s i = subst (λ x. (v : ℕ) → IsSound k x v) (sym (s.4 ∙ ap (λ (b : bell.Bell). record r { bell = b }) s.3.3)) (wakes_nobody k r i w)
sound_step k w HasRung r t lt s i = subst (λ x. (v : ℕ) → IsSound k x v) (sym s.5)
    (on_task k w r lt i (RingsFor s.0) (goes_on s.0) r.due r.active r.has_chunk s.1 refl (λ f. absurd (not_both (keeps_desk (goes_on s.0)) f (goes_free s.0))) (ap in_lobby s.2) (still_due k w r lt i) (λ v off f. f)
    (inr (s.3, ap is_idle s.4)) (λ f. goes_query s.0 ∙ (sym (ap has_query s.1) ∙ (i w).query f)))
sound_step k w CallsNext r t lt s i = subst (λ x. (v : ℕ) → IsSound k x v) (sym s.2)
    (on_task k w r lt i Works Turns r.due r.active r.has_chunk s.1 refl (λ f. absurd (not_both false f refl)) (ap in_lobby s.0) (still_due k w r lt i) (λ v off f. f) (quiet_by k w r lt i Works s.1 refl) (λ f. refl))
