-- Whoever has the desk and hasn't done there what it came for has a task that it came for; and it looks at places of workers alone.
use Rattle.std.proofs.Common.{◌≡◌, ◌==◌, ◌+◌, ◌<◌, ◌≤◌, ◌⊎◌, true, false, ℕ, suc, zero, Bool, refl, sym, ◌∙◌, ap, subst, arith, inl, inr}
use Rattle.story_laws.proofs.Bools.{not_both, other_number, same_number, self_number}
use Rattle.waiting_core.specs.Put.{put}
use Rattle.waiting_core.specs.Lobby as lobby
use Rattle.waiting_core.specs.Whole as machine
use Rattle.waiting_core.specs.Lobby.Stage.{Out, Holds, Comes, Read, Entered, Looked, Asleep, Gave, Found, Taken, Raised}
use Rattle.waiting_core.specs.Whole.{Whole, Task, After, Does, Sleeps, does_next, goes_on, is_hungry, keeps_desk, made_due, owed, stays_active, wants}
use Rattle.waiting_core.specs.Whole.After.{Turning, Working, Loading, Over}
use Rattle.waiting_core.specs.Whole.Task.{Away, Turns, LiesDown, Rests, Rises, Works, Loads, Looks, Sees, RingsFor}
use Rattle.waiting_core.specs.Whole.Does.{InLobby, Registers, Decides, CountsItself, ReadsRings, NotesPlace, FallsAsleep, StaysUp, Starts, GetsUp, HasRisen, CountsDown, TurnsTo, RingsForNone, FindsNobody, FindsOne, FindsNone, Settles, Stops, StopsLate, SeesNobody, SeesFed, SeesHungry, SeesAnother, HasSeen, IsToRing, ClearsPlace, CountsRings, RaisesRings, WakesOther, WakesNobody, HasRung, CallsNext}
use Rattle.waiting_core.proofs.Holding.{Kept}
use Rattle.waiting_core.proofs.Lobbies.{is_other}
use Rattle.waiting_core.proofs.Puts.{at_put, off_put}
use Rattle.waiting_core.proofs.Sounds.{in_lobby}
use Rattle.waiting_core.proofs.Wholes.{kept_at}
use Rattle.waiting_core.proofs.Going.{Ordered, ordered_at}
use Rattle.waiting_ends.specs.Order.{Act, Crew, InOrder, IsOrdered, IsPlace, Step, is_served}
use Rattle.waiting_ends.specs.Order.Act.{Makes, Releases}

abbrev pub Within : ℕ → Task → Type 0
Within k (Looks i a) = i ≤ k
Within k (Sees i b a) = i ≤ k
Within k _ = Unit {0}

pub record Placed (k : ℕ) (x : Task) (p : lobby.Stage) (b : Bool) : Type 0 where
  pub wanted : p ≡ Holds → b ≡ false → wants x ≡ true
  pub within : Within k x

abbrev pub IsPlaced : ℕ → Crew → ℕ → Type 0
IsPlaced k r v = Placed k (r.whole.task v) (r.whole.lobby.at v) (r.served v)

-- Another worker's step

module _ (k w : ℕ) (r : Whole) (v : ℕ) (off : (v == w) ≡ false) where
  abbrev Stays : Whole → Type 0
  Stays z = (z.task v ≡ r.task v) × (z.lobby.at v ≡ Holds → r.lobby.at v ≡ Holds)

  abbrev StaysIn : lobby.Lobby → Type 0
  StaysIn l = l.at v ≡ Holds → r.lobby.at v ≡ Holds

  stays_in : (d : lobby.Does) (l : lobby.Lobby) → lobby.Step k w d r.lobby l → StaysIn l
  stays_in lobby.Does.Wants l s h = sym (off_put r.lobby.at w Comes v off) ∙ (sym (ap (λ (y : lobby.Lobby). y.at v) s.1) ∙ h)
  stays_in lobby.Does.Takes l s h = sym (off_put r.lobby.at w Holds v off) ∙ (sym (ap (λ (y : lobby.Lobby). y.at v) s.2) ∙ h)
  stays_in lobby.Does.Reads l s h = sym (off_put r.lobby.at w (Read r.lobby.calls) v off) ∙ (sym (ap (λ (y : lobby.Lobby). y.at v) s.1) ∙ h)
  stays_in lobby.Does.Enters l s h = sym (off_put r.lobby.at w (Entered s.0) v off) ∙ (sym (ap (λ (y : lobby.Lobby). y.at v) s.2) ∙ h)
  stays_in lobby.Does.Finds l s h = sym (off_put r.lobby.at w Holds v off) ∙ (sym (ap (λ (y : lobby.Lobby). y.at v) s.3) ∙ h)
  stays_in lobby.Does.Misses l s h = sym (off_put r.lobby.at w (Looked s.0) v off) ∙ (sym (ap (λ (y : lobby.Lobby). y.at v) s.3) ∙ h)
  stays_in lobby.Does.Sleeps l s h = sym (off_put r.lobby.at w (Asleep s.0) v off) ∙ (sym (ap (λ (y : lobby.Lobby). y.at v) s.3) ∙ h)
  stays_in lobby.Does.Stays l s h = sym (off_put r.lobby.at w Comes v off) ∙ (sym (ap (λ (y : lobby.Lobby). y.at v) s.2) ∙ h)
  stays_in lobby.Does.Starts l s h = sym (off_put r.lobby.at w Comes v off) ∙ (sym (ap (λ (y : lobby.Lobby). y.at v) s.2) ∙ h)
  stays_in lobby.Does.Gives l s h = sym (off_put r.lobby.at w Gave v off) ∙ (sym (ap (λ (y : lobby.Lobby). y.at v) s.1) ∙ h)
  stays_in lobby.Does.SeesNone l s h = sym (off_put r.lobby.at w Out v off) ∙ (sym (ap (λ (y : lobby.Lobby). y.at v) s.2) ∙ h)
  stays_in lobby.Does.SeesSome l s h = sym (off_put r.lobby.at w Found v off) ∙ (sym (ap (λ (y : lobby.Lobby). y.at v) s.1) ∙ h)
  stays_in lobby.Does.IsLate l s h = sym (off_put r.lobby.at w Out v off) ∙ (sym (ap (λ (y : lobby.Lobby). y.at v) s.2) ∙ h)
  stays_in lobby.Does.Counts l s h = sym (off_put r.lobby.at w Taken v off) ∙ (sym (ap (λ (y : lobby.Lobby). y.at v) s.3) ∙ h)
  stays_in lobby.Does.Raises l s h = sym (off_put r.lobby.at w Raised v off) ∙ (sym (ap (λ (y : lobby.Lobby). y.at v) s.1) ∙ h)
  stays_in lobby.Does.WakesNone l s h = sym (off_put r.lobby.at w Out v off) ∙ (sym (ap (λ (y : lobby.Lobby). y.at v) s.2) ∙ h)
  stays_in (lobby.Does.Wakes u) l s h = by (v == u) refl (sym (ap (λ (y : lobby.Lobby). y.at v) s.4) ∙ h)
    where
      by : (b : Bool) → (v == u) ≡ b → put (put r.lobby.at w Out) u Comes v ≡ Holds → r.lobby.at v ≡ Holds
      by true e g = absurd (let bad : Comes ≡ Holds = sym (ap (put (put r.lobby.at w Out) u Comes) (same_number v u e) ∙ at_put (put r.lobby.at w Out) u Comes) ∙ g in cc)
      by false e g = sym (off_put (put r.lobby.at w Out) u Comes v e ∙ off_put r.lobby.at w Out v off) ∙ g

  stays : (d : Does) (z : Whole) → machine.Step k w d r z → Stays z
  stays (InLobby d) z s = (ap (λ (y : Whole). y.task v) s.3, λ h. stays_in d s.0 s.2 (sym (ap (λ (y : Whole). y.lobby.at v) s.3) ∙ h))
  stays Registers z s = (ap (λ (y : Whole). y.task v) s.3 ∙ off_put r.task w Works v off, λ h. sym (ap (λ (y : Whole). y.lobby.at v) s.3) ∙ h)
  stays Decides z s = (ap (λ (y : Whole). y.task v) s.4 ∙ off_put r.task w LiesDown v off, λ h. sym (ap (λ (y : Whole). y.lobby.at v) s.4) ∙ h)
  stays CountsItself z s = (ap (λ (y : Whole). y.task v) s.2, λ h. sym (ap (λ (y : Whole). y.lobby.at v) s.2) ∙ h)
  stays ReadsRings z s = (ap (λ (y : Whole). y.task v) s.3, λ h. sym (ap (λ (y : Whole). y.lobby.at v) s.3) ∙ h)
  stays NotesPlace z s = (ap (λ (y : Whole). y.task v) s.4 ∙ off_put r.task w Rests v off, λ h. sym (ap (λ (y : Whole). y.lobby.at v) s.4) ∙ h)
  stays FallsAsleep z s = (ap (λ (y : Whole). y.task v) s.4, λ h. sym (ap (λ (y : Whole). y.lobby.at v) s.4) ∙ h)
  stays StaysUp z s = (ap (λ (y : Whole). y.task v) s.4, λ h. sym (ap (λ (y : Whole). y.lobby.at v) s.4) ∙ h)
  stays Starts z s = (ap (λ (y : Whole). y.task v) s.2, λ h. sym (ap (λ (y : Whole). y.lobby.at v) s.2) ∙ h)
  stays GetsUp z s = (ap (λ (y : Whole). y.task v) s.4 ∙ off_put r.task w Rises v off, λ h. sym (ap (λ (y : Whole). y.lobby.at v) s.4) ∙ h)
  stays HasRisen z s = (ap (λ (y : Whole). y.task v) s.2 ∙ off_put r.task w Turns v off, λ h. sym (ap (λ (y : Whole). y.lobby.at v) s.2) ∙ h)
  stays CountsDown z s = (ap (λ (y : Whole). y.task v) s.3, λ h. sym (ap (λ (y : Whole). y.lobby.at v) s.3) ∙ h)
  stays (TurnsTo a) z s = (ap (λ (y : Whole). y.task v) s.5 ∙ off_put r.task w (Looks 0 a) v off, λ h. sym (ap (λ (y : Whole). y.lobby.at v) s.5) ∙ h)
  stays RingsForNone z s = (ap (λ (y : Whole). y.task v) s.3 ∙ off_put r.task w (RingsFor s.0) v off, λ h. sym (ap (λ (y : Whole). y.lobby.at v) s.3) ∙ h)
  stays FindsNobody z s = (ap (λ (y : Whole). y.task v) s.4 ∙ off_put r.task w (Looks (s.0 + 1) s.1) v off, λ h. sym (ap (λ (y : Whole). y.lobby.at v) s.4) ∙ h)
  stays FindsOne z s = (ap (λ (y : Whole). y.task v) s.5 ∙ off_put r.task w (RingsFor s.1) v off, λ h. sym (ap (λ (y : Whole). y.lobby.at v) s.5) ∙ h)
  stays FindsNone z s = (ap (λ (y : Whole). y.task v) s.2 ∙ off_put r.task w (RingsFor s.0) v off, λ h. sym (ap (λ (y : Whole). y.lobby.at v) s.2) ∙ h)
  stays Settles z s = (ap (λ (y : Whole). y.task v) s.5 ∙ off_put r.task w (Sees 0 false Turning) v off, λ h. sym (ap (λ (y : Whole). y.lobby.at v) s.5) ∙ h)
  stays Stops z s = (ap (λ (y : Whole). y.task v) s.3 ∙ off_put r.task w (Sees 0 false Over) v off, λ h. sym (ap (λ (y : Whole). y.lobby.at v) s.3) ∙ h)
  stays StopsLate z s = (ap (λ (y : Whole). y.task v) s.3 ∙ off_put r.task w Away v off, λ h. sym (ap (λ (y : Whole). y.lobby.at v) s.3) ∙ h)
  stays SeesNobody z s = (ap (λ (y : Whole). y.task v) s.5 ∙ off_put r.task w (Sees (s.0 + 1) s.1 s.2) v off, λ h. sym (ap (λ (y : Whole). y.lobby.at v) s.5) ∙ h)
  stays SeesFed z s = (ap (λ (y : Whole). y.task v) s.7 ∙ off_put r.task w (Sees (s.0 + 1) s.1 s.2) v off, λ h. sym (ap (λ (y : Whole). y.lobby.at v) s.7) ∙ h)
  stays SeesHungry z s = (ap (λ (y : Whole). y.task v) s.6 ∙ off_put r.task w (Sees (s.0 + 1) true s.1) v off, λ h. sym (ap (λ (y : Whole). y.lobby.at v) s.6) ∙ h)
  stays SeesAnother z s = (ap (λ (y : Whole). y.task v) s.5 ∙ off_put r.task w (Sees (s.0 + 1) true s.1) v off, λ h. sym (ap (λ (y : Whole). y.lobby.at v) s.5) ∙ h)
  stays HasSeen z s = (ap (λ (y : Whole). y.task v) s.3 ∙ off_put r.task w (RingsFor s.1) v off, λ h. sym (ap (λ (y : Whole). y.lobby.at v) s.3) ∙ h)
  stays (IsToRing u) z s = (ap (λ (y : Whole). y.task v) s.6, λ h. sym (ap (λ (y : Whole). y.lobby.at v) s.6) ∙ h)
  stays ClearsPlace z s = (ap (λ (y : Whole). y.task v) s.5, λ h. sym (ap (λ (y : Whole). y.lobby.at v) s.5) ∙ h)
  stays CountsRings z s = (ap (λ (y : Whole). y.task v) s.2, λ h. sym (ap (λ (y : Whole). y.lobby.at v) s.2) ∙ h)
  stays RaisesRings z s = (ap (λ (y : Whole). y.task v) s.2, λ h. sym (ap (λ (y : Whole). y.lobby.at v) s.2) ∙ h)
  stays WakesOther z s = (ap (λ (y : Whole). y.task v) s.4, λ h. sym (ap (λ (y : Whole). y.lobby.at v) s.4) ∙ h)
  stays WakesNobody z s = (ap (λ (y : Whole). y.task v) s.4, λ h. sym (ap (λ (y : Whole). y.lobby.at v) s.4) ∙ h)
  stays HasRung z s = (ap (λ (y : Whole). y.task v) s.5 ∙ off_put r.task w (goes_on s.0) v off, λ h. sym (ap (λ (y : Whole). y.lobby.at v) s.5) ∙ h)
  stays CallsNext z s = (ap (λ (y : Whole). y.task v) s.2 ∙ off_put r.task w Turns v off, λ h. sym (ap (λ (y : Whole). y.lobby.at v) s.2) ∙ h)

-- Its own

module _ (k w : ℕ) (r : Crew) (i : Kept k r.whole) (j : IsPlaced k r w) where
  abbrev Own : Does → Whole → Type 0
  Own d z = Placed k (z.task w) (z.lobby.at w) (is_served d (r.served w))

  as_is : (d : Does) (z : Whole) (x : Task) (p : lobby.Stage) → z.task w ≡ x → z.lobby.at w ≡ p → Placed k x p (is_served d (r.served w)) → Own d z
  as_is d z x p e f y = subst (λ t. Placed k t (z.lobby.at w) (is_served d (r.served w))) (sym e) (subst (λ q. Placed k x q (is_served d (r.served w))) (sym f) y)

  -- the task was none that asks for the desk
  unwanted : (o x : Task) → r.whole.task w ≡ o → wants o ≡ false → Within k x → Placed k x (r.whole.lobby.at w) (r.served w)
  unwanted o x e f y = record { wanted = λ h g. absurd (not_both (wants o) (sym (ap wants e) ∙ j.wanted h g) f); within = y }

  served : (x : Task) (p : lobby.Stage) → Within k x → Placed k x p true
  served x p y = record { wanted = λ h g. absurd (not_both true refl g); within = y }

  elsewhere : (p : lobby.Stage) (b : Bool) → (p ≡ Holds → ⊥) → Placed k (r.whole.task w) p b
  elsewhere p b f = record { wanted = λ h g. absurd (f h); within = j.within }

  got : in_lobby (r.whole.lobby.at w) ≡ true → Placed k (r.whole.task w) Holds false
  got e = record { wanted = λ h g. (i.sound w).lobby e; within = j.within }

  rung_within : (a : After) → Within k (goes_on a)
  rung_within Turning = tt
  rung_within Working = tt
  rung_within Loading = tt
  rung_within Over = tt

  abbrev OwnIn : lobby.Does → lobby.Lobby → Type 0
  OwnIn d l = Own (InLobby d) (record r.whole { lobby = l })

  own_in : (d : lobby.Does) (l : lobby.Lobby) → lobby.Step k w d r.whole.lobby l → OwnIn d l
  own_in lobby.Does.Wants l s = as_is (InLobby lobby.Does.Wants) (record r.whole { lobby = l }) (r.whole.task w) Comes refl (ap (λ (y : lobby.Lobby). y.at w) s.1 ∙ at_put r.whole.lobby.at w Comes) (elsewhere Comes (r.served w) (λ h. (let bad : Comes ≡ Holds = h in cc)))
  own_in lobby.Does.Takes l s = as_is (InLobby lobby.Does.Takes) (record r.whole { lobby = l }) (r.whole.task w) Holds refl (ap (λ (y : lobby.Lobby). y.at w) s.2 ∙ at_put r.whole.lobby.at w Holds) (got (ap in_lobby s.0))
  own_in lobby.Does.Reads l s = as_is (InLobby lobby.Does.Reads) (record r.whole { lobby = l }) (r.whole.task w) (Read r.whole.lobby.calls) refl (ap (λ (y : lobby.Lobby). y.at w) s.1 ∙ at_put r.whole.lobby.at w (Read r.whole.lobby.calls)) (elsewhere (Read r.whole.lobby.calls) (r.served w) (λ h. (let bad : (Read r.whole.lobby.calls) ≡ Holds = h in cc)))
  own_in lobby.Does.Enters l s = as_is (InLobby lobby.Does.Enters) (record r.whole { lobby = l }) (r.whole.task w) (Entered s.0) refl (ap (λ (y : lobby.Lobby). y.at w) s.2 ∙ at_put r.whole.lobby.at w (Entered s.0)) (elsewhere (Entered s.0) (r.served w) (λ h. (let bad : (Entered s.0) ≡ Holds = h in cc)))
  own_in lobby.Does.Finds l s = as_is (InLobby lobby.Does.Finds) (record r.whole { lobby = l }) (r.whole.task w) Holds refl (ap (λ (y : lobby.Lobby). y.at w) s.3 ∙ at_put r.whole.lobby.at w Holds) (got (ap in_lobby s.1))
  own_in lobby.Does.Misses l s = as_is (InLobby lobby.Does.Misses) (record r.whole { lobby = l }) (r.whole.task w) (Looked s.0) refl (ap (λ (y : lobby.Lobby). y.at w) s.3 ∙ at_put r.whole.lobby.at w (Looked s.0)) (elsewhere (Looked s.0) (r.served w) (λ h. (let bad : (Looked s.0) ≡ Holds = h in cc)))
  own_in lobby.Does.Sleeps l s = as_is (InLobby lobby.Does.Sleeps) (record r.whole { lobby = l }) (r.whole.task w) (Asleep s.0) refl (ap (λ (y : lobby.Lobby). y.at w) s.3 ∙ at_put r.whole.lobby.at w (Asleep s.0)) (elsewhere (Asleep s.0) (r.served w) (λ h. (let bad : (Asleep s.0) ≡ Holds = h in cc)))
  own_in lobby.Does.Stays l s = as_is (InLobby lobby.Does.Stays) (record r.whole { lobby = l }) (r.whole.task w) Comes refl (ap (λ (y : lobby.Lobby). y.at w) s.2 ∙ at_put r.whole.lobby.at w Comes) (elsewhere Comes (r.served w) (λ h. (let bad : Comes ≡ Holds = h in cc)))
  own_in lobby.Does.Starts l s = as_is (InLobby lobby.Does.Starts) (record r.whole { lobby = l }) (r.whole.task w) Comes refl (ap (λ (y : lobby.Lobby). y.at w) s.2 ∙ at_put r.whole.lobby.at w Comes) (elsewhere Comes (r.served w) (λ h. (let bad : Comes ≡ Holds = h in cc)))
  own_in lobby.Does.Gives l s = as_is (InLobby lobby.Does.Gives) (record r.whole { lobby = l }) (r.whole.task w) Gave refl (ap (λ (y : lobby.Lobby). y.at w) s.1 ∙ at_put r.whole.lobby.at w Gave) (elsewhere Gave (r.served w) (λ h. (let bad : Gave ≡ Holds = h in cc)))
  own_in lobby.Does.SeesNone l s = as_is (InLobby lobby.Does.SeesNone) (record r.whole { lobby = l }) (r.whole.task w) Out refl (ap (λ (y : lobby.Lobby). y.at w) s.2 ∙ at_put r.whole.lobby.at w Out) (elsewhere Out (r.served w) (λ h. (let bad : Out ≡ Holds = h in cc)))
  own_in lobby.Does.SeesSome l s = as_is (InLobby lobby.Does.SeesSome) (record r.whole { lobby = l }) (r.whole.task w) Found refl (ap (λ (y : lobby.Lobby). y.at w) s.1 ∙ at_put r.whole.lobby.at w Found) (elsewhere Found (r.served w) (λ h. (let bad : Found ≡ Holds = h in cc)))
  own_in lobby.Does.IsLate l s = as_is (InLobby lobby.Does.IsLate) (record r.whole { lobby = l }) (r.whole.task w) Out refl (ap (λ (y : lobby.Lobby). y.at w) s.2 ∙ at_put r.whole.lobby.at w Out) (elsewhere Out (r.served w) (λ h. (let bad : Out ≡ Holds = h in cc)))
  own_in lobby.Does.Counts l s = as_is (InLobby lobby.Does.Counts) (record r.whole { lobby = l }) (r.whole.task w) Taken refl (ap (λ (y : lobby.Lobby). y.at w) s.3 ∙ at_put r.whole.lobby.at w Taken) (elsewhere Taken (r.served w) (λ h. (let bad : Taken ≡ Holds = h in cc)))
  own_in lobby.Does.Raises l s = as_is (InLobby lobby.Does.Raises) (record r.whole { lobby = l }) (r.whole.task w) Raised refl (ap (λ (y : lobby.Lobby). y.at w) s.1 ∙ at_put r.whole.lobby.at w Raised) (elsewhere Raised (r.served w) (λ h. (let bad : Raised ≡ Holds = h in cc)))
  own_in lobby.Does.WakesNone l s = as_is (InLobby lobby.Does.WakesNone) (record r.whole { lobby = l }) (r.whole.task w) Out refl (ap (λ (y : lobby.Lobby). y.at w) s.2 ∙ at_put r.whole.lobby.at w Out) (elsewhere Out (r.served w) (λ h. (let bad : Out ≡ Holds = h in cc)))
  own_in (lobby.Does.Wakes u) l s = as_is (InLobby (lobby.Does.Wakes u)) (record r.whole { lobby = l }) (r.whole.task w) Out refl
      (ap (λ (y : lobby.Lobby). y.at w) s.4 ∙ (off_put (put r.whole.lobby.at w Out) u Comes w apart ∙ at_put r.whole.lobby.at w Out)) (elsewhere Out (r.served w) (λ h. (let bad : Out ≡ Holds = h in cc)))
    where
      apart : (w == u) ≡ false
      apart = other_number w u (λ same. not_both (u == w) (ap (λ n. u == n) same ∙ self_number u) (is_other r.whole.lobby.at w u s.0 s.2 s.3))

  own : (d : Does) (z : Whole) → machine.Step k w d r.whole z → InOrder k w d r → Own d z
  own (InLobby d) z s o = subst (Own (InLobby d)) (sym s.3) (own_in d s.0 s.2)
  own Registers z s o = as_is Registers z Works (r.whole.lobby.at w) (ap (λ (y : Whole). y.task w) s.3 ∙ at_put r.whole.task w Works) (ap (λ (y : Whole). y.lobby.at w) s.3) (served Works (r.whole.lobby.at w) tt)
  own Decides z s o = as_is Decides z LiesDown (r.whole.lobby.at w) (ap (λ (y : Whole). y.task w) s.4 ∙ at_put r.whole.task w LiesDown) (ap (λ (y : Whole). y.lobby.at w) s.4) (served LiesDown (r.whole.lobby.at w) tt)
  own CountsItself z s o = as_is CountsItself z (r.whole.task w) (r.whole.lobby.at w) (ap (λ (y : Whole). y.task w) s.2) (ap (λ (y : Whole). y.lobby.at w) s.2) j
  own ReadsRings z s o = as_is ReadsRings z (r.whole.task w) (r.whole.lobby.at w) (ap (λ (y : Whole). y.task w) s.3) (ap (λ (y : Whole). y.lobby.at w) s.3) j
  own NotesPlace z s o = as_is NotesPlace z Rests (r.whole.lobby.at w) (ap (λ (y : Whole). y.task w) s.4 ∙ at_put r.whole.task w Rests) (ap (λ (y : Whole). y.lobby.at w) s.4) (unwanted LiesDown Rests s.1 refl tt)
  own FallsAsleep z s o = as_is FallsAsleep z (r.whole.task w) (r.whole.lobby.at w) (ap (λ (y : Whole). y.task w) s.4) (ap (λ (y : Whole). y.lobby.at w) s.4) j
  own StaysUp z s o = as_is StaysUp z (r.whole.task w) (r.whole.lobby.at w) (ap (λ (y : Whole). y.task w) s.4) (ap (λ (y : Whole). y.lobby.at w) s.4) j
  own Starts z s o = as_is Starts z (r.whole.task w) (r.whole.lobby.at w) (ap (λ (y : Whole). y.task w) s.2) (ap (λ (y : Whole). y.lobby.at w) s.2) j
  own GetsUp z s o = as_is GetsUp z Rises (r.whole.lobby.at w) (ap (λ (y : Whole). y.task w) s.4 ∙ at_put r.whole.task w Rises) (ap (λ (y : Whole). y.lobby.at w) s.4) (unwanted Rests Rises s.0 refl tt)
  own HasRisen z s o = as_is HasRisen z Turns (r.whole.lobby.at w) (ap (λ (y : Whole). y.task w) s.2 ∙ at_put r.whole.task w Turns) (ap (λ (y : Whole). y.lobby.at w) s.2) (unwanted Rises Turns s.0 refl tt)
  own CountsDown z s o = as_is CountsDown z (r.whole.task w) (r.whole.lobby.at w) (ap (λ (y : Whole). y.task w) s.3) (ap (λ (y : Whole). y.lobby.at w) s.3) j
  own (TurnsTo a) z s o = as_is (TurnsTo a) z (Looks 0 a) (r.whole.lobby.at w) (ap (λ (y : Whole). y.task w) s.5 ∙ at_put r.whole.task w (Looks 0 a)) (ap (λ (y : Whole). y.lobby.at w) s.5) (served (Looks 0 a) (r.whole.lobby.at w) (omega arith))
  own RingsForNone z s o = as_is RingsForNone z (RingsFor s.0) (r.whole.lobby.at w) (ap (λ (y : Whole). y.task w) s.3 ∙ at_put r.whole.task w (RingsFor s.0)) (ap (λ (y : Whole). y.lobby.at w) s.3) (unwanted (Looks 0 s.0) (RingsFor s.0) s.1 refl tt)
  own FindsNobody z s o = as_is FindsNobody z (Looks (s.0 + 1) s.1) (r.whole.lobby.at w) (ap (λ (y : Whole). y.task w) s.4 ∙ at_put r.whole.task w (Looks (s.0 + 1) s.1)) (ap (λ (y : Whole). y.lobby.at w) s.4) (unwanted (Looks s.0 s.1) (Looks (s.0 + 1) s.1) s.2 refl (omega (arith, subst (IsPlace k) s.2 o)))
  own FindsOne z s o = as_is FindsOne z (RingsFor s.1) (r.whole.lobby.at w) (ap (λ (y : Whole). y.task w) s.5 ∙ at_put r.whole.task w (RingsFor s.1)) (ap (λ (y : Whole). y.lobby.at w) s.5) (unwanted (Looks s.0 s.1) (RingsFor s.1) s.2 refl tt)
  own FindsNone z s o = as_is FindsNone z (RingsFor s.0) (r.whole.lobby.at w) (ap (λ (y : Whole). y.task w) s.2 ∙ at_put r.whole.task w (RingsFor s.0)) (ap (λ (y : Whole). y.lobby.at w) s.2) (unwanted (Looks k s.0) (RingsFor s.0) s.1 refl tt)
  own Settles z s o = as_is Settles z (Sees 0 false Turning) (r.whole.lobby.at w) (ap (λ (y : Whole). y.task w) s.5 ∙ at_put r.whole.task w (Sees 0 false Turning)) (ap (λ (y : Whole). y.lobby.at w) s.5) (served (Sees 0 false Turning) (r.whole.lobby.at w) (omega arith))
  own Stops z s o = as_is Stops z (Sees 0 false Over) (r.whole.lobby.at w) (ap (λ (y : Whole). y.task w) s.3 ∙ at_put r.whole.task w (Sees 0 false Over)) (ap (λ (y : Whole). y.lobby.at w) s.3) (served (Sees 0 false Over) (r.whole.lobby.at w) (omega arith))
  own StopsLate z s o = as_is StopsLate z Away (r.whole.lobby.at w) (ap (λ (y : Whole). y.task w) s.3 ∙ at_put r.whole.task w Away) (ap (λ (y : Whole). y.lobby.at w) s.3) (served Away (r.whole.lobby.at w) tt)
  own SeesNobody z s o = as_is SeesNobody z (Sees (s.0 + 1) s.1 s.2) (r.whole.lobby.at w) (ap (λ (y : Whole). y.task w) s.5 ∙ at_put r.whole.task w (Sees (s.0 + 1) s.1 s.2)) (ap (λ (y : Whole). y.lobby.at w) s.5) (unwanted (Sees s.0 s.1 s.2) (Sees (s.0 + 1) s.1 s.2) s.3 refl (omega (arith, subst (IsPlace k) s.3 o)))
  own SeesFed z s o = as_is SeesFed z (Sees (s.0 + 1) s.1 s.2) (r.whole.lobby.at w) (ap (λ (y : Whole). y.task w) s.7 ∙ at_put r.whole.task w (Sees (s.0 + 1) s.1 s.2)) (ap (λ (y : Whole). y.lobby.at w) s.7) (unwanted (Sees s.0 s.1 s.2) (Sees (s.0 + 1) s.1 s.2) s.3 refl (omega (arith, s.4)))
  own SeesHungry z s o = as_is SeesHungry z (Sees (s.0 + 1) true s.1) (r.whole.lobby.at w) (ap (λ (y : Whole). y.task w) s.6 ∙ at_put r.whole.task w (Sees (s.0 + 1) true s.1)) (ap (λ (y : Whole). y.lobby.at w) s.6) (unwanted (Sees s.0 false s.1) (Sees (s.0 + 1) true s.1) s.2 refl (omega (arith, s.3)))
  own SeesAnother z s o = as_is SeesAnother z (Sees (s.0 + 1) true s.1) (r.whole.lobby.at w) (ap (λ (y : Whole). y.task w) s.5 ∙ at_put r.whole.task w (Sees (s.0 + 1) true s.1)) (ap (λ (y : Whole). y.lobby.at w) s.5) (unwanted (Sees s.0 true s.1) (Sees (s.0 + 1) true s.1) s.2 refl (omega (arith, subst (IsPlace k) s.2 o)))
  own HasSeen z s o = as_is HasSeen z (RingsFor s.1) (r.whole.lobby.at w) (ap (λ (y : Whole). y.task w) s.3 ∙ at_put r.whole.task w (RingsFor s.1)) (ap (λ (y : Whole). y.lobby.at w) s.3) (unwanted (Sees k s.0 s.1) (RingsFor s.1) s.2 refl tt)
  own (IsToRing u) z s o = as_is (IsToRing u) z (r.whole.task w) (r.whole.lobby.at w) (ap (λ (y : Whole). y.task w) s.6) (ap (λ (y : Whole). y.lobby.at w) s.6) j
  own ClearsPlace z s o = as_is ClearsPlace z (r.whole.task w) (r.whole.lobby.at w) (ap (λ (y : Whole). y.task w) s.5) (ap (λ (y : Whole). y.lobby.at w) s.5) j
  own CountsRings z s o = as_is CountsRings z (r.whole.task w) (r.whole.lobby.at w) (ap (λ (y : Whole). y.task w) s.2) (ap (λ (y : Whole). y.lobby.at w) s.2) j
  own RaisesRings z s o = as_is RaisesRings z (r.whole.task w) (r.whole.lobby.at w) (ap (λ (y : Whole). y.task w) s.2) (ap (λ (y : Whole). y.lobby.at w) s.2) j
  own WakesOther z s o = as_is WakesOther z (r.whole.task w) (r.whole.lobby.at w) (ap (λ (y : Whole). y.task w) s.4) (ap (λ (y : Whole). y.lobby.at w) s.4) j
  own WakesNobody z s o = as_is WakesNobody z (r.whole.task w) (r.whole.lobby.at w) (ap (λ (y : Whole). y.task w) s.4) (ap (λ (y : Whole). y.lobby.at w) s.4) j
  own HasRung z s o = as_is HasRung z (goes_on s.0) (r.whole.lobby.at w) (ap (λ (y : Whole). y.task w) s.5 ∙ at_put r.whole.task w (goes_on s.0)) (ap (λ (y : Whole). y.lobby.at w) s.5) (unwanted (RingsFor s.0) (goes_on s.0) s.1 refl (rung_within s.0))
  own CallsNext z s o = as_is CallsNext z Turns (r.whole.lobby.at w) (ap (λ (y : Whole). y.task w) s.2 ∙ at_put r.whole.task w Turns) (ap (λ (y : Whole). y.lobby.at w) s.2) (record { wanted = λ h g. refl; within = tt })

-- Each step, and each time

step_placed : (k w : ℕ) (a : Act) (r t : Crew) → Step k w a r t → Kept k r.whole → ((v : ℕ) → IsPlaced k r v) → (v : ℕ) → IsPlaced k t v
step_placed k w (Makes d) r t s i j v = subst (λ x. IsPlaced k x v) (sym s.3) (pick (v == w) refl)
  where
    t' : Crew
    t' = record { whole = s.0; served = put r.served w (is_served d (r.served w)) }

    pick : (b : Bool) → (v == w) ≡ b → IsPlaced k t' v
    pick true at = subst (IsPlaced k t') (sym (same_number v w at)) (subst (Placed k (s.0.task w) (s.0.lobby.at w)) (sym (at_put r.served w (is_served d (r.served w)))) (own k w r i (j w) d s.0 s.1 s.2))
    pick false off =
        let x = stays k w r.whole v off d s.0 s.1 in
        let e = off_put r.served w (is_served d (r.served w)) v off in
        record { wanted = λ h g. ap wants x.0 ∙ (j v).wanted (x.1 h) (sym e ∙ g); within = subst (Within k) (sym x.0) (j v).within }
step_placed k w Releases r t s i j v = subst (λ x. IsPlaced k x v) (sym s.3) (pick (v == w) refl)
  where
    t' : Crew
    t' = record r { served = put r.served w true }

    pick : (b : Bool) → (v == w) ≡ b → IsPlaced k t' v
    pick true at =
        let same = same_number v w at in
        record { wanted = λ h g. absurd (not_both true refl (sym (ap (put r.served w true) same ∙ at_put r.served w true) ∙ g)); within = (j v).within }
    pick false off = record { wanted = λ h g. (j v).wanted h (sym (off_put r.served w true v off) ∙ g); within = (j v).within }

module _ (k : ℕ) (at : ℕ → Crew) (run : IsOrdered k at) where
  abbrev machine_at : ℕ → Whole
  machine_at n = (at n).whole

  pub machine_run : machine.IsRun k machine_at
  machine_run = record { begins = ap (λ (c : Crew). c.whole) run.begins; steps = λ n. by n (run.steps n) }
    where
      by_act : (n w : ℕ) (a : Act) → w < k → Step k w a (at n) (at (n + 1))
          → (machine_at (n + 1) ≡ machine_at n) ⊎ ((w : ℕ) × (d : machine.Does) × (w < k) × machine.Step k w d (machine_at n) (machine_at (n + 1)))
      by_act n w (Makes d) lt step = inr (w, d, lt, subst (machine.Step k w d (machine_at n)) (sym (ap (λ (c : Crew). c.whole) step.3)) step.1)
      by_act n w Releases lt step = inl (ap (λ (c : Crew). c.whole) step.3)

      by : (n : ℕ) → (at (n + 1) ≡ at n) ⊎ ((w : ℕ) × (a : Act) × (w < k) × Step k w a (at n) (at (n + 1)))
          → (machine_at (n + 1) ≡ machine_at n) ⊎ ((w : ℕ) × (d : machine.Does) × (w < k) × machine.Step k w d (machine_at n) (machine_at (n + 1)))
      by n (inl same) = inl (ap (λ (c : Crew). c.whole) same)
      by n (inr g) = by_act n g.0 g.1 g.2 g.3

  pub kept : (n : ℕ) → Kept k (machine_at n)
  kept n = kept_at k machine_at machine_run n

  pub ordered : (n : ℕ) → Ordered k (machine_at n)
  ordered n = ordered_at k machine_at machine_run n

  pub placed : (n v : ℕ) → IsPlaced k (at n) v
  placed zero v = subst (λ r. IsPlaced k r v) (sym run.begins) (record { wanted = λ h g. refl; within = tt })
  placed (suc n) v = let next : n + 1 ≡ suc n = omega arith in subst (λ m. IsPlaced k (at m) v) next (by (placed n) (run.steps n))
    where
      by : ((u : ℕ) → IsPlaced k (at n) u) → (at (n + 1) ≡ at n) ⊎ ((w : ℕ) × (a : Act) × (w < k) × Step k w a (at n) (at (n + 1))) → IsPlaced k (at (n + 1)) v
      by j (inl same) = subst (λ r. IsPlaced k r v) (sym same) (j v)
      by j (inr g) = step_placed k g.0 g.1 (at n) (at (n + 1)) g.3 (kept n) j v
