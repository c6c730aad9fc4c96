-- What a worker does while it has the desk, step by step.
use Rattle.std.proofs.Common.{◌≡◌, ◌==◌, ◌+◌, ◌<◌, ◌≤◌, ◌⊎◌, ◌&&◌, not, true, false, ℕ, nat_lt, Bool, refl, sym, ◌∙◌, ap, subst, arith, inl, inr}
use Rattle.std.proofs.lemmas.Bool.Decides.{nat_tests}
use Rattle.story_laws.proofs.Bools.{below, not_both, other_number}
use Rattle.waiting_core.specs.Put.{put}
use Rattle.waiting_core.specs.Lobby as lobby
use Rattle.waiting_core.specs.Bell as bell
use Rattle.waiting_core.specs.Count as count
use Rattle.waiting_core.specs.Lobby.Stage.{Holds}
use Rattle.waiting_core.specs.Whole.{Whole, Task, After, HasReason, IsLoading, keeps_desk, is_loading, is_hungry, does_next, made_due, tally}
use Rattle.waiting_core.specs.Whole.Task.{Away, Turns, LiesDown, Rests, Works, Looks, Sees, RingsFor}
use Rattle.waiting_core.proofs.Bells as bells
use Rattle.waiting_core.proofs.Tally.{nobody_is_hidden}
use Rattle.waiting_core.proofs.Sounds.{IsSound}
use Rattle.waiting_core.proofs.Turnings.{IsRoused, IsUp, SomebodyUp, AnotherUp, Turned, WillBeSeen, is_still, is_up, unseen}
use Rattle.waiting_core.proofs.Desks.{Held, another_up, apart, assemble, begins_to_see, called_plain, hungry_less, is_sees, one_holder, reason_then, roused_up, sees_on, up_self, up_still}
use Rattle.waiting_core.proofs.Puts.{at_put, off_put, put_gives}

-- What is kept

pub record Kept (k : ℕ) (s : Whole) : Type 0 where
  pub lobby : lobby.Keeps k s.lobby
  pub bell : bell.Keeps s.bell
  pub count : count.Keeps k (tally s)
  pub sound : (v : ℕ) → IsSound k s v
  pub turned : Turned k s

pub above : (a b : ℕ) → nat_lt a b ≡ false → b ≤ a
above a b e = grind (arith, nat_tests)

-- whoever has another task than Away is one of the k
pub is_one : (k v : ℕ) (s : Whole) → IsSound k s v → (s.task v ≡ Away → ⊥) → v < k
is_one k v s i ne = pick (nat_lt v k) refl
  where
    pick : (b : Bool) → nat_lt v k ≡ b → v < k
    pick true e = below v k e
    pick false e = absurd (ne (i.one (above v k e)))

-- While it has the desk

module _ (k w : ℕ) (r : Whole) (lt : w < k) (i : Kept k r) (holds : r.lobby.at w ≡ Holds) where
  alone : (v : ℕ) → keeps_desk (r.task v) ≡ true → v ≡ w
  alone v e = one_holder k r.lobby v w i.lobby (is_one k v r (i.sound v) (λ f. not_both false (sym (ap keeps_desk f) ∙ e) refl)) lt ((i.sound v).desk e) holds

  abbrev to : Task → (ℕ → ℕ → Bool) → (ℕ → Bool) → (ℕ → Bool) → Whole
  to x d a c = record (does_next r w x) { due = d; active = a; has_chunk = c }

  -- the queries are as they were, and nobody new is due
  abbrev stay : Task → Whole
  stay x = to x r.due r.active r.has_chunk

  held_by : (x : Task) (d : ℕ → ℕ → Bool) (a c : ℕ → Bool) → ((v : ℕ) → IsRoused r v → IsRoused (to x d a c) v) → Held k w r (to x d a c) x
  held_by x d a c mono = record { one = lt; task = at_put r.task w x; others = off_put r.task w x; alone = alone; mono = λ v o. mono v }

  held : (x : Task) (a c : ℕ → Bool) → Held k w r (to x r.due a c) x
  held x a c = held_by x r.due a c (λ v f. f)

  -- who rests then rested before
  rested : (x : Task) (d : ℕ → ℕ → Bool) (a c : ℕ → Bool) → Held k w r (to x d a c) x → (x ≡ Rests → ⊥) → (v : ℕ) → put r.task w x v ≡ Rests → r.task v ≡ Rests
  rested x d a c h ne v f = sym (h.others v (apart h v Rests f ne)) ∙ f

  -- w goes on to x, which isn't at the desk
  leaves : (x : Task) (a c : ℕ → Bool) → is_sees (r.task w) ≡ false → ((v : ℕ) → (v == w) ≡ false → is_hungry (to x r.due a c) v ≡ false → is_hungry r v ≡ false) → keeps_desk x ≡ false → (x ≡ Rests → ⊥)
      → ((v : ℕ) → v < k → put r.task w x v ≡ Rests → SomebodyUp k (to x r.due a c)) → Turned k (to x r.due a c)
  leaves x a c plain hungry away ne up = assemble (held x a c) (called_plain (held x a c) i.turned plain hungry (λ f. absurd (ne f))) up (λ f. absurd (not_both (keeps_desk x) (ap keeps_desk f) away)) (λ j d f. absurd (not_both (keeps_desk x) (ap keeps_desk f) away))
      (λ j b d f. absurd (not_both (keeps_desk x) (ap keeps_desk f) away)) (λ j d f. absurd (not_both (keeps_desk x) (ap keeps_desk f) away))

  pub registers : (c : Bool) → r.task w ≡ Away → Turned k (to Works r.due (put r.active w true) (put r.has_chunk w c))
  registers c e = leaves Works active chunk (ap is_sees e) hungry refl (λ f. cc) (up_self (held Works active chunk) (at_put r.active w true))
    where
      active : ℕ → Bool
      active = put r.active w true

      chunk : ℕ → Bool
      chunk = put r.has_chunk w c

      hungry : (v : ℕ) → (v == w) ≡ false → is_hungry (to Works r.due active chunk) v ≡ false → is_hungry r v ≡ false
      hungry v o f = let a = off_put r.active w true v o in let b = off_put r.has_chunk w c v o in sym (rw (a, b) refl) ∙ f

  pub decides : r.task w ≡ Turns → is_hungry r w ≡ true → HasReason k w r → Turned k (stay LiesDown)
  decides e hungry reason = assemble h (called_plain h i.turned (ap is_sees e) (λ v o f. f) (λ f. hungry)) (up_self h refl) (λ f. (hungry, by reason)) (λ j d f. absurd cc) (λ j b d f. absurd cc) (λ j d f. absurd cc)
    where
      h : Held k w r (stay LiesDown) LiesDown
      h = held LiesDown r.active r.has_chunk

      not_w : (y : IsLoading k r) → y.worker ≡ w → ⊥
      not_w y same = not_both false (sym (ap is_loading e) ∙ (ap (λ m. is_loading (r.task m)) (sym same) ∙ y.loads)) refl

      by : HasReason k w r → HasReason k w (stay LiesDown)
      by (inr y) = inr (record { worker = y.worker; is_one = y.is_one; other = y.other; active = y.active; fed = y.fed })
      by (inl y) = inl (record { worker = y.worker; is_one = y.is_one; loads = ap is_loading (h.others y.worker (other_number y.worker w (not_w y))) ∙ y.loads })

  pub turns_to : (a : After) (z : Bool) (chunk : ℕ → Bool) → r.task w ≡ Turns → ((v : ℕ) → (v == w) ≡ false → chunk v ≡ true → r.has_chunk v ≡ true) → Turned k (to (Looks 0 a) r.due (put r.active w z) chunk)
  turns_to a z chunk e less = assemble h (called_plain h i.turned (ap is_sees e) hungry (λ f. absurd cc)) (up_self h refl) (λ f. absurd cc)
      (λ j d f v le. absurd (let n : 0 ≡ j = cc in omega (arith, n, le))) (λ j b d f. absurd cc) (λ j d f. absurd cc)
    where
      h : Held k w r (to (Looks 0 a) r.due (put r.active w z) chunk) (Looks 0 a)
      h = held (Looks 0 a) (put r.active w z) chunk

      hungry : (v : ℕ) → (v == w) ≡ false → is_hungry (to (Looks 0 a) r.due (put r.active w z) chunk) v ≡ false → is_hungry r v ≡ false
      hungry v o f = hungry_less (r.active v) (r.has_chunk v) (chunk v) (less v o) (sym (ap (λ b. b && not (chunk v)) (off_put r.active w z v o)) ∙ f)

  -- w looks no further, and rings for nobody new
  rings_for : (a : After) → is_sees (r.task w) ≡ false → ((v : ℕ) → v < k → put r.task w (RingsFor a) v ≡ Rests → SomebodyUp k (stay (RingsFor a))) → Turned k (stay (RingsFor a))
  rings_for a plain up = leaves (RingsFor a) r.active r.has_chunk plain (λ v o f. f) refl (λ f. cc) up

  pub rings_for_none : (a : After) → r.task w ≡ Looks 0 a → (r.asleep ≡ 0) ⊎ HasReason k w r → Turned k (stay (RingsFor a))
  rings_for_none a e why = rings_for a (ap is_sees e) (by why)
    where
      h : Held k w r (stay (RingsFor a)) (RingsFor a)
      h = held (RingsFor a) r.active r.has_chunk

      by : (r.asleep ≡ 0) ⊎ HasReason k w r → (v : ℕ) → v < k → put r.task w (RingsFor a) v ≡ Rests → SomebodyUp k (stay (RingsFor a))
      by (inl none) v lv f = roused_up h v lv f (unseen r v i.bell (nobody_is_hidden k (tally r) i.count none v lv))
      by (inr reason) v lv f = reason_then h i.turned i.sound (ap is_sees e) (λ u o. refl) (λ g. sym (ap is_loading e) ∙ g) reason

  pub finds_none : (a : After) → r.task w ≡ Looks k a → Turned k (stay (RingsFor a))
  finds_none a e = rings_for a (ap is_sees e) (λ v lv f. roused_up h v lv f (i.turned.looked w k a e v lv (rested (RingsFor a) r.due r.active r.has_chunk h (λ g. cc) v f)))
    where
      h : Held k w r (stay (RingsFor a)) (RingsFor a)
      h = held (RingsFor a) r.active r.has_chunk

  pub finds_nobody : (j : ℕ) (a : After) → r.task w ≡ Looks j a → r.bell.lies j ≡ false → Turned k (stay (Looks (j + 1) a))
  finds_nobody j a e up = assemble h (called_plain h i.turned (ap is_sees e) (λ v o f. f) (λ f. absurd cc)) (up_self h refl) (λ f. absurd cc) looked (λ n b d f. absurd cc) (λ n d f. absurd cc)
    where
      h : Held k w r (stay (Looks (j + 1) a)) (Looks (j + 1) a)
      h = held (Looks (j + 1) a) r.active r.has_chunk

      looked : (n : ℕ) (d : After) → Looks (j + 1) a ≡ Looks n d → (v : ℕ) → v < n → put r.task w (Looks (j + 1) a) v ≡ Rests → IsRoused r v
      looked n d f v le g = let place : j + 1 ≡ n = cc in by (bells.split v j (omega (arith, place, le)))
        where
          by : (v ≡ j) ⊎ (v < j) → IsRoused r v
          by (inl at) = subst (IsRoused r) (sym at) (unseen r j i.bell up)
          by (inr less) = i.turned.looked w j a e v less (rested (Looks (j + 1) a) r.due r.active r.has_chunk h (λ z. cc) v g)

  pub stops_late : r.task w ≡ Works → r.active w ≡ false → Turned k (stay Away)
  stops_late e over = leaves Away r.active r.has_chunk (ap is_sees e) (λ v o f. f) refl (λ f. cc) up
    where
      h : Held k w r (stay Away) Away
      h = held Away r.active r.has_chunk

      not_up : IsUp r w → ⊥
      not_up (inl f) = not_both (r.active w) (sym (ap (is_up (r.active w)) e) ∙ f) over
      not_up (inr f) = let bad : Works ≡ Rests = sym e ∙ f.0 in cc

      up : (v : ℕ) → v < k → put r.task w Away v ≡ Rests → SomebodyUp k (stay Away)
      up v lv f =
          let u = i.turned.up v lv (rested Away r.due r.active r.has_chunk h (λ g. cc) v f) in
          another_up h (up_still h (λ n o. refl) (record { worker = u.worker; is_one = u.is_one; other = other_number u.worker w (λ n. not_up (subst (IsUp r) n u.up)); up = u.up }))

  -- the place j, where somebody lies, is due

  due_more : (j : ℕ) (x : Task) → Held k w r (to x (made_due r w j true) r.active r.has_chunk) x
  due_more j x = held_by x (made_due r w j true) r.active r.has_chunk mono
    where
      mono : (v : ℕ) → IsRoused r v → IsRoused (to x (made_due r w j true) r.active r.has_chunk) v
      mono v (inl f) = inl f
      mono v (inr (y, inr f)) = inr (y, inr f)
      mono v (inr (y, inl f)) = inr (y, inl (put_gives (λ (d : ℕ → Bool). d v) true r.due w (put (r.due w) j true) y (put_gives (λ b. b) true (r.due w) j true v (λ g. refl)) f))

  is_due : (j : ℕ) (x : Task) → IsRoused (to x (made_due r w j true) r.active r.has_chunk) j
  is_due j x = inr (w, inl (ap (λ (d : ℕ → Bool). d j) (at_put r.due w (put (r.due w) j true)) ∙ at_put (r.due w) j true))

  -- who lies in the place isn't w, rests, and is up now
  lies_there : (j : ℕ) (x : Task) → j < k → r.bell.lies j ≡ true → keeps_desk (r.task w) ≡ true → AnotherUp k w (to x (made_due r w j true) r.active r.has_chunk)
  lies_there j x lj e f = record { worker = j; is_one = lj; other = other; up = inr (off_put r.task w x j other ∙ (i.sound j).place e, is_due j x) }
    where
      other : (j == w) ≡ false
      other = other_number j w (λ n. not_both false (sym (ap keeps_desk ((i.sound j).place e)) ∙ (ap (λ m. keeps_desk (r.task m)) n ∙ f)) refl)

  pub finds_one : (j : ℕ) (a : After) → r.task w ≡ Looks j a → j < k → r.bell.lies j ≡ true → Turned k (to (RingsFor a) (made_due r w j true) r.active r.has_chunk)
  finds_one j a e lj there = assemble h (called_plain h i.turned (ap is_sees e) (λ v o f. f) (λ f. absurd cc)) (λ v lv f. another_up h (lies_there j (RingsFor a) lj there (ap keeps_desk e)))
      (λ f. absurd cc) (λ n d f. absurd cc) (λ n b d f. absurd cc) (λ n d f. absurd cc)
    where
      h : Held k w r (to (RingsFor a) (made_due r w j true) r.active r.has_chunk) (RingsFor a)
      h = due_more j (RingsFor a)

  pub sees_nobody : (j : ℕ) (b : Bool) (a : After) → r.task w ≡ Sees j b a → r.bell.lies j ≡ false → Turned k (stay (Sees (j + 1) b a))
  sees_nobody j b a e up = sees_on h j b b a e refl i.turned (λ v o. refl) (λ v o f. f) (inl (unseen r j i.bell up)) (inl (unseen r j i.bell up)) (λ f. f)
      (λ f. up_still h (λ n o. refl) (i.turned.found w j a (e ∙ ap (λ (c : Bool). Sees j c a) f)))
    where
      h : Held k w r (stay (Sees (j + 1) b a)) (Sees (j + 1) b a)
      h = held (Sees (j + 1) b a) r.active r.has_chunk

  pub sees_another : (j : ℕ) (a : After) → r.task w ≡ Sees j true a → is_hungry r j ≡ true → Turned k (stay (Sees (j + 1) true a))
  sees_another j a e hungry = sees_on h j true true a e refl i.turned (λ v o. refl) (λ v o f. f) (inr hungry) (inr refl) (λ f. f) (λ f. up_still h (λ n o. refl) (i.turned.found w j a e))
    where
      h : Held k w r (stay (Sees (j + 1) true a)) (Sees (j + 1) true a)
      h = held (Sees (j + 1) true a) r.active r.has_chunk

  pub sees_one : (j : ℕ) (b c : Bool) (a : After) → r.task w ≡ Sees j b a → j < k → r.bell.lies j ≡ true → (b ≡ true → c ≡ true) → Turned k (to (Sees (j + 1) c a) (made_due r w j true) r.active r.has_chunk)
  sees_one j b c a e lj there more = sees_on (due_more j x) j b c a e refl i.turned (λ v o. refl) (λ v o f. f) (inl (is_due j x)) (inl (is_due j x)) more (λ f. lies_there j x lj there (ap keeps_desk e))
    where
      x : Task
      x = Sees (j + 1) c a

  pub has_seen : (b : Bool) (a : After) → r.task w ≡ Sees k b a → Turned k (stay (RingsFor a))
  has_seen b a e = assemble h called up (λ f. absurd cc) (λ n d f. absurd cc) (λ n c d f. absurd cc) (λ n d f. absurd cc)
    where
      h : Held k w r (stay (RingsFor a)) (RingsFor a)
      h = held (RingsFor a) r.active r.has_chunk

      before : (v : ℕ) → put r.task w (RingsFor a) v ≡ Rests → r.task v ≡ Rests
      before = rested (RingsFor a) r.due r.active r.has_chunk h (λ z. cc)

      called : (v : ℕ) → put r.task w (RingsFor a) v ≡ Rests → is_hungry r v ≡ false → IsRoused r v ⊎ WillBeSeen (stay (RingsFor a)) v
      called v f hungry = by (i.turned.called v (before v f) hungry)
        where
          by : IsRoused r v ⊎ WillBeSeen r v → IsRoused r v ⊎ WillBeSeen (stay (RingsFor a)) v
          by (inl z) = inl z
          by (inr z) =
              let seen : Sees z.1 z.2 z.3 ≡ Sees k b a = sym z.4 ∙ (ap r.task (alone z.0 (ap keeps_desk z.4)) ∙ e) in
              let place : z.1 ≡ k = cc in
              absurd (omega (arith, place, z.5, is_one k v r (i.sound v) (λ g. (let bad : Away ≡ Rests = sym g ∙ before v f in cc))))

      up : (v : ℕ) → v < k → put r.task w (RingsFor a) v ≡ Rests → SomebodyUp k (stay (RingsFor a))
      up v lv f = by (i.turned.seen w k b a e v lv (before v f))
        where
          by : IsRoused r v ⊎ (b ≡ true) → SomebodyUp k (stay (RingsFor a))
          by (inl z) = roused_up h v lv f z
          by (inr g) = another_up h (up_still h (λ n o. refl) (i.turned.found w k a (e ∙ ap (λ (c : Bool). Sees k c a) g)))

  pub sees : (a : After) (active chunk : ℕ → Bool) → Turned k (to (Sees 0 false a) r.due active chunk)
  sees a active chunk = begins_to_see (held (Sees 0 false a) active chunk) a refl

  pub notes : (n : ℕ) → r.task w ≡ LiesDown → Turned k (record (does_next r w Rests) { bell = record r.bell { rest = put r.bell.rest w (bell.Rest.Lies n); lies = put r.bell.lies w true }; adds = put r.adds w false })
  notes n e = assemble h (called_plain h i.turned (ap is_sees e) (λ v o f. f) (λ f. d.0)) (λ v lv f. reason_then h i.turned i.sound (ap is_sees e) (λ u o. refl) (λ g. sym (ap is_loading e) ∙ g) d.1)
      (λ f. absurd cc) (λ j a f. absurd cc) (λ j c a f. absurd cc) (λ j a f. absurd cc)
    where
      t : Whole
      t = record (does_next r w Rests) { bell = record r.bell { rest = put r.bell.rest w (bell.Rest.Lies n); lies = put r.bell.lies w true }; adds = put r.adds w false }

      d : (is_hungry r w ≡ true) × HasReason k w r
      d = i.turned.decided w e

      mono : (v : ℕ) → (v == w) ≡ false → IsRoused r v → IsRoused t v
      mono v o (inl f) = inl (ap (is_still (r.bell.rings v)) (off_put r.bell.rest w (bell.Rest.Lies n) v o) ∙ f)
      mono v o (inr f) = inr f

      h : Held k w r t Rests
      h = record { one = lt; task = at_put r.task w Rests; others = off_put r.task w Rests; alone = alone; mono = mono }
