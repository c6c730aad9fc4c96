-- Each step of a ringer keeps the rule of the bell's words.
use Rattle.std.proofs.Common.{◌≡◌, ◌≢◌, ◌⊎◌, inl, inr, ⊎_elim, ℕ, zero, suc, ◌+◌, ◌<◌, ◌≤◌, List, [], ◌∷◌, ◌++◌, length, set, arith, sym, refl, ap, ◌∙◌, subst, length-set, get_or-set_other, get_or-set_same}
use Rattle.std.specs.Prelude.{max, min}
use Rattle.std.proofs.Math.Nat.{le-max_left, le-max_right, le-min}
use mathlib.Core.Option.{none, some, some-injective, some-ne-none}
use mathlib.Core.Logic.{dite}
use native.Mathlib.Decide.{ℕ_discrete}
use lib.ListN.{get_elem?}
use lib.Seq.{set-get_or}
use Rattle.atomic_table.specs.Table as table
use Rattle.atomic_table.specs.Table.{Me, step, Act, keeps, stepped, Allows, Arrives}
use Rattle.atomic_table.specs.Table.{Enters as NewSeat}
use Rattle.atomic_table.proofs.Lists.{at_set, set_here, set_else, at_longer, at_last, at_snoc}
use Rattle.baton.specs.declared.rest.Rest.{Rest}
use Rattle.baton.specs.declared.rest.Rest.TheVariants.{Idle, Heard, Lies, Cleared, Rings}
use Rattle.baton.specs.Resting.{rings_of, place_of, most_rings, IsToRing, IsRungFor, IsSeen, EachIsSeen}
use Rattle.baton.specs.Ringing.{MayRing, heard, lies_as, lain, cleared, counted, rang}

abbrev State : Type 0
State = table.State (Unit {0}) Rest

abbrev Seated : Type 0
Seated = Me (Unit {0}) Rest

-- What stays of others

-- words and ringers that change so that who was seen, or was to be rung for, still is, unless it was rung for
record Goes (ws vs : List ℕ) (us xs : List Rest) : Type 0 where
  up : (w : ℕ) → w < 32 → rings_of ws w ≤ rings_of vs w
  place : (w n : ℕ) → w < 32 → n ≡ rings_of ws w → n ≡ rings_of vs w → place_of ws w ≢ 0 → (place_of vs w ≢ 0) ⊎ IsRungFor xs w n
  rung : (w n : ℕ) → w < 32 → n ≡ rings_of ws w → n ≡ rings_of vs w → n < most_rings → IsRungFor us w n → IsRungFor xs w n

kept : (ws vs : List ℕ) (us xs : List Rest) → Goes ws vs us xs → (v : Rest) → IsSeen ws us v → IsSeen vs xs v
kept ws vs us xs g Idle s = tt
kept ws vs us xs g (Heard w n) s = let up = g.up w s.0 in let le = s.1 in (s.0, omega (arith, up, le))
kept ws vs us xs g (Cleared w n) s = let up = g.up w s.0 in let le = s.1 in (s.0, omega (arith, up, le))
kept ws vs us xs g (Rings w n) s = let up = g.up w s.0 in let le = s.1 in (s.0, omega (arith, up, le))
kept ws vs us xs g (Lies w n) s =
    let up = g.up w s.0 in
    let le : n ≤ rings_of ws w = s.1 in (
      s.0,
      omega (arith, up, le),
      λ now low.
          let was : n ≡ rings_of ws w = omega (arith, up, le, now) in
          ⊎_elim (λ p. g.place w n s.0 was now p) (λ r. inr (g.rung w n s.0 was now low r)) (s.2 was low),
    )

there_is : (l : List Rest) (i : ℕ) (v : Rest) → get_elem? l i ≡ some v → i < length l
there_is [] i v e = absurd (some-ne-none v (sym e))
there_is (x ∷ xs) zero v e = omega arith
there_is (x ∷ xs) (suc i) v e = let r = there_is xs i v e in omega (arith, r)

rung_more : (us : List Rest) (x : Rest) (w n : ℕ) → IsRungFor us w n → IsRungFor (us ++ x ∷ []) w n
rung_more us x w n r = record { at = r.at; who = r.who; there = at_longer us (x ∷ []) r.at r.who r.there; rings = r.rings }

-- one of them changes, which rings as before
rung_set : (us : List Rest) (i : ℕ) (v x : Rest) (w n : ℕ) → get_elem? us i ≡ some v → (IsToRing w n v → IsToRing w n x) → IsRungFor us w n → IsRungFor (set us i x) w n
rung_set us i v x w n at on r =
    dite (ℕ_discrete r.at i)
    (λ e. (
    let same : r.who ≡ v = some-injective r.who v (sym r.there ∙ (ap (get_elem? us) e ∙ at)) in
    record { at = i; who = x; there = set_here us i x (there_is us i v at); rings = on (subst (IsToRing w n) same r.rings) }))
    (λ ne. record { at = r.at; who = r.who; there = set_else us i r.at x ne ∙ r.there; rings = r.rings })

-- a ringer steps
moved : (s : State) (r : EachIsSeen s) (f n i : ℕ) (x : Rest) (slots : List (ℕ × Unit {0})) → Goes s.words (set s.words f n) s.views (set s.views i x) → IsSeen (set s.words f n) (set s.views i x) x → EachIsSeen (stepped s f n i slots x keeps)
moved s r f n i x slots g new = record {
  wide = length-set s.words f n ∙ r.wide;
  seen = λ j u at. ⊎_elim
      (λ (t : (j ≡ i) × (x ≡ u)). subst (IsSeen (set s.words f n) (set s.views i x)) t.1 new)
      (λ (t : (j ≢ i) × (get_elem? s.views j ≡ some u)). kept s.words (set s.words f n) s.views (set s.views i x) g u (r.seen j u t.1))
      (at_set s.views i j x u at);
}

-- a ringer comes
came : (s : State) (r : EachIsSeen s) (ws : List ℕ) (x : Rest) → length ws ≡ 64 → Goes s.words ws s.views (s.views ++ x ∷ []) → IsSeen ws (s.views ++ x ∷ []) x → EachIsSeen record { words = ws; homes = s.homes; views = s.views ++ x ∷ [] }
came s r ws x wide g new = record {
  wide = wide;
  seen = λ j u at. ⊎_elim
      (λ (t : get_elem? s.views j ≡ some u). kept s.words ws s.views (s.views ++ x ∷ []) g u (r.seen j u t))
      (λ (t : x ≡ u). subst (IsSeen ws (s.views ++ x ∷ [])) t new)
      (at_snoc s.views x u j at);
}

-- Words

other_rings : (ws : List ℕ) (w k q : ℕ) → k < 32 → rings_of (set ws (32 + w) q) k ≡ rings_of ws k
other_rings ws w k q low = get_or-set_other ws (32 + w) k q 0 (λ e. omega (arith, e, low))

other_place : (ws : List ℕ) (w k q : ℕ) → k ≢ w → place_of (set ws (32 + w) q) k ≡ place_of ws k
other_place ws w k q ne = get_or-set_other ws (32 + w) (32 + k) q 0 (λ e. ne (omega (arith, e)))

same_place : (ws : List ℕ) (w q : ℕ) → length ws ≡ 64 → w < 32 → place_of (set ws (32 + w) q) w ≡ q
same_place ws w q wide low = get_or-set_same ws (32 + w) q 0 (omega (arith, wide, low))

-- Steps

pub hears : (slots w : ℕ) → w < 32 → NewSeat EachIsSeen slots w (λ n v. heard (step slots w 0 0 none) (Idle, []) n (v, []))
hears slots w low s r _ _ =
    let x : Rest = Heard w (rings_of s.words w) in
    let g : Goes s.words s.words s.views (s.views ++ x ∷ []) = record { up = λ k _. omega arith; place = λ k n _ _ _ p. inl p; rung = λ k n _ _ _ _ b. rung_more s.views x k n b } in
    (x, came s r s.words x r.wide g (low, omega arith), refl)

pub lies : (slots i : ℕ) (me : Seated) (w n q : ℕ) → me.0 ≡ Heard w n → w < 32 → 0 < q → Allows EachIsSeen slots i me (32 + w) (λ _. q) (λ _. lain (step slots (32 + w) q 0 none) me q)
lies slots i me w n q is low above s r _ at _ =
    let v : Rest = me.0 in
    let x : Rest = Lies w n in
    let ws : List ℕ = set s.words (32 + w) q in
    let heard : IsSeen s.words s.views (Heard w n) = subst (IsSeen s.words s.views) is (r.seen i v at) in
    let le : n ≤ rings_of s.words w = heard.1 in
    let rings = other_rings s.words w w q low in
    let here = same_place s.words w q r.wide low in
    let g : Goes s.words ws s.views (set s.views i x) = record {
      up = λ k l. (let same = other_rings s.words w k q l in omega (arith, same));
      place = λ k m l _ _ p. inl (dite (ℕ_discrete k w) (λ e z. omega (arith, above, here, sym (ap (place_of ws) e) ∙ z)) (λ ne z. p (sym (other_place s.words w k q ne) ∙ z)));
      rung = λ k m _ _ _ _ b. rung_set s.views i v x k m at (λ t. absurd (subst (IsToRing k m) is t)) b;
    } in
    (x, keeps, tt, moved s r (32 + w) q i x me.1 g (low, omega (arith, le, rings), λ _ _. inl (λ z. omega (arith, z, here, above))), ap (λ (z : Rest). (z, me.1)) (sym (ap lies_as is)))

pub clears : (slots w : ℕ) → w < 32 → Arrives EachIsSeen slots (32 + w) (λ _. 0) (cleared (step slots (32 + w) 0 0 none) (Idle, []))
clears slots w low s r _ _ =
    let ws : List ℕ = set s.words (32 + w) 0 in
    let wide : length ws ≡ 64 = length-set s.words (32 + w) 0 ∙ r.wide in
    let up : (k : ℕ) → k < 32 → rings_of s.words k ≤ rings_of ws k = λ k l. (let same = other_rings s.words w k 0 l in omega (arith, same)) in
    dite (ℕ_discrete (place_of s.words w) 0)
    (λ clear. (
    let g : Goes s.words ws s.views (s.views ++ Idle ∷ []) = record {
      up = up;
      place = λ k n _ _ _ p. inl (λ z. p (dite (ℕ_discrete k w) (λ e. ap (place_of s.words) e ∙ clear) (λ ne. sym (other_place s.words w k 0 ne) ∙ z)));
      rung = λ k n _ _ _ _ b. rung_more s.views Idle k n b;
    } in
    (Idle, keeps, tt, came s r ws Idle wide g tt, (refl, tt, λ _. refl))))
    (λ taken. (
    let n : ℕ = rings_of s.words w in
    let x : Rest = Cleared w n in
    let le = up w low in
    let g : Goes s.words ws s.views (s.views ++ x ∷ []) = record {
      up = up;
      place = λ k m _ was _ p. dite (ℕ_discrete k w)
          (λ e. inr record { at = length s.views; who = x; there = at_last s.views x (length s.views) refl; rings = (sym e, omega (arith, was, ap (rings_of s.words) e)) })
          (λ ne. inl (λ z. p (sym (other_place s.words w k 0 ne) ∙ z)));
      rung = λ k m _ _ _ _ b. rung_more s.views x k m b;
    } in
    (x, keeps, tt, came s r ws x wide g (low, le), (refl, omega arith, λ z. absurd (taken z)))))

-- who may ring for a worker, where it is to ring
rings_for : (w k n : ℕ) (v : Rest) → MayRing w v → IsToRing k n v → w ≡ k
rings_for w k n Idle may to = absurd to
rings_for w k n (Heard u m) may to = absurd to
rings_for w k n (Lies u m) may to = absurd to
rings_for w k n (Cleared u m) may to = sym may ∙ to.0
rings_for w k n (Rings u m) may to = absurd may

pub counts : (slots i : ℕ) (me : Seated) (w : ℕ) → MayRing w me.0 → w < 32 → Allows EachIsSeen slots i me w (λ x. x) (counted (step slots w 0 0 none) me)
counts slots i me w may low s r _ at _ =
    let v : Rest = me.0 in
    let n : ℕ = rings_of s.words w in
    let x : Rest = Rings w n in
    let same : set s.words w n ≡ s.words = set-get_or s.words w 0 in
    let g : Goes s.words s.words s.views (set s.views i x) = record {
      up = λ k _. omega arith;
      place = λ k m _ _ _ p. inl p;
      rung = λ k m _ was _ _ b. rung_set s.views i v x k m at (λ t. (let e = rings_for w k m v may t in (e, omega (arith, was, ap (rings_of s.words) e)))) b;
    } in
    let new : IsSeen s.words (set s.views i x) x = (low, omega arith) in
    (x, keeps, tt, moved s r w n i x me.1 (subst (λ (l : List ℕ). Goes s.words l s.views (set s.views i x)) (sym same) g) (subst (λ (l : List ℕ). IsSeen l (set s.views i x) x) (sym same) new), refl)

pub raises_rings : (slots i : ℕ) (me : Seated) (w m more : ℕ) → me.0 ≡ Rings w m → w < 32 → more ≡ min (m + 1) most_rings → Allows EachIsSeen slots i me w (λ x. max x more) (rang (step slots w more 0 none) me)
raises_rings slots i me w m more is low much s r _ at _ =
    let v : Rest = me.0 in
    let n : ℕ = rings_of s.words w in
    let top : ℕ = max n more in
    let ws : List ℕ = set s.words w top in
    let left = le-max_left n more in
    let right = le-max_right n more in
    let wide = r.wide in
    let rings : IsSeen s.words s.views (Rings w m) = subst (IsSeen s.words s.views) is (r.seen i v at) in
    let le : m ≤ n = rings.1 in
    let here : rings_of ws w ≡ top = get_or-set_same s.words w top 0 (omega (arith, wide, low)) in
    let place : (k : ℕ) → place_of ws k ≡ place_of s.words k = λ k. get_or-set_other s.words w (32 + k) top 0 (λ e. omega (arith, e, low)) in
    let g : Goes s.words ws s.views (set s.views i Idle) = record {
      up = λ k l. dite (ℕ_discrete k w) (λ e. omega (arith, left, here, ap (rings_of ws) e, ap (rings_of s.words) e)) (λ ne. (let other = get_or-set_other s.words w k top 0 (λ e. ne (omega (arith, e))) in omega (arith, other)));
      place = λ k j _ _ _ p. inl (λ z. p (sym (place k) ∙ z));
      rung = λ k j _ was now small b. rung_set s.views i v Idle k j at (λ t. (
          let to : IsToRing k j (Rings w m) = subst (IsToRing k j) is t in
          let e : w ≡ k = to.0 in
          let no_less : j ≤ m = to.1 in
          let was' : j ≡ n = was ∙ sym (ap (rings_of s.words) e) in
          let now' : j ≡ top = now ∙ (sym (ap (rings_of ws) e) ∙ here) in
          let grown : m + 1 ≤ min (m + 1) most_rings = le-min (omega arith) (omega (arith, small, le, was')) in
          absurd (omega (arith, no_less, le, was', now', right, much, grown)))) b;
    } in
    (Idle, keeps, tt, moved s r w top i Idle me.1 g tt, refl)
