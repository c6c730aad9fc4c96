-- Each step of a guest keeps the rule of the lobby's words.
use Rattle.std.proofs.Common.{◌≡◌, ◌≢◌, ⊎_elim, ℕ, zero, suc, ◌+◌, ◌-◌, ◌<◌, ◌≤◌, ◌==◌, true, false, Bool, if◌then◌else◌, eqb, ne_eqb, List, [], ◌∷◌, ◌++◌, get_or, set, arith, sym, refl, ap, ◌∙◌, subst, length-set, get_or-set_other, get_or-set_same}
use mathlib.Core.Option.{none, some, some-injective, some-ne-none}
use lib.ListN.{get_elem?}
use lib.Seq.{set-get_or}
use prog.Atomic.{either}
use Rattle.atomic_table.specs.Table as table
use Rattle.atomic_table.specs.Table.{Me, step, Act, keeps, stepped, Allows}
use Rattle.atomic_table.specs.Table.{Enters as NewSeat}
use Rattle.atomic_table.proofs.Lists.{at_set, at_snoc, exchanged}
use Rattle.baton.specs.declared.standing.Standing.{Standing}
use Rattle.baton.specs.declared.standing.Standing.TheVariants.{Out, Read, Entered, Taken}
use Rattle.baton.specs.Waiting.{total, fresh, taken, IsOld, Counted}
use Rattle.baton.specs.Visits.{came, entered, took_one, raised, enters_as}

abbrev State : Type 0
State = table.State (Unit {0}) Standing

abbrev Seated : Type 0
Seated = Me (Unit {0}) Standing

-- what is old of each guest
abbrev AllOld : ℕ → List Standing → Type 0
AllOld c l = (j : ℕ) (v : Standing) → get_elem? l j ≡ some v → IsOld c v

-- Sums over guests

total_set : (h : Standing → ℕ) (l : List Standing) (i : ℕ) (v w : Standing) → get_elem? l i ≡ some v → total h (set l i w) + h v ≡ total h l + h w
total_set h [] i v w e = absurd (some-ne-none v (sym e))
total_set h (x ∷ xs) zero v w e = let is : h x ≡ h v = ap h (some-injective x v e) in omega arith
total_set h (x ∷ xs) (suc i) v w e = let r = total_set h xs i v w e in omega arith

total_more : (h : Standing → ℕ) (l : List Standing) (w : Standing) → total h (l ++ w ∷ []) ≡ total h l + h w
total_more h [] w = omega arith
total_more h (x ∷ xs) w = let r = total_more h xs w in omega arith

old_set : (c i : ℕ) (l : List Standing) (w : Standing) → AllOld c l → IsOld c w → AllOld c (set l i w)
old_set c i l w old new j u at = ⊎_elim (λ (t : (j ≡ i) × (w ≡ u)). subst (IsOld c) t.1 new) (λ (t : (j ≢ i) × (get_elem? l j ≡ some u)). old j u t.1) (at_set l i j w u at)

old_more : (c : ℕ) (l : List Standing) (w : Standing) → AllOld c l → IsOld c w → AllOld c (l ++ w ∷ [])
old_more c l w old new j u at = ⊎_elim (λ (t : get_elem? l j ≡ some u). old j u t) (λ (t : w ≡ u). subst (IsOld c) t new) (at_snoc l w u j at)

-- Steps that leave the calls

waits : (s : State) (r : Counted s) (i n : ℕ) (v w : Standing) (slots : List (ℕ × Unit {0})) → get_elem? s.views i ≡ some v → IsOld (get_or s.words 1 0) w
    → fresh (get_or s.words 1 0) w + get_or s.words 0 0 + taken v ≤ n + taken w + fresh (get_or s.words 1 0) v → Counted (stepped s 0 n i slots w keeps)
waits s r i n v w slots at old le =
    let wide = r.wide in
    let here : get_or (set s.words 0 n) 0 0 ≡ n = get_or-set_same s.words 0 n 0 (omega (arith, wide)) in
    let there : get_or (set s.words 0 n) 1 0 ≡ get_or s.words 1 0 = get_or-set_other s.words 0 1 n 0 (λ e. omega (arith, e)) in
    let a = total_set (fresh (get_or s.words 1 0)) s.views i v w at in
    let b = total_set taken s.views i v w at in
    let c = r.counted in
    record {
      wide = length-set s.words 0 n ∙ wide;
      old = subst (λ k. AllOld k (set s.views i w)) (sym there) (old_set (get_or s.words 1 0) i s.views w r.old old);
      counted = subst (λ k. total (fresh k) (set s.views i w) ≤ get_or (set s.words 0 n) 0 0 + total taken (set s.views i w)) (sym there) (omega (arith, a, b, c, here, le));
    }

-- a compare and exchange that lost
stays : (s : State) (r : Counted s) (f i : ℕ) (v : Standing) (slots : List (ℕ × Unit {0})) → get_elem? s.views i ≡ some v → Counted (stepped s f (get_or s.words f 0) i slots v keeps)
stays s r f i v slots at =
    let a = total_set (fresh (get_or s.words 1 0)) s.views i v v at in
    let b = total_set taken s.views i v v at in
    let c = r.counted in
    subst (λ (ws : List ℕ). Counted record { words = ws; homes = s.homes; views = set s.views i v }) (sym (set-get_or s.words f 0))
    (record { wide = r.wide; old = old_set (get_or s.words 1 0) i s.views v r.old (r.old i v at); counted = omega (arith, a, b, c) })

pub comes : (slots : ℕ) → NewSeat Counted slots 1 (λ n w. came (step slots 1 0 0 none) (Out, []) n (w, []))
comes slots s r _ _ =
    let c : ℕ = get_or s.words 1 0 in
    let a = total_more (fresh c) s.views (Read c) in
    let b = total_more taken s.views (Read c) in
    let counted = r.counted in
    (Read c, record { wide = r.wide; old = old_more c s.views (Read c) r.old (omega arith); counted = omega (arith, a, b, counted) }, refl)

fresh_most : (c n : ℕ) → fresh c (Entered n) ≤ 1
fresh_most c n = by (n == c)
  where
    by : (b : Bool) → (if b then 1 else 0) ≤ (let z : ℕ = 1 in z)
    by true = omega arith
    by false = omega arith

pub enters : (slots i : ℕ) (me : Seated) (n old : ℕ) → me.0 ≡ Read n → Allows Counted slots i me 0 (λ x. either (eqb x old) (old + 1) x) (entered (step slots 0 old (old + 1) none) me)
enters slots i me n old is s r _ at _ =
    let x : ℕ = get_or s.words 0 0 in let v : Standing = me.0 in
    exchanged x old (old + 1) (λ (y : ℕ). (w : Standing) × (a : Act (Unit {0})) × table.Valid s.homes me.1 a × Counted (stepped s 0 y i me.1 w a) × entered (step slots 0 old (old + 1) none) me x (w, table.carried_after me.1 a))
    (λ hit. (
    let c : ℕ = get_or s.words 1 0 in
    let same : enters_as v ≡ Entered n = ap enters_as is in
    let older : IsOld c (Entered n) = subst (IsOld c) is (r.old i v at) in
    let f : fresh c v ≡ 0 = ap (fresh c) is in
    let t : taken v ≡ 0 = ap taken is in
    let most = fresh_most c n in (
      Entered n,
      keeps,
      tt,
      waits s r i (old + 1) v (Entered n) me.1 at older (omega (arith, hit, f, t, most)),
      ((λ _. ap (λ (z : Standing). (z, me.1)) (sym same)), λ no. absurd (no hit)),
    )))
    (λ miss. (v, keeps, tt, stays s r 0 i v me.1 at, ((λ hit. absurd (miss hit)), λ _. refl)))

pub takes_one : (slots i : ℕ) (me : Seated) (n old : ℕ) → me.0 ≡ Read n → 0 < old → Allows Counted slots i me 0 (λ x. either (eqb x old) (old - 1) x) (took_one (step slots 0 old (old - 1) none) me)
takes_one slots i me n old is above s r _ at _ =
    let x : ℕ = get_or s.words 0 0 in let v : Standing = me.0 in
    exchanged x old (old - 1) (λ (y : ℕ). (w : Standing) × (a : Act (Unit {0})) × table.Valid s.homes me.1 a × Counted (stepped s 0 y i me.1 w a) × took_one (step slots 0 old (old - 1) none) me x (w, table.carried_after me.1 a))
    (λ hit. (
    let f : fresh (get_or s.words 1 0) v ≡ 0 = ap (fresh (get_or s.words 1 0)) is in
    let t : taken v ≡ 0 = ap taken is in
    (Taken, keeps, tt, waits s r i (old - 1) v Taken me.1 at tt (omega (arith, hit, f, t, above)), ((λ _. refl), λ no. absurd (no hit)))))
    (λ miss. (v, keeps, tt, stays s r 0 i v me.1 at, ((λ hit. absurd (miss hit)), λ _. refl)))

-- A call

-- who has read no more than c calls doesn't wait since the call after
none_fresh : (c : ℕ) (v : Standing) → IsOld c v → fresh (c + 1) v ≡ 0
none_fresh c Out o = refl
none_fresh c (Read n) o = refl
none_fresh c Taken o = refl
none_fresh c (Entered n) o = rw (ne_eqb n (c + 1) (λ e. omega (arith, e, o))) refl

none_after : (c : ℕ) (l : List Standing) → AllOld c l → total (fresh (c + 1)) l ≡ 0
none_after c [] old = refl
none_after c (x ∷ xs) old = let a = none_fresh c x (old 0 x refl) in let b = none_after c xs (λ j v e. old (suc j) v e) in omega (arith, a, b)

older : (c : ℕ) (v : Standing) → IsOld c v → IsOld (c + 1) v
older c Out o = tt
older c (Read n) o = omega (arith, o)
older c (Entered n) o = omega (arith, o)
older c Taken o = tt

raised_to : (s : State) (r : Counted s) (i c : ℕ) (slots : List (ℕ × Unit {0})) → get_or s.words 1 0 ≡ c → Counted (stepped s 1 (c + 1) i slots Out keeps)
raised_to s r i c slots is =
    let wide = r.wide in
    let here : get_or (set s.words 1 (c + 1)) 1 0 ≡ c + 1 = get_or-set_same s.words 1 (c + 1) 0 (omega (arith, wide)) in
    let old : AllOld c (set s.views i Out) = old_set c i s.views Out (subst (λ k. AllOld k s.views) is r.old) tt in
    let none = none_after c (set s.views i Out) old in
    record {
      wide = length-set s.words 1 (c + 1) ∙ wide;
      old = λ j u at. subst (λ k. IsOld k u) (sym here) (older c u (old j u at));
      counted = subst (λ k. total (fresh k) (set s.views i Out) ≤ get_or (set s.words 1 (c + 1)) 0 0 + total taken (set s.views i Out)) (sym here) (omega (arith, none));
    }

pub raises : (slots i : ℕ) (me : Seated) (old : ℕ) → me.0 ≡ Taken → Allows Counted slots i me 1 (λ x. either (eqb x old) (old + 1) x) (raised (step slots 1 old (old + 1) none) me)
raises slots i me old is s r _ at _ =
    let x : ℕ = get_or s.words 1 0 in let v : Standing = me.0 in
    exchanged x old (old + 1) (λ (y : ℕ). (w : Standing) × (a : Act (Unit {0})) × table.Valid s.homes me.1 a × Counted (stepped s 1 y i me.1 w a) × raised (step slots 1 old (old + 1) none) me x (w, table.carried_after me.1 a))
    (λ hit. (Out, keeps, tt, raised_to s r i old me.1 hit, ((λ _. refl), λ no. absurd (no hit))))
    (λ miss. (v, keeps, tt, stays s r 1 i v me.1 at, ((λ hit. absurd (miss hit)), λ _. refl)))
