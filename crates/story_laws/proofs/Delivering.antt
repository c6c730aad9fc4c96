-- What was delivered to a query: chunks of its need, each once, and all of them where it has ended.
use Rattle.std.proofs.Common.{◌≡◌, ◌<◌, ◌≤◌, ◌+◌, ◌++◌, ◌∷◌, [], ◌==◌, ◌&&◌, ◌||◌, not, ℕ, Bool, true, false, if◌then◌else◌, List, length, nat_lt, refl, sym, ◌∙◌, ap, subst, arith}
use Rattle.std.specs.List.{list_any}
use Rattle.scan_story.specs.declared.entry.Entry.{Entry}
use Rattle.scan_story.specs.declared.entry.Entry.TheVariants.{Deliver, End, Evict, Failed, Fill, Filled, Plan, Register, Release, Stop}
use Rattle.scan_story.specs.declared.setting.Need.{Need}
use Rattle.scan_story.specs.declared.setting.Setting.{Setting}
use Rattle.scan_story.specs.Counting.{count_below, has}
use Rattle.scan_story.specs.Legal.{Legal}
use Rattle.scan_story.specs.MayFollow.{Allowed, MayDeliver, MayEnd, is_ready}
use Rattle.scan_story.specs.Numbers.{needed}
use Rattle.scan_story.specs.Setting.{IsSetting, asks_for, chunks_in, need_of}
use Rattle.scan_story.specs.Spent.{deliveries}
use Rattle.scan_story.specs.Views.{History, delivers, is_active, is_available, is_ended, is_registered, is_stopped, is_wholly_framed, needs_chunk}
use Rattle.story_laws.specs.Bounds.{sizes}
use Rattle.story_laws.specs.Lists.{NoneTwice, sum_among}
use Rattle.story_laws.specs.Queries.{DeliveredOnceEach, EndedTookAll, IsOnceEach, chunks_delivered}
use Rattle.story_laws.proofs.Active.{active_parts}
use Rattle.story_laws.proofs.Bools.{and_both, and_more, and_off_right, below, both_and, either, equal_number, if_here, if_not, if_other, not_both, not_false, not_true, or_false, or_left, or_right, same_number, self_number}
use Rattle.story_laws.proofs.Counts.{count_grows, count_mono, count_zero}
use Rattle.story_laws.proofs.Grouped.{asked_below, asking_need}
use Rattle.story_laws.proofs.Lists.{count_has}
use Rattle.story_laws.proofs.Sums.{found_query, sum_found, sum_mono}
use Rattle.story_laws.proofs.Worth.{need_parts, needing}

-- the entries that deliver a chunk to a query, and the list of what was delivered to it
pub delivered_is : (h : History) (q c : ℕ) → list_any (delivers q c) h ≡ has (chunks_delivered h q) c
delivered_is [] q c = refl
delivered_is (Deliver w r d ∷ h) q c = step (r == q) (delivered_is h q c)
  where
    step : (b : Bool) → list_any (delivers q c) h ≡ has (chunks_delivered h q) c → ((b && d == c) || list_any (delivers q c) h) ≡ has (if b then d ∷ chunks_delivered h q else chunks_delivered h q) c
    step true e = ap (λ x. (d == c) || x) e
    step false e = e
delivered_is (Register w r ∷ h) q c = delivered_is h q c
delivered_is (Plan w r d ∷ h) q c = delivered_is h q c
delivered_is (Evict w d ∷ h) q c = delivered_is h q c
delivered_is (Fill w f p ∷ h) q c = delivered_is h q c
delivered_is (Filled w f p ∷ h) q c = delivered_is h q c
delivered_is (Failed w r p why ∷ h) q c = delivered_is h q c
delivered_is (Release w r d ∷ h) q c = delivered_is h q c
delivered_is (Stop w r ∷ h) q c = delivered_is h q c
delivered_is (End w r ∷ h) q c = delivered_is h q c

-- what two stories delivered, one behind the other
delivered_first : (q : ℕ) (e : Entry) (xs ys : List Entry) → chunks_delivered (xs ++ ys) q ≡ chunks_delivered xs q ++ chunks_delivered ys q
    → chunks_delivered (e ∷ xs ++ ys) q ≡ chunks_delivered (e ∷ xs) q ++ chunks_delivered ys q
delivered_first q (Deliver w r c) xs ys is =
    elim (r == q) as (λ t. (if t then c ∷ chunks_delivered (xs ++ ys) q else chunks_delivered (xs ++ ys) q) ≡ (if t then c ∷ chunks_delivered xs q else chunks_delivered xs q) ++ chunks_delivered ys q) [
      | true ↦ ap (λ (l : List ℕ). c ∷ l) is
      | false ↦ is
    ]
delivered_first q (Register w r) xs ys is = is
delivered_first q (Plan w r c) xs ys is = is
delivered_first q (Evict w c) xs ys is = is
delivered_first q (Fill w f p) xs ys is = is
delivered_first q (Filled w f p) xs ys is = is
delivered_first q (Failed w r p why) xs ys is = is
delivered_first q (Release w r c) xs ys is = is
delivered_first q (Stop w r) xs ys is = is
delivered_first q (End w r) xs ys is = is

pub delivered_append : (q : ℕ) (xs ys : List Entry) → chunks_delivered (xs ++ ys) q ≡ chunks_delivered xs q ++ chunks_delivered ys q
delivered_append q [] ys = refl
delivered_append q (e ∷ es) ys = delivered_first q e es ys (delivered_append q es ys)

-- what a Deliver may deliver: a chunk of the table that is needed, and wholly in frames
pub record Ready (s : Setting) (h : History) (q c : ℕ) : Type 0 where
  pub chunk : c < s.chunks
  pub asked : asks_for s q c ≡ true
  pub fresh : list_any (delivers q c) h ≡ false
  pub whole : is_wholly_framed s h q c ≡ true

pub ready : (s : Setting) (h : History) (q c : ℕ) → is_ready s h q c ≡ true → Ready s h q c
ready s h q c e =
    let o = and_both (nat_lt c s.chunks) (is_available s h q c) e in
    let a = and_both (needs_chunk s h q c) (is_wholly_framed s h q c) o.1 in
    let n = need_parts (asks_for s q c) (is_stopped h q) (is_ended h q) (list_any (delivers q c) h) a.0 in
    record { chunk = below c s.chunks o.0; asked = n.0; fresh = n.3; whole = a.1 }

once_deliver : (s : Setting) (h : History) (w r d q : ℕ) → MayDeliver s h w r d → IsOnceEach s h q → IsOnceEach s (Deliver w r d ∷ h) q
once_deliver s h w r d q may k = step (r == q) refl
  where
    step : (b : Bool) → (r == q) ≡ b → IsOnceEach s (Deliver w r d ∷ h) q
    step true t =
        let a = ready s h r d may.ready in
        let now : chunks_delivered (Deliver w r d ∷ h) q ≡ d ∷ chunks_delivered h q = if_here (r == q) (d ∷ chunks_delivered h q) (chunks_delivered h q) t in
        let P : List ℕ → Type 0 = λ l. ((c : ℕ) → has l c ≡ true → asks_for s q c ≡ true) × NoneTwice l in
        let A : ℕ → ℕ → Type 0 = λ x c. asks_for s x c ≡ true in
        let fresh : has (chunks_delivered h q) d ≡ false = sym (delivered_is h q d) ∙ (ap (λ x. list_any (delivers x d) h) (sym (same_number r q t)) ∙ a.fresh) in
        let both = subst P (sym now) (λ c e. either (d == c) (has (chunks_delivered h q) c) e (λ i. subst (A q) (same_number d c i) (subst (λ x. A x d) (same_number r q t) a.asked)) (k.asked c), (fresh, k.once)) in
        record { asked = both.0; once = both.1 }
    step false t =
        let now : chunks_delivered (Deliver w r d ∷ h) q ≡ chunks_delivered h q = if_other (r == q) (d ∷ chunks_delivered h q) (chunks_delivered h q) t in
        let P : List ℕ → Type 0 = λ l. ((c : ℕ) → has l c ≡ true → asks_for s q c ≡ true) × NoneTwice l in
        let both = subst P (sym now) (k.asked, k.once) in record { asked = both.0; once = both.1 }

once_next : (s : Setting) (h : History) (e : Entry) → Allowed s h e → DeliveredOnceEach s h → DeliveredOnceEach s (e ∷ h)
once_next s h (Deliver w r d) may k = λ q. once_deliver s h w r d q may (k q)
once_next s h (Register w r) may k = λ q. record { asked = (k q).asked; once = (k q).once }
once_next s h (Plan w r d) may k = λ q. record { asked = (k q).asked; once = (k q).once }
once_next s h (Evict w d) may k = λ q. record { asked = (k q).asked; once = (k q).once }
once_next s h (Fill w f p) may k = λ q. record { asked = (k q).asked; once = (k q).once }
once_next s h (Filled w f p) may k = λ q. record { asked = (k q).asked; once = (k q).once }
once_next s h (Failed w r p why) may k = λ q. record { asked = (k q).asked; once = (k q).once }
once_next s h (Release w r d) may k = λ q. record { asked = (k q).asked; once = (k q).once }
once_next s h (Stop w r) may k = λ q. record { asked = (k q).asked; once = (k q).once }
once_next s h (End w r) may k = λ q. record { asked = (k q).asked; once = (k q).once }

pub delivered_once : (s : Setting) (h : History) → Legal s h → DeliveredOnceEach s h
delivered_once s [] legal = λ q. record { asked = λ c e. absurd (not_both false e refl); once = tt }
delivered_once s (e ∷ h) legal = once_next s h e legal.0 (delivered_once s h legal.2)

-- Queries that have ended

abbrev pub TookAll : Setting → History → Type 0
TookAll s h = (q c : ℕ) → is_ended h q ≡ true → asks_for s q c ≡ true → list_any (delivers q c) h ≡ true

took_end : (s : Setting) (h : History) (w r : ℕ) → IsSetting s → MayEnd s h w r → TookAll s h → TookAll s (End w r ∷ h)
took_end s h w r m may k q c e asks = either (r == q) (is_ended h q) e (λ t. now (same_number r q t)) (λ t. k q c t asks)
  where
    now : r ≡ q → list_any (delivers q c) h ≡ true
    now same =
        let N : ℕ → Type 0 = λ x. needed s h x ≡ 0 in
        let A : ℕ → Type 0 = λ x. is_active h x ≡ true in
        let off = count_zero (needs_chunk s h q) s.chunks c (subst N same may.needs_nothing) (asked_below s q c m asks) in
        let a = active_parts (is_registered h q) (is_stopped h q) (is_ended h q) (subst A same may.on.active) in
        not_true (list_any (delivers q c) h) (if_not (not (list_any (delivers q c) h)) (λ u. not_both (needs_chunk s h q c) (needing (asks_for s q c) (is_stopped h q) (is_ended h q) (list_any (delivers q c) h) asks a.1 a.2 (not_false (list_any (delivers q c) h) u)) off))

took_next : (s : Setting) (h : History) (e : Entry) → IsSetting s → Allowed s h e → TookAll s h → TookAll s (e ∷ h)
took_next s h (End w r) m may k = took_end s h w r m may k
took_next s h (Deliver w r d) m may k = λ q c e asks. or_right (r == q && d == c) (list_any (delivers q c) h) (k q c e asks)
took_next s h (Register w r) m may k = k
took_next s h (Plan w r d) m may k = k
took_next s h (Evict w d) m may k = k
took_next s h (Fill w f p) m may k = k
took_next s h (Filled w f p) m may k = k
took_next s h (Failed w r p why) m may k = k
took_next s h (Release w r d) m may k = k
took_next s h (Stop w r) m may k = k

took_all : (s : Setting) (h : History) → IsSetting s → Legal s h → TookAll s h
took_all s [] m legal = λ q c e asks. absurd (not_both false e refl)
took_all s (e ∷ h) m legal = took_next s h e m legal.0 (took_all s h m legal.2)

pub took_asked : (s : Setting) (h : History) → IsSetting s → Legal s h → EndedTookAll s h
took_asked s h m legal q c e asks = sym (delivered_is h q c) ∙ took_all s h m legal q c e asks

-- At most as many deliveries as the needs have chunks

-- what a need has that was not delivered
abbrev is_left : History → Need → ℕ → Bool
is_left h n c = has n.chunks c && not (list_any (delivers n.query c) h)

abbrev left : Setting → History → ℕ
left s h = sum_among (λ n. count_below (is_left h n) s.chunks) s.needs

abbrev Given : Setting → History → Type 0
Given s h = deliveries h + left s h ≤ sizes s

given_none : (s : Setting) (ns : List Need) → sum_among (λ n. count_below (is_left [] n) s.chunks) ns ≤ sum_among (λ n. length n.chunks) ns
given_none s ns = sum_mono (λ n. count_below (is_left [] n) s.chunks) (λ n. length n.chunks) ns
    (λ n. omega (arith, count_mono (is_left [] n) (has n.chunks) s.chunks (λ k lt e. (and_both (has n.chunks k) true e).0), count_has n.chunks s.chunks))

given_deliver : (s : Setting) (h : History) (w q c : ℕ) → MayDeliver s h w q c → Given s h → Given s (Deliver w q c ∷ h)
given_deliver s h w q c may k =
    let a = ready s h q c may.ready in
    let m = asking_need (need_of s q) c a.asked in
    let same : m.0.query ≡ q = found_query q m.0 s.needs m.1 in
    let P : ℕ → Type 0 = λ x. list_any (delivers x c) h ≡ false in
    let before : is_left h m.0 c ≡ true =
    both_and (has m.0.chunks c) (not (list_any (delivers m.0.query c) h)) (sym (ap (λ o. has (chunks_in o) c) m.1) ∙ a.asked) (ap not (subst P (sym same) a.fresh)) in
    let after : is_left (Deliver w q c ∷ h) m.0 c ≡ false =
    and_off_right (has m.0.chunks c) (not (list_any (delivers m.0.query c) (Deliver w q c ∷ h)))
    (ap not (or_left (q == m.0.query && c == c) (list_any (delivers m.0.query c) h) (both_and (q == m.0.query) (c == c) (equal_number q m.0.query (sym same)) (self_number c)))) in
    let drop : (n : Need) (x : ℕ) → is_left (Deliver w q c ∷ h) n x ≡ true → is_left h n x ≡ true =
    λ n x. and_more (has n.chunks x) (not (list_any (delivers n.query x) (Deliver w q c ∷ h))) (not (list_any (delivers n.query x) h))
    (λ e. ap not (or_false (q == n.query && c == x) (list_any (delivers n.query x) h) (not_false ((q == n.query && c == x) || list_any (delivers n.query x) h) e)).1) in
    let less : left s (Deliver w q c ∷ h) + 1 ≤ left s h =
    sum_found q m.0 (λ n. count_below (is_left (Deliver w q c ∷ h) n) s.chunks) (λ n. count_below (is_left h n) s.chunks) s.needs m.1
    (λ n. count_mono (is_left (Deliver w q c ∷ h) n) (is_left h n) s.chunks (λ x lt e. drop n x e))
    (count_grows (is_left (Deliver w q c ∷ h) m.0) (is_left h m.0) s.chunks c (λ x lt e. drop m.0 x e) a.chunk after before) in
    omega (arith, k, less)

given_next : (s : Setting) (h : History) (e : Entry) → Allowed s h e → Given s h → Given s (e ∷ h)
given_next s h (Deliver w q c) may k = given_deliver s h w q c may k
given_next s h (Plan w q c) may k = k
given_next s h (Fill w f p) may k = k
given_next s h (Filled w f p) may k = k
given_next s h (Failed w q p why) may k = k
given_next s h (Register w q) may k = k
given_next s h (Evict w c) may k = k
given_next s h (Release w q c) may k = k
given_next s h (Stop w q) may k = k
given_next s h (End w q) may k = k

given : (s : Setting) (h : History) → Legal s h → Given s h
given s [] legal = omega (arith, given_none s s.needs)
given s (e ∷ h) legal = given_next s h e legal.0 (given s h legal.2)

pub few_deliveries : (s : Setting) (h : History) → Legal s h → deliveries h ≤ sizes s
few_deliveries s h legal = omega (arith, given s h legal)
