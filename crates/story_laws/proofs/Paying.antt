-- What pays for plans: what queries are worth together. The entries of a load.
use Rattle.std.proofs.Common.{◌≡◌, ◌<◌, ◌≤◌, ◌+◌, ◌∷◌, [], ◌==◌, ◌&&◌, ℕ, Bool, true, false, if◌then◌else◌, List, Option, None, Some, nat_lt, refl, sym, ◌∙◌, ap, subst, arith}
use Rattle.std.specs.List.{list_all, list_any}
use Rattle.std.specs.Option.{option_map}
use Rattle.scan_story.specs.declared.entry.Entry.TheVariants.{Fill, Filled, Plan, Register}
use Rattle.scan_story.specs.declared.setting.Need.{Need}
use Rattle.scan_story.specs.declared.setting.Setting.{Setting}
use Rattle.scan_story.specs.declared.view.Load.{Load}
use Rattle.scan_story.specs.Loads.{begin_fill, end_fill, if_open, is_open, underway}
use Rattle.scan_story.specs.MayFollow.{MayFill, MayFilled, MayPlan, MayRegister}
use Rattle.scan_story.specs.Numbers.{available}
use Rattle.scan_story.specs.Setting.{asks_for, chunk_of, need_of, pieces_read}
use Rattle.scan_story.specs.Spent.{deliveries}
use Rattle.scan_story.specs.Views.{History, delivers, is_active, is_available, is_ended, is_framed, is_registered, is_stopped, is_wholly_framed, needs_chunk, piece_in}
use Rattle.story_laws.specs.Frames.{IsProper}
use Rattle.story_laws.specs.Lists.{sum_among}
use Rattle.story_laws.proofs.Active.{active_of, active_parts}
use Rattle.story_laws.proofs.Bools.{and_both, and_more, and_off_right, below, both_and, none_some, not_both, or_right, other_number, same_some, unequal}
use Rattle.story_laws.proofs.Counts.{count_grows, count_mono, count_same}
use Rattle.story_laws.proofs.Grouped.{Grouped, asking_need}
use Rattle.story_laws.proofs.Lists.{all_has, all_of}
use Rattle.story_laws.proofs.Proper.{Sound, closed_whole, fill_same, filled_more, filled_only, filling, not_whole, planned, target_parts}
use Rattle.story_laws.proofs.Standing.{free_empty, whole_more}
use Rattle.story_laws.proofs.Sums.{found_query, sum_found, sum_mono}
use Rattle.story_laws.proofs.Tallies.{plans}
use Rattle.story_laws.proofs.Worth.{need_parts, worth, worth_mono, worth_more, worth_registered}

abbrev pub wealth : Setting → History → ℕ
wealth s h = sum_among (λ n. worth s h n.query) s.needs

-- a load underway isn't paid yet while its trigger is active
abbrev pub debt : History → Option Load → ℕ
debt h None = 0
debt h (Some l) = if is_active h l.query then 1 else 0

-- what is kept of the trigger of the load underway
pub record Trigger (s : Setting) (h : History) (l : Load) : Type 0 where
  pub known : is_registered h l.query ≡ true
  pub lasting : is_ended h l.query ≡ false
  pub starved : is_active h l.query ≡ true → available s h l.query < 2
  pub wants : is_active h l.query ≡ true → needs_chunk s h l.query l.chunk ≡ true

pub record Paid (s : Setting) (h : History) : Type 0 where
  pub paid : plans h ≤ deliveries h + wealth s h + debt h (underway s h)
  pub trigger : (l : Load) → underway s h ≡ Some l → Trigger s h l

one_more : (a b : Bool) → (a ≡ true → b ≡ true) → (if a then 1 else 0) ≤ (if b then 1 else 0)
one_more true true f = omega arith
one_more true false f = let bad = f refl in absurd cc
one_more false true f = omega arith
one_more false false f = omega arith

pub debt_mono : (h k : History) (u : Option Load) → ((l : Load) → u ≡ Some l → is_active h l.query ≡ true → is_active k l.query ≡ true) → debt h u ≤ debt k u
debt_mono h k None f = omega arith
debt_mono h k (Some l) f = one_more (is_active h l.query) (is_active k l.query) (f l refl)

pub debt_le : (h : History) (u : Option Load) → debt h u ≤ 1
debt_le h None = omega arith
debt_le h (Some l) = small (is_active h l.query)
  where
    small : (b : Bool) → (if b then 1 else 0) ≤ 1
    small true = omega arith
    small false = omega arith

-- an entry that leaves the states of queries leaves the debt
pub same_debt : (h k : History) (u : Option Load) → ((q : ℕ) → is_active k q ≡ is_active h q) → debt k u ≡ debt h u
same_debt h k None same = refl
same_debt h k (Some l) same = ap (λ b. if b then 1 else 0) (same l.query)

-- Register

pub paid_register : (s : Setting) (h : History) (w q : ℕ) → MayRegister s h w q → Paid s h → Paid s (Register w q ∷ h)
paid_register s h w q may k =
    let other : (x : ℕ) → is_registered h x ≡ true → (q == x) ≡ false = λ x e. other_number q x (λ same. not_both (is_registered h x) e (ap (is_registered h) (sym same) ∙ may.first)) in
    let old : (l : Load) → underway s h ≡ Some l → is_active (Register w q ∷ h) l.query ≡ true → is_active h l.query ≡ true =
    λ l u a. (let p = active_parts (is_registered (Register w q ∷ h) l.query) (is_stopped h l.query) (is_ended h l.query) a in
    active_of (is_registered h l.query) (is_stopped h l.query) (is_ended h l.query) (k.trigger l u).known p.1 p.2) in
    record {
      paid = omega (
        arith,
        k.paid,
        sum_mono (λ n. worth s h n.query) (λ n. worth s (Register w q ∷ h) n.query) s.needs (λ n. worth_registered (q == n.query) (is_registered h n.query) (is_stopped h n.query) (is_ended h n.query) (available s h n.query)),
        debt_mono h (Register w q ∷ h) (underway s h) (λ l u a. (let p = active_parts (is_registered h l.query) (is_stopped h l.query) (is_ended h l.query) a in
            active_of (is_registered (Register w q ∷ h) l.query) (is_stopped h l.query) (is_ended h l.query) (or_right (q == l.query) (is_registered h l.query) p.0) p.1 p.2)),
      );
      trigger = λ l u. (let t = k.trigger l u in record { known = or_right (q == l.query) (is_registered h l.query) t.known; lasting = t.lasting; starved = λ a. t.starved (old l u a); wants = λ a. t.wants (old l u a) });
    }

-- Plan

below_two : (n : ℕ) → nat_lt n 2 ≡ true → n < 2
below_two n e = below n 2 e

one_if : (b : Bool) → b ≡ true → 1 ≤ (if b then 1 else 0)
one_if true e = omega arith
one_if false e = absurd cc

pub paid_plan : (s : Setting) (h : History) (w q c : ℕ) → MayPlan s h w q c → Paid s h → Paid s (Plan w q c ∷ h)
paid_plan s h w q c may k =
    let both = and_both (is_active h q) (nat_lt (available s h q) 2) may.starved in
    let none : debt h (underway s h) ≡ 0 = ap (debt h) may.none_underway in
    let one : 1 ≤ debt (Plan w q c ∷ h) (Some (planned s h w q c)) = one_if (is_active h q) both.0 in
    let trigger : Trigger s (Plan w q c ∷ h) (planned s h w q c) = record {
      known = (active_parts (is_registered h q) (is_stopped h q) (is_ended h q) both.0).0;
      lasting = (active_parts (is_registered h q) (is_stopped h q) (is_ended h q) both.0).2;
      starved = λ a. below_two (available s h q) both.1;
      wants = λ a. (target_parts (nat_lt c s.chunks) (needs_chunk s h q c) (is_wholly_framed s h q c) may.target).1;
    } in
    record { paid = omega (arith, k.paid, none, one); trigger = λ l u. subst (Trigger s (Plan w q c ∷ h)) (same_some (planned s h w q c) l u) trigger }

-- Fill

fill_available : (s : Setting) (h : History) (w f p : ℕ) → piece_in s h f ≡ None → (q : ℕ) → available s (Fill w f p ∷ h) q ≡ available s h q
fill_available s h w f p none q =
    count_same (is_available s (Fill w f p ∷ h) q) (is_available s h q) s.chunks (λ x. ap (λ b. needs_chunk s h q x && b) (same (pieces_read s q x)))
  where
    same : (xs : List ℕ) → list_all (is_framed s (Fill w f p ∷ h)) xs ≡ list_all (is_framed s h) xs
    same [] = refl
    same (x ∷ xs) = let e = fill_same s h w f p none x in let r = same xs in rw (e, r) refl

pub paid_fill : (s : Setting) (h : History) (w f p : ℕ) → MayFill s h w f p → Paid s h → Paid s (Fill w f p ∷ h)
paid_fill s h w f p may k =
    let same : (q : ℕ) → available s (Fill w f p ∷ h) q ≡ available s h q = fill_available s h w f p (free_empty s h f may.free) in
    let more : wealth s h ≤ wealth s (Fill w f p ∷ h) =
    sum_mono (λ n. worth s h n.query) (λ n. worth s (Fill w f p ∷ h) n.query) s.needs
    (λ n. worth_mono (is_registered h n.query) (is_stopped h n.query) (is_ended h n.query) (available s h n.query) (available s (Fill w f p ∷ h) n.query) (omega (arith, same n.query))) in
    let before : debt h (underway s h) ≡ debt h (Some may.load) = ap (debt h) may.is_load.underway in
    let after : debt (Fill w f p ∷ h) (underway s (Fill w f p ∷ h)) ≡ debt h (Some may.load) = ap (λ u. debt (Fill w f p ∷ h) (option_map (begin_fill f p) u)) may.is_load.underway in
    let t = k.trigger may.load may.is_load.underway in
    let trigger : Trigger s (Fill w f p ∷ h) (begin_fill f p may.load) = record {
      known = t.known;
      lasting = t.lasting;
      starved = λ a. (let few = t.starved a in omega (arith, same may.load.query, few));
      wants = t.wants;
    } in
    record {
      paid = omega (arith, k.paid, more, before, after);
      trigger = λ l u. subst (Trigger s (Fill w f p ∷ h)) (same_some (begin_fill f p may.load) l (sym (ap (option_map (begin_fill f p)) may.is_load.underway) ∙ u)) trigger;
    }

-- Filled

filled_available : (s : Setting) (h : History) (w f p : ℕ) → piece_in s h f ≡ None → (q x : ℕ) → is_available s h q x ≡ true → is_available s (Filled w f p ∷ h) q x ≡ true
filled_available s h w f p none q x =
    and_more (needs_chunk s h q x) (is_wholly_framed s h q x) (is_wholly_framed s (Filled w f p ∷ h) q x) (whole_more s h (Filled w f p ∷ h) q x (λ y m. filled_more s h w f p none y))

filled_worth : (s : Setting) (h : History) (w f p : ℕ) → piece_in s h f ≡ None → (n : Need) → worth s h n.query ≤ worth s (Filled w f p ∷ h) n.query
filled_worth s h w f p none n =
    worth_mono (is_registered h n.query) (is_stopped h n.query) (is_ended h n.query) (available s h n.query) (available s (Filled w f p ∷ h) n.query)
    (omega (arith, count_mono (is_available s h n.query) (is_available s (Filled w f p ∷ h) n.query) s.chunks (λ x lt e. filled_available s h w f p none n.query x e)))

-- the last missing piece makes its chunk available to an active trigger
pays : (s : Setting) (h : History) (w f p : ℕ) (l : Load) → piece_in s h f ≡ None → l.chunk < s.chunks → is_wholly_framed s h l.query l.chunk ≡ false
    → is_wholly_framed s (Filled w f p ∷ h) l.query l.chunk ≡ true → Trigger s h l → wealth s h + debt h (Some l) ≤ wealth s (Filled w f p ∷ h)
pays s h w f p l none small unwhole done t = elim (is_active h l.query) as (λ b. is_active h l.query ≡ b → wealth s h + (if b then 1 else 0) ≤ wealth s (Filled w f p ∷ h)) [
  | true ↦ λ a. (
      let needs = t.wants a in
      let m = asking_need (need_of s l.query) l.chunk (need_parts (asks_for s l.query l.chunk) (is_stopped h l.query) (is_ended h l.query) (list_any (delivers l.query l.chunk) h) needs).0 in
      let grows : available s h l.query + 1 ≤ available s (Filled w f p ∷ h) l.query =
      count_grows (is_available s h l.query) (is_available s (Filled w f p ∷ h) l.query) s.chunks l.chunk (λ x lt e. filled_available s h w f p none l.query x e) small
      (and_off_right (needs_chunk s h l.query l.chunk) (is_wholly_framed s h l.query l.chunk) unwhole)
      (both_and (needs_chunk s h l.query l.chunk) (is_wholly_framed s (Filled w f p ∷ h) l.query l.chunk) needs done) in
      let P : ℕ → Type 0 = λ q. worth s h q + 1 ≤ worth s (Filled w f p ∷ h) q in
      let here : P l.query =
      worth_more (is_registered h l.query) (is_stopped h l.query) (is_ended h l.query) (available s h l.query) (available s (Filled w f p ∷ h) l.query) a (t.starved a) grows in
      sum_found l.query m.0 (λ n. worth s h n.query) (λ n. worth s (Filled w f p ∷ h) n.query) s.needs m.1 (filled_worth s h w f p none) (subst P (sym (found_query l.query m.0 s.needs m.1)) here)
      )
  | false ↦ λ a. omega (arith, sum_mono (λ n. worth s h n.query) (λ n. worth s (Filled w f p ∷ h) n.query) s.needs (filled_worth s h w f p none))
] refl

paid_closed : (s : Setting) (h : History) (w f p : ℕ) → (may : MayFilled s h w f p) → IsProper s h may.load → is_open (end_fill p may.load) ≡ false → underway s (Filled w f p ∷ h) ≡ None
    → Paid s h → Paid s (Filled w f p ∷ h)
paid_closed s h w f p may r shut none k =
    let more = pays s h w f p may.load (filling s h w f p may r).empty r.chunk (not_whole s h may.load r) (closed_whole s h w f p may r shut) (k.trigger may.load may.is_load.underway) in
    let before : debt h (underway s h) ≡ debt h (Some may.load) = ap (debt h) may.is_load.underway in
    record { paid = omega (arith, k.paid, more, before); trigger = λ l u. absurd (none_some l (sym none ∙ u)) }

-- a Filled makes no chunk whole but its own
whole_other : (s : Setting) (h : History) (w f p q x : ℕ) → Grouped s → (chunk_of s p == x) ≡ false → is_wholly_framed s (Filled w f p ∷ h) q x ≡ true → is_wholly_framed s h q x ≡ true
whole_other s h w f p q x g ne e =
    all_of (is_framed s h) (pieces_read s q x) (λ y m. filled_only s h w f p y
    (other_number p y (λ same. unequal (chunk_of s p) x ne (ap (chunk_of s) same ∙ g.read q x y m)))
    (all_has (is_framed s (Filled w f p ∷ h)) (pieces_read s q x) y e m))

paid_open : (s : Setting) (h : History) (w f p : ℕ) → (may : MayFilled s h w f p) → Grouped s → IsProper s h may.load → underway s (Filled w f p ∷ h) ≡ Some (end_fill p may.load)
    → is_wholly_framed s (Filled w f p ∷ h) may.load.query may.load.chunk ≡ false → Paid s h → Paid s (Filled w f p ∷ h)
paid_open s h w f p may g r goes unwhole k =
    let l = may.load in
    let fl = filling s h w f p may r in
    let more : wealth s h ≤ wealth s (Filled w f p ∷ h) = sum_mono (λ n. worth s h n.query) (λ n. worth s (Filled w f p ∷ h) n.query) s.needs (filled_worth s h w f p fl.empty) in
    let less : available s (Filled w f p ∷ h) l.query ≤ available s h l.query =
    count_mono (is_available s (Filled w f p ∷ h) l.query) (is_available s h l.query) s.chunks (λ x lt e.
    (let both = and_both (needs_chunk s h l.query x) (is_wholly_framed s (Filled w f p ∷ h) l.query x) e in
    both_and (needs_chunk s h l.query x) (is_wholly_framed s h l.query x) both.0
    (whole_other s h w f p l.query x g (other_number (chunk_of s p) x (λ same. not_both (is_wholly_framed s (Filled w f p ∷ h) l.query x) both.1
    (ap (is_wholly_framed s (Filled w f p ∷ h) l.query) (sym same ∙ fl.of_chunk) ∙ unwhole))) both.1))) in
    let before : debt h (underway s h) ≡ debt h (Some l) = ap (debt h) may.is_load.underway in
    let after : debt (Filled w f p ∷ h) (underway s (Filled w f p ∷ h)) ≡ debt h (Some l) = ap (debt (Filled w f p ∷ h)) goes in
    let t = k.trigger l may.is_load.underway in
    let trigger : Trigger s (Filled w f p ∷ h) (end_fill p l) = record { known = t.known; lasting = t.lasting; starved = λ a. (let few = t.starved a in omega (arith, less, few)); wants = t.wants } in
    record { paid = omega (arith, k.paid, more, before, after); trigger = λ j u. subst (Trigger s (Filled w f p ∷ h)) (same_some (end_fill p l) j (sym goes ∙ u)) trigger }

pub paid_filled : (s : Setting) (h : History) (w f p : ℕ) → Grouped s → (may : MayFilled s h w f p) → Sound s h → Sound s (Filled w f p ∷ h) → Paid s h → Paid s (Filled w f p ∷ h)
paid_filled s h w f p g may r next k =
    let proper = r.load may.load may.is_load.underway in
    let now : underway s (Filled w f p ∷ h) ≡ (if is_open (end_fill p may.load) then Some (end_fill p may.load) else None) = ap (λ u. if_open (option_map (end_fill p) u)) may.is_load.underway in
    elim (is_open (end_fill p may.load)) as (λ t. is_open (end_fill p may.load) ≡ t → underway s (Filled w f p ∷ h) ≡ (if t then Some (end_fill p may.load) else None) → Paid s (Filled w f p ∷ h)) [
      | true ↦ λ t u. paid_open s h w f p may g proper u (not_whole s (Filled w f p ∷ h) (end_fill p may.load) (next.load (end_fill p may.load) u)) k
      | false ↦ λ t u. paid_closed s h w f p may proper t u k
    ] refl now
