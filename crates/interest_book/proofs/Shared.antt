-- Who counts for the overlaps of a query.
use Rattle.std.proofs.Common.{◌≡◌, ◌<◌, ◌≤◌, ◌+◌, ◌&&◌, ℕ, zero, suc, Bool, true, false, List, length, nat_lt, refl, sym, ◌∙◌, ap, subst, arith, inl, inr, if◌then◌else◌}
use Rattle.std.proofs.lemmas.Bool.{cases_eq, cases_lt}
use Rattle.std.proofs.lemmas.List.{get_or_past}
use Rattle.scan_story.specs.declared.setting.Setting.{Setting}
use Rattle.scan_story.specs.Counting.{has, count_below, count_among}
use Rattle.scan_story.specs.Setting.{shares}
use Rattle.scan_story.specs.Views.{History, is_active, needs_chunk}
use Rattle.scan_story.specs.Numbers.{is_starved, overlap, starved_overlap}
use Rattle.interest_book.specs.declared.book.Book.{Book}
use Rattle.interest_book.specs.declared.sharing.Sharing.{Sharing}
use Rattle.chunk_interest.specs.Clients.{vacant, is_active_phase}
use Rattle.chunk_interest.specs.Counts.{is_active_in, is_starved_in, needs_in, available_in}
use Rattle.chunk_interest.specs.Marked.{row_at}
use Rattle.interest_book.specs.Sharing.{IsSharing}
use Rattle.interest_book.specs.Stands.{Stands}
use Rattle.scan_story.proofs.Counts.{below_mono}
use Rattle.chunk_interest.proofs.Needs.{need_small}
use Rattle.chunk_interest.proofs.Kept.{keeps, active_registered, starved_active, and_first}
use Rattle.interest_book.proofs.Shown.{active_is, starved_is, needs_is, counted_is}

active_small : (b : Book) (s : Setting) (h : History) (r : ℕ) → Stands b s h → is_active h r ≡ true → r ≤ 256
active_small b s h r st e = (need_small s r st.setting ((keeps s h st.setting st.followed).registered r (active_registered h r e))).1

beyond : (b : Book) (r : ℕ) → 256 < r → is_active_in b.clients r ≡ false
beyond b r le = ap (λ k. is_active_phase k.phase) (get_or_past b.clients r vacant (omega (arith, b.parts.clients, le)))

-- of those that pass, who shares a group with q: the test in the book and the one of the history agree
sharing_of : (b : Book) (s : Setting) (h : History) (q r : ℕ) (mine his : Bool) → Stands b s h → q ≤ 256 → (r ≤ 256 → mine ≡ his) → (256 < r → mine ≡ false) → (his ≡ true → is_active h r ≡ true)
    → (mine && has (row_at b.sharers.items q) r) ≡ (his && shares s q r)
sharing_of b s h q r mine his st lt same none active = elim (cases_lt 256 r) [
  | inl past ↦ nobody mine his (has (row_at b.sharers.items q) r) (shares s q r) (none past) (unseen his refl past)
  | inr within ↦ (let there : r ≤ 256 = omega (arith, within) in
      ap (λ (x : Bool). x && has (row_at b.sharers.items q) r) (same there) ∙ ap (λ (x : Bool). his && x) (st.sharers q r lt there))
]
  where
    nobody : (a b x y : Bool) → a ≡ false → b ≡ false → (a && x) ≡ (b && y)
    nobody a b x y e f = rw (e, f) refl

    unseen : (t : Bool) → his ≡ t → 256 < r → his ≡ false
    unseen true e past = absurd (let most = active_small b s h r st (active e) in omega (arith, most, past))
    unseen false e past = e

pub active_sharing : (b : Book) (s : Setting) (h : History) (q r : ℕ) → Stands b s h → q ≤ 256 → (is_active_in b.clients r && has (row_at b.sharers.items q) r) ≡ (is_active h r && shares s q r)
active_sharing b s h q r st lt = sharing_of b s h q r (is_active_in b.clients r) (is_active h r) st lt (active_is b s h r st) (beyond b r) (λ e. e)

pub starved_sharing : (b : Book) (s : Setting) (h : History) (q r : ℕ) → Stands b s h → q ≤ 256 → (is_starved_in b.clients r && has (row_at b.sharers.items q) r) ≡ (is_starved s h r && shares s q r)
starved_sharing b s h q r st lt = sharing_of b s h q r (is_starved_in b.clients r) (is_starved s h r) st lt (starved_is b s h r st) (λ past. inactive (is_active_in b.clients r) (nat_lt (available_in b.clients r) 2) (beyond b r past)) (starved_active s h r)
  where
    inactive : (a x : Bool) → a ≡ false → (a && x) ≡ false
    inactive a x e = rw e refl

-- whom the sharing has, the book has as active
pub sharing_active : (b : Book) (s : Setting) (h : History) (q : ℕ) (k : Sharing) → Stands b s h → IsSharing s h q k → (r : ℕ) → has k.active r ≡ true → is_active_in b.clients r ≡ true
sharing_active b s h q k st is r e =
    let on = and_first (is_active h r) (shares s q r) (sym (is.active r) ∙ e) in
    active_is b s h r st (active_small b s h r st on) ∙ on

pub sharing_starved : (b : Book) (s : Setting) (h : History) (q : ℕ) (k : Sharing) → Stands b s h → IsSharing s h q k → (r : ℕ) → has k.starved r ≡ true → is_active_in b.clients r ≡ true
sharing_starved b s h q k st is r e =
    let on = starved_active s h r (and_first (is_starved s h r) (shares s q r) (sym (is.starved r) ∙ e)) in
    active_is b s h r st (active_small b s h r st on) ∙ on

-- counted among a sharing, the overlaps
sharing_count : (b : Book) (s : Setting) (h : History) (q c : ℕ) (these : List ℕ) (u : ℕ → Bool) → Stands b s h → ((r : ℕ) → has these r ≡ (u r && shares s q r)) → ((r : ℕ) → u r ≡ true → is_active h r ≡ true)
    → count_below (λ r. has these r && needs_in b.clients r c) (length b.clients) ≡ count_among (λ n. u n.query && needs_chunk s h n.query c && shares s q n.query) s.needs
sharing_count b s h q c these u st are active =
    counted_is b s h (λ r. has these r && needs_in b.clients r c) (λ r. u r && needs_chunk s h r c && shares s q r) st
    (λ r lt. ap (λ (x : Bool). x && needs_in b.clients r c) (are r) ∙ (ap (λ (x : Bool). u r && shares s q r && x) (needs_is b s h r c st lt) ∙ swap (u r) (shares s q r) (needs_chunk s h r c)))
    (λ r e. active r (and_first (u r) (needs_chunk s h r c) (and_first (u r && needs_chunk s h r c) (shares s q r) e)))
  where
    swap : (a b d : Bool) → (a && b && d) ≡ (a && d && b)
    swap true true true = refl
    swap true true false = refl
    swap true false true = refl
    swap true false false = refl
    swap false b d = refl

pub sharing_overlap : (b : Book) (s : Setting) (h : History) (q c : ℕ) (k : Sharing) → Stands b s h → IsSharing s h q k → count_below (λ r. has k.active r && needs_in b.clients r c) (length b.clients) ≡ overlap s h q c
sharing_overlap b s h q c k st is = sharing_count b s h q c k.active (is_active h) st is.active (λ r e. e)

pub sharing_starved_overlap : (b : Book) (s : Setting) (h : History) (q c : ℕ) (k : Sharing) → Stands b s h → IsSharing s h q k → count_below (λ r. has k.starved r && needs_in b.clients r c) (length b.clients) ≡ starved_overlap s h q c
sharing_starved_overlap b s h q c k st is = sharing_count b s h q c k.starved (is_starved s h) st is.starved (λ r e. starved_active s h r e)

-- no more than the sharing has

longer : (p : ℕ → Bool) (n m : ℕ) → n ≤ m → count_below p n ≤ count_below p m
longer p n zero le = let at : n ≡ zero = omega (arith, le) in subst (λ (k : ℕ). count_below p n ≤ count_below p k) at (omega arith)
longer p n (suc m) le = elim (cases_eq n (suc m)) [
  | inl at ↦ subst (λ (k : ℕ). count_below p n ≤ count_below p k) at (omega arith)
  | inr ne ↦ (let before = longer p n m (omega (arith, le, ne)) in one_more (p m) before)
]
  where
    one_more : (t : Bool) → count_below p n ≤ count_below p m → count_below p n ≤ (if t then count_below p m + 1 else count_below p m)
    one_more true le = omega (arith, le)
    one_more false le = le

most_of : (b : Book) (these : List ℕ) (c n : ℕ) → count_below (λ r. has these r && needs_in b.clients r c) (length b.clients) ≡ n → n ≤ count_below (has these) 320
most_of b these c n is =
    let less = below_mono (λ r. has these r && needs_in b.clients r c) (has these) (λ r e. and_first (has these r) (needs_in b.clients r c) e) (length b.clients) in
    let within = longer (has these) (length b.clients) 320 (omega (arith, b.parts.clients)) in
    omega (arith, is, less, within)

pub most_overlap : (b : Book) (s : Setting) (h : History) (q c : ℕ) (k : Sharing) → Stands b s h → IsSharing s h q k → overlap s h q c ≤ count_below (has k.active) 320
most_overlap b s h q c k st is = most_of b k.active c (overlap s h q c) (sharing_overlap b s h q c k st is)

pub most_starved_overlap : (b : Book) (s : Setting) (h : History) (q c : ℕ) (k : Sharing) → Stands b s h → IsSharing s h q k → starved_overlap s h q c ≤ count_below (has k.starved) 320
most_starved_overlap b s h q c k st is = most_of b k.starved c (starved_overlap s h q c) (sharing_starved_overlap b s h q c k st is)
