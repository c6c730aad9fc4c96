-- Marks follow the change of one client, and what is counted by them.
use Rattle.std.proofs.Common.{◌≡◌, ◌≢◌, ◌<◌, ◌≤◌, ◌+◌, ◌&&◌, ◌==◌, not, ℕ, zero, suc, Bool, true, false, if◌then◌else◌, List, Option, [], length, get_or, set, nat_lt, nat_le, refl, sym, ◌∙◌, ap, subst, arith, inl, inr}
use Rattle.std.proofs.lemmas.Bool.{cases_Bool, cases_eq}
use Rattle.std.proofs.lemmas.List.{get_or-set_same, get_or-set_other, get_or_default, get_or_past, length-set}
use Rattle.scan_story.specs.declared.view.Phase.{Phase}
use Rattle.scan_story.specs.declared.view.Phase.TheVariants.{Waiting, Active, Ended, Stopped}
use Rattle.scan_story.specs.Counting.{has, count_below}
use Rattle.chunk_interest.specs.declared.client.Client.{Client}
use Rattle.chunk_interest.specs.declared.marks.Marks.{Marks}
use Rattle.chunk_interest.specs.declared.frame.Frame.{Frame}
use Rattle.chunk_interest.specs.declared.frame.Frame.TheVariants.{Free}
use Rattle.chunk_interest.specs.Frames.{frame_at, free_in, is_free_frame, missing_in}
use Rattle.chunk_interest.specs.Freed.{bit}
use Rattle.chunk_interest.specs.Clients.{client_at, vacant, is_active_phase}
use Rattle.chunk_interest.specs.Counted.{size_of}
use Rattle.chunk_interest.specs.Counts.{is_active_in, needs_in, is_interested_in, is_starved_for, is_close_in, overlaps_by, starved_overlaps_by, feeds_in}
use Rattle.chunk_interest.specs.Marked.{is_active, is_starved, is_near, is_over_phase, is_over, row_at, AreMarks, IsNear, Follows, BeginsMarks}
use Rattle.chunk_interest.specs.Renewed.{IsRenewed}
use Rattle.chunk_interest.proofs.Below.{count_same, equal_number, other_number, true_false}
use Rattle.chunk_interest.proofs.Counting.{counted_one, count_cut}

-- Counting with one number exchanged

last_moved : (a b : Bool) (m k : ℕ) → m ≡ k → (if a then m + 1 else m) + bit b ≡ (if b then k + 1 else k) + bit a
last_moved true true m k e = omega (arith, e)
last_moved true false m k e = omega (arith, e)
last_moved false true m k e = omega (arith, e)
last_moved false false m k e = omega (arith, e)

front_moved : (a b : Bool) (m k i j : ℕ) → a ≡ b → m + i ≡ k + j → (if a then m + 1 else m) + i ≡ (if b then k + 1 else k) + j
front_moved true true m k i j same e = omega (arith, e)
front_moved false false m k i j same e = e
front_moved true false m k i j same e = absurd (true_false true refl same)
front_moved false true m k i j same e = absurd (true_false true refl (sym same))

-- where a test changes at x alone, its count changes as it does there
pub count_moved : (p r : ℕ → Bool) (n x : ℕ) → x < n → ((k : ℕ) → k ≢ x → r k ≡ p k) → count_below r n + bit (p x) ≡ count_below p n + bit (r x)
count_moved p r zero x lt same = absurd (omega (arith, lt))
count_moved p r (suc n) x lt same = elim (cases_eq n x) [
  | inl at ↦
      (let rest : count_below r n ≡ count_below p n = count_same r p n (λ k below. same k (λ e. omega (arith, e, at, below))) in
      subst (λ (y : ℕ). count_below r (suc n) + bit (p y) ≡ count_below p (suc n) + bit (r y)) at (last_moved (r n) (p n) (count_below r n) (count_below p n) rest))
  | inr ne ↦ front_moved (r n) (p n) (count_below r n) (count_below p n) (bit (p x)) (bit (r x)) (same n ne) (count_moved p r n x (omega (arith, lt, ne)) same)
]

-- the first number doesn't count
pub count_but_first : (p : ℕ → Bool) (n : ℕ) → p 0 ≡ false → count_below p (n + 1) ≤ n
count_but_first p zero none = let e : 0 + 1 ≡ suc 0 = omega arith in rw (e, none) (omega arith)
count_but_first p (suc n) none =
    let e : suc n + 1 ≡ suc (n + 1) = omega arith in
    subst (λ (k : ℕ). count_below p k ≤ suc n) (sym e) (at_last (p (n + 1)) (count_but_first p n none))
  where
    at_last : (b : Bool) → count_below p (n + 1) ≤ n → (if b then count_below p (n + 1) + 1 else count_below p (n + 1)) ≤ suc n
    at_last true k = omega (arith, k)
    at_last false k = omega (arith, k)

pub set_at : (ks : List Client) (q : ℕ) (k : Client) → q < length ks → client_at (set ks q k) q ≡ k
set_at ks q k there = get_or-set_same ks q k vacant there

pub set_other : (ks : List Client) (q r : ℕ) (k : Client) → r ≢ q → client_at (set ks q k) r ≡ client_at ks r
set_other ks q r k ne = get_or-set_other ks q r k vacant ne

-- the place before the first query's stays inactive
pub still_nobody : (ks : List Client) (q : ℕ) (new : Client) → q < length ks → is_active (client_at ks 0) ≡ false → (q ≡ 0 → is_active new ≡ false) → is_active (client_at (set ks q new) 0) ≡ false
still_nobody ks q new there nobody none = elim (cases_eq q 0) [
  | inl at ↦ ap (λ (n : ℕ). is_active (client_at (set ks q new) n)) (sym at) ∙ (ap is_active (set_at ks q new there) ∙ none at)
  | inr ne ↦ ap is_active (set_other ks q 0 new (λ e. ne (sym e))) ∙ nobody
]

counted_bit : (p : ℕ → Bool) (n q : ℕ) → q < n → bit (p q) ≤ count_below p n
counted_bit p n q lt = elim (cases_Bool (p q)) [
  | inl so ↦ subst (λ (b : Bool). bit b ≤ count_below p n) (sym so) (counted_one p n q lt so)
  | inr not ↦ subst (λ (b : Bool). bit b ≤ count_below p n) (sym not) (omega arith)
]

-- Marks

-- a set of the queries that pass, after one client is exchanged
one_marked : (t : Client → Bool) (ks : List Client) (q : ℕ) (new : Client) (before after : List ℕ) → q < length ks → ((r : ℕ) → has before r ≡ t (client_at ks r)) → ((r : ℕ) → has after r ≡ (if r == q then t new else has before r))
    → (r : ℕ) → has after r ≡ t (client_at (set ks q new) r)
one_marked t ks q new before after there is follows r = elim (cases_eq r q) [
  | inl at ↦
      follows r ∙ (ap (λ (b : Bool). if b then t new else has before r) (equal_number r q at)
      ∙ sym (ap t (ap (client_at (set ks q new)) at ∙ set_at ks q new there)))
  | inr ne ↦
      follows r ∙ (ap (λ (b : Bool). if b then t new else has before r) (other_number r q ne)
      ∙ (is r ∙ ap t (sym (set_other ks q r new ne))))
]

both_same : (x c r q : ℕ) → x ≡ c → r ≡ q → (x == c && r == q) ≡ true
both_same x c r q ex er = rw (equal_number x c ex, equal_number r q er) refl

first_not : (x c r q : ℕ) → x ≢ c → (x == c && r == q) ≡ false
first_not x c r q ne = rw (other_number x c ne) refl

last_not : (x c r q : ℕ) → r ≢ q → (x == c && r == q) ≡ false
last_not x c r q ne = by_first (x == c) (other_number r q ne)
  where
    by_first : (a : Bool) → (r == q) ≡ false → (a && r == q) ≡ false
    by_first true e = e
    by_first false e = refl

-- the sets by chunk, after one client is exchanged
rows_marked : (of : Client → List ℕ) (ks : List Client) (q c : ℕ) (new : Client) (before after : List (List ℕ)) → q < length ks
    → (is_over new ≡ false → (is_over (client_at ks q) ≡ false) × ((x : ℕ) → x ≢ c → has (of new) x ≡ has (of (client_at ks q)) x))
    → ((r x : ℕ) → x < 1024 → is_over (client_at ks r) ≡ false → has (row_at before x) r ≡ has (of (client_at ks r)) x)
    → ((x r : ℕ) → has (row_at after x) r ≡ (if x == c && r == q then has (of new) c else has (row_at before x) r))
    → (r x : ℕ) → x < 1024 → is_over (client_at (set ks q new) r) ≡ false → has (row_at after x) r ≡ has (of (client_at (set ks q new) r)) x
rows_marked of ks q c new before after there near is follows r x lt over = elim (cases_eq r q) [
  | inl at ↦
      (let here : client_at (set ks q new) r ≡ new = ap (client_at (set ks q new)) at ∙ set_at ks q new there in
      let on = near (ap is_over (sym here) ∙ over) in
      follows x r ∙ (elim (cases_eq x c) [
        | inl so ↦ ap (λ (b : Bool). if b then has (of new) c else has (row_at before x) r) (both_same x c r q so at) ∙ ap (has (of new)) (sym so)
        | inr ne ↦
            ap (λ (b : Bool). if b then has (of new) c else has (row_at before x) r) (first_not x c r q ne)
            ∙ (ap (has (row_at before x)) at ∙ (is q x lt on.0 ∙ sym (on.1 x ne)))
      ] ∙ ap (λ (k : Client). has (of k) x) (sym here)))
  | inr ne ↦
      (let other = set_other ks q r new ne in
      follows x r ∙ (ap (λ (b : Bool). if b then has (of new) c else has (row_at before x) r) (last_not x c r q ne)
      ∙ (is r x lt (ap is_over (sym other) ∙ over) ∙ ap (λ (k : Client). has (of k) x) (sym other))))
]

pub marks_follow : (ks : List Client) (q c : ℕ) (new : Client) (m n : Marks) → q < length ks → is_active (client_at (set ks q new) 0) ≡ false → IsNear c (client_at ks q) new → Follows q c new m n → AreMarks ks m → AreMarks (set ks q new) n
marks_follow ks q c new m n there nobody near f are = record {
  clients = length-set ks q new ∙ are.clients;
  nobody = nobody;
  needing_size = f.needing_size ∙ are.needing_size;
  having_size = f.having_size ∙ are.having_size;
  needing = rows_marked (λ k. k.remaining) ks q c new m.needing.items n.needing.items there (λ over. ((near over).0, λ x ne. ((near over).1 x ne).0)) are.needing f.needing;
  having = rows_marked (λ k. k.available) ks q c new m.having.items n.having.items there (λ over. ((near over).0, λ x ne. ((near over).1 x ne).1)) are.having f.having;
  active = one_marked is_active ks q new m.active n.active there are.active f.active;
  starved = one_marked is_starved ks q new m.starved n.starved there are.starved f.starved;
  near = one_marked is_near ks q new m.near n.near there are.near f.near;
  over = one_marked is_over ks q new m.over n.over there are.over f.over;
}

-- a client for which a chunk was looked up anew is as it was, but for what is available at that chunk
renewed_near : (ps : List (Option ℕ)) (n c : ℕ) (old new : Client) → IsRenewed ps n c old new → IsNear c old new
renewed_near ps n c old new is over = (
  sym (ap is_over is.kept) ∙ over,
  λ x ne. (ap (λ (k : Client). has k.remaining x) is.kept, is.available x ∙ ap (λ (b : Bool). if b then has old.remaining c && missing_in ps n old.reads c == 0 else has old.available x) (other_number x c ne)),
)

pub marks_renewed : (ps : List (Option ℕ)) (groups q c : ℕ) (ks : List Client) (new : Client) (m n : Marks) → q < length ks → IsRenewed ps groups c (client_at ks q) new → Follows q c new m n → AreMarks ks m → AreMarks (set ks q new) n
marks_renewed ps groups q c ks new m n there is f are =
    let nobody : q ≡ 0 → is_active new ≡ false = λ at. ap is_active is.kept ∙ (ap (λ (k : ℕ). is_active (client_at ks k)) at ∙ are.nobody) in
    marks_follow ks q c new m n there (still_nobody ks q new there are.nobody nobody) (renewed_near ps groups c (client_at ks q) new is) f are

-- before the first entry
pub marks_begin : (ks : List Client) (m : Marks) → length ks ≡ 257 → ((q : ℕ) → is_active (client_at ks q) ≡ false) → ((q : ℕ) → is_over (client_at ks q) ≡ false) → ((q : ℕ) → (client_at ks q).available ≡ []) → BeginsMarks ks m → AreMarks ks m
marks_begin ks m many none goes empty begins = record {
  clients = many;
  nobody = none 0;
  needing_size = begins.needing_size;
  having_size = begins.having_size;
  needing = λ q c lt over. begins.needing c q lt;
  having = λ q c lt over. ap (λ (xs : List ℕ). has xs q) (begins.having c lt) ∙ sym (ap (λ (xs : List ℕ). has xs c) (empty q));
  active = λ q. ap (λ (xs : List ℕ). has xs q) begins.active ∙ sym (none q);
  starved = λ q. ap (λ (xs : List ℕ). has xs q) begins.starved ∙ sym (rw (none q) refl);
  near = λ q. ap (λ (xs : List ℕ). has xs q) begins.near ∙ sym (rw (none q) refl);
  over = λ q. ap (λ (xs : List ℕ). has xs q) begins.over ∙ sym (goes q);
}

-- What is counted by marks

active_goes_on : (k : Client) → is_active k ≡ true → is_over k ≡ false
active_goes_on k e = by_phase k.phase e
  where
    by_phase : (p : Phase) → is_active_phase p ≡ true → is_over_phase p ≡ false
    by_phase Waiting e = refl
    by_phase Active e = refl
    by_phase Ended e = absurd (true_false false e refl)
    by_phase Stopped e = absurd (true_false false e refl)

where_first : (a x y : Bool) → (a ≡ true → x ≡ y) → (a && x) ≡ (a && y)
where_first true x y f = f refl
where_first false x y f = refl

front : (a b : Bool) → (a && b) ≡ true → a ≡ true
front true b e = refl
front false b e = absurd (true_false false e refl)

-- the queries of one set that are in a chunk's set
marked_both : (passes : Client → Bool) (of : Client → List ℕ) (ks : List Client) (who row : List ℕ) (rows : List (List ℕ)) (c : ℕ) → c < length rows → ((k : Client) → passes k ≡ true → is_active k ≡ true)
    → ((q : ℕ) → has who q ≡ passes (client_at ks q)) → ((q : ℕ) → is_over (client_at ks q) ≡ false → has (row_at rows c) q ≡ has (of (client_at ks q)) c)
    → row ≡ get_or rows c row → (q : ℕ) → (has who q && has row q) ≡ (passes (client_at ks q) && has (of (client_at ks q)) c)
marked_both passes of ks who row rows c lt active are in_row read q =
    let found : row ≡ row_at rows c = read ∙ sym (get_or_default rows c [] row lt) in
    ap (λ (b : Bool). b && has row q) (are q)
    ∙ where_first (passes (client_at ks q)) (has row q) (has (of (client_at ks q)) c) (λ so. ap (λ (xs : List ℕ). has xs q) found ∙ in_row q (active_goes_on (client_at ks q) (active (client_at ks q) so)))

starved_active : (k : Client) → is_starved k ≡ true → is_active k ≡ true
starved_active k e = front (is_active k) (nat_lt (size_of k.available) 2) e

near_active : (k : Client) → is_near k ≡ true → is_active k ≡ true
near_active k e = front (is_active k) (nat_le (size_of k.available) 2) e

-- near and available is close
near_is_close : (ks : List Client) (c q : ℕ) → (is_near (client_at ks q) && has (client_at ks q).available c) ≡ is_close_in ks c q
near_is_close ks c q = swap (is_active (client_at ks q)) (nat_le (size_of (client_at ks q).available) 2) (has (client_at ks q).available c)
  where
    swap : (a n v : Bool) → ((a && n) && v) ≡ (a && v && n)
    swap true true true = refl
    swap true true false = refl
    swap true false true = refl
    swap true false false = refl
    swap false n v = refl

-- no client beyond
beyond : (ks : List Client) (q : ℕ) → length ks ≡ 257 → 257 ≤ q → is_active (client_at ks q) ≡ false
beyond ks q many le = ap is_active (get_or_past ks q vacant (omega (arith, many, le)))

-- how many members a set has: as many as clients that pass, at most 256
abbrev pub IsNumber : List Client → (List Client → ℕ → Bool) → ℕ → Type 0
IsNumber ks t n = (n ≡ count_below (t ks) (length ks)) × (n ≤ 256)

number_is : (ks vs : List Client) (m : Marks) (t : List Client → ℕ → Bool) (p : ℕ → Bool) (n : ℕ) → AreMarks ks m → ks ≡ vs → n ≡ count_below p 320 → ((q : ℕ) → p q ≡ t ks q)
    → ((q : ℕ) → is_active (client_at ks q) ≡ false → t ks q ≡ false) → IsNumber vs t n
number_is ks vs m t p n are same size is only =
    let count : n ≡ count_below (t ks) (length ks) =
    size ∙ (count_same p (t ks) 320 (λ q lt. is q) ∙ (count_cut (t ks) 257 320 (omega arith) (λ q le. only q (beyond ks q are.clients le)) ∙ ap (count_below (t ks)) (sym are.clients))) in
    let most = count_but_first (t ks) 256 (only 0 are.nobody) in
    let few : count_below (t ks) (length ks) ≤ 256 = subst (λ (k : ℕ). count_below (t ks) k ≤ 256) (sym are.clients) most in
    subst (λ (us : List Client). IsNumber us t n) same (count, omega (arith, count, few))

inactive : (a b : Bool) → a ≡ false → (a && b) ≡ false
inactive a b e = rw e refl

pub running_number : (ks vs : List Client) (m : Marks) (n : ℕ) → AreMarks ks m → ks ≡ vs → n ≡ count_below (has m.active) 320 → IsNumber vs is_active_in n
running_number ks vs m n are same size = number_is ks vs m is_active_in (has m.active) n are same size are.active (λ q e. e)

-- for each kind: the row is the chunk's, and the members are in both

interested_has : (ks : List Client) (m : Marks) (c : ℕ) (row : List ℕ) → AreMarks ks m → c < 1024 → row ≡ get_or m.needing.items c row → (q : ℕ) → (has m.active q && has row q) ≡ is_interested_in ks c q
interested_has ks m c row are lt read = marked_both is_active (λ k. k.remaining) ks m.active row m.needing.items c (omega (arith, are.needing_size, lt)) (λ k e. e) are.active (λ q on. are.needing q c lt on) read

starved_has : (ks : List Client) (m : Marks) (c : ℕ) (row : List ℕ) → AreMarks ks m → c < 1024 → row ≡ get_or m.needing.items c row → (q : ℕ) → (has m.starved q && has row q) ≡ is_starved_for ks c q
starved_has ks m c row are lt read = marked_both is_starved (λ k. k.remaining) ks m.starved row m.needing.items c (omega (arith, are.needing_size, lt)) starved_active are.starved (λ q on. are.needing q c lt on) read

not_starved : (ks : List Client) (q : ℕ) → is_active (client_at ks q) ≡ false → is_starved (client_at ks q) ≡ false
not_starved ks q e = inactive (is_active (client_at ks q)) (nat_lt (size_of (client_at ks q).available) 2) e

pub interested_number : (ks vs : List Client) (m : Marks) (c n : ℕ) (row : List ℕ) → AreMarks ks m → ks ≡ vs → c < 1024 → row ≡ get_or m.needing.items c row → n ≡ count_below (λ x. has m.active x && has row x) 320
    → IsNumber vs (λ us. is_interested_in us c) n
interested_number ks vs m c n row are same lt read size =
    number_is ks vs m (λ us. is_interested_in us c) (λ x. has m.active x && has row x) n are same size (interested_has ks m c row are lt read) (λ q e. inactive (is_active (client_at ks q)) (has (client_at ks q).remaining c) e)

pub starved_number : (ks vs : List Client) (m : Marks) (c n : ℕ) (row : List ℕ) → AreMarks ks m → ks ≡ vs → c < 1024 → row ≡ get_or m.needing.items c row → n ≡ count_below (λ x. has m.starved x && has row x) 320
    → IsNumber vs (λ us. is_starved_for us c) n
starved_number ks vs m c n row are same lt read size =
    number_is ks vs m (λ us. is_starved_for us c) (λ x. has m.starved x && has row x) n are same size (starved_has ks m c row are lt read) (λ q e. inactive (is_starved (client_at ks q)) (has (client_at ks q).remaining c) (not_starved ks q e))

pub close_number : (ks vs : List Client) (m : Marks) (c n : ℕ) (row : List ℕ) → AreMarks ks m → ks ≡ vs → c < 1024 → row ≡ get_or m.having.items c row → n ≡ count_below (λ x. has m.near x && has row x) 320
    → IsNumber vs (λ us. is_close_in us c) n
close_number ks vs m c n row are same lt read size =
    number_is ks vs m (λ us. is_close_in us c) (λ x. has m.near x && has row x) n are same size
    (λ q. marked_both is_near (λ k. k.available) ks m.near row m.having.items c (omega (arith, are.having_size, lt)) near_active are.near (λ q on. are.having q c lt on) read q ∙ near_is_close ks c q)
    (λ q e. inactive (is_active (client_at ks q) && has (client_at ks q).available c) (nat_le (size_of (client_at ks q).available) 2) (inactive (is_active (client_at ks q)) (has (client_at ks q).available c) e))

pub fed_number : (ks vs : List Client) (m : Marks) (c n : ℕ) (row : List ℕ) → AreMarks ks m → ks ≡ vs → c < 1024 → row ≡ get_or m.having.items c row → n ≡ count_below (λ x. has m.starved x && has row x) 320
    → IsNumber vs (λ us. feeds_in us c) n
fed_number ks vs m c n row are same lt read size =
    number_is ks vs m (λ us. feeds_in us c) (λ x. has m.starved x && has row x) n are same size
    (marked_both is_starved (λ k. k.available) ks m.starved row m.having.items c (omega (arith, are.having_size, lt)) starved_active are.starved (λ q on. are.having q c lt on) read)
    (λ q e. inactive (is_starved (client_at ks q)) (has (client_at ks q).available c) (not_starved ks q e))

pub overlap_number : (ks vs : List Client) (m : Marks) (c n : ℕ) (among row both : List ℕ) → AreMarks ks m → ks ≡ vs → c < 1024 → row ≡ get_or m.needing.items c row → ((x : ℕ) → has both x ≡ (has m.active x && has row x))
    → n ≡ count_below (λ x. has both x && has among x) 320 → IsNumber vs (λ us. overlaps_by us among c) n
overlap_number ks vs m c n among row both are same lt read is size =
    number_is ks vs m (λ us. overlaps_by us among c) (λ x. has both x && has among x) n are same size
    (λ q. ap (λ (b : Bool). b && has among q) (is q ∙ interested_has ks m c row are lt read q))
    (λ q e. inactive (is_interested_in ks c q) (has among q) (inactive (is_active (client_at ks q)) (has (client_at ks q).remaining c) e))

pub starved_overlap_number : (ks vs : List Client) (m : Marks) (c n : ℕ) (among row both : List ℕ) → AreMarks ks m → ks ≡ vs → c < 1024 → row ≡ get_or m.needing.items c row → ((x : ℕ) → has both x ≡ (has m.starved x && has row x))
    → n ≡ count_below (λ x. has both x && has among x) 320 → IsNumber vs (λ us. starved_overlaps_by us among c) n
starved_overlap_number ks vs m c n among row both are same lt read is size =
    number_is ks vs m (λ us. starved_overlaps_by us among c) (λ x. has both x && has among x) n are same size
    (λ q. ap (λ (b : Bool). b && has among q) (is q ∙ starved_has ks m c row are lt read q))
    (λ q e. inactive (is_starved_for ks c q) (has among q) (inactive (is_starved (client_at ks q)) (has (client_at ks q).remaining c) (not_starved ks q e)))

-- of queries that are all active, those that need the chunk
pub needing_number : (ks vs : List Client) (m : Marks) (c n : ℕ) (these row : List ℕ) → AreMarks ks m → ks ≡ vs → c < 1024 → row ≡ get_or m.needing.items c row → ((q : ℕ) → has these q ≡ true → is_active_in vs q ≡ true)
    → n ≡ count_below (λ x. has these x && has row x) 320 → n ≡ count_below (λ q. has these q && needs_in vs q c) (length vs)
needing_number ks vs m c n these row are same lt read active size =
    let found : row ≡ row_at m.needing.items c = read ∙ sym (get_or_default m.needing.items c [] row (omega (arith, are.needing_size, lt))) in
    let on : (q : ℕ) → has these q ≡ true → is_active (client_at ks q) ≡ true = subst (λ (us : List Client). (q : ℕ) → has these q ≡ true → is_active_in us q ≡ true) (sym same) active in
    (number_is ks vs m (λ us q. has these q && needs_in us q c) (λ x. has these x && has row x) n are same size
    (λ q. where_first (has these q) (has row q) (needs_in ks q c) (λ so. ap (λ (xs : List ℕ). has xs q) found ∙ are.needing q c lt (active_goes_on (client_at ks q) (on q so))))
    (λ q off. elim (cases_Bool (has these q)) [
      | inl so ↦ absurd (true_false (is_active (client_at ks q)) (on q so) off)
      | inr not ↦ inactive (has these q) (needs_in ks q c) not
    ])).0

-- Frames

frame_set : (fs : List Frame) (f g : ℕ) (x : Frame) → g ≢ f → is_free_frame (frame_at (set fs f x) g) ≡ is_free_frame (frame_at fs g)
frame_set fs f g x ne = ap is_free_frame (get_or-set_other fs f g x Free ne)

-- the free frames after one frame is changed
pub frees_moved : (fs : List Frame) (f : ℕ) (x : Frame) → f < length fs → free_in (set fs f x) + bit (is_free_frame (frame_at fs f)) ≡ free_in fs + bit (is_free_frame x)
frees_moved fs f x there =
    let moved = count_moved (λ g. is_free_frame (frame_at fs g)) (λ g. is_free_frame (frame_at (set fs f x) g)) (length fs) f there (λ g ne. frame_set fs f g x ne) in
    ap (λ (n : ℕ). count_below (λ g. is_free_frame (frame_at (set fs f x) g)) n + bit (is_free_frame (frame_at fs f))) (length-set fs f x)
    ∙ (moved ∙ ap (λ (y : Frame). free_in fs + bit (is_free_frame y)) (get_or-set_same fs f x Free there))

pub frame_counted : (fs : List Frame) (f : ℕ) → f < length fs → bit (is_free_frame (frame_at fs f)) ≤ free_in fs
frame_counted fs f there = counted_bit (λ g. is_free_frame (frame_at fs g)) (length fs) f there

pub all_free : (fs : List Frame) → ((f : ℕ) → frame_at fs f ≡ Free) → free_in fs ≡ length fs
all_free fs free = each (length fs)
  where
    each : (n : ℕ) → count_below (λ f. is_free_frame (frame_at fs f)) n ≡ n
    each zero = refl
    each (suc n) = ap (λ (x : Frame). if is_free_frame x then count_below (λ f. is_free_frame (frame_at fs f)) n + 1 else count_below (λ f. is_free_frame (frame_at fs f)) n) (free n) ∙ (let rest = each n in omega (arith, rest))
