-- The numbers of what the book keeps are those of the history that it stands for.
use Rattle.std.proofs.Common.{◌≡◌, ◌<◌, ◌≤◌, ◌+◌, ◌-◌, ◌&&◌, ◌||◌, not, ℕ, zero, suc, Bool, true, false, if◌then◌else◌, List, length, get_or, Option, None, Some, is_none, is_some, nat_lt, nat_le, unwrap_or, refl, sym, ◌∙◌, ap, subst, arith, inl, inr}
use Rattle.std.specs.Option.{option_map}
use Rattle.std.proofs.lemmas.Bool.{cases_Bool, cases_lt}
use Rattle.scan_story.specs.declared.view.Phase.TheVariants.{Waiting, Active, Ended, Stopped}
use Rattle.scan_story.specs.declared.setting.Need as asked
use Rattle.scan_story.specs.declared.setting.Setting.{Setting}
use Rattle.scan_story.specs.Counting.{has, count_among, count_below, any_below}
use Rattle.scan_story.specs.Setting.{IsSetting, need_of, worker_of, shares}
use Rattle.scan_story.specs.Views.{History, is_registered, is_stopped, is_ended, is_active, needs_chunk, is_wholly_framed, is_available, held_by, is_hold_of, is_held}
use Rattle.scan_story.specs.Numbers.{needed, available, is_starved, since_wait, is_hold_for, holds_by, holds_for, waiting, running, interested, starved_interested, close, overlap, starved_overlap}
use Rattle.scan_story.specs.declared.view.Load.{Load}
use Rattle.scan_story.specs.MayFollow.{feeds_starved, is_target, is_ready, is_trigger}
use Rattle.std.proofs.lemmas.Bool.Decides.{nat_tests}
use Rattle.interest_book.specs.declared.loading.Loading.{Loading}
use Rattle.chunk_interest.specs.declared.client.Client.{Client}
use Rattle.interest_book.specs.declared.book.Book.{Book}
use Rattle.chunk_interest.specs.Clients.{IsClient, IsReady, client_at, is_active_phase}
use Rattle.chunk_interest.specs.Counted.{size_of}
use Rattle.chunk_interest.specs.Counts.{is_active_in, needs_in, is_available_in, needed_in, available_in, is_starved_in, is_interested_in, is_starved_for, is_close_in, overlaps_by, starved_overlaps_by, feeds_in}
use Rattle.interest_book.specs.Candidates.{is_target_in, is_ready_in}
use Rattle.chunk_interest.specs.Marked.{row_at}
use Rattle.interest_book.specs.Stands.{Stands}
use Rattle.interest_book.specs.Held.{hold_for}
use Rattle.chunk_interest.proofs.Below.{any_same, count_same, true_false}
use Rattle.scan_story.specs.Setting.{piece_at}
use Rattle.scan_story.specs.Views.{piece_in, is_framed}
use Rattle.scan_story.specs.Loads.{underway, fills_frame, is_free, free_frames}
use Rattle.scan_story.specs.Numbers.{missing, cached}
use Rattle.scan_story.proofs.Counts.{below_all}
use Rattle.std.proofs.lemmas.List.{get_or_past}
use Rattle.chunk_interest.specs.declared.frame.Frame.TheVariants.{Free}
use Rattle.chunk_interest.specs.Frames.{frame_at, frame_with, is_free_frame, free_in, held_piece}
use Rattle.interest_book.specs.Loading.{loading_of}
use Rattle.chunk_interest.proofs.Kept.{keeps, active_registered, starved_active, and_first}
use Rattle.interest_book.proofs.Named.{is_named, named_count, some_among, none_among}
use Rattle.chunk_interest.proofs.Needs.{worker_within, is_need}
use Rattle.chunk_interest.proofs.Counting.{count_cut, needed_inside}

-- Queries

pub client_is : (b : Book) (s : Setting) (h : History) (q : ℕ) → Stands b s h → q ≤ 256 → IsClient s h q (client_at b.clients q)
client_is b s h q st lt = st.clients q (omega (arith, lt, b.parts.clients))

pub ready_is : (b : Book) (s : Setting) (h : History) (q : ℕ) → Stands b s h → q ≤ 256 → IsReady s h q (client_at b.clients q)
ready_is b s h q st lt = st.ready q (omega (arith, lt, b.parts.clients))

active_tests : (a b r : Bool) → is_active_phase (if a then Stopped else (if b then Ended else (if r then Active else Waiting))) ≡ (r && not a && not b)
active_tests true true true = refl
active_tests true true false = refl
active_tests true false true = refl
active_tests true false false = refl
active_tests false true true = refl
active_tests false true false = refl
active_tests false false true = refl
active_tests false false false = refl

pub active_is : (b : Book) (s : Setting) (h : History) (q : ℕ) → Stands b s h → q ≤ 256 → is_active_in b.clients q ≡ is_active h q
active_is b s h q st lt = ap is_active_phase (client_is b s h q st lt).phase ∙ active_tests (is_stopped h q) (is_ended h q) (is_registered h q)

pub needs_is : (b : Book) (s : Setting) (h : History) (q c : ℕ) → Stands b s h → q ≤ 256 → needs_in b.clients q c ≡ needs_chunk s h q c
needs_is b s h q c st lt = (client_is b s h q st lt).remaining c

-- how many members a set has that has what passes, where only chunks pass
set_size : (xs : List ℕ) (p : ℕ → Bool) (n : ℕ) → n ≤ 1024 → ((c : ℕ) → has xs c ≡ p c) → ((c : ℕ) → n ≤ c → p c ≡ false) → size_of xs ≡ count_below p n
unfolding size_of
set_size xs p n few same out = count_same (has xs) p 1024 (λ c lt. same c) ∙ count_cut p n 1024 few out

unneeded : (s : Setting) (h : History) (q c : ℕ) → IsSetting s → s.chunks ≤ c → needs_chunk s h q c ≡ false
unneeded s h q c ok le = elim (cases_Bool (needs_chunk s h q c)) [
  | inl so ↦ (let lt = needed_inside s h q c ok so in absurd (omega (arith, lt, le)))
  | inr not ↦ not
]

pub needed_is : (b : Book) (s : Setting) (h : History) (q : ℕ) → Stands b s h → q ≤ 256 → needed_in b.clients q ≡ needed s h q
needed_is b s h q st lt = set_size (client_at b.clients q).remaining (needs_chunk s h q) s.chunks st.setting.chunks (λ c. needs_is b s h q c st lt) (λ c le. unneeded s h q c st.setting le)

first_out : (a b : Bool) → a ≡ false → (a && b) ≡ false
first_out false b e = refl
first_out true b e = absurd (true_false true refl e)

beyond : (b : Book) (s : Setting) (h : History) (q c : ℕ) → Stands b s h → b.chunks ≤ c → needs_chunk s h q c ≡ false
beyond b s h q c st out = unneeded s h q c st.setting (subst (λ (n : ℕ). n ≤ c) st.chunks out)

unavailable : (b : Book) (s : Setting) (h : History) (q c : ℕ) → Stands b s h → b.chunks ≤ c → is_available s h q c ≡ false
unavailable b s h q c st out = first_out (needs_chunk s h q c) (is_wholly_framed s h q c) (beyond b s h q c st out)

pub available_is : (b : Book) (s : Setting) (h : History) (q : ℕ) → Stands b s h → q ≤ 256 → available_in b.clients q ≡ available s h q
available_is b s h q st lt = set_size (client_at b.clients q).available (is_available s h q) s.chunks st.setting.chunks (ready_is b s h q st lt)
    (λ c le. first_out (needs_chunk s h q c) (is_wholly_framed s h q c) (unneeded s h q c st.setting le))

pub starved_is : (b : Book) (s : Setting) (h : History) (q : ℕ) → Stands b s h → q ≤ 256 → is_starved_in b.clients q ≡ is_starved s h q
starved_is b s h q st lt = ap (λ (x : Bool). x && nat_lt (available_in b.clients q) 2) (active_is b s h q st lt) ∙ ap (λ (n : ℕ). is_active h q && nat_lt n 2) (available_is b s h q st lt)

-- Counts over all clients

implied : (a b : Bool) → (a ≡ true → b ≡ true) → a ≡ (a && b)
implied true b f = sym (f refl)
implied false b f = refl

-- a count over all clients, of which only active ones count, is one over the needs
pub counted_is : (b : Book) (s : Setting) (h : History) (t u : ℕ → Bool) → Stands b s h → ((q : ℕ) → q ≤ 256 → t q ≡ u q) → ((q : ℕ) → u q ≡ true → is_active h q ≡ true)
    → count_below t (length b.clients) ≡ count_among (λ n. u n.query) s.needs
counted_is b s h t u st same active =
    ap (count_below t) b.parts.clients
    ∙ (count_same t (λ q. u q && is_named s.needs q) 257
    (λ q lt. same q (omega (arith, lt)) ∙ implied (u q) (is_named s.needs q) (λ e. (keeps s h st.setting st.followed).registered q (active_registered h q (active q e))))
    ∙ sym (named_count s u s.needs st.setting.needs st.setting.distinct))

pub running_is : (b : Book) (s : Setting) (h : History) → Stands b s h → count_below (is_active_in b.clients) (length b.clients) ≡ running s h
running_is b s h st = counted_is b s h (is_active_in b.clients) (is_active h) st (λ q lt. active_is b s h q st lt) (λ q e. e)

pub interested_is : (b : Book) (s : Setting) (h : History) (c : ℕ) → Stands b s h → count_below (is_interested_in b.clients c) (length b.clients) ≡ interested s h c
interested_is b s h c st = counted_is b s h (is_interested_in b.clients c) (λ q. is_active h q && needs_chunk s h q c) st
    (λ q lt. ap (λ (x : Bool). x && needs_in b.clients q c) (active_is b s h q st lt) ∙ ap (λ (x : Bool). is_active h q && x) (needs_is b s h q c st lt))
    (λ q e. and_first (is_active h q) (needs_chunk s h q c) e)

starved_for_is : (b : Book) (s : Setting) (h : History) (q c : ℕ) → Stands b s h → q ≤ 256 → is_starved_for b.clients c q ≡ (is_starved s h q && needs_chunk s h q c)
starved_for_is b s h q c st lt = ap (λ (x : Bool). x && needs_in b.clients q c) (starved_is b s h q st lt) ∙ ap (λ (x : Bool). is_starved s h q && x) (needs_is b s h q c st lt)

pub starved_interested_is : (b : Book) (s : Setting) (h : History) (c : ℕ) → Stands b s h → count_below (is_starved_for b.clients c) (length b.clients) ≡ starved_interested s h c
starved_interested_is b s h c st = counted_is b s h (is_starved_for b.clients c) (λ q. is_starved s h q && needs_chunk s h q c) st (λ q lt. starved_for_is b s h q c st lt)
    (λ q e. starved_active s h q (and_first (is_starved s h q) (needs_chunk s h q c) e))

pub close_is : (b : Book) (s : Setting) (h : History) (c : ℕ) → Stands b s h → count_below (is_close_in b.clients c) (length b.clients) ≡ close s h c
close_is b s h c st = counted_is b s h (is_close_in b.clients c) (λ q. is_active h q && is_available s h q c && nat_le (available s h q) 2) st (λ q lt.
    ap (λ (x : Bool). x && is_available_in b.clients q c && nat_le (available_in b.clients q) 2) (active_is b s h q st lt)
    ∙ (ap (λ (x : Bool). is_active h q && x && nat_le (available_in b.clients q) 2) (ready_is b s h q st lt c) ∙ ap (λ (n : ℕ). is_active h q && is_available s h q c && nat_le n 2) (available_is b s h q st lt)))
    (λ q e. and_first (is_active h q) (is_available s h q c) (and_first (is_active h q && is_available s h q c) (nat_le (available s h q) 2) e))

pub fed_is : (b : Book) (s : Setting) (h : History) (c : ℕ) → Stands b s h → nat_lt 0 (count_below (feeds_in b.clients c) (length b.clients)) ≡ feeds_starved s h c
fed_is b s h c st =
    ap (nat_lt 0) (counted_is b s h (feeds_in b.clients c) (λ q. is_starved s h q && is_available s h q c) st
    (λ q lt. ap (λ (x : Bool). x && is_available_in b.clients q c) (starved_is b s h q st lt) ∙ ap (λ (x : Bool). is_starved s h q && x) (ready_is b s h q st lt c))
    (λ q e. starved_active s h q (and_first (is_starved s h q) (is_available s h q c) e)))
    ∙ sym (some_among (λ n. is_starved s h n.query && is_available s h n.query c) s.needs)

-- no query needs a chunk that the table doesn't have

last_out : (a b : Bool) → b ≡ false → (a && b) ≡ false
last_out true b e = e
last_out false b e = refl

pub none_interested : (b : Book) (s : Setting) (h : History) (c : ℕ) → Stands b s h → b.chunks ≤ c → 0 ≡ interested s h c
none_interested b s h c st out = sym (none_among (λ n. is_active h n.query && needs_chunk s h n.query c) s.needs (λ n. last_out (is_active h n.query) (needs_chunk s h n.query c) (beyond b s h n.query c st out)))

pub none_starved_interested : (b : Book) (s : Setting) (h : History) (c : ℕ) → Stands b s h → b.chunks ≤ c → 0 ≡ starved_interested s h c
none_starved_interested b s h c st out = sym (none_among (λ n. is_starved s h n.query && needs_chunk s h n.query c) s.needs (λ n. last_out (is_starved s h n.query) (needs_chunk s h n.query c) (beyond b s h n.query c st out)))

pub none_close : (b : Book) (s : Setting) (h : History) (c : ℕ) → Stands b s h → b.chunks ≤ c → 0 ≡ close s h c
none_close b s h c st out = sym (none_among (λ n. is_active h n.query && is_available s h n.query c && nat_le (available s h n.query) 2) s.needs
    (λ n. first_out (is_active h n.query && is_available s h n.query c) (nat_le (available s h n.query) 2) (last_out (is_active h n.query) (is_available s h n.query c) (unavailable b s h n.query c st out))))

pub none_fed : (b : Book) (s : Setting) (h : History) (c : ℕ) → Stands b s h → b.chunks ≤ c → false ≡ feeds_starved s h c
none_fed b s h c st out = sym (some_among (λ n. is_starved s h n.query && is_available s h n.query c) s.needs
    ∙ ap (nat_lt 0) (none_among (λ n. is_starved s h n.query && is_available s h n.query c) s.needs (λ n. last_out (is_starved s h n.query) (is_available s h n.query c) (unavailable b s h n.query c st out))))

pub none_overlap : (b : Book) (s : Setting) (h : History) (q c : ℕ) → Stands b s h → b.chunks ≤ c → 0 ≡ overlap s h q c
none_overlap b s h q c st out = sym (none_among (λ n. is_active h n.query && needs_chunk s h n.query c && shares s q n.query) s.needs
    (λ n. first_out (is_active h n.query && needs_chunk s h n.query c) (shares s q n.query) (last_out (is_active h n.query) (needs_chunk s h n.query c) (beyond b s h n.query c st out))))

pub none_starved_overlap : (b : Book) (s : Setting) (h : History) (q c : ℕ) → Stands b s h → b.chunks ≤ c → 0 ≡ starved_overlap s h q c
none_starved_overlap b s h q c st out = sym (none_among (λ n. is_starved s h n.query && needs_chunk s h n.query c && shares s q n.query) s.needs
    (λ n. first_out (is_starved s h n.query && needs_chunk s h n.query c) (shares s q n.query) (last_out (is_starved s h n.query) (needs_chunk s h n.query c) (beyond b s h n.query c st out))))

pub overlap_is : (b : Book) (s : Setting) (h : History) (q c : ℕ) → Stands b s h → q ≤ 256 → count_below (overlaps_by b.clients (row_at b.sharers.items q) c) (length b.clients) ≡ overlap s h q c
overlap_is b s h q c st lt = counted_is b s h (overlaps_by b.clients (row_at b.sharers.items q) c) (λ r. is_active h r && needs_chunk s h r c && shares s q r) st
    (λ r there. ap (λ (x : Bool). x && needs_in b.clients r c && has (row_at b.sharers.items q) r) (active_is b s h r st there)
    ∙ (ap (λ (x : Bool). is_active h r && x && has (row_at b.sharers.items q) r) (needs_is b s h r c st there) ∙ ap (λ (x : Bool). is_active h r && needs_chunk s h r c && x) (st.sharers q r lt there)))
    (λ r e. and_first (is_active h r) (needs_chunk s h r c) (and_first (is_active h r && needs_chunk s h r c) (shares s q r) e))

pub starved_overlap_is : (b : Book) (s : Setting) (h : History) (q c : ℕ) → Stands b s h → q ≤ 256 → count_below (starved_overlaps_by b.clients (row_at b.sharers.items q) c) (length b.clients) ≡ starved_overlap s h q c
starved_overlap_is b s h q c st lt = counted_is b s h (starved_overlaps_by b.clients (row_at b.sharers.items q) c) (λ r. is_starved s h r && needs_chunk s h r c && shares s q r) st
    (λ r there. ap (λ (x : Bool). x && has (row_at b.sharers.items q) r) (starved_for_is b s h r c st there) ∙ ap (λ (x : Bool). is_starved s h r && needs_chunk s h r c && x) (st.sharers q r lt there))
    (λ r e. starved_active s h r (and_first (is_starved s h r) (needs_chunk s h r c) (and_first (is_starved s h r && needs_chunk s h r c) (shares s q r) e)))

-- Workers

pub hold_is : (b : Book) (s : Setting) (h : History) (q : ℕ) → Stands b s h → hold_for b.holds.items q (worker_of s q) ≡ holds_for s h q
hold_is b s h q st = by_worker (worker_of s q) (λ w e. (worker_within s q w st.setting e).0)
  where
    by_worker : (o : Option ℕ) → ((w : ℕ) → o ≡ Some w → w < 32) → hold_for b.holds.items q o ≡ holds_by h q o
    by_worker None small = refl
    by_worker (Some w) small = let lt = small w refl in ap (is_hold_for q) (st.holds w (omega (arith, lt, b.parts.holds)))

pub held_is : (b : Book) (s : Setting) (h : History) (c : ℕ) → Stands b s h → any_below (λ w. is_hold_of c (get_or b.holds.items w None)) b.workers ≡ is_held s h c
held_is b s h c st =
    any_same (λ w. is_hold_of c (get_or b.holds.items w None)) (λ w. is_hold_of c (held_by h w)) b.workers (λ w lt. ap (is_hold_of c) (st.holds w (omega (arith, lt, b.parts.workers, b.parts.holds))))
    ∙ ap (any_below (λ w. is_hold_of c (held_by h w))) st.workers

-- Frames

free_state : (o : Option ℕ) (b : Bool) → is_free_frame (frame_with o b) ≡ (is_none o && not b)
free_state (Some p) b = refl
free_state None true = refl
free_state None false = refl

pub free_is : (b : Book) (s : Setting) (h : History) → Stands b s h → free_in b.buffer.frames ≡ free_frames s h
free_is b s h st =
    count_same (λ f. is_free_frame (frame_at b.buffer.frames f)) (is_free s h) (length b.buffer.frames)
    (λ f lt. ap is_free_frame (st.buffer.each f (subst (λ (n : ℕ). f < n) st.buffer.frames lt)) ∙ free_state (piece_in s h f) (fills_frame f (underway s h)))
    ∙ ap (count_below (is_free s h)) st.buffer.frames

held_state : (o : Option ℕ) (b : Bool) → held_piece (frame_with o b) ≡ o
held_state (Some p) b = refl
held_state None true = refl
held_state None false = refl

pub piece_is : (b : Book) (s : Setting) (h : History) (f : ℕ) → Stands b s h → held_piece (frame_at b.buffer.frames f) ≡ piece_in s h f
piece_is b s h f st = elim (cases_lt f s.frames) [
  | inl lt ↦ ap held_piece (st.buffer.each f lt) ∙ held_state (piece_in s h f) (fills_frame f (underway s h))
  | inr past ↦
      ap held_piece (get_or_past b.buffer.frames f Free (omega (arith, past, st.buffer.frames)))
      ∙ sym (nothing (piece_in s h f) (λ p e. (let lt = (keeps s h st.setting st.followed).inside f p e in omega (arith, lt, past))))
]
  where
    nothing : (o : Option ℕ) → ((p : ℕ) → o ≡ Some p → ⊥) → o ≡ None
    nothing None not = refl
    nothing (Some p) not = absurd (not p refl)

pub missing_count : (s : Setting) (h : History) (c n k : ℕ) → n ≡ s.groups → k ≡ cached s h c → n - k ≡ missing s h c
missing_count s h c n k groups is = let all = below_all (λ g. is_framed s h (piece_at s c g)) s.groups in omega (arith, all, groups, is)

-- Waiting

since_is : (n : ℕ) (h : History) (q : ℕ) (o : Option ℕ) → length h ≡ n → since_wait h q ≡ option_map (λ b. length h - b) o → unwrap_or (option_map (λ b. n - b) o) 0 ≡ unwrap_or (since_wait h q) 0
since_is n h q o len is = sym (ap (λ x. unwrap_or x 0) is ∙ ap (λ (k : ℕ). unwrap_or (option_map (λ b. k - b) o) 0) len)

pub wait_is : (b : Book) (s : Setting) (h : History) (q : ℕ) (k : Client) → Stands b s h → q ≤ 256 → k ≡ client_at b.clients q → holds_for s h q ≡ false
    → unwrap_or (option_map (λ x. b.noted - x) k.began) 0 ≡ waiting s h q
wait_is b s h q k st lt is none =
    since_is b.noted h q k.began st.noted ((client_is b s h q st lt).began.since ∙ ap (λ (x : Client). option_map (λ y. length h - y) x.began) (sym is))
    ∙ sym (ap (λ (x : Bool). if x then 0 else unwrap_or (since_wait h q) 0) none)

pub wait_none : (s : Setting) (h : History) (q : ℕ) → holds_for s h q ≡ true → 0 ≡ waiting s h q
wait_none s h q some = sym (ap (λ (x : Bool). if x then 0 else unwrap_or (since_wait h q) 0) some)

-- Candidates

pub target_is : (b : Book) (s : Setting) (h : History) (q c : ℕ) → Stands b s h → q ≤ 256 → is_target_in b.clients b.chunks q c ≡ is_target s h q c
target_is b s h q c st lt =
    ap (λ (n : ℕ). nat_lt c n && needs_in b.clients q c && not (is_available_in b.clients q c)) st.chunks
    ∙ (ap (λ (x : Bool). nat_lt c s.chunks && x && not (is_available_in b.clients q c)) (needs_is b s h q c st lt)
    ∙ (ap (λ (x : Bool). nat_lt c s.chunks && needs_chunk s h q c && not x) (ready_is b s h q st lt c) ∙ needed_rest (nat_lt c s.chunks) (needs_chunk s h q c) (is_wholly_framed s h q c)))
  where
    needed_rest : (a n w : Bool) → (a && n && not (n && w)) ≡ (a && n && not w)
    needed_rest a true w = refl
    needed_rest true false w = refl
    needed_rest false false w = refl

pub deliverable_is : (b : Book) (s : Setting) (h : History) (q c : ℕ) → Stands b s h → q ≤ 256 → is_ready_in b.clients b.chunks q c ≡ is_ready s h q c
deliverable_is b s h q c st lt = ap (λ (n : ℕ). nat_lt c n && is_available_in b.clients q c) st.chunks ∙ ap (λ (x : Bool). nat_lt c s.chunks && x) (ready_is b s h q st lt c)

-- what is needed and available is inside the table, and so the sets have just the candidates

lt_is : (a b : ℕ) → a < b → nat_lt a b ≡ true
lt_is a b e = grind (arith, nat_tests)

pub target_set : (b : Book) (s : Setting) (h : History) (q c : ℕ) → Stands b s h → q ≤ 256 → (needs_in b.clients q c && not (is_available_in b.clients q c)) ≡ is_target s h q c
target_set b s h q c st lt =
    inside (nat_lt c b.chunks) (needs_in b.clients q c) (is_available_in b.clients q c) (λ e. ap (nat_lt c) st.chunks ∙ lt_is c s.chunks (needed_inside s h q c st.setting (sym (needs_is b s h q c st lt) ∙ e)))
    ∙ target_is b s h q c st lt
  where
    inside : (a n w : Bool) → (n ≡ true → a ≡ true) → (n && not w) ≡ (a && n && not w)
    inside true n w f = refl
    inside false true w f = absurd (true_false false (f refl) refl)
    inside false false w f = refl

pub ready_set : (b : Book) (s : Setting) (h : History) (q c : ℕ) → Stands b s h → q ≤ 256 → is_available_in b.clients q c ≡ is_ready s h q c
ready_set b s h q c st lt =
    ready_is b s h q st lt c ∙ inside (nat_lt c s.chunks) (needs_chunk s h q c) (is_wholly_framed s h q c) (λ e. lt_is c s.chunks (needed_inside s h q c st.setting e))
  where
    inside : (a n w : Bool) → (n ≡ true → a ≡ true) → (n && w) ≡ (a && (n && w))
    inside true n w f = refl
    inside false true w f = absurd (true_false false (f refl) refl)
    inside false false w f = refl

-- some target is left where fewer chunks are available than needed
parts : (p w : ℕ → Bool) (n : ℕ) → count_below p n ≡ count_below (λ c. p c && w c) n + count_below (λ c. p c && not (w c)) n
parts p w zero = refl
parts p w (suc n) = at_last (p n) (w n) (parts p w n)
  where
    at_last : (a b : Bool) → count_below p n ≡ count_below (λ c. p c && w c) n + count_below (λ c. p c && not (w c)) n
        → (if a then count_below p n + 1 else count_below p n) ≡ (if a && b then count_below (λ c. p c && w c) n + 1 else count_below (λ c. p c && w c) n) + (if a && not b then count_below (λ c. p c && not (w c)) n + 1 else count_below (λ c. p c && not (w c)) n)
    at_last true true e = omega (arith, e)
    at_last true false e = omega (arith, e)
    at_last false true e = e
    at_last false false e = e

some_counted : (p : ℕ → Bool) (n : ℕ) → any_below p n ≡ nat_lt 0 (count_below p n)
some_counted p zero = refl
some_counted p (suc n) = at_last (p n) (some_counted p n)
  where
    at_last : (a : Bool) → any_below p n ≡ nat_lt 0 (count_below p n) → (a || any_below p n) ≡ nat_lt 0 (if a then count_below p n + 1 else count_below p n)
    at_last true e = grind (arith, nat_tests)
    at_last false e = e

pub has_target : (s : Setting) (h : History) (q : ℕ) → nat_lt (available s h q) (needed s h q) ≡ any_below (is_target s h q) s.chunks
has_target s h q =
    let split = parts (needs_chunk s h q) (is_wholly_framed s h q) s.chunks in
    more (available s h q) (needed s h q) (count_below (λ c. needs_chunk s h q c && not (is_wholly_framed s h q c)) s.chunks) split
    ∙ (sym (some_counted (λ c. needs_chunk s h q c && not (is_wholly_framed s h q c)) s.chunks)
    ∙ any_same (λ c. needs_chunk s h q c && not (is_wholly_framed s h q c)) (is_target s h q) s.chunks (λ c lt. inside c (needs_chunk s h q c) (is_wholly_framed s h q c) (lt_is c s.chunks lt)))
  where
    more : (a n k : ℕ) → n ≡ a + k → nat_lt a n ≡ nat_lt 0 k
    more a n k e = grind (arith, nat_tests)

    inside : (c : ℕ) (n w : Bool) → nat_lt c s.chunks ≡ true → (n && not w) ≡ (nat_lt c s.chunks && n && not w)
    inside c n w e = sym (ap (λ (x : Bool). x && n && not w) e)

idle_is : (o : Option Load) (k : Option Loading) → k ≡ option_map loading_of o → is_some k ≡ false → is_none o ≡ true
idle_is None k e none = refl
idle_is (Some l) k e none = absurd (true_false (is_some k) (ap is_some e) none)

pub trigger_is : (b : Book) (s : Setting) (h : History) (q : ℕ) → Stands b s h → is_some (need_of s q) ≡ true → is_some b.loading ≡ false → is_starved s h q ≡ true
    → nat_lt (available s h q) (needed s h q) ≡ is_trigger s h q
trigger_is b s h q st need idle starved = has_target s h q ∙ sym (all_of (is_some (need_of s q)) (is_none (underway s h)) (is_starved s h q) (any_below (is_target s h q) s.chunks) need (idle_is (underway s h) b.loading st.loading idle) starved)
  where
    all_of : (a n x t : Bool) → a ≡ true → n ≡ true → x ≡ true → (a && n && x && t) ≡ t
    all_of a n x t ea en ex = rw (ea, en, ex) refl

-- no query of the needs is above 256
pub none_beyond : (b : Book) (s : Setting) (h : History) (q : ℕ) → Stands b s h → 257 ≤ q → is_some (need_of s q) ≡ false
none_beyond b s h q st above = nothing (need_of s q) refl
  where
    nothing : (o : Option asked.Need) → need_of s q ≡ o → is_some o ≡ false
    nothing None e = refl
    nothing (Some n) e = let i = is_need s q n st.setting e in let most = i.0.query.1 in absurd (omega (arith, above, most, i.1))
