-- The numbers of an entry that may follow are within the book.
use Rattle.std.proofs.Common.{◌≡◌, ◌<◌, ◌≤◌, ◌-◌, ◌/◌, ◌^◌, ◌∷◌, ◌&&◌, ℕ, Bool, true, false, is_some, nat_lt, length, refl, sym, ◌∙◌, ap, subst, arith}
use Rattle.std.proofs.lemmas.Bool.Decides.{nat_tests}
use Rattle.scan_story.specs.declared.entry.Entry.{Entry}
use Rattle.scan_story.specs.declared.entry.Why.{Why}
use Rattle.scan_story.specs.declared.entry.Entry.TheVariants.{Register, Plan, Evict, Fill, Filled, Failed, Deliver, Release, Stop, End}
use Rattle.scan_story.specs.declared.setting.Setting.{Setting}
use Rattle.scan_story.specs.Setting.{need_of}
use Rattle.scan_story.specs.Views.{History, is_available}
use Rattle.scan_story.specs.MayFollow.{Allowed, is_ready}
use Rattle.interest_book.specs.declared.book.Book.{Book}
use Rattle.interest_book.specs.Stands.{Stands, MayFollow}
use Rattle.chunk_interest.proofs.Needs.{worker_within, has_need, need_small}
use Rattle.chunk_interest.proofs.Kept.{Keeps, keeps, target_inside, victim_inside, active_registered, starved_active}

few : (b : Book) (s : Setting) (h : History) → Stands b s h → length h < 2 ^ 63 - 1 → b.noted < 2 ^ 63 - 1
few b s h st short = subst (λ (n : ℕ). n < 2 ^ 63 - 1) st.noted short

small : (b : Book) (s : Setting) (h : History) (c : ℕ) → Stands b s h → c < s.chunks → c < 1024
small b s h c st lt = let most = st.setting.chunks in omega (arith, lt, most)

kept : (b : Book) (s : Setting) (h : History) → Stands b s h → Keeps s h
kept b s h st = keeps s h st.setting st.followed

pub register_inside : (b : Book) (w q : ℕ) → MayFollow b (Register w q) → (1 ≤ q) × (q ≤ 256) × (b.noted < 2 ^ 63 - 1)
register_inside b w q m =
    let n = has_need (need_of m.setting q) w m.allowed.on in
    let small = need_small m.setting q m.stands.setting (ap is_some n.1) in
    (small.0, small.1, few b m.setting m.history m.stands m.short)

pub plan_inside : (b : Book) (w q c : ℕ) → MayFollow b (Plan w q c) → (q ≤ 256) × (c < 1024) × (b.noted < 2 ^ 63 - 1)
plan_inside b w q c m = (
  (need_small m.setting q m.stands.setting ((kept b m.setting m.history m.stands).registered q (active_registered m.history q (starved_active m.setting m.history q m.allowed.starved)))).1,
  small b m.setting m.history c m.stands (target_inside m.setting m.history q c m.allowed.target),
  few b m.setting m.history m.stands m.short,
)

pub evict_inside : (b : Book) (w c : ℕ) → MayFollow b (Evict w c) → (c < 1024) × (b.noted < 2 ^ 63 - 1)
evict_inside b w c m = (small b m.setting m.history c m.stands (victim_inside m.setting m.history c m.allowed.victim), few b m.setting m.history m.stands m.short)

pub fill_inside : (b : Book) (w f p : ℕ) → MayFollow b (Fill w f p) → (f < length b.buffer.frames) × (b.noted < 2 ^ 63 - 1)
fill_inside b w f p m = (subst (λ (n : ℕ). f < n) (sym m.stands.buffer.frames) m.allowed.frame, few b m.setting m.history m.stands m.short)

pub filled_inside : (b : Book) (w f p : ℕ) → MayFollow b (Filled w f p) → (f < length b.buffer.frames) × (p / b.buffer.groups < 1024) × (b.noted < 2 ^ 63 - 1)
filled_inside b w f p m =
    let load = (kept b m.setting m.history m.stands).load m.allowed.load m.allowed.is_load.underway in
    let fill = load.fills f p m.allowed.begun in
    let chunk : p / b.buffer.groups ≡ m.allowed.load.chunk = ap (λ (n : ℕ). p / n) m.stands.buffer.groups ∙ load.of_chunk p fill.missing in (
      subst (λ (n : ℕ). f < n) (sym m.stands.buffer.frames) fill.frame,
      subst (λ (n : ℕ). n < 1024) (sym chunk) (small b m.setting m.history m.allowed.load.chunk m.stands load.chunk),
      few b m.setting m.history m.stands m.short,
    )

pub failed_inside : (b : Book) (w q p : ℕ) (why : Why) → MayFollow b (Failed w q p why) → (q ≤ 256) × (b.noted < 2 ^ 63 - 1)
failed_inside b w q p why m =
    let load = (kept b m.setting m.history m.stands).load m.allowed.load m.allowed.is_load.underway in
    (subst (λ (n : ℕ). n ≤ 256) m.allowed.for_query load.query, few b m.setting m.history m.stands m.short)

pub ready_inside : (s : Setting) (h : History) (q c : ℕ) → is_ready s h q c ≡ true → c < s.chunks
ready_inside s h q c e = below c s.chunks (front (nat_lt c s.chunks) (is_available s h q c) e)
  where
    below : (a b : ℕ) → nat_lt a b ≡ true → a < b
    below a b e = grind (arith, nat_tests)

    front : (a b : Bool) → (a && b) ≡ true → a ≡ true
    front true b e = refl
    front false b e = e

pub deliver_inside : (b : Book) (w q c : ℕ) → MayFollow b (Deliver w q c) → (w < 32) × (q ≤ 256) × (c < 1024) × (b.noted < 2 ^ 63 - 1)
deliver_inside b w q c m =
    let within = worker_within m.setting q w m.stands.setting m.allowed.on.on in
    (within.0, within.1, small b m.setting m.history c m.stands (ready_inside m.setting m.history q c m.allowed.ready), few b m.setting m.history m.stands m.short)

pub release_inside : (b : Book) (w q c : ℕ) → MayFollow b (Release w q c) → (w < 32) × (q ≤ 256) × (b.noted < 2 ^ 63 - 1)
release_inside b w q c m =
    let held = (kept b m.setting m.history m.stands).holds w (record { query = q; chunk = c }) m.allowed in
    (held.0, held.1, few b m.setting m.history m.stands m.short)

pub stop_inside : (b : Book) (w q : ℕ) → MayFollow b (Stop w q) → (q ≤ 256) × (b.noted < 2 ^ 63 - 1)
stop_inside b w q m = ((worker_within m.setting q w m.stands.setting m.allowed.on.on).1, few b m.setting m.history m.stands m.short)

pub end_inside : (b : Book) (w q : ℕ) → MayFollow b (End w q) → (q ≤ 256) × (b.noted < 2 ^ 63 - 1)
end_inside b w q m = ((worker_within m.setting q w m.stands.setting m.allowed.on.on).1, few b m.setting m.history m.stands m.short)

-- the book notes the entry
abbrev pub Notes : Book → Book → Entry → Type 0
Notes old new e = (s : Setting) (h : History) → Stands old s h → Allowed s h e → Stands new s (e ∷ h)
