-- The chunks of each scan, noted one after another.
use Rattle.std.proofs.Common.{◌≡◌, ◌∙◌, ◌<◌, ◌≤◌, ◌+◌, ◌-◌, ◌*◌, ◌/◌, ◌%◌, ◌++◌, ◌∷◌, ◌==◌, ℕ, zero, suc, true, List, [], length, take, drop, get_or, set, arith, refl, sym, ap, subst, inl, inr, append_assoc, length-append}
use Rattle.std.specs.Prelude.{All, vec_capacity, if◌then◌else◌}
use Rattle.std.specs.List.{AllByRecursion, AllZip}
use Rattle.std.proofs.Math.Nat.{add-mul, div-add-mod', div-eq_of_lt-le}
use Rattle.std.proofs.lemmas.List.{append-nil, get_or-set_other, get_or-set_same, take-append-drop, take_more}
use Rattle.std.proofs.lemmas.List.Elements.{All-from_recursion, recursion_from_All}
use Rattle.csv_load.proofs.Zips.{zip-push}
use Rattle.table_sets.specs.Sets.{has}
use Rattle.filter_zones.specs.declared.zone.ChunkZones.{ChunkZones}
use Rattle.scan_story.specs.declared.entry.Entry.{Entry}
use Rattle.scan_story.specs.declared.entry.Entry.TheVariants.{Deliver, End, Evict, Failed, Fill, Filled, Plan, Register, Release, Stop}
use Rattle.story_laws.specs.Queries.{chunks_delivered}
use Rattle.story_laws.proofs.Counts.{count_mono}
use Rattle.story_laws.proofs.Bools.{self_number}
use Rattle.story_laws.proofs.Lists.{count_has, length_named}
use Rattle.story_laws.proofs.Delivering.{delivered_append}
use Rattle.batch_plan.specs.Deal.{is_dealt}
use Rattle.table_sets.proofs.Members.{has-numbers}
use Rattle.filter_zones.specs.Possible.{needed}
use Rattle.std.proofs.lemmas.Bool.{and_parts, cases_eq, ltb-true}
use Rattle.std.specs.Prelude.{nat_lt}
use Rattle.batch_plan.specs.declared.task.Task.{Task}
use Rattle.batch_plan.specs.Scans.{Scan, need_of, needs, scan_number, scans_from, scans_from_part}
use Rattle.batch_ends.specs.Noting.{HasRoomFor, IsGrown, IsNamed, IsOpened, NotesAll, NotesOne, number_of}
use Rattle.batch_ends.specs.Taken.{IsTakenBy, TookNeed}
use Rattle.batch_ends.specs.declared.taken.Taken.{Taken}

-- ---- lists, place by place

pub zip_at_default : {X : Type 0} (R : X → X → Type 0) (xs ys : List X) → length ys ≡ length xs → ((k : ℕ) (d : X) → k < length xs → R (get_or xs k d) (get_or ys k d)) → AllZip R xs ys
zip_at_default R [] [] long each = tt
zip_at_default R [] (y ∷ ys) long each = absurd (omega (arith, long))
zip_at_default R (x ∷ xs) [] long each = absurd (omega (arith, long))
zip_at_default R (x ∷ xs) (y ∷ ys) long each = (each 0 x (omega arith), zip_at_default R xs ys (omega (arith, long)) (λ k d low. each (suc k) d (omega (arith, low))))

pub zip_on : {A B C : Type 0} (R : A → B → Type 0) (S : B → C → Type 0) (T : A → C → Type 0) (xs : List A) (ys : List B) (zs : List C) → ((x : A) (y : B) (z : C) → R x y → S y z → T x z) → AllZip R xs ys → AllZip S ys zs → AllZip T xs zs
zip_on R S T [] [] [] since one two = tt
zip_on R S T [] [] (z ∷ zs) since one two = absurd two
zip_on R S T [] (y ∷ ys) zs since one two = absurd one
zip_on R S T (x ∷ xs) [] zs since one two = absurd one
zip_on R S T (x ∷ xs) (y ∷ ys) [] since one two = absurd two
zip_on R S T (x ∷ xs) (y ∷ ys) (z ∷ zs) since one two = (since x y z one.0 two.0, zip_on R S T xs ys zs since one.1 two.1)

pub zip_each : {A B : Type 0} (P : A → Type 0) (R : A → B → Type 0) (Q : B → Type 0) (xs : List A) (ys : List B) → ((x : A) (y : B) → P x → R x y → Q y) → AllByRecursion P xs → AllZip R xs ys → AllByRecursion Q ys
zip_each P R Q [] [] since each all = tt
zip_each P R Q [] (y ∷ ys) since each all = absurd all
zip_each P R Q (x ∷ xs) [] since each all = absurd all
zip_each P R Q (x ∷ xs) (y ∷ ys) since each all = (since x y each.0 all.0, zip_each P R Q xs ys since each.1 all.1)

-- what holds of each pair follows from what held of it and of its first
pub zip_since : {A B : Type 0} (P : A → Type 0) (R S : A → B → Type 0) (xs : List A) (ys : List B) → AllByRecursion P xs → ((x : A) (y : B) → P x → R x y → S x y) → AllZip R xs ys → AllZip S xs ys
zip_since P R S [] [] each since all = all
zip_since P R S [] (y ∷ ys) each since all = absurd all
zip_since P R S (x ∷ xs) [] each since all = absurd all
zip_since P R S (x ∷ xs) (y ∷ ys) each since all = (since x y each.0 all.0, zip_since P R S xs ys each.1 since all.1)

-- one more of each
pub zip_more : {A B : Type 0} (R : A → B → Type 0) (xs more : List A) (ys others : List B) (x : A) (y : B) → more ≡ xs ++ x ∷ [] → others ≡ ys ++ y ∷ [] → AllZip R xs ys → R x y → AllZip R more others
zip_more {A} {B} R xs more ys others x y is are all one =
    let Left = λ (ts : List A). AllZip R ts others in
    let Right = λ (os : List B). AllZip R (xs ++ x ∷ []) os in
    subst Left (sym is) (subst Right (sym are) (zip-push R xs ys x y all one))

-- ---- one entry more

grown_on : (a b c : Taken) (xs ys : List ℕ) → IsGrown a b xs → IsGrown b c ys → IsGrown a c (xs ++ ys)
grown_on a b c xs ys one two = record {
  query = two.query ∙ one.query;
  part = two.part ∙ one.part;
  worker = two.worker ∙ one.worker;
  chunks = two.chunks ∙ ap (λ (l : List ℕ). l ++ ys) one.chunks ∙ append_assoc a.chunks.items xs ys;
  room = omega (arith, one.room, two.room);
}

same_scan : (parts : ℕ) (a b : Taken) (xs : List ℕ) → IsGrown a b xs → number_of parts b ≡ number_of parts a
same_scan parts a b xs one = ap (λ (q : ℕ). scan_number parts q b.part) one.query ∙ ap (λ (p : ℕ). scan_number parts a.query p) one.part

module _ (parts : ℕ) (story : List Entry) (i w q c : ℕ) (low : i < length story) (here : Deliver w q c ≡ get_or story i (Register 0 0)) where
  next : take (i + 1) story ≡ take i story ++ Deliver w q c ∷ []
  next = take_more story i (Register 0 0) low ∙ ap (λ (e : Entry). take i story ++ e ∷ []) (sym here)

  noted_one : (a b d : Taken) → NotesAll parts (take i story) a b → NotesOne parts q c b d → NotesAll parts (take (i + 1) story) a d
  noted_one a b d done one =
      let n = number_of parts a in
      let Of = λ (m : ℕ). IsGrown b d (if q == m then c ∷ [] else []) in
      let Grown = λ (xs : List ℕ). IsGrown a d xs in
      subst Grown (sym (ap (λ es. chunks_delivered es n) next ∙ delivered_append n (take i story) (Deliver w q c ∷ [])))
      (grown_on a b d (chunks_delivered (take i story) n) (chunks_delivered (Deliver w q c ∷ []) n) done (subst Of (same_scan parts a b (chunks_delivered (take i story) n) done) one))

  pub noted_more : (xs ys zs : List Taken) → AllZip (NotesAll parts (take i story)) xs ys → AllZip (NotesOne parts q c) ys zs → AllZip (NotesAll parts (take (i + 1) story)) xs zs
  noted_more xs ys zs done one = zip_on (NotesAll parts (take i story)) (NotesOne parts q c) (NotesAll parts (take (i + 1) story)) xs ys zs noted_one done one

  -- a scan has room for the chunk that is delivered to it
  room_one : (a b : Taken) → HasRoomFor parts story a → NotesAll parts (take i story) a b → number_of parts b ≡ q → length b.chunks.items < vec_capacity b.chunks
  room_one a b room done is =
      let n = number_of parts a in
      let mine : q ≡ n = sym is ∙ same_scan parts a b (chunks_delivered (take i story) n) done in
      let whole : story ≡ take (i + 1) story ++ drop (i + 1) story = sym (take-append-drop (i + 1) story) in
      let first = ap (λ es. length (chunks_delivered es n)) next ∙ ap length (delivered_append n (take i story) (Deliver w q c ∷ [])) in
      let one : chunks_delivered (Deliver w q c ∷ []) n ≡ c ∷ [] = rw (← mine) (rw (self_number q) refl) in
      let count = length-append (chunks_delivered (take i story) n) (chunks_delivered (Deliver w q c ∷ []) n) in
      let all = ap (λ es. length (chunks_delivered es n)) whole ∙ ap length (delivered_append n (take (i + 1) story) (drop (i + 1) story)) in
      let both = length-append (chunks_delivered (take (i + 1) story) n) (chunks_delivered (drop (i + 1) story) n) in
      let long = ap length done.chunks ∙ length-append a.chunks.items (chunks_delivered (take i story) n) in
      let single = ap length one in
      omega (arith, room.room, done.room, first, count, all, both, long, single)

  pub room_each : (xs ys : List Taken) → All (HasRoomFor parts story) xs → AllZip (NotesAll parts (take i story)) xs ys → All (λ (t : Taken). number_of parts t ≡ q → length t.chunks.items < vec_capacity t.chunks) ys
  room_each xs ys room done =
      let Room = λ (t : Taken). number_of parts t ≡ q → length t.chunks.items < vec_capacity t.chunks in
      All-from_recursion Room ys (zip_each (HasRoomFor parts story) (NotesAll parts (take i story)) Room xs ys room_one (recursion_from_All (HasRoomFor parts story) xs room) done)

pub named_each : (parts : ℕ) (story done : List Entry) (xs ys : List Taken) → All (HasRoomFor parts story) xs → AllZip (NotesAll parts done) xs ys → All (IsNamed parts) ys
named_each parts story done xs ys room noted =
    All-from_recursion (IsNamed parts) ys (zip_each (HasRoomFor parts story) (NotesAll parts done) (IsNamed parts) xs ys (λ a b has grown. record {
      query = omega (arith, grown.query, has.named.query);
      part = omega (arith, grown.part, has.named.part);
      few = let same = ap (λ (q : ℕ). q * parts) grown.query in omega (arith, same, has.named.few);
    }) (recursion_from_All (HasRoomFor parts story) xs room) noted)

-- an entry that delivers nothing
pub noted_same : (parts : ℕ) (story : List Entry) (i : ℕ) (e : Entry) → i < length story → e ≡ get_or story i (Register 0 0) → ((q : ℕ) → chunks_delivered (e ∷ []) q ≡ []) → (xs ys : List Taken) → AllZip (NotesAll parts (take i story)) xs ys → AllZip (NotesAll parts (take (i + 1) story)) xs ys
noted_same parts story i e low here none xs ys done =
    let next : take (i + 1) story ≡ take i story ++ e ∷ [] = take_more story i (Register 0 0) low ∙ ap (λ (x : Entry). take i story ++ x ∷ []) (sym here) in
    let same : (n : ℕ) → chunks_delivered (take (i + 1) story) n ≡ chunks_delivered (take i story) n =
    λ n. ap (λ es. chunks_delivered es n) next ∙ delivered_append n (take i story) (e ∷ []) ∙ ap (λ l. chunks_delivered (take i story) n ++ l) (none n) ∙ append-nil (chunks_delivered (take i story) n) in
    zip_since (λ (t : Taken). Unit {0}) (NotesAll parts (take i story)) (NotesAll parts (take (i + 1) story)) xs ys (nothing xs) (λ a b none grown. let Grown = λ (l : List ℕ). IsGrown a b l in subst Grown (sym (same (number_of parts a))) grown) done where
      nothing : (l : List Taken) → AllByRecursion (λ (t : Taken). Unit {0}) l
      nothing [] = tt
      nothing (t ∷ l) = (tt, nothing l)

-- an entry that is no Deliver
pub quiet : (e : Entry) → ((w q c : ℕ) → e ≡ Deliver w q c → ⊥) → (n : ℕ) → chunks_delivered (e ∷ []) n ≡ []
quiet (Deliver w q c) not n = absurd (not w q c refl)
quiet (Register w q) not n = refl
quiet (Plan w q c) not n = refl
quiet (Evict w c) not n = refl
quiet (Fill w f p) not n = refl
quiet (Filled w f p) not n = refl
quiet (Failed w q p why) not n = refl
quiet (Release w q c) not n = refl
quiet (Stop w q) not n = refl
quiet (End w q) not n = refl

-- nothing is noted yet
pub noted_none : (parts : ℕ) (xs : List Taken) → AllZip (NotesAll parts []) xs xs
noted_none parts [] = tt
noted_none parts (x ∷ xs) = (record { query = refl; part = refl; worker = refl; chunks = sym (append-nil x.chunks.items); room = omega arith }, noted_none parts xs)

-- ---- the scans of a batch

-- a scan with the number of its query's part
pub record IsScanOf (parts : ℕ) (k : Scan) : Type 0 where
  pub number : k.number ≡ scan_number parts k.query k.part
  pub named : (1 ≤ k.query) × (k.part < parts) × (k.query * parts ≤ 256)

module _ (workers parts : ℕ) where
  parts_are : (t : Task) → 1 ≤ t.query → t.query * parts ≤ 256 → (place part left : ℕ) → part + left ≡ parts → AllByRecursion (IsScanOf parts) (scans_from_part workers parts t place part left)
  parts_are t one few place part zero all = tt
  parts_are t one few place part (suc left) all = (record { number = refl; named = (one, omega (arith, all), few) }, parts_are t one few (place + 1) (part + 1) left (omega (arith, all)))

  each_on : (ks js : List Scan) → AllByRecursion (IsScanOf parts) ks → AllByRecursion (IsScanOf parts) js → AllByRecursion (IsScanOf parts) (ks ++ js)
  each_on [] js first rest = rest
  each_on (k ∷ ks) js first rest = (first.0, each_on ks js first.1 rest)

  pub scans_are : (tasks : List Task) (place : ℕ) → AllByRecursion (λ (t : Task). 1 ≤ t.query) tasks → AllByRecursion (λ (t : Task). t.query * parts ≤ 256) tasks → AllByRecursion (IsScanOf parts) (scans_from workers parts place tasks)
  scans_are [] place some few = tt
  scans_are (t ∷ tasks) place some few =
      each_on (scans_from_part workers parts t place 0 parts) (scans_from workers parts (place + parts) tasks) (parts_are t some.0 few.0 place 0 parts (omega arith)) (scans_are tasks (place + parts) some.1 few.1)

-- a scan's number tells its query and its part
number_tells : (parts q part : ℕ) → 1 ≤ q → part < parts → ((scan_number parts q part - 1) / parts + 1 ≡ q) × ((scan_number parts q part - 1) % parts ≡ part)
number_tells parts q part one low =
    let x = scan_number parts q part - 1 in
    let next = add-mul (q - 1) 1 parts in
    let quotient : x / parts ≡ q - 1 = div-eq_of_lt-le parts (omega arith) (omega (arith, next, low)) in
    let whole = div-add-mod' x parts in
    let same = ap (λ (n : ℕ). n * parts) quotient in
    (omega (arith, quotient, one), omega (arith, whole, same))

-- what is told of a scan before it runs
pub record IsOpenAs (zones : List ChunkZones) (parts : ℕ) (k : Scan) (t : Taken) : Type 0 where
  pub scan : IsScanOf parts k
  pub query : t.query ≡ k.query
  pub part : t.part ≡ k.part
  pub worker : t.worker ≡ k.worker
  pub none : t.chunks.items ≡ []
  pub room : length (need_of zones parts k).chunks ≤ vec_capacity t.chunks

-- a scan takes no more chunks than it needs
few_taken : (zones : List ChunkZones) (parts : ℕ) (story : List Entry) (k : Scan) → TookNeed zones parts story k → length (chunks_delivered story k.number) ≤ length (need_of zones parts k).chunks
few_taken zones parts story k took =
    let cs = chunks_delivered story k.number in
    let ns = (need_of zones parts k).chunks in
    let dealt = is_dealt (needed k.plan.cond zones) parts k.part in
    let low : (c : ℕ) → has cs c ≡ true → c < 1024 = λ c here. ltb-true c 1024 (and_parts (nat_lt c 1024) (dealt c) (sym (has-numbers dealt 1024 c) ∙ took.asked c here)).0 in
    omega (arith, length_named 1024 cs took.once low, count_mono (has cs) (has ns) 1024 (λ c under. took.asked c), count_has ns 1024)

module _ (zones : List ChunkZones) (parts : ℕ) (story : List Entry) where
  pub opened : (ks : List Scan) (ts : List Taken) → AllByRecursion (IsScanOf parts) ks → AllZip (IsOpened parts) (needs zones parts ks) ts → AllZip (IsOpenAs zones parts) ks ts
  opened [] [] are all = tt
  opened [] (t ∷ ts) are all = absurd all
  opened (k ∷ ks) [] are all = absurd all
  opened (k ∷ ks) (t ∷ ts) are all =
      let is = are.0 in
      let tells = number_tells parts k.query k.part is.named.0 is.named.1 in
      let open_ = all.0 in (
        record {
          scan = is;
          query = open_.query ∙ ap (λ (n : ℕ). (n - 1) / parts + 1) is.number ∙ tells.0;
          part = open_.part ∙ ap (λ (n : ℕ). (n - 1) % parts) is.number ∙ tells.1;
          worker = open_.worker;
          none = open_.none;
          room = open_.room;
        },
        opened ks ts are.1 all.1,
      )

  same_number : (k : Scan) (t : Taken) → IsOpenAs zones parts k t → number_of parts t ≡ k.number
  same_number k t is = ap (λ (q : ℕ). scan_number parts q t.part) is.query ∙ ap (λ (p : ℕ). scan_number parts k.query p) is.part ∙ sym is.scan.number

  room_for : (k : Scan) (t : Taken) → TookNeed zones parts story k → IsOpenAs zones parts k t → HasRoomFor parts story t
  room_for k t took is = record {
    named = record {
      query = let e = is.query in let n = is.scan.named in omega (arith, e, n.0);
      part = let e = is.part in let n = is.scan.named in omega (arith, e, n.1);
      few = let same = ap (λ (q : ℕ). q * parts) is.query in let n = is.scan.named in omega (arith, same, n.2);
    };
    room =
        let few = few_taken zones parts story k took in
        let same = ap (λ (n : ℕ). length (chunks_delivered story n)) (same_number k t is) in
        let none = ap length is.none in
        omega (arith, few, same, none, is.room);
  }

  pub has_room : (ks : List Scan) (ts : List Taken) → AllByRecursion (TookNeed zones parts story) ks → AllZip (IsOpenAs zones parts) ks ts → All (HasRoomFor parts story) ts
  has_room ks ts took are = All-from_recursion (HasRoomFor parts story) ts (zip_each (TookNeed zones parts story) (IsOpenAs zones parts) (HasRoomFor parts story) ks ts room_for took are)

  taken_by : (k : Scan) (a b : Taken) → IsOpenAs zones parts k a → NotesAll parts story a b → IsTakenBy story k b
  taken_by k a b is noted = record {
    query = noted.query ∙ is.query;
    part = noted.part ∙ is.part;
    worker = noted.worker ∙ is.worker;
    chunks = noted.chunks ∙ ap (λ (l : List ℕ). l ++ chunks_delivered story (number_of parts a)) is.none ∙ ap (chunks_delivered story) (same_number k a is);
  }

  pub all_taken : (ks : List Scan) (ts us : List Taken) → AllZip (IsOpenAs zones parts) ks ts → AllZip (NotesAll parts story) ts us → AllZip (IsTakenBy story) ks us
  all_taken ks ts us are noted = zip_on (IsOpenAs zones parts) (NotesAll parts story) (IsTakenBy story) ks ts us taken_by are noted

-- ---- a list in which one place is written

any_default : {X : Type 0} (xs : List X) (i : ℕ) (d e : X) → i < length xs → get_or xs i d ≡ get_or xs i e
any_default [] i d e low = absurd (omega (arith, low))
any_default (x ∷ xs) zero d e low = refl
any_default (x ∷ xs) (suc i) d e low = any_default xs i d e (omega (arith, low))

module _ {X : Type 0} (R : X → X → Type 0) (old now : List X) (i : ℕ) (x y : X) (low : i < length now)
    (first : (k : ℕ) (d : X) → k < i → R (get_or old k d) (get_or now k d)) (others : (k : ℕ) (d : X) → i ≤ k → get_or now k d ≡ get_or old k d) where
  pub at_first : R (get_or now i x) y → (k : ℕ) (d : X) → k < i + 1 → R (get_or old k d) (get_or (set now i y) k d)
  at_first one k d below = elim (cases_eq k i) [
    | inl here ↦
        let From = λ (a : X). R a (get_or (set now i y) k d) in
        let To = λ (b : X). R (get_or now i x) b in
        let at : get_or now i x ≡ get_or old k d = any_default now i x d low ∙ ap (λ (n : ℕ). get_or now n d) (sym here) ∙ others k d (omega (arith, here)) in
        subst From at (subst To (sym (ap (λ (n : ℕ). get_or (set now i y) n d) here ∙ get_or-set_same now i y d low)) one)
    | inr other ↦ let To = λ (b : X). R (get_or old k d) b in subst To (sym (get_or-set_other now i k y d other)) (first k d (omega (arith, below, other)))
  ]

  pub at_others : (k : ℕ) (d : X) → i + 1 ≤ k → get_or (set now i y) k d ≡ get_or old k d
  at_others k d above = get_or-set_other now i k y d (λ e. omega (arith, e, above)) ∙ others k d (omega (arith, above))
