-- A load ends: one filled piece after another, and the last one, or a failed one.
use Rattle.std.proofs.Common.{◌≡◌, ◌<◌, ◌+◌, ◌∷◌, ◌++◌, ◌||◌, ◌&&◌, ◌==◌, [], not, ℕ, zero, suc, Bool, true, false, List, Option, None, Some, length, take, reverse, get_or, refl, sym, ◌∙◌, ap, arith, append_assoc, if◌then◌else◌}
use Rattle.std.specs.List.{list_any, list_all}
use Rattle.std.specs.Option.{option_map}
use Rattle.std.proofs.lemmas.List.{reverse-append, map-append, take_more, take_all}
use Rattle.scan_story.specs.declared.entry.Why.{Why}
use Rattle.scan_story.specs.declared.entry.Entry.{Entry}
use Rattle.scan_story.specs.declared.entry.Entry.TheVariants.{Filled}
use Rattle.scan_story.specs.declared.origin.Start.{Start}
use Rattle.scan_story.specs.declared.setting.Setting.{Setting}
use Rattle.scan_story.specs.declared.view.Load.{Load}
use Rattle.scan_story.specs.Counting.{has}
use Rattle.scan_story.specs.Views.{History}
use Rattle.scan_story.specs.Loads.{underway, end_fill, if_open}
use Rattle.scan_story.specs.MayFollow.{MayFilled, MayFail}
use Rattle.story_laws.specs.Lists.{NoneTwice}
use Rattle.story_laws.proofs.Bools.{or_right, self_number}
use Rattle.story_laws.proofs.Proper.{begins_of}
use Rattle.abm_policy.specs.Depots.{MayReport}
use Rattle.abm_policy.specs.Loads.{load_at, pieces, all_filled, MayFinish}
use Rattle.abm_policy.proofs.Faults.{reason_of}
use Rattle.abm_policy.proofs.Beginning.{any_append, any_reverse, any_pieces, new_at}

-- Entries

pub may_filled : (s : Setting) (h : History) (w f p : ℕ) (b : Bool) → MayFinish (underway s h) w f p b → MayFilled s h w f p
may_filled s h w f p b may = record {
  load = may.load;
  is_load = record { underway = may.is_load; by_worker = may.by_worker };
  begun = may.begun;
  not_filled = may.not_filled;
  all_begun = may.all_begun;
}

pub stays_open : (s : Setting) (h : History) (w f p : ℕ) → MayFinish (underway s h) w f p true → underway s (Filled w f p ∷ h) ≡ option_map (end_fill p) (underway s h)
stays_open s h w f p may =
    ap (λ u. if_open (option_map (end_fill p) u)) may.is_load ∙ ap (λ b. if b then Some (end_fill p may.load) else None) may.after ∙ sym (ap (option_map (end_fill p)) may.is_load)

pub closes : (s : Setting) (h : History) (w f p : ℕ) → MayFinish (underway s h) w f p false → underway s (Filled w f p ∷ h) ≡ None
closes s h w f p may =
    ap (λ u. if_open (option_map (end_fill p) u)) may.is_load ∙ ap (λ b. if b then Some (end_fill p may.load) else None) may.after

pub may_fail : (o : Start) (h : History) (w q f p now : ℕ) (b : Bool) (why : Why) → MayFinish (underway o.setting h) w f p b → ((l : Load) → underway o.setting h ≡ Some l → l.query ≡ q) → MayReport o h now why → MayFail o.setting h w q p why
may_fail o h w q f p now b why may query report = record {
  load = may.load;
  is_load = record { underway = may.is_load; by_worker = may.by_worker };
  for_query = query may.load may.is_load;
  begun = begins_of may.load.begun f p may.begun;
  not_filled = may.not_filled;
  all_begun = may.all_begun;
  reason = reason_of o h now why report;
}

-- Which fills may be recorded

any_same : (p q : ℕ → Bool) (xs : List ℕ) → ((x : ℕ) → p x ≡ q x) → list_any p xs ≡ list_any q xs
any_same p q [] f = refl
any_same p q (x ∷ xs) f = rw (f x, any_same p q xs f) refl

any_at : (p : ℕ → Bool) (xs : List ℕ) (i : ℕ) → i < length xs → p (get_or xs i 0) ≡ true → list_any p xs ≡ true
any_at p [] i lt e = absurd (omega (arith, lt))
any_at p (x ∷ xs) zero lt e = ap (λ b. b || list_any p xs) e
any_at p (x ∷ xs) (suc i) lt e = or_right (p x) (list_any p xs) (any_at p xs i (omega (arith, lt)) e)

pair_at : (bs : List (ℕ × ℕ)) (i : ℕ) → i < length bs → list_any (λ b. b.0 == (get_or bs i (0, 0)).0 && b.1 == (get_or bs i (0, 0)).1) bs ≡ true
pair_at [] i lt = absurd (omega (arith, lt))
pair_at (b ∷ bs) zero lt = let e : (b.0 == b.0 && b.1 == b.1) ≡ true = rw (self_number b.0, self_number b.1) refl in ap (λ t. t || list_any (λ x. x.0 == b.0 && x.1 == b.1) bs) e
pair_at (b ∷ bs) (suc i) lt = or_right (b.0 == (get_or bs i (0, 0)).0 && b.1 == (get_or bs i (0, 0)).1) (list_any (λ x. x.0 == (get_or bs i (0, 0)).0 && x.1 == (get_or bs i (0, 0)).1) bs) (pair_at bs i (omega (arith, lt)))

-- the pieces that were filled are the first ones
has_done : (ps : List ℕ) (i x : ℕ) → i < length ps → has (get_or ps i 0 ∷ reverse (take i ps)) x ≡ has (take (i + 1) ps) x
has_done ps i x lt =
    ap (λ b. get_or ps i 0 == x || b) (any_reverse (λ y. y == x) (take i ps)) ∙ swap (get_or ps i 0 == x) (has (take i ps) x)
    ∙ sym (any_append (λ y. y == x) (take i ps) (get_or ps i 0 ∷ [])) ∙ ap (λ ys. has ys x) (sym (take_more ps i 0 lt))
  where
    swap : (a b : Bool) → (a || b) ≡ (b || (a || false))
    swap true true = refl
    swap true false = refl
    swap false true = refl
    swap false false = refl

all_in : (t : ℕ → Bool) (ps : List ℕ) → ((x : ℕ) → has ps x ≡ true → t x ≡ true) → list_all t ps ≡ true
all_in t [] f = refl
all_in t (p ∷ ps) f = rw (f p (ap (λ b. b || has ps p) (self_number p)), all_in t ps (λ x e. f x (or_right (p == x) (has ps x) e))) refl

none_out : (t : ℕ → Bool) (ps : List ℕ) → ((x : ℕ) → has ps x ≡ true → t x ≡ true) → list_any (λ x. not (t x)) ps ≡ false
none_out t [] f = refl
none_out t (p ∷ ps) f = rw (f p (ap (λ b. b || has ps p) (self_number p)), none_out t ps (λ x e. f x (or_right (p == x) (has ps x) e))) refl

pieces_at : (bs : List (ℕ × ℕ)) (i : ℕ) → get_or (pieces bs) i 0 ≡ (get_or bs i (0, 0)).1
pieces_at [] i = refl
pieces_at (b ∷ bs) zero = refl
pieces_at (b ∷ bs) (suc i) = pieces_at bs i

pub length_pieces : (bs : List (ℕ × ℕ)) → length (pieces bs) ≡ length bs
length_pieces [] = refl
length_pieces (b ∷ bs) = let e = length_pieces bs in omega (arith, e)

-- the fill of slot i may be recorded, where those before it were
may_finish : (u : Option Load) (w q c i : ℕ) (bs : List (ℕ × ℕ)) (b : Bool) → u ≡ Some (load_at w q c (pieces bs) bs (take i (pieces bs))) → NoneTwice (pieces bs) → i < length bs
    → list_any (λ x. not (has (get_or (pieces bs) i 0 ∷ reverse (take i (pieces bs))) x)) (pieces bs) ≡ b → MayFinish u w (get_or bs i (0, 0)).0 (get_or bs i (0, 0)).1 b
may_finish u w q c i bs b is once lt after =
    let p = (get_or bs i (0, 0)).1 in
    let long = length_pieces bs in
    let lt' : i < length (pieces bs) = omega (arith, long, lt) in
    let at : get_or (pieces bs) i 0 ≡ p = pieces_at bs i in
    record {
      load = load_at w q c (pieces bs) bs (take i (pieces bs));
      is_load = is;
      by_worker = refl;
      begun = any_reverse (λ x. x.0 == (get_or bs i (0, 0)).0 && x.1 == p) bs ∙ pair_at bs i lt;
      not_filled = any_reverse (λ y. y == p) (take i (pieces bs)) ∙ ap (λ x. has (take i (pieces bs)) x) (sym at) ∙ new_at (pieces bs) i once lt';
      all_begun = all_in (λ x. list_any (λ y. y.1 == x) (reverse bs)) (pieces bs) (λ x e. any_reverse (λ y. y.1 == x) bs ∙ any_pieces x bs ∙ e);
      after = ap (λ z. list_any (λ x. not (has (z ∷ reverse (take i (pieces bs))) x)) (pieces bs)) (sym at) ∙ after;
    }

-- before the last slot, the load stays open
pub may_go_on : (u : Option Load) (w q c i : ℕ) (bs : List (ℕ × ℕ)) → u ≡ Some (load_at w q c (pieces bs) bs (take i (pieces bs))) → NoneTwice (pieces bs) → i + 1 < length bs
    → MayFinish u w (get_or bs i (0, 0)).0 (get_or bs i (0, 0)).1 true
may_go_on u w q c i bs is once lt =
    let long = length_pieces bs in
    let lt' : i + 1 < length (pieces bs) = omega (arith, long, lt) in
    may_finish u w q c i bs true is once (omega (arith, lt))
    (any_same (λ x. not (has (get_or (pieces bs) i 0 ∷ reverse (take i (pieces bs))) x)) (λ x. not (has (take (i + 1) (pieces bs)) x)) (pieces bs) (λ x. ap not (has_done (pieces bs) i x (omega (arith, lt'))))
    ∙ any_at (λ x. not (has (take (i + 1) (pieces bs)) x)) (pieces bs) (i + 1) lt' (ap not (new_at (pieces bs) (i + 1) once lt')))

-- at the last slot, it closes
pub may_close : (u : Option Load) (w q c i : ℕ) (bs : List (ℕ × ℕ)) → u ≡ Some (load_at w q c (pieces bs) bs (take i (pieces bs))) → NoneTwice (pieces bs) → i + 1 ≡ length bs
    → MayFinish u w (get_or bs i (0, 0)).0 (get_or bs i (0, 0)).1 false
may_close u w q c i bs is once last =
    let long = length_pieces bs in
    let lt' : i < length (pieces bs) = omega (arith, long, last) in
    let whole : take (i + 1) (pieces bs) ≡ pieces bs = take_all (i + 1) (pieces bs) (omega (arith, long, last)) in
    may_finish u w q c i bs false is once (omega (arith, last))
    (any_same (λ x. not (has (get_or (pieces bs) i 0 ∷ reverse (take i (pieces bs))) x)) (λ x. not (has (pieces bs) x)) (pieces bs)
    (λ x. ap not (has_done (pieces bs) i x lt' ∙ ap (λ ys. has ys x) whole))
    ∙ none_out (has (pieces bs)) (pieces bs) (λ x e. e))

-- at any slot, the load may fail
pub may_stop : (u : Option Load) (w q c i : ℕ) (bs : List (ℕ × ℕ)) → u ≡ Some (load_at w q c (pieces bs) bs (take i (pieces bs))) → NoneTwice (pieces bs) → i < length bs
    → (b : Bool) × MayFinish u w (get_or bs i (0, 0)).0 (get_or bs i (0, 0)).1 b
may_stop u w q c i bs is once lt =
    let b = list_any (λ x. not (has (get_or (pieces bs) i 0 ∷ reverse (take i (pieces bs))) x)) (pieces bs) in (b, may_finish u w q c i bs b is once lt refl)

-- One slot more

pub filled_more : (w f p i : ℕ) (old es new : List Entry) (bs : List (ℕ × ℕ)) → i < length bs → es ≡ old ++ all_filled w (take i bs) → new ≡ es ++ Filled w f p ∷ [] → (f, p) ≡ get_or bs i (0, 0) → new ≡ old ++ all_filled w (take (i + 1) bs)
filled_more w f p i old es new bs lt e f' at =
    f' ∙ ap (λ (x : List Entry). x ++ Filled w f p ∷ []) e ∙ append_assoc old (all_filled w (take i bs)) (Filled w f p ∷ [])
    ∙ ap (λ (x : List Entry). old ++ x) (sym (map-append (λ (b : ℕ × ℕ). Filled w b.0 b.1) (take i bs) ((f, p) ∷ [])) ∙ ap (all_filled w) (ap (λ (b : ℕ × ℕ). take i bs ++ b ∷ []) at ∙ sym (take_more bs i (0, 0) lt)))

pub filled_last : (w f p i : ℕ) (old es new : List Entry) (bs : List (ℕ × ℕ)) → i + 1 ≡ length bs → es ≡ old ++ all_filled w (take i bs) → new ≡ es ++ Filled w f p ∷ [] → (f, p) ≡ get_or bs i (0, 0) → new ≡ old ++ all_filled w bs
filled_last w f p i old es new bs last e f' at =
    filled_more w f p i old es new bs (omega (arith, last)) e f' at ∙ ap (λ (x : List (ℕ × ℕ)). old ++ all_filled w x) (take_all (i + 1) bs (omega (arith, last)))

pub load_filled : (w q c i p : ℕ) (bs : List (ℕ × ℕ)) → i < length bs → p ≡ (get_or bs i (0, 0)).1 → end_fill p (load_at w q c (pieces bs) bs (take i (pieces bs))) ≡ load_at w q c (pieces bs) bs (take (i + 1) (pieces bs))
load_filled w q c i p bs lt at =
    let e : p ≡ get_or (pieces bs) i 0 = at ∙ sym (pieces_at bs i) in
    let long = length_pieces bs in
    ap (λ (x : List ℕ). record { worker = w; query = q; chunk = c; missing = pieces bs; begun = reverse bs; filled = x })
    (sym (reverse-append (take i (pieces bs)) (p ∷ [])) ∙ ap reverse (ap (λ y. take i (pieces bs) ++ y ∷ []) e ∙ sym (take_more (pieces bs) i 0 (omega (arith, long, lt)))))
