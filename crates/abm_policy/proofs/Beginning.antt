-- A load begins: evictions, and one fill after another.
use Rattle.std.proofs.Common.{◌≡◌, ◌<◌, ◌≤◌, ◌+◌, ◌∷◌, ◌++◌, ◌||◌, ◌==◌, [], ℕ, zero, suc, Bool, true, false, List, Option, Some, length, take, reverse, get_or, refl, sym, ◌∙◌, ap, subst, arith, append_assoc}
use Rattle.std.specs.List.{list_any}
use Rattle.std.proofs.lemmas.List.{reverse-append, length-reverse, map-append, append-nil, take_more}
use Rattle.scan_story.specs.declared.entry.Entry.{Entry}
use Rattle.scan_story.specs.declared.entry.Entry.TheVariants.{Evict, Fill}
use Rattle.scan_story.specs.declared.setting.Setting.{Setting}
use Rattle.scan_story.specs.declared.view.Load.{Load}
use Rattle.scan_story.specs.Counting.{has, count_below}
use Rattle.scan_story.specs.Setting.{IsSetting, HasRoom}
use Rattle.scan_story.specs.Views.{History, past}
use Rattle.scan_story.specs.Loads.{underway, is_free, free_frames}
use Rattle.scan_story.specs.MayFollow.{MayFill, MayEvict}
use Rattle.scan_story.specs.Legal.{Legal}
use Rattle.story_laws.specs.Lists.{NoneTwice}
use Rattle.story_laws.proofs.Bools.{or_right, other_number, self_number, not_both}
use Rattle.story_laws.proofs.Laws.{eviction_frees, fill_takes_one}
use Rattle.interest_book.specs.Firsts.{IsFirst}
use Rattle.abm_policy.specs.Loads.{load_at, pieces, evicts, fills, AddsEvicts, AreLeastFills, MayBegin}
use Rattle.abm_policy.proofs.Stories.{past_push}

-- Lists

pub has_at : (xs : List ℕ) (i : ℕ) → i < length xs → has xs (get_or xs i 0) ≡ true
has_at [] i lt = absurd (omega (arith, lt))
has_at (x ∷ xs) zero lt = ap (λ b. b || has xs x) (self_number x)
has_at (x ∷ xs) (suc i) lt = or_right (x == get_or xs i 0) (has xs (get_or xs i 0)) (has_at xs i (omega (arith, lt)))

apart_not : (xs : List ℕ) (x y : ℕ) → has xs x ≡ false → has xs y ≡ true → (x == y) ≡ false
apart_not xs x y out within = other_number x y (λ same. not_both (has xs y) within (ap (has xs) (sym same) ∙ out))

-- an element of a list without repetition isn't among those before it
pub new_at : (xs : List ℕ) (i : ℕ) → NoneTwice xs → i < length xs → has (take i xs) (get_or xs i 0) ≡ false
new_at [] i once lt = absurd (omega (arith, lt))
new_at (x ∷ xs) zero once lt = refl
new_at (x ∷ xs) (suc i) once lt =
    ap (λ b. b || has (take i xs) (get_or xs i 0)) (apart_not xs x (get_or xs i 0) once.0 (has_at xs i (omega (arith, lt)))) ∙ new_at xs i once.1 (omega (arith, lt))

pub any_append : {X : Type 0} (p : X → Bool) (xs ys : List X) → list_any p (xs ++ ys) ≡ (list_any p xs || list_any p ys)
any_append p [] ys = refl
any_append p (x ∷ xs) ys = ap (λ b. p x || b) (any_append p xs ys) ∙ assoc (p x) (list_any p xs) (list_any p ys)
  where
    assoc : (a b c : Bool) → (a || (b || c)) ≡ ((a || b) || c)
    assoc true b c = refl
    assoc false b c = refl

pub any_reverse : {X : Type 0} (p : X → Bool) (xs : List X) → list_any p (reverse xs) ≡ list_any p xs
any_reverse p [] = refl
any_reverse p (x ∷ xs) =
    ap (list_any p) (reverse-append (x ∷ []) xs) ∙ any_append p (reverse xs) (x ∷ []) ∙ ap (λ b. b || (p x || false)) (any_reverse p xs) ∙ swap (list_any p xs) (p x)
  where
    swap : (a b : Bool) → (a || (b || false)) ≡ (b || a)
    swap true true = refl
    swap true false = refl
    swap false true = refl
    swap false false = refl

pub any_pieces : (p : ℕ) (bs : List (ℕ × ℕ)) → list_any (λ b. b.1 == p) bs ≡ has (pieces bs) p
any_pieces p [] = refl
any_pieces p (b ∷ bs) = ap (λ t. b.1 == p || t) (any_pieces p bs)

-- Evictions

pub evict_more : (s : Setting) (es new : List Entry) (w c : ℕ) → IsSetting s → HasRoom s → Legal s (past es) → MayEvict s (past es) w c → new ≡ es ++ Evict w c ∷ [] → free_frames s (past es) < free_frames s (past new)
evict_more s es new w c ok room legal may added =
    let P : History → Type 0 = λ h. free_frames s (past es) < free_frames s h in
    subst P (sym (ap past added ∙ past_push es (Evict w c))) (eviction_frees s (past es) ok room legal w c may)

pub adds_one : (w c : ℕ) (old new : List Entry) → new ≡ old ++ Evict w c ∷ [] → AddsEvicts w old new
adds_one w c old new added = record { chunks = c ∷ []; added = added }

pub adds_none : (w : ℕ) (es : List Entry) → AddsEvicts w es es
adds_none w es = record { chunks = []; added = sym (append-nil es) }

pub adds_more : (w : ℕ) (a b d : List Entry) → AddsEvicts w a b → AddsEvicts w b d → AddsEvicts w a d
adds_more w a b d x y = record {
  chunks = x.chunks ++ y.chunks;
  added = y.added ∙ ap (λ (z : List Entry). z ++ evicts w y.chunks) x.added ∙ append_assoc a (evicts w x.chunks) (evicts w y.chunks) ∙ ap (λ (z : List Entry). a ++ z) (sym (map-append (Evict w) x.chunks y.chunks));
}

-- Fills

count_none : (p : ℕ → Bool) (n : ℕ) → ((k : ℕ) → k < n → p k ≡ false) → count_below p n ≡ 0
count_none p zero f = refl
count_none p (suc n) f = let e = f n (omega arith) in let r = count_none p n (λ k lt. f k (omega (arith, lt))) in rw (e, r) refl

-- while a piece is left, some frame is free
pub some_free : (s : Setting) (h : History) (w p : ℕ) → MayBegin (underway s h) (free_frames s h) w p → ((k : ℕ) → k < s.frames → is_free s h k ≡ false) → ⊥
some_free s h w p may none =
    let zero_free = count_none (is_free s h) s.frames none in
    let enough = may.enough in
    let left = may.left in
    omega (arith, zero_free, enough, left)

pub may_fill : (s : Setting) (h : History) (w f p : ℕ) → MayBegin (underway s h) (free_frames s h) w p → IsFirst (is_free s h) s.frames f → MayFill s h w f p
may_fill s h w f p may first = record {
  load = may.load;
  is_load = record { underway = may.is_load; by_worker = may.by_worker };
  enough = may.enough;
  frame = first.below;
  free = first.passes;
  piece = may.piece;
  not_begun = may.not_begun;
}

pub fill_leaves_free : (s : Setting) (es new : List Entry) (w f p : ℕ) → IsSetting s → HasRoom s → Legal s (past es) → MayFill s (past es) w f p → new ≡ es ++ Fill w f p ∷ [] → free_frames s (past es) ≤ free_frames s (past new) + 1
fill_leaves_free s es new w f p ok room legal may added =
    let P : History → Type 0 = λ h. free_frames s (past es) ≤ free_frames s h + 1 in
    subst P (sym (ap past added ∙ past_push es (Fill w f p))) (fill_takes_one s (past es) ok room legal w f p may)

-- the next piece may be begun
pub may_begin : (u : Option Load) (free w q c i : ℕ) (missing : List ℕ) (slots : List (ℕ × ℕ)) → u ≡ Some (load_at w q c missing slots []) → NoneTwice missing → i < length missing
    → pieces slots ≡ take i missing → length slots ≡ i → length missing ≤ free + i → MayBegin u free w (get_or missing i 0)
may_begin u free w q c i missing slots is once lt same count enough =
    let long = length-reverse slots in
    record {
      load = load_at w q c missing slots [];
      is_load = is;
      by_worker = refl;
      enough = omega (arith, long, count, enough);
      left = omega (arith, long, count, lt);
      piece = has_at missing i lt;
      not_begun = any_reverse (λ b. b.1 == get_or missing i 0) slots ∙ any_pieces (get_or missing i 0) slots ∙ ap (λ xs. has xs (get_or missing i 0)) same ∙ new_at missing i once lt;
    }

-- the history after these fills
abbrev after_fills : ℕ → List (ℕ × ℕ) → History → History
after_fills w [] h = h
after_fills w (b ∷ bs) h = after_fills w bs (Fill w b.0 b.1 ∷ h)

past_fills : (w : ℕ) (es : List Entry) (bs : List (ℕ × ℕ)) → past (es ++ fills w bs) ≡ after_fills w bs (past es)
past_fills w es [] = ap past (append-nil es)
past_fills w es (b ∷ bs) =
    ap past (sym (append_assoc es (Fill w b.0 b.1 ∷ []) (fills w bs))) ∙ past_fills w (es ++ Fill w b.0 b.1 ∷ []) bs ∙ ap (after_fills w bs) (past_push es (Fill w b.0 b.1))

least_after : (s : Setting) (h : History) (w f p : ℕ) (bs : List (ℕ × ℕ)) → AreLeastFills s h w bs → IsFirst (is_free s (after_fills w bs h)) s.frames f → AreLeastFills s h w (bs ++ (f, p) ∷ [])
least_after s h w f p [] l first = (first, tt)
least_after s h w f p (b ∷ bs) l first = (l.0, least_after s (Fill w b.0 b.1 ∷ h) w f p bs l.1 first)

pub least_more : (s : Setting) (old es : List Entry) (w f p : ℕ) (bs : List (ℕ × ℕ)) → AreLeastFills s (past old) w bs → es ≡ old ++ fills w bs → IsFirst (is_free s (past es)) s.frames f → AreLeastFills s (past old) w (bs ++ (f, p) ∷ [])
least_more s old es w f p bs l added first =
    let P : History → Type 0 = λ h. IsFirst (is_free s h) s.frames f in
    least_after s (past old) w f p bs l (subst P (ap past added ∙ past_fills w old bs) first)

pub fills_more : (w f p : ℕ) (old es new : List Entry) (bs : List (ℕ × ℕ)) → es ≡ old ++ fills w bs → new ≡ es ++ Fill w f p ∷ [] → new ≡ old ++ fills w (bs ++ (f, p) ∷ [])
fills_more w f p old es new bs e f' =
    f' ∙ ap (λ (x : List Entry). x ++ Fill w f p ∷ []) e ∙ append_assoc old (fills w bs) (Fill w f p ∷ []) ∙ ap (λ (x : List Entry). old ++ x) (sym (map-append (λ (b : ℕ × ℕ). Fill w b.0 b.1) bs ((f, p) ∷ [])))

pub pieces_more : (i f p : ℕ) (missing : List ℕ) (bs : List (ℕ × ℕ)) → i < length missing → pieces bs ≡ take i missing → p ≡ get_or missing i 0 → pieces (bs ++ (f, p) ∷ []) ≡ take (i + 1) missing
pieces_more i f p missing bs lt same is =
    map-append (λ (b : ℕ × ℕ). b.1) bs ((f, p) ∷ []) ∙ ap (λ (x : List ℕ). x ++ p ∷ []) same ∙ ap (λ y. take i missing ++ y ∷ []) is ∙ sym (take_more missing i 0 lt)

pub load_more : (w q c f p : ℕ) (missing : List ℕ) (bs : List (ℕ × ℕ)) → Some (load_at w q c missing (bs ++ (f, p) ∷ []) []) ≡ Some (record { worker = w; query = q; chunk = c; missing = missing; begun = (f, p) ∷ reverse bs; filled = [] })
load_more w q c f p missing bs = ap (λ (x : List (ℕ × ℕ)). Some (record { worker = w; query = q; chunk = c; missing = missing; begun = x; filled = [] })) (reverse-append bs ((f, p) ∷ []))
