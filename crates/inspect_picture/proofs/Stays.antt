-- The bars of a story are the stays of its pieces.
use Rattle.std.proofs.Common.{◌≡◌, ◌≤◌, ◌<◌, ◌+◌, ◌/◌, ◌==◌, ◌&&◌, ◌++◌, ℕ, zero, suc, Bool, true, false, nat_lt, nat_le, List, [], ◌∷◌, length, take, refl, ◌∙◌, sym, ap, subst, arith, append_assoc, lt-ltb, le-ltb, le-leb, leb-true, eq-eqb, eqb-true}
use Rattle.std.specs.Prelude.{Option, None, Some, reverse, if◌then◌else◌}
use Rattle.std.specs.List.{AllByRecursion}
use Rattle.std.proofs.lemmas.List.{reverse-append, append-nil}
use Rattle.scan_story.specs.declared.setting.Setting.{Setting}
use Rattle.scan_story.specs.declared.entry.Entry.{Entry}
use Rattle.scan_story.specs.declared.entry.Entry.TheVariants.{Register, Plan, Evict, Fill, Filled, Failed, Deliver, Release, Stop, End}
use Rattle.scan_story.specs.Views.{past, piece_in, kept_from}
use Rattle.inspect_picture.specs.declared.bar.Bar.{Bar}
use Rattle.inspect_picture.specs.declared.bar.Ended.TheVariants.{Evicted, Refilled, Story}
use Rattle.inspect_picture.specs.Marks.{bar, bar_of, bars, bars_in, marks_from}
use Rattle.inspect_picture.specs.Over.{pieces_over, listed}

-- What is in a frame, entry by entry from the oldest on

abbrev step : Setting → ℕ → Entry → Option ℕ → Option ℕ
step s f (Register w q) o = o
step s f (Plan w q c) o = o
step s f (Evict w c) o = kept_from s c o
step s f (Fill w g p) o = if g == f then None else o
step s f (Filled w g p) o = if g == f then Some p else o
step s f (Failed w q p why) o = o
step s f (Deliver w q c) o = o
step s f (Release w q c) o = o
step s f (Stop w q) o = o
step s f (End w q) o = o

abbrev run : Setting → ℕ → Option ℕ → List Entry → Option ℕ
run s f o [] = o
run s f o (e ∷ es) = run s f (step s f e o) es

piece_step : (s : Setting) (f : ℕ) (e : Entry) (h : List Entry) → piece_in s (e ∷ h) f ≡ step s f e (piece_in s h f)
piece_step s f (Register w q) h = refl
piece_step s f (Plan w q c) h = refl
piece_step s f (Evict w c) h = refl
piece_step s f (Fill w g p) h = refl
piece_step s f (Filled w g p) h = refl
piece_step s f (Failed w q p why) h = refl
piece_step s f (Deliver w q c) h = refl
piece_step s f (Release w q c) h = refl
piece_step s f (Stop w q) h = refl
piece_step s f (End w q) h = refl

piece_behind : (s : Setting) (f : ℕ) (es h : List Entry) → piece_in s (reverse es ++ h) f ≡ run s f (piece_in s h f) es
piece_behind s f [] h = refl
piece_behind s f (e ∷ es) h =
    ap (λ t. piece_in s (t ++ h) f) (reverse-append (e ∷ []) es)
    ∙ ap (λ t. piece_in s t f) (append_assoc (reverse es) (e ∷ []) h)
    ∙ piece_behind s f es (e ∷ h)
    ∙ ap (λ o. run s f o es) (piece_step s f e h)

piece_run : (s : Setting) (f : ℕ) (es : List Entry) → piece_in s (past es) f ≡ run s f None es
piece_run s f es = ap (λ t. piece_in s t f) (sym (append-nil (reverse es))) ∙ piece_behind s f es []

-- Bars

-- a bar is of its frame and piece, begins where it was begun, and doesn't end before the entries that were looked at
record Begun (f p a i : ℕ) (b : Bar) : Type 0 where
  frame : b.frame ≡ f
  piece : b.piece ≡ p
  first : b.first ≡ a
  last : i ≤ b.last

later : (f p a i : ℕ) (b : Bar) → Begun f p a (suc i) b → Begun f p a i b
later f p a i b by = record { frame = by.frame; piece = by.piece; first = by.first; last = omega (arith, by.last) }

either : (f p a i : ℕ) (t : Bool) (b c : Bar) → Begun f p a i b → Begun f p a i c → Begun f p a i (if t then b else c)
either f p a i true b c x y = x
either f p a i false b c x y = y

ends_here : (f p a i : ℕ) (b : Bar) → b.frame ≡ f → b.piece ≡ p → b.first ≡ a → b.last ≡ i → Begun f p a i b
ends_here f p a i b x y z w = record { frame = x; piece = y; first = z; last = omega (arith, w) }

begun : (groups f p a i : ℕ) (es : List Entry) → Begun f p a i (bar_of groups f p a i es)
begun groups f p a i [] = ends_here f p a i (bar f p a i Story) refl refl refl refl
begun groups f p a i (Evict w c ∷ es) =
    either f p a i (c == p / groups) (bar f p a i Evicted) (bar_of groups f p a (suc i) es) (ends_here f p a i (bar f p a i Evicted) refl refl refl refl)
    (later f p a i (bar_of groups f p a (suc i) es) (begun groups f p a (suc i) es))
begun groups f p a i (Fill w g q ∷ es) =
    either f p a i (g == f) (bar f p a i Refilled) (bar_of groups f p a (suc i) es) (ends_here f p a i (bar f p a i Refilled) refl refl refl refl)
    (later f p a i (bar_of groups f p a (suc i) es) (begun groups f p a (suc i) es))
begun groups f p a i (Filled w g q ∷ es) =
    either f p a i (g == f) (bar f p a i Refilled) (bar_of groups f p a (suc i) es) (ends_here f p a i (bar f p a i Refilled) refl refl refl refl)
    (later f p a i (bar_of groups f p a (suc i) es) (begun groups f p a (suc i) es))
begun groups f p a i (Register w q ∷ es) = later f p a i (bar_of groups f p a (suc i) es) (begun groups f p a (suc i) es)
begun groups f p a i (Plan w q c ∷ es) = later f p a i (bar_of groups f p a (suc i) es) (begun groups f p a (suc i) es)
begun groups f p a i (Failed w q r why ∷ es) = later f p a i (bar_of groups f p a (suc i) es) (begun groups f p a (suc i) es)
begun groups f p a i (Deliver w q c ∷ es) = later f p a i (bar_of groups f p a (suc i) es) (begun groups f p a (suc i) es)
begun groups f p a i (Release w q c ∷ es) = later f p a i (bar_of groups f p a (suc i) es) (begun groups f p a (suc i) es)
begun groups f p a i (Stop w q ∷ es) = later f p a i (bar_of groups f p a (suc i) es) (begun groups f p a (suc i) es)
begun groups f p a i (End w q ∷ es) = later f p a i (bar_of groups f p a (suc i) es) (begun groups f p a (suc i) es)

-- While a stay lasts, its piece is in the frame, which would be empty without it; behind it all is as if it had not been

abbrev Lasts : Bool → ℕ → Option ℕ → Option ℕ → Type 0
Lasts true p with without = (with ≡ Some p) × (without ≡ None)
Lasts false p with without = with ≡ without

at_once : (groups f p a i : ℕ) (es : List Entry) → Lasts (nat_lt (i + zero) (bar_of groups f p a (suc i) es).last) p (Some p) None
at_once groups f p a i es =
    let t : nat_lt (i + zero) (bar_of groups f p a (suc i) es).last ≡ true =
    lt-ltb (i + zero) (bar_of groups f p a (suc i) es).last (omega (arith, (begun groups f p a (suc i) es).last)) in
    subst (λ (b : Bool). Lasts b p (Some p) None) (sym t) (refl, refl)

moved : (p i j last : ℕ) (with without : Option ℕ) → Lasts (nat_lt (suc i + j) last) p with without → Lasts (nat_lt (i + suc j) last) p with without
moved p i j last with without l = let e : suc i + j ≡ i + suc j = omega arith in subst (λ k. Lasts (nat_lt k last) p with without) e l

-- a stay that ended leaves no trace
gone : (p i j : ℕ) (o : Option ℕ) → Lasts (nat_lt (i + suc j) (suc i)) p o o
gone p i j o = let t : nat_lt (i + suc j) (suc i) ≡ false = le-ltb (i + suc j) (suc i) (omega arith) in subst (λ (b : Bool). Lasts b p o o) (sym t) refl

flip : (a b : ℕ) → (a == b) ≡ (b == a)
flip a b = grind arith

stay_lasts : (s : Setting) (f p a i j : ℕ) (es : List Entry) → j ≤ length es
    → Lasts (nat_lt (i + j) (bar_of s.groups f p a (suc i) es).last) p (run s f (Some p) (take j es)) (run s f None (take j es))
stay_lasts s f p a i zero [] le = at_once s.groups f p a i []
stay_lasts s f p a i (suc j) [] le = absurd (omega (arith, le))
stay_lasts s f p a i zero (e ∷ es) le = at_once s.groups f p a i (e ∷ es)
stay_lasts s f p a i (suc j) (Evict w c ∷ es) le =
    at (c == p / s.groups) (p / s.groups == c) (flip (p / s.groups) c)
    (moved p i j (bar_of s.groups f p a (suc (suc i)) es).last (run s f (Some p) (take j es)) (run s f None (take j es)) (stay_lasts s f p a (suc i) j es (omega (arith, le))))
  where
    at : (t u : Bool) → u ≡ t → Lasts (nat_lt (i + suc j) (bar_of s.groups f p a (suc (suc i)) es).last) p (run s f (Some p) (take j es)) (run s f None (take j es))
        → Lasts (nat_lt (i + suc j) (if t then bar f p a (suc i) Evicted else bar_of s.groups f p a (suc (suc i)) es).last) p
        (run s f (if u then None else Some p) (take j es)) (run s f None (take j es))
    at true true e again = gone p i j (run s f None (take j es))
    at false false e again = again
    at true false e again = absurd cc
    at false true e again = absurd cc
stay_lasts s f p a i (suc j) (Fill w g q ∷ es) le =
    at (g == f)
    (moved p i j (bar_of s.groups f p a (suc (suc i)) es).last (run s f (Some p) (take j es)) (run s f None (take j es)) (stay_lasts s f p a (suc i) j es (omega (arith, le))))
  where
    at : (t : Bool) → Lasts (nat_lt (i + suc j) (bar_of s.groups f p a (suc (suc i)) es).last) p (run s f (Some p) (take j es)) (run s f None (take j es))
        → Lasts (nat_lt (i + suc j) (if t then bar f p a (suc i) Refilled else bar_of s.groups f p a (suc (suc i)) es).last) p
        (run s f (if t then None else Some p) (take j es)) (run s f (if t then None else None) (take j es))
    at true again = gone p i j (run s f None (take j es))
    at false again = again
stay_lasts s f p a i (suc j) (Filled w g q ∷ es) le =
    at (g == f)
    (moved p i j (bar_of s.groups f p a (suc (suc i)) es).last (run s f (Some p) (take j es)) (run s f None (take j es)) (stay_lasts s f p a (suc i) j es (omega (arith, le))))
  where
    at : (t : Bool) → Lasts (nat_lt (i + suc j) (bar_of s.groups f p a (suc (suc i)) es).last) p (run s f (Some p) (take j es)) (run s f None (take j es))
        → Lasts (nat_lt (i + suc j) (if t then bar f p a (suc i) Refilled else bar_of s.groups f p a (suc (suc i)) es).last) p
        (run s f (if t then Some q else Some p) (take j es)) (run s f (if t then Some q else None) (take j es))
    at true again = gone p i j (run s f (Some q) (take j es))
    at false again = again
stay_lasts s f p a i (suc j) (Register w q ∷ es) le =
    moved p i j (bar_of s.groups f p a (suc (suc i)) es).last (run s f (Some p) (take j es)) (run s f None (take j es)) (stay_lasts s f p a (suc i) j es (omega (arith, le)))
stay_lasts s f p a i (suc j) (Plan w q c ∷ es) le =
    moved p i j (bar_of s.groups f p a (suc (suc i)) es).last (run s f (Some p) (take j es)) (run s f None (take j es)) (stay_lasts s f p a (suc i) j es (omega (arith, le)))
stay_lasts s f p a i (suc j) (Failed w q r why ∷ es) le =
    moved p i j (bar_of s.groups f p a (suc (suc i)) es).last (run s f (Some p) (take j es)) (run s f None (take j es)) (stay_lasts s f p a (suc i) j es (omega (arith, le)))
stay_lasts s f p a i (suc j) (Deliver w q c ∷ es) le =
    moved p i j (bar_of s.groups f p a (suc (suc i)) es).last (run s f (Some p) (take j es)) (run s f None (take j es)) (stay_lasts s f p a (suc i) j es (omega (arith, le)))
stay_lasts s f p a i (suc j) (Release w q c ∷ es) le =
    moved p i j (bar_of s.groups f p a (suc (suc i)) es).last (run s f (Some p) (take j es)) (run s f None (take j es)) (stay_lasts s f p a (suc i) j es (omega (arith, le)))
stay_lasts s f p a i (suc j) (Stop w q ∷ es) le =
    moved p i j (bar_of s.groups f p a (suc (suc i)) es).last (run s f (Some p) (take j es)) (run s f None (take j es)) (stay_lasts s f p a (suc i) j es (omega (arith, le)))
stay_lasts s f p a i (suc j) (End w q ∷ es) le =
    moved p i j (bar_of s.groups f p a (suc (suc i)) es).last (run s f (Some p) (take j es)) (run s f None (take j es)) (stay_lasts s f p a (suc i) j es (omega (arith, le)))

-- The pieces whose bars are over a moment

not_le : (a k : ℕ) → k < a → nat_le a k ≡ false
not_le a k lt = at (nat_le a k) refl
  where
    at : (t : Bool) → nat_le a k ≡ t → t ≡ false
    at true e = absurd (omega (arith, lt, leb-true a k e))
    at false e = refl

-- a bar that begins later is not over it
not_yet : (f k : ℕ) (b : Bar) (bs : List Bar) → k < b.first → pieces_over f k (b ∷ bs) ≡ pieces_over f k bs
not_yet f k b bs lt = let t : nat_le b.first k ≡ false = not_le b.first k lt in at (b.frame == f) (nat_le b.first k) t
  where
    at : (x y : Bool) → y ≡ false → (if x && y && nat_lt k b.last then b.piece ∷ pieces_over f k bs else pieces_over f k bs) ≡ pieces_over f k bs
    at true true e = absurd cc
    at false y e = refl
    at true false e = refl

none_before : (groups f k i : ℕ) (es : List Entry) → k < i → pieces_over f k (bars_in (marks_from groups i es)) ≡ []
none_before groups f k i [] lt = refl
none_before groups f k i (Filled w g p ∷ es) lt =
    not_yet f k (bar_of groups g p i (suc i) es) (bars_in (marks_from groups (suc i) es)) (omega (arith, lt, (begun groups g p i (suc i) es).first))
    ∙ none_before groups f k (suc i) es (omega (arith, lt))
none_before groups f k i (Register w q ∷ es) lt = none_before groups f k (suc i) es (omega (arith, lt))
none_before groups f k i (Plan w q c ∷ es) lt = none_before groups f k (suc i) es (omega (arith, lt))
none_before groups f k i (Evict w c ∷ es) lt = none_before groups f k (suc i) es (omega (arith, lt))
none_before groups f k i (Fill w g p ∷ es) lt = none_before groups f k (suc i) es (omega (arith, lt))
none_before groups f k i (Failed w q p why ∷ es) lt = none_before groups f k (suc i) es (omega (arith, lt))
none_before groups f k i (Deliver w q c ∷ es) lt = none_before groups f k (suc i) es (omega (arith, lt))
none_before groups f k i (Release w q c ∷ es) lt = none_before groups f k (suc i) es (omega (arith, lt))
none_before groups f k i (Stop w q ∷ es) lt = none_before groups f k (suc i) es (omega (arith, lt))
none_before groups f k i (End w q ∷ es) lt = none_before groups f k (suc i) es (omega (arith, lt))

-- a bar that has begun is over it where it lasts and its frame is this
in_lane : (f k : ℕ) (b : Bar) (bs : List Bar) (with without : Option ℕ) → b.first ≤ k → b.frame ≡ f
    → Lasts (nat_lt k b.last) b.piece with without → pieces_over f k bs ≡ listed without → pieces_over f k (b ∷ bs) ≡ listed with
in_lane f k b bs with without le same lasts rest =
    let x : (b.frame == f) ≡ true = eq-eqb b.frame f same in
    let y : nat_le b.first k ≡ true = le-leb b.first k le in
    at (b.frame == f) (nat_le b.first k) (nat_lt k b.last) x y lasts
  where
    at : (x y z : Bool) → x ≡ true → y ≡ true → Lasts z b.piece with without → (if x && y && z then b.piece ∷ pieces_over f k bs else pieces_over f k bs) ≡ listed with
    at true true true e d l = ap (λ t. b.piece ∷ t) (rest ∙ ap listed l.1) ∙ sym (ap listed l.0)
    at true true false e d l = rest ∙ sym (ap listed l)
    at true false z e d l = absurd cc
    at false y z e d l = absurd cc

other_lane : (f k : ℕ) (b : Bar) (bs : List Bar) → (b.frame == f) ≡ false → pieces_over f k (b ∷ bs) ≡ pieces_over f k bs
other_lane f k b bs e = at (b.frame == f) e
  where
    at : (x : Bool) → x ≡ false → (if x && nat_le b.first k && nat_lt k b.last then b.piece ∷ pieces_over f k bs else pieces_over f k bs) ≡ pieces_over f k bs
    at true e = absurd cc
    at false e = refl

over_moved : (f i j : ℕ) (bs : List Bar) (o : List ℕ) → pieces_over f (suc i + j) bs ≡ o → pieces_over f (i + suc j) bs ≡ o
over_moved f i j bs o l = let e : suc i + j ≡ i + suc j = omega arith in subst (λ k. pieces_over f k bs ≡ o) e l

over_from : (s : Setting) (f i j : ℕ) (es : List Entry) → j ≤ length es
    → pieces_over f (i + j) (bars_in (marks_from s.groups (suc i) es)) ≡ listed (run s f None (take j es))
over_from s f i zero [] le = refl
over_from s f i (suc j) [] le = absurd (omega (arith, le))
over_from s f i zero (e ∷ es) le = none_before s.groups f (i + zero) (suc i) (e ∷ es) (omega arith)
over_from s f i (suc j) (Filled w g q ∷ es) le =
    at (g == f) refl (over_moved f i j (bars_in (marks_from s.groups (suc (suc i)) es)) (listed (run s f None (take j es))) (over_from s f (suc i) j es (omega (arith, le))))
  where
    at : (t : Bool) → (g == f) ≡ t → pieces_over f (i + suc j) (bars_in (marks_from s.groups (suc (suc i)) es)) ≡ listed (run s f None (take j es))
        → pieces_over f (i + suc j) (bar_of s.groups g q (suc i) (suc (suc i)) es ∷ bars_in (marks_from s.groups (suc (suc i)) es))
        ≡ listed (run s f (if t then Some q else None) (take j es))
    at true e again =
        let b = bar_of s.groups g q (suc i) (suc (suc i)) es in
        let by = begun s.groups g q (suc i) (suc (suc i)) es in
        let same : g ≡ f = eqb-true g f e in
        let lasts : Lasts (nat_lt (i + suc j) b.last) q (run s f (Some q) (take j es)) (run s f None (take j es)) =
        moved q i j b.last (run s f (Some q) (take j es)) (run s f None (take j es))
        (subst (λ h. Lasts (nat_lt (suc i + j) (bar_of s.groups h q (suc i) (suc (suc i)) es).last) q (run s f (Some q) (take j es)) (run s f None (take j es))) (sym same)
        (stay_lasts s f q (suc i) (suc i) j es (omega (arith, le)))) in
        in_lane f (i + suc j) b (bars_in (marks_from s.groups (suc (suc i)) es)) (run s f (Some q) (take j es)) (run s f None (take j es)) (omega (arith, by.first)) (by.frame ∙ same)
        (subst (λ p. Lasts (nat_lt (i + suc j) b.last) p (run s f (Some q) (take j es)) (run s f None (take j es))) (sym by.piece) lasts) again
    at false e again =
        let b = bar_of s.groups g q (suc i) (suc (suc i)) es in
        let by = begun s.groups g q (suc i) (suc (suc i)) es in
        other_lane f (i + suc j) b (bars_in (marks_from s.groups (suc (suc i)) es)) (ap (λ x. x == f) by.frame ∙ e) ∙ again
over_from s f i (suc j) (Fill w g p ∷ es) le =
    at (g == f) (over_moved f i j (bars_in (marks_from s.groups (suc (suc i)) es)) (listed (run s f None (take j es))) (over_from s f (suc i) j es (omega (arith, le))))
  where
    at : (t : Bool) → pieces_over f (i + suc j) (bars_in (marks_from s.groups (suc (suc i)) es)) ≡ listed (run s f None (take j es))
        → pieces_over f (i + suc j) (bars_in (marks_from s.groups (suc (suc i)) es)) ≡ listed (run s f (if t then None else None) (take j es))
    at true again = again
    at false again = again
over_from s f i (suc j) (Register w q ∷ es) le =
    over_moved f i j (bars_in (marks_from s.groups (suc (suc i)) es)) (listed (run s f None (take j es))) (over_from s f (suc i) j es (omega (arith, le)))
over_from s f i (suc j) (Plan w q c ∷ es) le =
    over_moved f i j (bars_in (marks_from s.groups (suc (suc i)) es)) (listed (run s f None (take j es))) (over_from s f (suc i) j es (omega (arith, le)))
over_from s f i (suc j) (Evict w c ∷ es) le =
    over_moved f i j (bars_in (marks_from s.groups (suc (suc i)) es)) (listed (run s f None (take j es))) (over_from s f (suc i) j es (omega (arith, le)))
over_from s f i (suc j) (Failed w q p why ∷ es) le =
    over_moved f i j (bars_in (marks_from s.groups (suc (suc i)) es)) (listed (run s f None (take j es))) (over_from s f (suc i) j es (omega (arith, le)))
over_from s f i (suc j) (Deliver w q c ∷ es) le =
    over_moved f i j (bars_in (marks_from s.groups (suc (suc i)) es)) (listed (run s f None (take j es))) (over_from s f (suc i) j es (omega (arith, le)))
over_from s f i (suc j) (Release w q c ∷ es) le =
    over_moved f i j (bars_in (marks_from s.groups (suc (suc i)) es)) (listed (run s f None (take j es))) (over_from s f (suc i) j es (omega (arith, le)))
over_from s f i (suc j) (Stop w q ∷ es) le =
    over_moved f i j (bars_in (marks_from s.groups (suc (suc i)) es)) (listed (run s f None (take j es))) (over_from s f (suc i) j es (omega (arith, le)))
over_from s f i (suc j) (End w q ∷ es) le =
    over_moved f i j (bars_in (marks_from s.groups (suc (suc i)) es)) (listed (run s f None (take j es))) (over_from s f (suc i) j es (omega (arith, le)))

-- over each moment, the bars in a frame's lane are those of the piece that is in the frame then
pub bars_are_stays : (s : Setting) (entries : List Entry) (f k : ℕ) → k ≤ length entries
    → pieces_over f k (bars s.groups entries) ≡ listed (piece_in s (past (take k entries)) f)
bars_are_stays s entries f k le =
    let e : 0 + k ≡ k = omega arith in
    subst (λ n. pieces_over f n (bars s.groups entries) ≡ listed (run s f None (take k entries))) e (over_from s f 0 k entries le)
    ∙ sym (ap listed (piece_run s f (take k entries)))

-- each bar has its time
pub bars_last : (groups i : ℕ) (es : List Entry) → AllByRecursion (λ (b : Bar). b.first < b.last) (bars_in (marks_from groups i es))
bars_last groups i [] = tt
bars_last groups i (Filled w f p ∷ es) =
    let by = begun groups f p i (suc i) es in (omega (arith, by.first, by.last), bars_last groups (suc i) es)
bars_last groups i (Register w q ∷ es) = bars_last groups (suc i) es
bars_last groups i (Plan w q c ∷ es) = bars_last groups (suc i) es
bars_last groups i (Evict w c ∷ es) = bars_last groups (suc i) es
bars_last groups i (Fill w g p ∷ es) = bars_last groups (suc i) es
bars_last groups i (Failed w q p why ∷ es) = bars_last groups (suc i) es
bars_last groups i (Deliver w q c ∷ es) = bars_last groups (suc i) es
bars_last groups i (Release w q c ∷ es) = bars_last groups (suc i) es
bars_last groups i (Stop w q ∷ es) = bars_last groups (suc i) es
bars_last groups i (End w q ∷ es) = bars_last groups (suc i) es
