-- What was delivered to a query: by the whole story, and by the entries of the query's worker alone.
use Rattle.std.proofs.Common.{◌≡◌, ◌==◌, ◌++◌, ◌∷◌, [], ℕ, Bool, true, false, if◌then◌else◌, List, Some, reverse, refl, sym, ap, ◌∙◌, subst}
use Rattle.std.proofs.lemmas.Grind.{reverse_onto}
use Rattle.std.proofs.lemmas.List.{append-nil, reverse-append, reverse-reverse}
use Rattle.std.proofs.lemmas.List.Elements.{filter-append}
use Rattle.std.proofs.lemmas.List.Sorted.{IsPermutation-reverse, list_any-IsPermutation}
use Rattle.scan_story.specs.declared.entry.Entry.{Entry}
use Rattle.scan_story.specs.declared.entry.Entry.TheVariants.{Deliver, End, Evict, Failed, Fill, Filled, Plan, Register, Release, Stop}
use Rattle.scan_story.specs.declared.setting.Setting.{Setting}
use Rattle.scan_story.specs.Counting.{has}
use Rattle.scan_story.specs.Legal.{Legal}
use Rattle.scan_story.specs.Makers.{entries_by, maker_of}
use Rattle.scan_story.specs.MayFollow.{Allowed}
use Rattle.scan_story.specs.Setting.{IsSetting, asks_for, worker_of}
use Rattle.scan_story.specs.Views.{History, is_ended, past}
use Rattle.story_laws.specs.Lists.{NoneTwice}
use Rattle.story_laws.specs.Queries.{IsOnceEach, chunks_delivered}
use Rattle.story_laws.proofs.Bools.{equal_number, if_here, if_not, not_both, or_false, or_off, other_number, same_number, same_some, unequal}
use Rattle.story_laws.proofs.Delivering.{delivered_append, delivered_once, took_asked}
use Rattle.batch_run.specs.Parts.{AreAllOnce}

-- Lists

pub reverse-first : {A : Type 0} (x : A) (xs : List A) → reverse (x ∷ xs) ≡ reverse xs ++ x ∷ []
reverse-first x xs = reverse_onto xs x []

has-reverse : (xs : List ℕ) (c : ℕ) → has (reverse xs) c ≡ has xs c
has-reverse xs c = sym (list_any-IsPermutation (λ y. y == c) xs (reverse xs) (IsPermutation-reverse xs))

pub once_push : (xs : List ℕ) (x : ℕ) → NoneTwice xs → has xs x ≡ false → NoneTwice (xs ++ x ∷ [])
once_push [] x once new = (refl, tt)
once_push (y ∷ xs) x once new =
    let o = or_false (y == x) (has xs x) new in
    (lacks xs o.0 once.0, once_push xs x once.1 o.1)
  where
    lacks : (zs : List ℕ) → (y == x) ≡ false → has zs y ≡ false → has (zs ++ x ∷ []) y ≡ false
    lacks [] differs not = or_off (x == y) false (other_number x y (λ e. unequal y x differs (sym e))) refl
    lacks (z ∷ zs) differs not = let o = or_false (z == y) (has zs y) not in or_off (z == y) (has (zs ++ x ∷ []) y) o.0 (lacks zs differs o.1)

once-reverse : (xs : List ℕ) → NoneTwice xs → NoneTwice (reverse xs)
once-reverse [] once = tt
once-reverse (x ∷ xs) once = subst NoneTwice (sym (reverse-first x xs)) (once_push (reverse xs) x (once-reverse xs once.1) (has-reverse xs x ∙ once.0))

-- A story read the other way

pub delivered-past : (q : ℕ) (es : List Entry) → chunks_delivered (past es) q ≡ reverse (chunks_delivered es q)
delivered-past q [] = refl
delivered-past q (e ∷ es) =
    ap (λ (l : List Entry). chunks_delivered l q) (reverse-first e es)
    ∙ (delivered_append q (reverse es) (e ∷ [])
    ∙ (ap (λ (l : List ℕ). l ++ chunks_delivered (e ∷ []) q) (delivered-past q es)
    ∙ (one (chunks_delivered (e ∷ []) q) (chunks_delivered es q) (few e)
    ∙ ap reverse (sym (delivered_append q (e ∷ []) es)))))
  where
    -- at most one
    few : (f : Entry) → reverse (chunks_delivered (f ∷ []) q) ≡ chunks_delivered (f ∷ []) q
    few (Deliver w r c) = elim (r == q) as (λ b. reverse (if b then c ∷ [] else []) ≡ (if b then c ∷ [] else [])) [
      | true ↦ refl
      | false ↦ refl
    ]
    few (Register w r) = refl
    few (Plan w r c) = refl
    few (Evict w c) = refl
    few (Fill w f p) = refl
    few (Filled w f p) = refl
    few (Failed w r p why) = refl
    few (Release w r c) = refl
    few (Stop w r) = refl
    few (End w r) = refl

    one : (xs ys : List ℕ) → reverse xs ≡ xs → reverse ys ++ xs ≡ reverse (xs ++ ys)
    one xs ys is = ap (λ (l : List ℕ). reverse ys ++ l) (sym is) ∙ sym (reverse-append xs ys)

pub by-past : (w : ℕ) (es : List Entry) → entries_by w (past es) ≡ past (entries_by w es)
by-past w [] = refl
by-past w (e ∷ es) =
    let mine = λ (f : Entry). maker_of f == w in
    ap (entries_by w) (reverse-first e es)
    ∙ (filter-append mine (reverse es) (e ∷ [])
    ∙ (ap (λ (l : List Entry). l ++ entries_by w (e ∷ [])) (by-past w es) ∙ last (mine e)))
  where
    last : (b : Bool) → reverse (entries_by w es) ++ (if b then e ∷ [] else []) ≡ reverse (if b then e ∷ entries_by w es else entries_by w es)
    last true = sym (reverse-first e (entries_by w es))
    last false = append-nil (reverse (entries_by w es))

-- the oldest entry first, too
turned : (q : ℕ) (es : List Entry) → chunks_delivered es q ≡ reverse (chunks_delivered (past es) q)
turned q es = sym (reverse-reverse (chunks_delivered es q)) ∙ ap reverse (sym (delivered-past q es))

-- What a legal story delivers to a query, the oldest entry first

module _ (s : Setting) (q : ℕ) (story : List Entry) (legal : Legal s (past story)) where
  same_chunks : (c : ℕ) → has (chunks_delivered story q) c ≡ has (chunks_delivered (past story) q) c
  same_chunks c = ap (λ (l : List ℕ). has l c) (turned q story) ∙ has-reverse (chunks_delivered (past story) q) c

  -- chunks of its need, each once
  pub story_once : IsOnceEach s story q
  story_once =
      let each = delivered_once s (past story) legal q in
      record {
        asked = λ c there. each.asked c (sym (same_chunks c) ∙ there);
        once = subst NoneTwice (sym (turned q story)) (once-reverse (chunks_delivered (past story) q) each.once);
      }

  -- and all of them where it has ended
  pub story_all : IsSetting s → is_ended (past story) q ≡ true → AreAllOnce s q (chunks_delivered story q)
  story_all setting ended = record {
    asked = λ c. both (has (chunks_delivered story q) c) (asks_for s q c) (story_once.asked c) (λ asks. same_chunks c ∙ took_asked s (past story) setting legal q c ended asks);
    once = story_once.once;
  }
    where
      both : (a b : Bool) → (a ≡ true → b ≡ true) → (b ≡ true → a ≡ true) → a ≡ b
      both true b f g = sym (f refl)
      both false b f g = sym (if_not b (λ t. not_both false (g t) refl))

-- The bridge: what is delivered to a query is delivered by the worker that its need names

module _ (s : Setting) (w q : ℕ) (on : worker_of s q ≡ Some w) where
  by_worker : (v r c : ℕ) (h : History) → worker_of s r ≡ Some v → chunks_delivered (entries_by w h) q ≡ chunks_delivered h q
      → chunks_delivered (entries_by w (Deliver v r c ∷ h)) q ≡ chunks_delivered (Deliver v r c ∷ h) q
  by_worker v r c h of is = step (v == w) (r == q) refl refl
    where
      now : List ℕ → Bool → List ℕ
      now l b = if b then c ∷ l else l

      step : (mine its : Bool) → (v == w) ≡ mine → (r == q) ≡ its → chunks_delivered (if mine then Deliver v r c ∷ entries_by w h else entries_by w h) q ≡ (if its then c ∷ chunks_delivered h q else chunks_delivered h q)
      step true true m i = if_here (r == q) (c ∷ chunks_delivered (entries_by w h) q) (chunks_delivered (entries_by w h) q) i ∙ ap (λ (l : List ℕ). c ∷ l) is
      step true false m i = ap (λ (b : Bool). if b then c ∷ chunks_delivered (entries_by w h) q else chunks_delivered (entries_by w h) q) i ∙ is
      step false true m i = absurd (not_both (v == w) (equal_number v w (same_some v w (sym of ∙ (ap (worker_of s) (same_number r q i) ∙ on)))) m)
      step false false m i = is

  skips : (e : Entry) (h : History) → chunks_delivered (e ∷ entries_by w h) q ≡ chunks_delivered (entries_by w h) q → chunks_delivered (e ∷ h) q ≡ chunks_delivered h q
      → chunks_delivered (entries_by w h) q ≡ chunks_delivered h q → chunks_delivered (entries_by w (e ∷ h)) q ≡ chunks_delivered (e ∷ h) q
  skips e h first whole is = step (maker_of e == w)
    where
      step : (b : Bool) → chunks_delivered (if b then e ∷ entries_by w h else entries_by w h) q ≡ chunks_delivered (e ∷ h) q
      step true = first ∙ (is ∙ sym whole)
      step false = is ∙ sym whole

  by_any : (e : Entry) (h : History) → Allowed s h e → chunks_delivered (entries_by w h) q ≡ chunks_delivered h q → chunks_delivered (entries_by w (e ∷ h)) q ≡ chunks_delivered (e ∷ h) q
  by_any (Deliver v r c) h may is = by_worker v r c h may.on.on is
  by_any (Register v r) h may is = skips (Register v r) h refl refl is
  by_any (Plan v r c) h may is = skips (Plan v r c) h refl refl is
  by_any (Evict v c) h may is = skips (Evict v c) h refl refl is
  by_any (Fill v f p) h may is = skips (Fill v f p) h refl refl is
  by_any (Filled v f p) h may is = skips (Filled v f p) h refl refl is
  by_any (Failed v r p why) h may is = skips (Failed v r p why) h refl refl is
  by_any (Release v r c) h may is = skips (Release v r c) h refl refl is
  by_any (Stop v r) h may is = skips (Stop v r) h refl refl is
  by_any (End v r) h may is = skips (End v r) h refl refl is

  delivered_by-history : (h : History) → Legal s h → chunks_delivered (entries_by w h) q ≡ chunks_delivered h q
  delivered_by-history [] legal = refl
  delivered_by-history (e ∷ h) legal = by_any e h legal.0 (delivered_by-history h legal.2)

  -- THE BRIDGE, the oldest entry first
  pub delivered_by : (story : List Entry) → Legal s (past story) → chunks_delivered (entries_by w story) q ≡ chunks_delivered story q
  delivered_by story legal =
      turned q (entries_by w story)
      ∙ (ap (λ (h : History). reverse (chunks_delivered h q)) (sym (by-past w story)) ∙ (ap reverse (delivered_by-history (past story) legal) ∙ sym (turned q story)))
