-- Which queries are registered: by the whole story, and by the entries of their worker alone.
use Rattle.std.proofs.Common.{◌≡◌, ◌==◌, ◌||◌, ◌++◌, ◌∷◌, [], ◌+◌, ℕ, Bool, true, false, if◌then◌else◌, List, Some, reverse, refl, sym, ap, ◌∙◌, subst}
use Rattle.std.specs.List.{list_any}
use Rattle.std.proofs.lemmas.List.{reverse-reverse}
use Rattle.std.proofs.lemmas.List.Sorted.{IsPermutation-reverse, list_any-IsPermutation}
use Rattle.scan_story.specs.declared.entry.Entry.{Entry}
use Rattle.scan_story.specs.declared.entry.Entry.TheVariants.{Deliver, End, Evict, Failed, Fill, Filled, Plan, Register, Release, Stop}
use Rattle.scan_story.specs.declared.setting.Setting.{Setting}
use Rattle.scan_story.specs.Counting.{count_among, has}
use Rattle.scan_story.specs.Legal.{Legal}
use Rattle.scan_story.specs.Makers.{entries_by, maker_of}
use Rattle.scan_story.specs.MayFollow.{Allowed}
use Rattle.scan_story.specs.Setting.{worker_of}
use Rattle.scan_story.specs.Views.{History, is_registered, past, registers}
use Rattle.story_laws.specs.Queries.{chunks_delivered}
use Rattle.story_laws.proofs.Active.{active_parts}
use Rattle.story_laws.proofs.Bools.{if_not, not_both, or_false, same_number}
use Rattle.story_laws.proofs.Sums.{among_none}
use Rattle.abm_policy.proofs.Meanwhile.{not_mine}
use Rattle.batch_ends.specs.Registering.{registered}
use Rattle.batch_run.proofs.Delivered.{by-past, delivered-past}

-- By the entries of its worker

pub registered-append : (xs ys : List Entry) → registered (xs ++ ys) ≡ registered xs ++ registered ys
registered-append [] ys = refl
registered-append (Register w q ∷ xs) ys = ap (λ (l : List ℕ). q ∷ l) (registered-append xs ys)
registered-append (Plan w q c ∷ xs) ys = registered-append xs ys
registered-append (Evict w c ∷ xs) ys = registered-append xs ys
registered-append (Fill w f p ∷ xs) ys = registered-append xs ys
registered-append (Filled w f p ∷ xs) ys = registered-append xs ys
registered-append (Failed w q p why ∷ xs) ys = registered-append xs ys
registered-append (Deliver w q c ∷ xs) ys = registered-append xs ys
registered-append (Release w q c ∷ xs) ys = registered-append xs ys
registered-append (Stop w q ∷ xs) ys = registered-append xs ys
registered-append (End w q ∷ xs) ys = registered-append xs ys

among_registered : (q : ℕ) (es : List Entry) → has (registered es) q ≡ list_any (registers q) es
among_registered q [] = refl
among_registered q (Register w r ∷ es) = ap (λ (b : Bool). (r == q) || b) (among_registered q es)
among_registered q (Plan w r c ∷ es) = among_registered q es
among_registered q (Evict w c ∷ es) = among_registered q es
among_registered q (Fill w f p ∷ es) = among_registered q es
among_registered q (Filled w f p ∷ es) = among_registered q es
among_registered q (Failed w r p why ∷ es) = among_registered q es
among_registered q (Deliver w r c ∷ es) = among_registered q es
among_registered q (Release w r c ∷ es) = among_registered q es
among_registered q (Stop w r ∷ es) = among_registered q es
among_registered q (End w r ∷ es) = among_registered q es

-- an entry of another worker registers no query of this one
registers_none : (s : Setting) (w q : ℕ) → worker_of s q ≡ Some w → (e : Entry) (h : History) → (maker_of e == w) ≡ false → Allowed s h e → registers q e ≡ false
registers_none s w q on (Register v r) h n may = not_mine s r q v w may.on on n
registers_none s w q on (Plan v r c) h n may = refl
registers_none s w q on (Evict v c) h n may = refl
registers_none s w q on (Fill v f x) h n may = refl
registers_none s w q on (Filled v f x) h n may = refl
registers_none s w q on (Failed v r x why) h n may = refl
registers_none s w q on (Deliver v r c) h n may = refl
registers_none s w q on (Release v r c) h n may = refl
registers_none s w q on (Stop v r) h n may = refl
registers_none s w q on (End v r) h n may = refl

by_worker : (s : Setting) (w q : ℕ) → worker_of s q ≡ Some w → (h : History) → Legal s h → list_any (registers q) (entries_by w h) ≡ is_registered h q
by_worker s w q on [] legal = refl
by_worker s w q on (e ∷ h) legal = step (by_worker s w q on h legal.2) (maker_of e == w) refl
  where
    step : list_any (registers q) (entries_by w h) ≡ is_registered h q → (b : Bool) → (maker_of e == w) ≡ b
        → list_any (registers q) (if b then e ∷ entries_by w h else entries_by w h) ≡ (registers q e || is_registered h q)
    step is true mine = ap (λ (b : Bool). registers q e || b) is
    step is false other = is ∙ ap (λ (b : Bool). b || is_registered h q) (sym (registers_none s w q on e h other legal.0))

-- a query is registered where it is among those that its worker registered
pub registered_by : (s : Setting) (w q : ℕ) → worker_of s q ≡ Some w → (story : List Entry) → Legal s (past story) → has (registered (entries_by w story)) q ≡ is_registered (past story) q
registered_by s w q on story legal =
    among_registered q (entries_by w story)
    ∙ (list_any-IsPermutation (registers q) (entries_by w story) (past (entries_by w story)) (IsPermutation-reverse (entries_by w story))
    ∙ (ap (list_any (registers q)) (sym (by-past w story)) ∙ by_worker s w q on (past story) legal))

-- No query is registered twice

one_more : (q : ℕ) (e : Entry) (h : History) → (registers q e ≡ true → is_registered h q ≡ false) → (is_registered h q ≡ true → count_among (registers q) h ≡ 1)
    → (registers q e || is_registered h q) ≡ true → (if registers q e then count_among (registers q) h + 1 else count_among (registers q) h) ≡ 1
one_more q e h first before is = elim (registers q e) as (λ b. (b ≡ true → is_registered h q ≡ false) → (b || is_registered h q) ≡ true → (if b then count_among (registers q) h + 1 else count_among (registers q) h) ≡ 1) [
  | true ↦ λ f t. ap (λ n. n + 1) (among_none (registers q) h (f refl))
  | false ↦ λ f t. before t
] first is

first_of : (s : Setting) (q : ℕ) (e : Entry) (h : History) → Allowed s h e → registers q e ≡ true → is_registered h q ≡ false
first_of s q (Register v r) h may is = subst (λ (k : ℕ). is_registered h k ≡ false) (same_number r q is) may.first
first_of s q (Plan v r c) h may is = absurd cc
first_of s q (Evict v c) h may is = absurd cc
first_of s q (Fill v f x) h may is = absurd cc
first_of s q (Filled v f x) h may is = absurd cc
first_of s q (Failed v r x why) h may is = absurd cc
first_of s q (Deliver v r c) h may is = absurd cc
first_of s q (Release v r c) h may is = absurd cc
first_of s q (Stop v r) h may is = absurd cc
first_of s q (End v r) h may is = absurd cc

pub registered_once : (s : Setting) (q : ℕ) (h : History) → Legal s h → is_registered h q ≡ true → count_among (registers q) h ≡ 1
registered_once s q [] legal is = absurd cc
registered_once s q (e ∷ h) legal is = one_more q e h (first_of s q e h legal.0) (registered_once s q h legal.2) is

-- Nothing is delivered to a query that isn't registered

none_before : (s : Setting) (q : ℕ) (h : History) → Legal s h → is_registered h q ≡ false → chunks_delivered h q ≡ []
none_before s q [] legal none = refl
none_before s q (Deliver v r c ∷ h) legal none =
    let other : (r == q) ≡ false = if_not (r == q) (λ t.
    not_both (is_registered h q) (subst (λ (k : ℕ). is_registered h k ≡ true) (same_number r q t) (active_parts _ _ _ legal.0.on.active).0) none) in
    rw other (none_before s q h legal.2 none)
none_before s q (Register v r ∷ h) legal none = none_before s q h legal.2 (or_false (r == q) (is_registered h q) none).1
none_before s q (Plan v r c ∷ h) legal none = none_before s q h legal.2 none
none_before s q (Evict v c ∷ h) legal none = none_before s q h legal.2 none
none_before s q (Fill v f x ∷ h) legal none = none_before s q h legal.2 none
none_before s q (Filled v f x ∷ h) legal none = none_before s q h legal.2 none
none_before s q (Failed v r x why ∷ h) legal none = none_before s q h legal.2 none
none_before s q (Release v r c ∷ h) legal none = none_before s q h legal.2 none
none_before s q (Stop v r ∷ h) legal none = none_before s q h legal.2 none
none_before s q (End v r ∷ h) legal none = none_before s q h legal.2 none

pub delivered_none : (s : Setting) (q : ℕ) (story : List Entry) → Legal s (past story) → is_registered (past story) q ≡ false → chunks_delivered story q ≡ []
delivered_none s q story legal none =
    sym (reverse-reverse (chunks_delivered story q)) ∙ (ap reverse (sym (delivered-past q story)) ∙ ap reverse (none_before s q (past story) legal none))
