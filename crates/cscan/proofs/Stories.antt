-- What turns of one worker add to its entries.
use Rattle.std.proofs.Common.{◌≡◌, ◌==◌, ◌++◌, ◌∷◌, [], ℕ, Bool, true, false, if◌then◌else◌, List, refl, sym, ap, ◌∙◌, subst}
use Rattle.std.specs.List.{filter, list_any}
use Rattle.std.proofs.lemmas.List.Sorted.{IsPermutation-reverse, list_any-IsPermutation}
use Rattle.scan_story.specs.declared.entry.Entry.{Entry}
use Rattle.scan_story.specs.declared.entry.Entry.TheVariants.{Register, Plan, Evict, Fill, Filled, Failed, Deliver, Release, Stop, End}
use Rattle.scan_story.specs.declared.setting.Setting.{Setting}
use Rattle.scan_story.specs.Counting.{has}
use Rattle.scan_story.specs.Makers.{Adds, AllBy, entries_by, maker_of, StartsWith}
use Rattle.scan_story.specs.MayFollow.{is_ready}
use Rattle.scan_story.specs.Views.{delivers, past}
use Rattle.scan_story.proofs.Growing.{starts_more}
use Rattle.story_laws.specs.Queries.{chunks_delivered}
use Rattle.story_laws.proofs.Bools.{if_not, not_both, or_more, or_right}
use Rattle.story_laws.proofs.Delivering.{delivered_is, ready}
use Rattle.baton.specs.Passes.{PassView, Went}
use Rattle.abm_policy.specs.Loads.{all_filled, evicts, fills}
use Rattle.cscan.specs.Answers.{AreOfLoads, is_of_load}

-- Entries of loads

pub loads_append : (xs ys : List Entry) → AreOfLoads xs → AreOfLoads ys → AreOfLoads (xs ++ ys)
loads_append [] ys p r = r
loads_append (e ∷ es) ys p r = (p.0, loads_append es ys p.1 r)

pub by_append : (w : ℕ) (xs ys : List Entry) → AllBy w xs → AllBy w ys → AllBy w (xs ++ ys)
by_append w [] ys p r = r
by_append w (e ∷ es) ys p r = (p.0, by_append w es ys p.1 r)

pub evicts_loads : (w : ℕ) (cs : List ℕ) → AreOfLoads (evicts w cs)
evicts_loads w [] = tt
evicts_loads w (c ∷ cs) = (refl, evicts_loads w cs)

pub evicts_by : (w : ℕ) (cs : List ℕ) → AllBy w (evicts w cs)
evicts_by w [] = tt
evicts_by w (c ∷ cs) = (refl, evicts_by w cs)

pub fills_loads : (w : ℕ) (slots : List (ℕ × ℕ)) → AreOfLoads (fills w slots)
fills_loads w [] = tt
fills_loads w (b ∷ bs) = (refl, fills_loads w bs)

pub fills_by : (w : ℕ) (slots : List (ℕ × ℕ)) → AllBy w (fills w slots)
fills_by w [] = tt
fills_by w (b ∷ bs) = (refl, fills_by w bs)

pub filled_loads : (w : ℕ) (slots : List (ℕ × ℕ)) → AreOfLoads (all_filled w slots)
filled_loads w [] = tt
filled_loads w (b ∷ bs) = (refl, filled_loads w bs)

pub filled_by : (w : ℕ) (slots : List (ℕ × ℕ)) → AllBy w (all_filled w slots)
filled_by w [] = tt
filled_by w (b ∷ bs) = (refl, filled_by w bs)

-- Chunks delivered

one_delivers_none : (q : ℕ) (e : Entry) (es : List Entry) → is_of_load e ≡ true → chunks_delivered (e ∷ es) q ≡ chunks_delivered es q
one_delivers_none q (Plan w r c) es p = refl
one_delivers_none q (Evict w c) es p = refl
one_delivers_none q (Fill w f x) es p = refl
one_delivers_none q (Filled w f x) es p = refl
one_delivers_none q (Failed w r x why) es p = refl
one_delivers_none q (Register w r) es p = absurd cc
one_delivers_none q (Deliver w r c) es p = absurd cc
one_delivers_none q (Release w r c) es p = absurd cc
one_delivers_none q (Stop w r) es p = absurd cc
one_delivers_none q (End w r) es p = absurd cc

pub loads_deliver_none : (q : ℕ) (es : List Entry) → AreOfLoads es → chunks_delivered es q ≡ []
loads_deliver_none q [] p = refl
loads_deliver_none q (e ∷ es) p = one_delivers_none q e es p.0 ∙ loads_deliver_none q es p.1

-- what is found among the elements that are kept is there
any_kept : {A : Type 0} (t keeps : A → Bool) (xs : List A) → list_any t (filter keeps xs) ≡ true → list_any t xs ≡ true
any_kept t keeps [] e = e
any_kept t keeps (x ∷ xs) e =
    (elim (keeps x) as (λ k. list_any t (if k then x ∷ filter keeps xs else filter keeps xs) ≡ true → list_any t (x ∷ xs) ≡ true) [
      | true ↦ or_more (t x) (list_any t (filter keeps xs)) (t x) (list_any t xs) (λ here. here) (any_kept t keeps xs)
      | false ↦ λ rest. or_right (t x) (list_any t xs) (any_kept t keeps xs rest)
    ]) e

-- a chunk that is available to a query was not delivered to it by a worker
pub ready_fresh : (s : Setting) (w q c : ℕ) (es : List Entry) → is_ready s (past es) q c ≡ true → has (chunks_delivered (entries_by w es) q) c ≡ false
ready_fresh s w q c es e =
    if_not (has (chunks_delivered (entries_by w es) q) c)
    (λ t. not_both (list_any (delivers q c) (past es)) (sym (list_any-IsPermutation (delivers q c) es (past es) (IsPermutation-reverse es)) ∙ any_kept (delivers q c) (λ x. maker_of x == w) es (delivered_is (entries_by w es) q c ∙ t)) (ready s (past es) q c e).fresh)

-- Turns

-- the pass after it took the state, and after it gave it back
abbrev pub taken : PassView → List Entry → PassView
taken p story = record p { seen = story; holding = true }

abbrev pub given : PassView → List Entry → PassView
given q story = record q { seen = story; mine = entries_by q.number story; holding = false }

-- the worker added these entries of its own in a turn
pub adds_these : (p q : PassView) (w : ℕ) (before after new : List Entry) → q ≡ taken p before → after ≡ before ++ new → p.number ≡ w → AllBy w new → Adds q.number q.seen after
adds_these p q w before after new takes is own all =
    (new, is ∙ ap (λ (l : List Entry). l ++ new) (sym (ap (λ (x : PassView). x.seen) takes)), subst (λ (n : ℕ). AllBy n new) (sym (ap (λ (x : PassView). x.number) takes ∙ own)) all)

pub went_turn : (p q r : PassView) (before after new : List Entry) → q ≡ taken p before → r ≡ given q after → ((more : List Entry) → after ≡ q.seen ++ more → r.mine ≡ q.mine ++ more)
    → StartsWith before p.seen → after ≡ before ++ new → Went p r new
went_turn p q r before after new takes gives mine begins is = record {
  baton = ap (λ (x : PassView). x.baton) gives ∙ ap (λ (x : PassView). x.baton) takes;
  number = ap (λ (x : PassView). x.number) gives ∙ ap (λ (x : PassView). x.number) takes;
  origin = ap (λ (x : PassView). x.origin) gives ∙ ap (λ (x : PassView). x.origin) takes;
  free = ap (λ (x : PassView). x.holding) gives;
  seen = subst (λ (l : List Entry). StartsWith l p.seen) (sym (ap (λ (x : PassView). x.seen) gives ∙ is)) (starts_more before p.seen new begins);
  mine = mine new (is ∙ ap (λ (l : List Entry). l ++ new) (sym (ap (λ (x : PassView). x.seen) takes))) ∙ ap (λ (m : List Entry). m ++ new) (ap (λ (x : PassView). x.mine) takes);
}
