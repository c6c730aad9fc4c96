-- A legal story stops no query but those of the needs.
use Rattle.std.proofs.Common.{◌≡◌, ◌≢◌, ◌∙◌, ◌==◌, ◌&&◌, ℕ, Bool, true, false, [], ◌∷◌, Option, Some, None, refl, sym, ap, subst, inl, inr}
use Rattle.std.specs.Prelude.{not, nat_lt}
use Rattle.std.specs.List.{list_any}
use Rattle.std.proofs.lemmas.Bool.{cases_Bool}
use Rattle.scan_story.specs.declared.cause.Cause.{Cause}
use Rattle.scan_story.specs.declared.cause.Cause.TheVariants as cause
use Rattle.scan_story.specs.declared.entry.Entry.TheVariants.{Register, Plan, Evict, Fill, Filled, Failed, Deliver, Release, Stop, End}
use Rattle.scan_story.specs.declared.setting.Setting.{Setting}
use Rattle.scan_story.specs.declared.view.Load.{Load}
use Rattle.scan_story.specs.Causes.{cause_by, cause_of, or_else}
use Rattle.scan_story.specs.Counting.{has}
use Rattle.scan_story.specs.Legal.{Legal}
use Rattle.scan_story.specs.Loads.{begin_fill, end_fill, if_open, is_open, underway}
use Rattle.scan_story.specs.Setting.{asks_for, chunks_in, need_of, worker_in}
use Rattle.scan_story.specs.Views.{History, delivers, is_ended, is_stopped, is_wholly_framed, needs_chunk}
use Rattle.std.specs.Option.{option_map}
use Rattle.story_laws.proofs.Bools.{and_both, not_both, same_number}
use Rattle.story_laws.proofs.Worth.{need_parts}

-- the query has a need
abbrev pub IsAsked : Setting → ℕ → Type 0
IsAsked s q = need_of s q ≢ None

-- the trigger of a load has one
OfAsked : Setting → Option Load → Type 0
OfAsked s None = Unit {0}
OfAsked s (Some l) = IsAsked s l.query

begun : (s : Setting) (f p : ℕ) (u : Option Load) → OfAsked s u → OfAsked s (option_map (begin_fill f p) u)
unfolding OfAsked
begun s f p None h = tt
begun s f p (Some l) h = h

opened : (s : Setting) (l : Load) (b : Bool) → is_open l ≡ b → IsAsked s l.query → OfAsked s (if_open (Some l))
unfolding OfAsked
opened s l true is h = rw is h
opened s l false is h = rw is tt

ended : (s : Setting) (p : ℕ) (u : Option Load) → OfAsked s u → OfAsked s (if_open (option_map (end_fill p) u))
unfolding OfAsked
ended s p None h = tt
ended s p (Some l) h = opened s (end_fill p l) (is_open (end_fill p l)) refl h

-- a target is a chunk of the query's need
target_asked : (s : Setting) (h : History) (q c : ℕ) → (nat_lt c s.chunks && needs_chunk s h q c && not (is_wholly_framed s h q c)) ≡ true → IsAsked s q
target_asked s h q c target none =
    let first = and_both (nat_lt c s.chunks && needs_chunk s h q c) (not (is_wholly_framed s h q c)) target in
    let needs = (and_both (nat_lt c s.chunks) (needs_chunk s h q c) first.0).1 in
    let asks = (need_parts (asks_for s q c) (is_stopped h q) (is_ended h q) (list_any (delivers q c) h) needs).0 in
    not_both (asks_for s q c) asks (ap (λ o. has (chunks_in o) c) none)

triggers_asked : (s : Setting) (h : History) → Legal s h → OfAsked s (underway s h)
unfolding OfAsked
triggers_asked s [] legal = tt
triggers_asked s (Register w q ∷ h) legal = triggers_asked s h legal.2
triggers_asked s (Plan w q c ∷ h) legal = target_asked s h q c legal.0.target
triggers_asked s (Evict w c ∷ h) legal = triggers_asked s h legal.2
triggers_asked s (Fill w f p ∷ h) legal = begun s f p (underway s h) (triggers_asked s h legal.2)
triggers_asked s (Filled w f p ∷ h) legal = ended s p (underway s h) (triggers_asked s h legal.2)
triggers_asked s (Failed w q p why ∷ h) legal = tt
triggers_asked s (Deliver w q c ∷ h) legal = triggers_asked s h legal.2
triggers_asked s (Release w q c ∷ h) legal = triggers_asked s h legal.2
triggers_asked s (Stop w q ∷ h) legal = triggers_asked s h legal.2
triggers_asked s (End w q ∷ h) legal = triggers_asked s h legal.2

trigger_asked : (s : Setting) (u : Option Load) (l : Load) → u ≡ Some l → OfAsked s u → IsAsked s l.query
unfolding OfAsked
trigger_asked s None l e h = cc e
trigger_asked s (Some k) l e h = let same : k ≡ l = cc e in subst (λ (x : Load). IsAsked s x.query) same h

-- no other query is named
another : (o : Option Cause) (r q : ℕ) (why : Cause) → o ≡ None → (r ≡ q → ⊥) → or_else o (r == q) why ≡ None
another o r q why none other = elim (cases_Bool (r == q)) [
  | inl here ↦ absurd (other (same_number r q here))
  | inr not ↦ rw (none, not) refl
]

pub only_asked : (s : Setting) (h : History) (q : ℕ) → Legal s h → need_of s q ≡ None → cause_of h q ≡ None
only_asked s [] q legal none = refl
only_asked s (Register w r ∷ h) q legal none = only_asked s h q legal.2 none
only_asked s (Plan w r c ∷ h) q legal none = only_asked s h q legal.2 none
only_asked s (Evict w c ∷ h) q legal none = only_asked s h q legal.2 none
only_asked s (Fill w f p ∷ h) q legal none = only_asked s h q legal.2 none
only_asked s (Filled w f p ∷ h) q legal none = only_asked s h q legal.2 none
only_asked s (Failed w r p why ∷ h) q legal none =
    let load = legal.0.load in
    let asked : IsAsked s load.query = trigger_asked s (underway s h) load legal.0.is_load.underway (triggers_asked s h legal.2) in
    another (cause_of h q) r q (cause_by why p) (only_asked s h q legal.2 none) (λ e. asked (ap (need_of s) (legal.0.for_query ∙ e) ∙ none))
only_asked s (Deliver w r c ∷ h) q legal none = only_asked s h q legal.2 none
only_asked s (Release w r c ∷ h) q legal none = only_asked s h q legal.2 none
only_asked s (Stop w r ∷ h) q legal none =
    another (cause_of h q) r q cause.Memory (only_asked s h q legal.2 none)
    (λ e. let on : worker_in None ≡ Some w = ap worker_in (sym (ap (need_of s) e ∙ none)) ∙ legal.0.on.on in cc on)
only_asked s (End w r ∷ h) q legal none = only_asked s h q legal.2 none
