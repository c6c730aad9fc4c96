-- The passes of a new baton, taken off one by one; and what a first Register asks.
use Rattle.std.proofs.Common.{◌≡◌, ◌==◌, ◌+◌, ◌&&◌, ℕ, zero, suc, List, [], ◌∷◌, ◌++◌, length, find, All, Some, false, arith, refl, sym, ap, ◌∙◌, add-one, subst}
use Rattle.std.proofs.lemmas.List.Elements.{All-nil, All-push}
use Rattle.std.proofs.lemmas.List.{get_or_append_left, get_or_at, length-append}
use Rattle.std.specs.List.{list_any}
use Rattle.atomic_table.specs.Seated.{TableId}
use Rattle.baton.specs.Passes.{IsFree, PassView, new_pass, new_passes}
use Rattle.scan_story.specs.declared.origin.Start.{Start}
use Rattle.scan_story.specs.declared.setting.Need.{Need}
use Rattle.scan_story.specs.declared.setting.Setting.{Setting}
use Rattle.scan_story.specs.MayFollow.{MayRegister}
use Rattle.scan_story.specs.declared.entry.Entry.{Entry}
use Rattle.scan_story.specs.Setting.{worker_in, worker_of}
use Rattle.scan_story.specs.Views.{is_active, past}
use Rattle.story_laws.proofs.Bools.{and_false, or_off}

snoc_same : {A : Type 0} (xs ys : List A) (a b : A) → xs ++ a ∷ [] ≡ ys ++ b ∷ [] → (xs ≡ ys) × (a ≡ b)
snoc_same [] [] a b e = (refl, cc)
snoc_same [] (y ∷ []) a b e = absurd cc
snoc_same [] (y ∷ z ∷ ys) a b e = absurd cc
snoc_same (x ∷ []) [] a b e = absurd cc
snoc_same (x ∷ z ∷ xs) [] a b e = absurd cc
snoc_same (x ∷ xs) (y ∷ ys) a b e = let r = snoc_same xs ys a b cc in (cc (r.0), r.1)

-- the last of the new passes is that of the last number
pub pop_new : (id : TableId) (o : Start) (xs ys : List PassView) (x : PassView) (n m : ℕ) → xs ≡ new_passes id o [] n → xs ≡ ys ++ x ∷ [] → n ≡ m + 1 → (ys ≡ new_passes id o [] m) × (x ≡ new_pass id m o [])
pop_new id o xs ys x n m all is next =
    let whole : xs ≡ new_passes id o [] m ++ new_pass id m o [] ∷ [] = all ∙ ap (new_passes id o []) (next ∙ add-one m) in
    snoc_same ys (new_passes id o [] m) x (new_pass id m o []) (sym is ∙ whole)

-- what holds of each element holds of the last one and of those before it
pub all_popped : {X : Type 0} (P : X → Type 0) (xs ys : List X) (x : X) → xs ≡ ys ++ x ∷ [] → All P xs → All P ys × P x
all_popped P xs ys x is all =
    let every = subst (All P) is all in
    let len = length-append ys (x ∷ []) in (
      λ k d low. subst P (get_or_append_left ys (x ∷ []) d k low) (every k d (omega (arith, low, len))),
      subst P (get_or_at ys x [] x (length ys) refl) (every (length ys) x (omega (arith, len))),
    )

-- new passes are free
pub new_free : (id : TableId) (o : Start) (n : ℕ) → All (IsFree id) (new_passes id o [] n)
new_free id o zero = All-nil (IsFree id)
new_free id o (suc n) = All-push (IsFree id) (new_passes id o [] n) (new_pass id n o []) (new_free id o n) (refl, refl)

none_active : (w : ℕ) (ns : List Need) → list_any (λ n. n.worker == w && is_active [] n.query) ns ≡ false
none_active w [] = refl
none_active w (n ∷ ns) = or_off (n.worker == w && false) (list_any (λ n. n.worker == w && is_active [] n.query) ns) (and_false (n.worker == w)) (none_active w ns)

-- before the first entry a query may be registered on the worker that its need names
pub may_first : (s : Setting) (w q : ℕ) → worker_of s q ≡ Some w → MayRegister s [] w q
may_first s w q on = record { first = refl; on = on; alone = none_active w s.needs; idle = record { holds_nothing = refl; loads_nothing = refl } }

-- the same of the setting from which an origin is made, for a station that has done nothing
pub may_begin : (o : Start) (s : Setting) (w q n : ℕ) (seen : List Entry) → o.setting.needs ≡ s.needs → worker_of s q ≡ Some w → n ≡ w → seen ≡ [] → MayRegister o.setting (past seen) n q
may_begin o s w q n seen same on number nothing =
    let there : worker_of o.setting q ≡ Some w = ap (λ (ns : List Need). worker_in (find (λ m. m.query == q) ns)) same ∙ on in
    subst (λ (k : ℕ). MayRegister o.setting (past seen) k q) (sym number) (subst (λ (l : List Entry). MayRegister o.setting (past l) w q) (sym nothing) (may_first o.setting w q there))
