-- What workers hold after a Deliver and after a Release.
use Rattle.std.proofs.Common.{◌≡◌, ◌≢◌, ◌<◌, ◌∷◌, ℕ, Bool, if◌then◌else◌, List, length, get_or, set, Option, None, Some, refl, sym, ◌∙◌, ap, arith, inl, inr}
use Rattle.std.proofs.lemmas.Bool.{cases_eq}
use Rattle.std.proofs.lemmas.List.{get_or-set_same, get_or-set_other, length-set}
use Rattle.scan_story.specs.declared.entry.Entry.{Entry}
use Rattle.scan_story.specs.declared.entry.Entry.TheVariants.{Deliver, Release}
use Rattle.scan_story.specs.declared.view.Hold.{Hold}
use Rattle.scan_story.specs.Views.{History, held_by}
use Rattle.interest_book.specs.Held.{AreHolds}
use Rattle.chunk_interest.proofs.Below.{equal_number, other_number}

pub holds_set : (e : Entry) (h : History) (hs : List (Option Hold)) (w : ℕ) (o : Option Hold) → ((v : ℕ) → v ≢ w → held_by (e ∷ h) v ≡ held_by h v) → held_by (e ∷ h) w ≡ o → w < length hs
    → AreHolds h hs → AreHolds (e ∷ h) (set hs w o)
holds_set e h hs w o others here inside are = λ v lt.
    (let there : v < length hs = omega (arith, length-set hs w o, lt) in
    elim (cases_eq v w) [
      | inl at ↦ ap (λ x. get_or (set hs w o) x None) at ∙ (get_or-set_same hs w o None inside ∙ (sym here ∙ ap (held_by (e ∷ h)) (sym at)))
      | inr ne ↦ get_or-set_other hs w v o None ne ∙ (are v there ∙ sym (others v ne))
    ])

pub delivered : (h : History) (w q c : ℕ) → held_by (Deliver w q c ∷ h) w ≡ Some (record { query = q; chunk = c })
delivered h w q c = ap (λ (b : Bool). if b then Some (record { query = q; chunk = c }) else held_by h w) (equal_number w w refl)

pub delivered_other : (h : History) (w q c v : ℕ) → v ≢ w → held_by (Deliver w q c ∷ h) v ≡ held_by h v
delivered_other h w q c v ne = ap (λ (b : Bool). if b then Some (record { query = q; chunk = c }) else held_by h v) (other_number w v (λ e. ne (sym e)))

pub released : (h : History) (w q c : ℕ) → held_by (Release w q c ∷ h) w ≡ None
released h w q c = ap (λ (b : Bool). if b then None else held_by h w) (equal_number w w refl)

pub released_other : (h : History) (w q c v : ℕ) → v ≢ w → held_by (Release w q c ∷ h) v ≡ held_by h v
released_other h w q c v ne = ap (λ (b : Bool). if b then None else held_by h v) (other_number w v (λ e. ne (sym e)))
