-- What the book keeps of the load underway.
use Rattle.std.proofs.Common.{◌≡◌, ◌<◌, ◌≤◌, ◌+◌, ◌-◌, ◌∷◌, not, ℕ, Bool, true, false, if◌then◌else◌, nat_lt, Option, None, Some, is_none, is_some, refl, sym, ◌∙◌, ap, arith, inl, inr}
use Rattle.std.specs.Option.{option_map}
use Rattle.std.proofs.lemmas.Bool.{cases_Bool}
use Rattle.std.proofs.lemmas.Bool.Decides.{nat_tests}
use Rattle.scan_story.specs.declared.view.Load.{Load}
use Rattle.scan_story.specs.declared.setting.Setting.{Setting}
use Rattle.scan_story.specs.declared.entry.Entry.TheVariants.{Filled}
use Rattle.scan_story.specs.Views.{History}
use Rattle.scan_story.specs.Loads.{underway, begin_fill, end_fill}
use Rattle.chunk_interest.specs.Frames.{open_pieces}
use Rattle.interest_book.specs.Loading.{loading_of, after_fill}
use Rattle.scan_story.specs.MayFollow.{MayFilled}
use Rattle.chunk_interest.proofs.Kept.{Keeps}
use Rattle.chunk_interest.proofs.Below.{true_false}
use Rattle.chunk_interest.proofs.OpenPieces.{fewer_open, stays_open, is_closed}

-- what the book keeps of the load follows a Filled
pub fill_follows : (s : Setting) (h : History) (w f p : ℕ) → MayFilled s h w f p → Keeps s h → after_fill (option_map loading_of (underway s h)) ≡ option_map loading_of (underway s (Filled w f p ∷ h))
fill_follows s h w f p may k =
    let l = may.load in
    let old = k.load l may.is_load.underway in
    let fewer : open_pieces (end_fill p l) + 1 ≡ open_pieces l = fewer_open p l.filled l.missing old.apart (old.fills f p may.begun).missing may.not_filled in
    ap (λ o. after_fill (option_map loading_of o)) may.is_load.underway ∙ (elim (cases_Bool (nat_lt 1 (open_pieces l))) [
      | inl more ↦
          (let some : 0 < open_pieces (end_fill p l) = omega (arith, fewer, above 1 (open_pieces l) more) in
          let left : open_pieces l - 1 ≡ open_pieces (end_fill p l) = omega (arith, fewer) in
          ap (λ (b : Bool). if b then Some (record (loading_of l) { left = open_pieces l - 1 }) else None) more
          ∙ (ap (λ (n : ℕ). Some (record (loading_of l) { left = n })) left ∙ sym (ap (option_map loading_of) (stays_open s h w f p l may.is_load.underway some))))
      | inr not ↦
          (let none : open_pieces (end_fill p l) ≡ 0 = omega (arith, fewer, at_most 1 (open_pieces l) not) in
          ap (λ (b : Bool). if b then Some (record (loading_of l) { left = open_pieces l - 1 }) else None) not ∙ sym (ap (option_map loading_of) (is_closed s h w f p l may.is_load.underway none)))
    ])
  where
    above : (a b : ℕ) → nat_lt a b ≡ true → a < b
    above a b e = grind (arith, nat_tests)

    at_most : (a b : ℕ) → nat_lt a b ≡ false → b ≤ a
    at_most a b e = grind (arith, nat_tests)

-- a fill leaves what the book keeps of the load
pub begin_leaves : (f p : ℕ) (o : Option Load) → option_map loading_of (option_map (begin_fill f p) o) ≡ option_map loading_of o
begin_leaves f p None = refl
begin_leaves f p (Some l) = refl

pub none_mapped : (o : Option Load) → is_none (option_map loading_of o) ≡ is_none o
none_mapped None = refl
none_mapped (Some l) = refl

pub over_is : {X : Type 0} (o : Option X) (r : Bool) → is_some o ≡ not r → is_none o ≡ r
over_is None true e = refl
over_is None false e = absurd (true_false false e refl)
over_is (Some x) true e = absurd (true_false true refl e)
over_is (Some x) false e = refl
