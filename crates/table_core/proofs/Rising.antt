-- Rising lists of texts.
use Rattle.std.proofs.Common.{◌≡◌, ◌∙◌, ◌+◌, ◌-◌, ◌<◌, ℕ, List, [], ◌∷◌, ◌++◌, arith, refl, sym, ap, length, get_or, inl, inr, true, false, length-append}
use Rattle.std.proofs.lemmas.Cmp.{nat_list_cmp_total}
use Rattle.std.proofs.lemmas.Bool.{cases_lt}
use Rattle.std.specs.Cmp.{tied_itself}
use Rattle.std.specs.Prelude.{Contains}
use Rattle.std.proofs.lemmas.List.{get_or_append_left, get_or_default}
use Rattle.std.proofs.Math.Seq.{get_or-append_seam}
use Rattle.std.specs.FinMap.{slice_cmp-IsAntisymmetric, nat_cmp-IsAntisymmetric}
use Rattle.std.specs.Ordering.{ordering_reverse, ordering_then, is_lt, is_gt}
use Rattle.std.specs.declared.cmp.Ordering.{Ordering}
use Rattle.std.specs.declared.cmp.Ordering.TheVariants.{Less, Equal, Greater}
use Rattle.table_core.specs.Dict.{text_cmp, Rises, IsDict, Added, IsBelow, IsAbove}

pub same_text : (a b : List ℕ) → text_cmp a b ≡ Equal → a ≡ b
same_text a b e = slice_cmp-IsAntisymmetric nat_cmp-IsAntisymmetric a b e

pub less_trans : (a b c : List ℕ) → text_cmp a b ≡ Less → text_cmp b c ≡ Less → text_cmp a c ≡ Less
less_trans a b c p q = nat_list_cmp_total.trans a b c p q

pub greater_less : (a b : List ℕ) → text_cmp a b ≡ Greater → text_cmp b a ≡ Less
greater_less a b p = nat_list_cmp_total.antisymm b a ∙ ap ordering_reverse p

pub less_greater : (a b : List ℕ) → text_cmp a b ≡ Less → text_cmp b a ≡ Greater
less_greater a b p = nat_list_cmp_total.antisymm b a ∙ ap ordering_reverse p

pub at_end : (xs : List (List ℕ)) (t : List ℕ) (j : ℕ) → j ≡ length xs → get_or (xs ++ t ∷ []) j [] ≡ t
at_end xs t j e = rw e (get_or-append_seam xs t [] [])

pub rises-push : (xs : List (List ℕ)) (t : List ℕ) → Rises xs → (0 < length xs → text_cmp (get_or xs (length xs - 1) []) t ≡ Less) → Rises (xs ++ t ∷ [])
rises-push xs t up last i j low high =
    let n : j < length xs + 1 = omega (arith, length-append xs (t ∷ [])) in
    elim (cases_lt j (length xs)) [
      | inl inside ↦
          let i_in : i < length xs = omega arith in
          rw (get_or_append_left xs (t ∷ []) [] i i_in, get_or_append_left xs (t ∷ []) [] j inside) (up i j low inside)
      | inr past ↦
          let i_in : i < length xs = omega arith in
          let some : 0 < length xs = omega arith in
          rw (get_or_append_left xs (t ∷ []) [] i i_in, at_end xs t j (omega arith))
          (elim (cases_lt i (length xs - 1)) [
            | inl more ↦ less_trans (get_or xs i []) (get_or xs (length xs - 1) []) t (up i (length xs - 1) more (omega arith)) (last some)
            | inr is ↦ let e : i ≡ length xs - 1 = omega arith in rw e (last some)
          ])
    ]

pub rises-none : Rises []
rises-none i j low high = absurd (omega arith)

pub dict-push : (xs : List (List ℕ)) (t : List ℕ) → IsDict xs → length xs < 4294967295 → (0 < length xs → text_cmp (get_or xs (length xs - 1) []) t ≡ Less) → IsDict (xs ++ t ∷ [])
dict-push xs t is room last = record { rises = rises-push xs t is.rises last; small = omega (arith, length-append xs (t ∷ [])) }

pub added-more : (xs : List (List ℕ)) (t : List ℕ) → Added xs t (xs ++ t ∷ []) (length xs)
added-more xs t = record { last = omega (arith, length-append xs (t ∷ [])); is = inr refl; here = get_or-append_seam xs t [] [] }

pub added-same : (xs : List (List ℕ)) (t : List ℕ) → 0 < length xs → text_cmp (get_or xs (length xs - 1) []) t ≡ Equal → Added xs t xs (length xs - 1)
added-same xs t some e = record { last = omega arith; is = inl refl; here = same_text (get_or xs (length xs - 1) []) t e }

pub below-more : (xs : List (List ℕ)) (t : List ℕ) (m : ℕ) → Rises xs → m < length xs → text_cmp (get_or xs m []) t ≡ Less → IsBelow xs t (m + 1)
below-more xs t m up inside here k low = elim (cases_lt k m) [
  | inl less ↦ less_trans (get_or xs k []) (get_or xs m []) t (up k m less inside) here
  | inr past ↦ let e : k ≡ m = omega arith in rw e here
]

pub above-more : (xs : List (List ℕ)) (t : List ℕ) (m : ℕ) → Rises xs → text_cmp (get_or xs m []) t ≡ Greater → IsAbove xs t m
above-more xs t m up here k low inside = elim (cases_lt m k) [
  | inl more ↦ less_greater t (get_or xs k []) (less_trans t (get_or xs m []) (get_or xs k []) (greater_less (get_or xs m []) t here) (up m k more inside))
  | inr past ↦ let e : k ≡ m = omega arith in rw e here
]

-- what a sort by text and place says of neighbours
pub not_above : (a b : List ℕ) (o : Ordering) → is_lt (ordering_then (text_cmp b a) o) ≡ false → is_gt (text_cmp a b) ≡ false
not_above a b o h = elim (text_cmp a b) as (λ r. text_cmp a b ≡ r → is_gt r ≡ false) [
  | Less ↦ λ e. refl
  | Equal ↦ λ e. refl
  | Greater ↦ λ e. let l = greater_less a b e in let no : true ≡ false = rw l at h in absurd (cc)
] refl

same_itself : (t : List ℕ) → text_cmp t t ≡ Equal
same_itself t = tied_itself nat_list_cmp_total t

-- a text between the smaller and the greater ones isn't there
pub gap-missing : (xs : List (List ℕ)) (t : List ℕ) (place : ℕ) → IsBelow xs t place → IsAbove xs t place → Contains xs t → ⊥
gap-missing xs t place below above found =
    let same : get_or xs found.0 [] ≡ t = get_or_default xs found.0 [] t found.1 ∙ found.2 in
    elim (cases_lt found.0 place) [
      | inl less ↦ let e : text_cmp t t ≡ Less = rw same at (below found.0 less) in (let no : Less ≡ Equal = sym e ∙ same_itself t in cc)
      | inr past ↦ let e : text_cmp t t ≡ Greater = rw same at (above found.0 past found.1) in (let no : Greater ≡ Equal = sym e ∙ same_itself t in cc)
    ]
