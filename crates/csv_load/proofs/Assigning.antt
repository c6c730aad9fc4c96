-- Codes are given to names in the order of their texts.
use Rattle.std.proofs.Common.{◌≡◌, ◌≢◌, ◌∙◌, ◌+◌, ◌-◌, ◌<◌, ℕ, List, [], ◌∷◌, arith, refl, sym, ap, length, get_or, inl, inr, map, true, false, get_or-set_other, get_or-set_same, length-set, set}
use Rattle.std.specs.Prelude.{All, Contains, Option, Some, None, IfSome, is_some, replicate}
use Rattle.std.specs.List.Sorted.{IsSorted}
use Rattle.std.specs.Ordering.{is_gt}
use Rattle.std.proofs.lemmas.Grind.{get_or_default_zero}
use Rattle.std.proofs.lemmas.Bool.{cases_lt, cases_eq}
use Rattle.std.proofs.lemmas.List.{get_or-map, get_or_append_left, ext_get_or, get_or-replicate, length-replicate, get_or_past, length-map, length-append}
use Rattle.std.proofs.lemmas.List.Elements.{All-nil, All-push, Contains-get_or, All-from_get_or, All-get_or}
use Rattle.table_core.specs.Dict.{text_cmp, Rises, Added}
use Rattle.csv_load.specs.Fronts.{IsFront}
use Rattle.csv_load.specs.Ranks.{stands_for, IsRanked, Key, Keyed, key_cmp}
use Rattle.table_core.proofs.Rising.{rises-none}
use Rattle.csv_load.proofs.Fronts.{not-above}
use Rattle.csv_load.proofs.Keys.{HasFront}

abbrev pub HasCode : List (List ℕ) → List ℕ → ℕ → Type 0
HasCode dict t c = (c < length dict) × (get_or dict c [] ≡ t)

pub record Assigned (names texts : List (List ℕ)) (rows : List ℕ) (place : ℕ) (dict : List (List ℕ)) (codes : List (Option ℕ)) : Type 0 where
  pub room : length codes ≡ length names
  pub good : (k : ℕ) → k < length names → IfSome (get_or codes k None) (HasCode dict (get_or names k []))
  pub done : (j : ℕ) → j < place → is_some (get_or codes (get_or rows j 0) None) ≡ true
  pub last : 0 < length dict → (0 < place) × (get_or dict (length dict - 1) [] ≡ get_or texts (place - 1) [])
  pub rises : Rises dict
  pub filled : All (λ t. t ≢ []) dict
  pub named : All (Contains names) dict

pub lift : {P Q : ℕ → Type 0} (o : Option ℕ) → ((c : ℕ) → P c → Q c) → IfSome o P → IfSome o Q
lift None f h = h
lift (Some c) f h = f c h

pub kept : (dict dict' : List (List ℕ)) (t : List ℕ) (code k : ℕ) → Added dict t dict' code → k < length dict
    → (k < length dict') × (get_or dict' k [] ≡ get_or dict k [])
kept dict dict' t code k added below = elim added.is [
  | inl e ↦ (rw e below, rw e refl)
  | inr e ↦ (omega (arith, ap length e, length-append dict (t ∷ [])), rw e (get_or_append_left dict (t ∷ []) [] k below))
]

pub assigned-none : (names texts : List (List ℕ)) (rows : List ℕ) (codes : List (Option ℕ)) → length codes ≡ length names
    → ((k : ℕ) → get_or codes k None ≡ None) → Assigned names texts rows 0 [] codes
assigned-none names texts rows codes room none = record {
  room = room;
  good = λ k low. rw (none k) tt;
  done = λ j low. absurd (omega arith);
  last = λ some. absurd (omega arith);
  rises = rises-none;
  filled = All-nil (λ (t : List ℕ). t ≢ []);
  named = All-nil (Contains names);
}

pub assigned-step : (names texts : List (List ℕ)) (rows : List ℕ) (place : ℕ) (dict dict' : List (List ℕ)) (codes : List (Option ℕ)) (t : List ℕ) (r code : ℕ)
    → Assigned names texts rows place dict codes → t ≡ get_or texts place [] → r ≡ get_or rows place 0
    → r < length names → t ≡ get_or names r [] → t ≢ [] → Added dict t dict' code → Rises dict'
    → Assigned names texts rows (place + 1) dict' (set codes r (Some code))
assigned-step names texts rows place dict dict' codes t r code is at row inside name some added rises =
    let in_codes : r < length codes = omega (arith, is.room) in
    let in_dict : code < length dict' = omega (arith, added.last) in
    record {
      room = length-set codes r (Some code) ∙ is.room;
      good = λ k low. elim (cases_eq k r) [
        | inl e ↦ rw (e, get_or-set_same) (in_dict, added.here ∙ name)
        | inr ne ↦ rw get_or-set_other (lift (get_or codes k None) (λ (c : ℕ) (h : HasCode dict (get_or names k []) c).
            (let m = kept dict dict' t code c added h.0 in (m.0, m.1 ∙ h.1))) (is.good k low))
      ];
      done = λ j low. elim (cases_eq (get_or rows j 0) r) [
        | inl e ↦ rw (e, get_or-set_same) refl
        | inr ne ↦ rw get_or-set_other (elim (cases_lt j place) [
          | inl less ↦ is.done j less
          | inr past ↦ let same : place ≡ j = omega arith in absurd (ne (rw same at (sym row)))
        ])
      ];
      last = λ more.
          let end : length dict' - 1 ≡ code = omega (arith, added.last) in
          let here : place + 1 - 1 ≡ place = omega arith in
          (omega arith, rw (end, here) (added.here ∙ at));
      rises = rises;
      filled = elim added.is [
        | inl e ↦ rw e is.filled
        | inr e ↦ rw e (All-push (λ (t : List ℕ). t ≢ []) dict t is.filled some)
      ];
      named = elim added.is [
        | inl e ↦ rw e is.named
        | inr e ↦ rw e (All-push (Contains names) dict t is.named (rw name (Contains-get_or names r [] inside)))
      ];
    }

pub stands : (dict : List (List ℕ)) (t : List ℕ) (o : Option ℕ) → IfSome o (HasCode dict t) → (t ≢ [] → is_some o ≡ true) → stands_for dict o ≡ t
stands dict [] None has some = refl
stands dict (x ∷ t) None has some = let no : false ≡ true = some (λ (e : x ∷ t ≡ []). (cc)) in cc
stands dict t (Some c) has some = has.1

pub assigned-end : (names : List (List ℕ)) (order : List Key) (dict : List (List ℕ)) (codes : List (Option ℕ))
    → Assigned names (map (λ p. p.1.now) order) (map (λ p. p.2) order) (length order) dict codes → Keyed names (length names) order → IsRanked names dict codes
assigned-end names order dict codes is keyed = record {
  rises = is.rises;
  codes_stand = ext_get_or [] (map (stands_for dict) codes) names (length-map codes (stands_for dict) ∙ is.room) (λ k low.
      let below : k < length names = omega (arith, length-map codes (stands_for dict), is.room) in
      let inside : k < length codes = omega (arith, is.room) in
      get_or-map (stands_for dict) codes k None [] inside ∙ stands dict (get_or names k []) (get_or codes k None) (is.good k below)
      (λ (some : get_or names k [] ≢ []).
      (let found = keyed.all k below some in
      let there : found.0 < length order = omega (arith, found.1, length-map order (λ (p : Key). p.2)) in
      let row : get_or (map (λ (p : Key). p.2) order) found.0 0 ≡ k = sym (get_or_default_zero (map (λ (p : Key). p.2) order) found.0 k found.1) ∙ found.2 in
      rw row at (is.done found.0 there))));
  in_range = All-from_get_or (λ (o : Option ℕ). IfSome o (λ c. c < length dict)) codes None (λ i low.
      lift (get_or codes i None) (λ (c : ℕ) (h : HasCode dict (get_or names i []) c). h.0) (is.good i (omega (arith, is.room))));
  filled = is.filled;
  named = is.named;
}

pub may_add : (order : List Key) (place : ℕ) (d : Key) (dict : List (List ℕ)) → IsSorted key_cmp order → All (λ p. IsFront p.1.now p.0) order
    → place < length order → (0 < place) × (get_or dict (length dict - 1) [] ≡ get_or (map (λ p. p.1.now) order) (place - 1) [])
    → is_gt (text_cmp (get_or dict (length dict - 1) []) (get_or order place d).1.now) ≡ false
may_add order place d dict sorted fronts inside last =
    let next : place - 1 + 1 ≡ place = omega (arith, last.0) in
    let before : place - 1 < length order = omega (arith, last.0) in
    let h = rw next at (sorted (place - 1) d (omega arith) (omega (arith, last.0))) in
    rw (last.1, get_or-map (λ (p : Key). p.1.now) order (place - 1) d [] before)
    (not-above (get_or order (place - 1) d) (get_or order place d) (All-get_or HasFront order (place - 1) d before fronts) (All-get_or HasFront order place d inside fronts) h)

pub no_code : (n k : ℕ) → get_or {A = Option ℕ} (replicate n None) k None ≡ None
no_code n k = elim (cases_lt k n) [
  | inl inside ↦ get_or-replicate n k None None inside
  | inr past ↦ get_or_past (replicate n None) k None (omega (arith, length-replicate {A = Option ℕ} n None))
]
