-- The names among tokens, one token further.
use Rattle.std.proofs.Common.{◌≡◌, ◌<◌, ℕ, ◌+◌, ◌-◌, Bool, true, false, ◌&&◌, List, [], ◌∷◌, length, map, take, drop, Option, get_or, refl, sym, ap, ◌∙◌, arith}
use Rattle.std.proofs.lemmas.List.{take_rest}
use Rattle.table_core.specs.declared.schema.Kind as column_kind
use Rattle.sql_text.specs.Grammar.{Token, Column}
use Rattle.sql_text.specs.Words.{meaning_in}
use Rattle.sql_tokens.specs.declared.token.Token as tokens
use Rattle.inspect_places.specs.declared.role.Before.{Before}
use Rattle.inspect_places.specs.declared.role.About.{About}
use Rattle.inspect_places.specs.Kinds.{kind_of}
use Rattle.inspect_places.specs.Names.{is_sought, name_at, names_from, next, is_called, fits, role_at, first_index}

pub sought_is : (k : Option column_kind.Kind) (a : About) (name : List ℕ) (b : Before) (t : Token) (ts : List Token) → is_sought k a name (name_at b t ts) ≡ (is_called name t && fits k a (role_at b ts))
sought_is k a name b (Column c) ts = refl
sought_is k a name b t ts = refl

module _ (bytes : List ℕ) (k : Option column_kind.Kind) (a : About) (name : List ℕ) (b : Before) where
  abbrev Is : tokens.Token → List tokens.Token → Bool → Type 0
  Is t left is = is_sought k a name (name_at b (meaning_in bytes t) (map (meaning_in bytes) left)) ≡ is

  abbrev index : Before → List tokens.Token → ℕ
  index c left = first_index (is_sought k a name) (names_from c (map (meaning_in bytes) left))

  found_here : (left : List tokens.Token) (d : tokens.Token) → 0 < length left → Is (get_or left 0 d) (drop 1 left) true → index b left ≡ 0
  found_here [] d h e = absurd (omega (arith, h))
  found_here (t ∷ ts) d h e = rw e refl

  found_later : (left : List tokens.Token) (d : tokens.Token) (n : ℕ) → 0 < length left → Is (get_or left 0 d) (drop 1 left) false → n + 1 + index (next b (kind_of (meaning_in bytes (get_or left 0 d)))) (drop 1 left) ≡ n + index b left
  found_later [] d n h e = absurd (omega (arith, h))
  found_later (t ∷ ts) d n h e = rw e (omega arith)

  pub found : (left : List tokens.Token) (d : tokens.Token) (n m : ℕ) → 0 < length left → n + index b left ≡ m → true ≡ is_sought k a name (name_at b (meaning_in bytes (get_or left 0 d)) (map (meaning_in bytes) (take (length left - 1) (drop 1 left)))) → n ≡ m
  found left d n m h e is =
      let here = found_here left d h (ap (λ us. is_sought k a name (name_at b (meaning_in bytes (get_or left 0 d)) (map (meaning_in bytes) us))) (sym (take_rest left 1)) ∙ sym is) in
      omega (arith, e, here)

  pub goes_on : (left : List tokens.Token) (d : tokens.Token) (c : Before) (n m : ℕ) → 0 < length left → n + index b left ≡ m → c ≡ next b (kind_of (meaning_in bytes (get_or left 0 d))) → false ≡ is_sought k a name (name_at b (meaning_in bytes (get_or left 0 d)) (map (meaning_in bytes) (take (length left - 1) (drop 1 left)))) → n + 1 + index c (take (length left - 1) (drop 1 left)) ≡ m
  goes_on left d c n m h e s is =
      let later = found_later left d n h (ap (λ us. is_sought k a name (name_at b (meaning_in bytes (get_or left 0 d)) (map (meaning_in bytes) us))) (sym (take_rest left 1)) ∙ sym is) in
      ap (λ us. n + 1 + index c us) (take_rest left 1) ∙ ap (λ c. n + 1 + index c (drop 1 left)) s ∙ later ∙ e
