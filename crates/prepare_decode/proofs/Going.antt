-- A text that grows by characters.
use Rattle.std.proofs.Common.{◌≡◌, ◌+◌, ◌*◌, ◌<◌, ◌≤◌, ℕ, suc, Bool, true, false, List, [], ◌∷◌, ◌++◌, length, drop, get_or, Option, Some, None, refl, sym, ap, ◌∙◌, arith}
use Rattle.std.proofs.Math.ListN.{drop_of_length-le}
use Rattle.std.proofs.Math.Numerals.{add-one}
use Rattle.std.proofs.Math.Seq.{drop-cons}
use Rattle.std.proofs.lemmas.Bool.Decides.{nat_tests}
use Rattle.std.proofs.lemmas.List.{append-nil, append_assoc, get_or-drop}
use Rattle.std.proofs.lemmas.Str.{utf16_chars-nil, utf16_chars_lone, utf16_chars_pair}
use Rattle.std.specs.Char.{encode_utf8}
use Rattle.std.specs.Char.Utf16.{lone_unit_char, surrogate_pair_char, utf16_chars}
use Rattle.std.specs.Option.{SomeIff}
use Rattle.std.specs.Prelude.{IsSome, nat_le, nat_lt, slice_index}
use Rattle.prepare_decode.specs.Decoding.{Decoded, decoded, half_at, single, unit, units_below, wide, width}

-- what is there already, and then the rest
abbrev pub joined : List ℕ → Decoded → Decoded
joined text rest = decoded (text ++ rest.text) rest.bad

pub joined-char : (text more : List ℕ) (rest : Decoded) → joined text (decoded (more ++ rest.text) rest.bad) ≡ joined (text ++ more) rest
joined-char text more rest = ap (λ t. decoded t rest.bad) (sym (append_assoc text more rest.text))

pub joined-end : (text : List ℕ) (bad : Option ℕ) → joined text (decoded [] bad) ≡ decoded text bad
joined-end text bad = ap (λ t. decoded t bad) (append-nil text)

at-cons : (xs : List ℕ) (i : ℕ) → i < length xs → drop i xs ≡ get_or xs i 0 ∷ drop (i + 1) xs
at-cons xs i h = rw (add-one i) (drop-cons xs i 0 h)

module _ (f : ℕ → Option ℕ) (bytes : List ℕ) (i : ℕ) (text : List ℕ) where
  pub single-more : (c : ℕ) → i < length bytes → f (get_or bytes i 0) ≡ Some c
      → joined text (single f i (drop i bytes)) ≡ joined (text ++ encode_utf8 c) (single f (i + 1) (drop (i + 1) bytes))
  unfolding single
  single-more c h e = rw (at-cons bytes i h, e) (joined-char text (encode_utf8 c) (single f (i + 1) (drop (i + 1) bytes)))

  pub single-bad : i < length bytes → f (get_or bytes i 0) ≡ None → joined text (single f i (drop i bytes)) ≡ decoded text (Some i)
  unfolding single
  single-bad h e = rw (drop-cons bytes i 0 h, e) (joined-end text (Some i))

  pub single-end : length bytes ≤ i → joined text (single f i (drop i bytes)) ≡ decoded text None
  unfolding single
  single-end h = rw (drop_of_length-le bytes h) (joined-end text None)

pub units-more : (is_big : Bool) (bytes : List ℕ) (n : ℕ) → units_below is_big bytes (n + 1)
    ≡ units_below is_big bytes n ++ (unit is_big (slice_index bytes (n * 2)) (slice_index bytes (n * 2 + 1)) ∷ [])
unfolding units_below
units-more is_big bytes n = rw add-one refl

-- ---- UTF-16

lone-low : (u : ℕ) → u < 0xD800 → lone_unit_char u ≡ Some u
lone-low u below = let t : nat_le 0xD800 u ≡ false = grind (arith, nat_tests) in rw t refl

lone-high : (u : ℕ) → 0xE000 ≤ u → lone_unit_char u ≡ Some u
lone-high u from =
    let s : nat_le 0xD800 u ≡ true = grind (arith, nat_tests) in
    let t : nat_lt u 0xE000 ≡ false = grind (arith, nat_tests) in
    rw (s, t) refl

lone-none : (u : ℕ) → 0xD800 ≤ u → u < 0xE000 → lone_unit_char u ≡ None
lone-none u from below =
    let s : nat_le 0xD800 u ≡ true = grind (arith, nat_tests) in
    let t : nat_lt u 0xE000 ≡ true = grind (arith, nat_tests) in
    rw (s, t) refl

pub code-of : (r : Option ℕ) (P : Type 0) (v : ℕ) → SomeIff r P v → IsSome r → Some v ≡ r
code-of None P v is some = cc
code-of (Some x) P v is some = ap Some (sym is.1)

module _ (units : List ℕ) (at : ℕ) where
  next-unit : get_or (drop (suc at) units) 0 0 ≡ get_or units (at + 1) 0
  next-unit = get_or-drop (suc at) units 0 0 ∙ ap (λ n. get_or units n 0) {x = suc at + 0} {y = at + 1} (omega arith)

  pub lone-at : at < length units → ((0xD800 ≤ get_or units at 0) × (get_or units at 0 < 0xDC00) × (0xDC00 ≤ get_or units (at + 1) 0) × (get_or units (at + 1) 0 < 0xE000) → ⊥)
      → utf16_chars (drop at units) ≡ lone_unit_char (get_or units at 0) ∷ utf16_chars (drop (at + 1) units)
  lone-at within apart = rw (add-one, drop-cons units at 0 within) (utf16_chars_lone (get_or units at 0) (drop (suc at) units) (rw next-unit apart))

  pub low-at : at < length units → get_or units at 0 < 0xD800 → utf16_chars (drop at units) ≡ Some (get_or units at 0) ∷ utf16_chars (drop (at + 1) units)
  low-at within low = lone-at within (λ pair. omega (arith, pair.0, low)) ∙ ap (λ o. o ∷ utf16_chars (drop (at + 1) units)) (lone-low (get_or units at 0) low)

  pub high-at : at < length units → 0xE000 ≤ get_or units at 0 → utf16_chars (drop at units) ≡ Some (get_or units at 0) ∷ utf16_chars (drop (at + 1) units)
  high-at within high = lone-at within (λ pair. omega (arith, pair.1, high)) ∙ ap (λ o. o ∷ utf16_chars (drop (at + 1) units)) (lone-high (get_or units at 0) high)

  pub none-at : at < length units → 0xD800 ≤ get_or units at 0 → get_or units at 0 < 0xE000
      → ((get_or units at 0 < 0xDC00) × (0xDC00 ≤ get_or units (at + 1) 0) × (get_or units (at + 1) 0 < 0xE000) → ⊥)
      → utf16_chars (drop at units) ≡ None ∷ utf16_chars (drop (at + 1) units)
  none-at within from below apart = lone-at within (λ pair. apart (pair.1, pair.2, pair.3))
      ∙ ap (λ o. o ∷ utf16_chars (drop (at + 1) units)) (lone-none (get_or units at 0) from below)

  pub pair-at : at + 1 < length units → 0xD800 ≤ get_or units at 0 → get_or units at 0 < 0xDC00 → 0xDC00 ≤ get_or units (at + 1) 0 → get_or units (at + 1) 0 < 0xE000
      → utf16_chars (drop at units) ≡ Some (surrogate_pair_char (get_or units at 0) (get_or units (at + 1) 0)) ∷ utf16_chars (drop (at + 2) units)
  pair-at within a b c d =
      let after : at + 2 ≡ suc (at + 1) = omega arith in
      rw (after, drop-cons units at 0 (omega arith), ← add-one at, drop-cons units (at + 1) 0 within) (utf16_chars_pair _ _ _ (a, b, c, d))

module _ (is_half : Bool) (units : List ℕ) (at : ℕ) (text : List ℕ) where
  pub wide-more : (c next : ℕ) → utf16_chars (drop at units) ≡ Some c ∷ utf16_chars (drop next units) → next * 2 ≡ at * 2 + width c
      → joined text (wide is_half (at * 2) (utf16_chars (drop at units))) ≡ joined (text ++ encode_utf8 c) (wide is_half (next * 2) (utf16_chars (drop next units)))
  unfolding wide
  wide-more c next e w = rw (e, w) (joined-char text (encode_utf8 c) (wide is_half (at * 2 + width c) (utf16_chars (drop next units))))

  pub wide-bad : (rest : List (Option ℕ)) → utf16_chars (drop at units) ≡ None ∷ rest
      → joined text (wide is_half (at * 2) (utf16_chars (drop at units))) ≡ decoded text (Some (at * 2))
  unfolding wide
  wide-bad rest e = rw e (joined-end text (Some (at * 2)))

  pub wide-end : length units ≤ at → joined text (wide is_half (at * 2) (utf16_chars (drop at units))) ≡ decoded text (half_at is_half (at * 2))
  unfolding wide
  wide-end h = rw (drop_of_length-le units h, utf16_chars-nil) (joined-end text (half_at is_half (at * 2)))
