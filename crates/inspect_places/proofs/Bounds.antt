-- How large a number may be, behind any tokens and behind LIMIT.
use Rattle.std.proofs.Common.{◌≡◌, ℕ, ◌+◌, ◌-◌, ◌==◌, Bool, true, false, List, [], ◌∷◌, ◌++◌, map, take, Option, Some, None, inl, inr, refl, sym, ap, ◌∙◌, subst, arith}
use Rattle.std.specs.Prelude.{◌&&◌, is_some, length, nat_le, option_map, slice_get}
use Rattle.std.proofs.lemmas.Bool.{cases_Bool, eqb-false, false≢true}
use Rattle.std.proofs.lemmas.List.{take_more}
use Rattle.std.proofs.lemmas.Option.{get_or_from_slice_get, slice_get-map, slice_get_within}
use Rattle.sql_tokens.specs.Keywords.{keyword_of}
use Rattle.sql_tokens.specs.declared.keyword.Keyword.{Keyword}
use Rattle.sql_tokens.specs.declared.keyword.Keyword.TheVariants as key
use Rattle.sql_tokens.specs.declared.span.Span.{Span}
use Rattle.sql_tokens.specs.declared.token.Token as tokens
use Rattle.sql_tokens.specs.declared.token.TokenKind.{TokenKind}
use Rattle.sql_tokens.specs.declared.token.TokenKind.TheVariants as token
use Rattle.sql_text.specs.Grammar.{Token, Key, Number, Decimal}
use Rattle.sql_text.specs.Words.{key_or_name, meaning, meaning_in, part}
use Rattle.sql_text.proofs.Tokens.{choose_ok, no_some}
use Rattle.inspect_places.specs.declared.kind.Kind.TheVariants as kind
use Rattle.inspect_places.specs.declared.state.State.{State}
use Rattle.inspect_places.specs.declared.state.State.TheVariants as state
use Rattle.inspect_places.specs.Near.{is_limit, is_limit_at, keyword_as, keyword_in}
use Rattle.inspect_places.specs.Places.{IsBound, IsMost, IsMostWithin}
use Rattle.inspect_places.specs.Spelled.{bytes_at}
use Rattle.inspect_places.specs.Steps.{after, most, step, when}
use Rattle.inspect_places.proofs.Sizes.{positive_is, is_positive_if, negative_is, is_negative_if, limit_is, is_limit_if, decimal_is_positive, decimal_is_negative}
use Rattle.inspect_places.proofs.Forward.{run}
use Rattle.inspect_places.proofs.Stops.{GoesOn, Taken, begins_run, goes_on, is_taken, run_cut, run_push, same_some, takes_small}

no_bound : (l : Bool) (before : List Token) (m : State) → is_some (step l m kind.Number) ≡ false → Taken l before m
    → (k : ℕ) → IsMost l before k → ⊥
no_bound l before m none by k is = false≢true (sym none ∙ (by (Number 0) (is.stands 0 (omega arith))).1)

pub bound_of : (l : Bool) (before : List Token) (m : State) → Taken l before m → GoesOn l before m
    → IsBound l before (most l m)
bound_of l before (state.Compared p d) by on = record {
  within = λ n b. (let h = positive_is n (by (Number n) b).0 in omega (arith, h));
  stands = λ n h. on (Number n) (is_positive_if n (omega (arith, h))) refl;
  decimals = λ n p b. (let h = decimal_is_positive n p (by (Decimal n p) b).0 in (omega (arith, h.0), h.1));
}
bound_of l before (state.Minus p d) by on = record {
  within = λ n b. negative_is n (by (Number n) b).0;
  stands = λ n h. on (Number n) (is_negative_if n h) refl;
  decimals = λ n p b. decimal_is_negative n p (by (Decimal n p) b).0;
}
bound_of true before state.Limit by on = record {
  within = λ n b. limit_is n (by (Number n) b).0;
  stands = λ n h. on (Number n) (is_limit_if n h) refl;
  decimals = λ n p b. absurd (false≢true (by (Decimal n p) b).1);
}
bound_of false before state.Limit by on = λ k is.
    (let h = is.within (k + 1) (on (Number (k + 1)) refl refl) in absurd (omega (arith, h)))
bound_of l before (state.TestEnd p d) by on = elim (cases_Bool (d == 0)) [
  | inl a ↦ no_bound l before (state.TestEnd p d) (rw a refl) by
  | inr a ↦ no_bound l before (state.TestEnd p d) (rw a refl) by
]
bound_of l before m by on = no_bound l before m refl by

-- ---- a token that is LIMIT

key_is : (o : Option Keyword) (word : List ℕ) → is_limit o ≡ true → key_or_name o word ≡ Key key.Limit
key_is (Some key.Limit) word h = refl
key_is o word h = absurd (false≢true h)

limit_means : (k : TokenKind) (bytes : List ℕ) (s : Span) → is_limit (keyword_as k (bytes_at bytes s)) ≡ true
    → meaning k (part bytes s) ≡ Key key.Limit
limit_means token.Keyword bytes s h = elim (cases_Bool (nat_le s.from s.to && nat_le s.to (length bytes))) [
  | inl a ↦ let h' : is_limit (keyword_of (part bytes s)) ≡ true = rw a at h in key_is (keyword_of (part bytes s)) (part bytes s) h'
  | inr a ↦ let h' : false ≡ true = rw a at h in absurd (false≢true h')
]
limit_means k bytes s h = absurd (false≢true h)

ends_with : (ts : List Token) (j : ℕ) (t : Token) → slice_get ts j ≡ Some t → take (j + 1) ts ≡ take j ts ++ t ∷ []
ends_with ts j t e =
    take_more ts j t (slice_get_within ts j t e) ∙ ap (λ u. take j ts ++ u ∷ []) (get_or_from_slice_get ts j t t e)

abbrev EndsWithLimit : List Token → Type 0
EndsWithLimit ts = (us : List Token) × (ts ≡ us ++ Key key.Limit ∷ [])

by_token : (bytes : List ℕ) (all : List tokens.Token) (j : ℕ) (o : Option tokens.Token) → slice_get all j ≡ o
    → is_limit (keyword_in bytes o) ≡ true → EndsWithLimit (take (j + 1) (map (meaning_in bytes) all))
by_token bytes all j None e h = absurd (false≢true h)
by_token bytes all j (Some t) e h =
    let f = meaning_in bytes in
    let means : f t ≡ Key key.Limit = limit_means t.kind bytes t.span h in
    let here : slice_get (map f all) j ≡ Some (Key key.Limit) = slice_get-map f all j ∙ ap (option_map f) e ∙ ap Some means in
    (take j (map f all), ends_with (map f all) j (Key key.Limit) here)

key_before : (bytes : List ℕ) (all : List tokens.Token) (number : ℕ) → is_limit_at bytes all number ≡ true
    → EndsWithLimit (take number (map (meaning_in bytes) all))
key_before bytes all number h = elim (cases_Bool (number == 0)) [
  | inl a ↦ let h' : false ≡ true = rw a at h in absurd (false≢true h')
  | inr a ↦
      let h' : is_limit (keyword_in bytes (slice_get all (number - 1))) ≡ true = rw a at h in
      let n : number - 1 + 1 ≡ number = omega (arith, eqb-false number 0 a) in
      subst (λ k. EndsWithLimit (take k (map (meaning_in bytes) all))) n (by_token bytes all (number - 1) (slice_get all (number - 1)) refl h')
]

-- ---- the state behind it

when_limit : (plain : Bool) (r : State) → when plain state.Limit ≡ Some r → r ≡ state.Limit
when_limit true r e = sym (same_some state.Limit r e)
when_limit false r e = absurd (no_some r e)

to_limit : (l : Bool) (s r : State) → step l s (kind.Key key.Limit) ≡ Some r → r ≡ state.Limit
to_limit l (state.TableEnd p) r e = when_limit p r e
to_limit l (state.TestEnd p d) r e = elim (cases_Bool (d == 0)) [
  | inl a ↦ let e' : when p state.Limit ≡ Some r = rw a at e in when_limit p r e'
  | inr a ↦ let e' : None ≡ Some r = rw a at e in absurd (no_some r e')
]
to_limit l (state.OrderKeyEnd room) r e = sym (same_some state.Limit r e)
to_limit l (state.DirectionEnd room) r e = sym (same_some state.Limit r e)
to_limit l s r e = absurd (no_some r e)

after_key : (l : Bool) (s r : State) → after l s (Key key.Limit) ≡ Some r → r ≡ state.Limit
after_key l s r e = let e' : step l s (kind.Key key.Limit) ≡ Some r = rw (takes_small l s) at e in to_limit l s r e'

at_limit : (l : Bool) (us : List Token) (m : State) → run l state.Start (us ++ Key key.Limit ∷ []) ≡ Some m → m ≡ state.Limit
at_limit l us m e =
    let c = run_cut l state.Start m us (Key key.Limit ∷ []) e in
    let ran : run l c.0 (Key key.Limit ∷ []) ≡ Some m = sym (run_push l state.Start c.0 us (Key key.Limit ∷ []) c.1) ∙ e in
    elim (choose_ok (after l c.0 (Key key.Limit)) None (λ r. run l r []) m ran) [
      | inl d ↦ absurd (no_some m d.1)
      | inr d ↦ sym (same_some d.0 m d.2) ∙ after_key l c.0 d.0 d.1
    ]

within_limit : (us : List Token) → IsMostWithin (us ++ Key key.Limit ∷ []) 4096
within_limit us =
    let before = us ++ Key key.Limit ∷ [] in
    record {
      within = λ n b. (let r = begins_run true (before ++ Number n ∷ []) b in
          let c = run_cut true state.Start r.0 before (Number n ∷ []) r.1 in
          limit_is n (is_taken true before state.Limit (c.1 ∙ ap Some (at_limit true us c.0 c.1)) (Number n) b).0);
      stands = λ n b h. (let c = begins_run true before b in
          goes_on true before state.Limit (c.1 ∙ ap Some (at_limit true us c.0 c.1)) (Number n) (is_limit_if n h) refl);
    }

pub most_within : (bytes : List ℕ) (all : List tokens.Token) (number : ℕ) → is_limit_at bytes all number ≡ true
    → IsMostWithin (take number (map (meaning_in bytes) all)) 4096
most_within bytes all number h =
    let e = key_before bytes all number h in subst (λ ts. IsMostWithin ts 4096) (sym e.1) (within_limit e.0)
