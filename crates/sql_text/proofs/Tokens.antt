-- Single tokens: what stands first is what was read.
use Rattle.std.proofs.Common.{◌≡◌, ◌<◌, ◌≤◌, ◌⊎◌, ℕ, List, [], ◌∷◌, length, arith, Option, Some, None, inl, inr, refl, sym, ap, ◌∙◌, rules}
use Rattle.std.proofs.lemmas.Bool.{cases_Bool}
use denote.Enum.Bare.{sameb, same_true}
use Rattle.sql_tokens.specs.declared.keyword.Keyword.{Keyword}
use Rattle.sql_tokens.specs.contracts.keyword.Keyword as keyword
use Rattle.sql_text.specs.declared.word.Sign.{Sign}
use Rattle.sql_text.specs.contracts.word.Sign as sign
use Rattle.sql_text.specs.Grammar.{Token, Key, Symbol, Column}
use Rattle.sql_text.specs.declared.word.Word.{Word}
use Rattle.sql_text.specs.Words.{tokens_of}
use Rattle.sql_text.specs.Reading.{◌>>=◌, choose, after_key, after_sign, column_at, grouped}

pub bind_ok : {A B : Type 0} (o : Option A) (f : A → Option B) (y : B) → (o >>= f) ≡ Some y → (x : A) × (o ≡ Some x) × (f x ≡ Some y)
bind_ok None f y h = absurd (apart h) where
  apart : None ≡ Some y → ⊥
  apart e = cc
bind_ok (Some x) f y h = (x, refl, h)

pub choose_ok : {A B : Type 0} (o : Option A) (d : Option B) (f : A → Option B) (y : B) → choose o d f ≡ Some y → ((o ≡ None) × (d ≡ Some y)) ⊎ ((x : A) × (o ≡ Some x) × (f x ≡ Some y))
choose_ok None d f y h = inl (refl, h)
choose_ok (Some x) d f y h = inr (x, refl, h)

pub no_some : {A : Type 0} (y : A) → None ≡ Some y → ⊥
no_some y e = cc

pub some_pair : {A B : Type 0} (p q : A × B) → Some p ≡ Some q → (p.0 ≡ q.0) × (p.1 ≡ q.1)
some_pair p q e = let h : p ≡ q = cc in (ap (λ x. x.0) h, ap (λ x. x.1) h)

pub key_is : (k : Keyword) (ts us : List Token) → after_key k ts ≡ Some us → Key k ∷ us ≡ ts
key_is k [] us e = absurd (no_some us e)
key_is k (Key j ∷ ts) us e = elim (cases_Bool (sameb keyword.the_type j k)) [
  | inl t ↦
      let e' : Some ts ≡ Some us = rw t at e in
      let q : j ≡ k = same_true keyword.the_type (search rules) j k t in
      let r : ts ≡ us = cc in
      ap (λ w. Key k ∷ w) (sym r) ∙ ap (λ w. Key w ∷ ts) (sym q)
  | inr t ↦ let e' : None ≡ Some us = rw t at e in absurd (no_some us e')
]
key_is k (t ∷ ts) us e = absurd (no_some us e)

pub sign_is : (s : Sign) (ts us : List Token) → after_sign s ts ≡ Some us → Symbol s ∷ us ≡ ts
sign_is s [] us e = absurd (no_some us e)
sign_is s (Symbol r ∷ ts) us e = elim (cases_Bool (sameb sign.the_type r s)) [
  | inl t ↦
      let e' : Some ts ≡ Some us = rw t at e in
      let q : r ≡ s = same_true sign.the_type (search rules) r s t in
      let p : ts ≡ us = cc in
      ap (λ w. Symbol s ∷ w) (sym p) ∙ ap (λ w. Symbol w ∷ ts) (sym q)
  | inr t ↦ let e' : None ≡ Some us = rw t at e in absurd (no_some us e')
]
sign_is s (t ∷ ts) us e = absurd (no_some us e)

pub column_is : (ts : List Token) (c : List ℕ) (us : List Token) → column_at ts ≡ Some (c, us) → Column c ∷ us ≡ ts
column_is [] c us e = absurd (no_some (c, us) e)
column_is (Column d ∷ ts) c us e = let p = some_pair (d, ts) (c, us) e in cc
column_is (t ∷ ts) c us e = absurd (no_some (c, us) e)

-- whether a token is left

pub none_left : (words : List Word) → length words < 1 → tokens_of words ≡ []
none_left [] h = refl
none_left (w ∷ ws) h = absurd (omega arith)

pub some_left : (keys : List (List ℕ)) (words : List Word) → 1 ≤ length words → grouped keys (tokens_of words) ≡ None
some_left keys [] h = absurd (omega arith)
some_left keys (w ∷ ws) h = refl
