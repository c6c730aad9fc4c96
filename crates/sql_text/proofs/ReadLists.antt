-- Reading a list is `thing { , thing }`.
use Rattle.std.proofs.Common.{◌≡◌, ◌<◌, ◌≤◌, ◌⊎◌, ℕ, zero, suc, List, [], ◌∷◌, ◌++◌, length, map, Option, Some, None, inl, inr, refl, sym, ap, ◌∙◌, arith, append_assoc, length-append}
use Rattle.sql_tokens.specs.declared.refusal.TextRefusal.{TextRefusal}
use Rattle.sql_tokens.specs.declared.refusal.TextRefusal.TheVariants as refusal
use Rattle.sql_text.specs.declared.word.Sign.TheVariants.{Comma}
use Rattle.sql_text.specs.Grammar.{Token, Symbol, list_tokens}
use Rattle.sql_text.specs.Reading.{Read, Takes, Fails, ◌>>=◌, choose, after_sign, list_at, all_at}
use Rattle.sql_text.proofs.Tokens.{bind_ok, choose_ok, no_some, some_pair, sign_is}

seen : {A : Type 0} (o : Option A) → (o ≡ None) ⊎ ((x : A) × (o ≡ Some x))
seen None = inl refl
seen (Some x) = inr (x, refl)

comma_takes : (ts us : List Token) → after_sign Comma ts ≡ Some us → length us < length ts
comma_takes ts us e = let z : length (Symbol Comma ∷ us) ≡ length ts = ap length (sign_is Comma ts us e) in omega arith

-- what stands before a list that is read on
abbrev pub prepend : {A : Type 0} → List A → Read (List A) → Read (List A)
prepend done None = None
prepend done (Some r) = Some (done ++ r.0, r.1)

-- what is read behind `done`, before a comma or the end
abbrev pub follow : {A : Type 0} → (List Token → Read A) → List A → List Token → Read (List A)
follow thing done us = choose (after_sign Comma us) (Some (done, us)) (λ vs. prepend done (all_at thing vs))

-- ---- a thing that takes a token at least

module _ {A : Type 0} (thing : List Token → Read A) (takes : Takes thing) where
  nothing : thing [] ≡ None
  nothing = elim (seen (thing [])) [
    | inl e ↦ e
    | inr s ↦ let h = takes [] s.0.1 s.0.0 s.1 in absurd (omega arith)
  ]

  none_in_nothing : (n : ℕ) → list_at thing n [] ≡ None
  none_in_nothing zero = refl
  none_in_nothing (suc n) = rw nothing refl

  enough : (n m : ℕ) (ts : List Token) → length ts ≤ n → length ts ≤ m → list_at thing n ts ≡ list_at thing m ts
  enough n m [] h k = none_in_nothing n ∙ sym (none_in_nothing m)
  enough zero m (t ∷ ts) h k = absurd (omega arith)
  enough (suc n) zero (t ∷ ts) h k = absurd (omega arith)
  enough (suc n) (suc m) (t ∷ ts) h k = elim (seen (thing (t ∷ ts))) [
    | inl e ↦ rw e refl
    | inr s ↦ elim (seen (after_sign Comma s.0.1)) [
      | inl f ↦ rw (s.1, f) refl
      | inr u ↦
          let a = takes (t ∷ ts) s.0.1 s.0.0 s.1 in
          let b = comma_takes s.0.1 u.0 u.1 in
          rw (s.1, u.1) (ap (λ r. r >>= λ r. Some (s.0.0 ∷ r.0, r.1)) (enough n m u.0 (omega arith) (omega arith)))
    ]
  ]

  -- one step of the loop over a list

  step : (ts us vs : List Token) (a : A) → thing ts ≡ Some (a, us) → after_sign Comma us ≡ Some vs → all_at thing ts ≡ (all_at thing vs >>= λ r. Some (a ∷ r.0, r.1))
  step [] us vs a e f = absurd (no_some (a, us) (sym nothing ∙ e))
  step (t ∷ ts) us vs a e f =
      let h = takes (t ∷ ts) us a e in
      let k = comma_takes us vs f in
      rw (e, f) (ap (λ r. r >>= λ r. Some (a ∷ r.0, r.1)) (enough (length ts) (length vs) vs (omega arith) (omega arith)))

  last : (ts us : List Token) (a : A) → thing ts ≡ Some (a, us) → after_sign Comma us ≡ None → all_at thing ts ≡ Some (a ∷ [], us)
  last [] us a e f = absurd (no_some (a, us) (sym nothing ∙ e))
  last (t ∷ ts) us a e f = rw (e, f) refl

  none : (ts : List Token) → thing ts ≡ None → all_at thing ts ≡ None
  none [] e = none_in_nothing 0
  none (t ∷ ts) e = rw e refl

  one_before : (a : A) (r : Read (List A)) → prepend (a ∷ []) r ≡ (r >>= λ r. Some (a ∷ r.0, r.1))
  one_before a None = refl
  one_before a (Some r) = refl

  two_before : (done : List A) (a : A) (r : Read (List A)) → prepend done (prepend (a ∷ []) r) ≡ prepend (done ++ a ∷ []) r
  two_before done a None = refl
  two_before done a (Some r) = ap (λ l. Some (l, r.1)) (sym (append_assoc done (a ∷ []) r.0))

  begins : (ts us : List Token) (a : A) → thing ts ≡ Some (a, us) → all_at thing ts ≡ follow thing (a ∷ []) us
  begins ts us a e = elim (seen (after_sign Comma us)) [
    | inl f ↦ rw f (last ts us a e f)
    | inr v ↦ rw v.1 (step ts us v.0 a e v.1 ∙ sym (one_before a (all_at thing v.0)))
  ]

  behind : (done : List A) (a : A) (us : List Token) → prepend done (follow thing (a ∷ []) us) ≡ follow thing (done ++ a ∷ []) us
  behind done a us = elim (seen (after_sign Comma us)) [
    | inl f ↦ rw f refl
    | inr v ↦ rw v.1 (two_before done a (all_at thing v.0))
  ]

  pub starts : (done : List A) (ts us : List Token) (a : A) → thing ts ≡ Some (a, us) → done ≡ [] ++ a ∷ [] → follow thing done us ≡ all_at thing ts
  starts done ts us a e d = ap (λ l. follow thing l us) d ∙ sym (begins ts us a e)

  pub goes_on : (done done' : List A) (us vs ws : List Token) (a : A) (all : Read (List A)) → follow thing done us ≡ all → after_sign Comma us ≡ Some vs → thing vs ≡ Some (a, ws) → done' ≡ done ++ a ∷ [] → follow thing done' ws ≡ all
  goes_on done done' us vs ws a all h f e d =
      let h' : prepend done (all_at thing vs) ≡ all = rw f at h in
      ap (λ l. follow thing l ws) d ∙ sym (behind done a ws) ∙ sym (ap (prepend done) (begins vs ws a e)) ∙ h'

  pub ends : (done : List A) (us : List Token) (all : Read (List A)) → follow thing done us ≡ all → after_sign Comma us ≡ None → all ≡ Some (done, us)
  ends done us all h f = let h' : Some (done, us) ≡ all = rw f at h in sym h'

  pub shrinks : (us vs ws : List Token) (a : A) → after_sign Comma us ≡ Some vs → thing vs ≡ Some (a, ws) → length ws < length us
  shrinks us vs ws a f e = let h = comma_takes us vs f in let k = takes vs ws a e in omega arith

  pub first_breaks : (error : TextRefusal) (ts : List Token) → Fails error (thing ts) → Fails error (all_at thing ts)
  first_breaks refusal.Syntax ts e = none ts e
  first_breaks refusal.TooNested ts e = absurd e
  first_breaks refusal.TooManyItems ts e = absurd e
  first_breaks refusal.Memory ts e = tt

  pub breaks : (error : TextRefusal) (done : List A) (us vs : List Token) (all : Read (List A)) → follow thing done us ≡ all → after_sign Comma us ≡ Some vs → Fails error (thing vs) → Fails error all
  breaks refusal.Syntax done us vs all h f e =
      let h' : prepend done (all_at thing vs) ≡ all = rw f at h in
      sym h' ∙ ap (prepend done) (none vs e)
  breaks refusal.TooNested done us vs all h f e = absurd e
  breaks refusal.TooManyItems done us vs all h f e = absurd e
  breaks refusal.Memory done us vs all h f e = tt

-- ---- a thing b is spelled f b and means g b

abbrev pub Found : {A B : Type 0} → (List Token → Read A) → (B → List Token) → (B → A) → Type 0
Found {A = A} {B = B} thing f g = (ts us : List Token) (a : A) → thing ts ≡ Some (a, us) → (b : B) × (f b ++ us ≡ ts) × (g b ≡ a)

pub found_takes : {A B : Type 0} (thing : List Token → Read A) (f : B → List Token) (g : B → A) → ((b : B) → 0 < length (f b)) → Found thing f g → Takes thing
found_takes thing f g some found ts us a e =
    let r = found ts us a e in
    let z : length (f r.0 ++ us) ≡ length ts = ap length r.1 in
    let s = some r.0 in
    omega (arith, length-append (f r.0) us)

module _ {A B : Type 0} (thing : List Token → Read A) (f : B → List Token) (g : B → A) where
  pub list_found : Found thing f g → (n : ℕ) (ts us : List Token) (all : List A) → list_at thing n ts ≡ Some (all, us) → (x : B) × (xs : List B) × (list_tokens f x xs ++ us ≡ ts) × (map g (x ∷ xs) ≡ all)
  list_found found zero ts us all e = absurd (no_some (all, us) e)
  list_found found (suc n) ts us all e =
      let b = bind_ok (thing ts) (λ a. choose (after_sign Comma a.1) (Some (a.0 ∷ [], a.1)) (λ us. list_at thing n us >>= λ r. Some (a.0 ∷ r.0, r.1))) (all, us) e in
      let x = found ts b.0.1 b.0.0 b.1 in
      elim (choose_ok (after_sign Comma b.0.1) (Some (b.0.0 ∷ [], b.0.1)) (λ us. list_at thing n us >>= λ r. Some (b.0.0 ∷ r.0, r.1)) (all, us) b.2) [
        | inl d ↦ let p = some_pair (b.0.0 ∷ [], b.0.1) (all, us) d.1 in (x.0, [], ap (λ w. f x.0 ++ w) (sym p.1) ∙ x.1, ap (λ a. a ∷ []) x.2 ∙ p.0)
        | inr d ↦
            let c = bind_ok (list_at thing n d.0) (λ r. Some (b.0.0 ∷ r.0, r.1)) (all, us) d.2 in
            let p = some_pair (b.0.0 ∷ c.0.0, c.0.1) (all, us) c.2 in
            let r = list_found found n d.0 c.0.1 c.0.0 c.1 in
            let s : f x.0 ++ (Symbol Comma ∷ (list_tokens f r.0 r.1 ++ us)) ≡ ts = ap (λ w. f x.0 ++ (Symbol Comma ∷ (list_tokens f r.0 r.1 ++ w))) (sym p.1) ∙ ap (λ w. f x.0 ++ (Symbol Comma ∷ w)) r.2 ∙ ap (λ w. f x.0 ++ w) (sign_is Comma b.0.1 d.0 d.1) ∙ x.1 in
            (x.0, r.0 ∷ r.1, append_assoc (f x.0) (Symbol Comma ∷ list_tokens f r.0 r.1) us ∙ s, ap (λ a. a ∷ map g (r.0 ∷ r.1)) x.2 ∙ ap (λ l. b.0.0 ∷ l) r.3 ∙ p.0)
      ]

  module _ (Fits : List Token → Type 0) (read : (b : B) (us : List Token) → Fits us → thing (f b ++ us) ≡ Some (g b, us)) (comma_fits : (us : List Token) → Fits (Symbol Comma ∷ us)) where
    list_read : (x : B) (xs : List B) (n : ℕ) (us : List Token) → length xs < n → Fits us → after_sign Comma us ≡ None → list_at thing n (list_tokens f x xs ++ us) ≡ Some (map g (x ∷ xs), us)
    list_read x xs zero us h k e = absurd (omega arith)
    list_read x [] (suc n) us h k e = rw (read x us k, e) refl
    list_read x (y ∷ ys) (suc n) us h k e =
        let r = list_read y ys n us (omega arith) k e in
        rw (append_assoc (f x) (Symbol Comma ∷ list_tokens f y ys) us, read x (Symbol Comma ∷ (list_tokens f y ys ++ us)) (comma_fits (list_tokens f y ys ++ us)), r) refl

    long : ((b : B) → 0 < length (f b)) → (x : B) (xs : List B) (us : List Token) → length xs < length (list_tokens f x xs ++ us)
    long some x [] us = let s = some x in omega (arith, length-append (f x) us)
    long some x (y ∷ ys) us =
        let s = some x in let l = long some y ys us in
        let z = length-append (f x) (Symbol Comma ∷ list_tokens f y ys) in
        let w = length-append (list_tokens f x (y ∷ ys)) us in
        let v = length-append (list_tokens f y ys) us in
        omega arith

    pub all_read : ((b : B) → 0 < length (f b)) → (x : B) (xs : List B) (us : List Token) → Fits us → after_sign Comma us ≡ None → all_at thing (list_tokens f x xs ++ us) ≡ Some (map g (x ∷ xs), us)
    all_read some x xs us k e = list_read x xs (length (list_tokens f x xs ++ us)) us (long some x xs us) k e
