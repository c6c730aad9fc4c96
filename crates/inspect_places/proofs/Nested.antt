-- Where the count stops is the place.
use Rattle.std.proofs.Common.{◌≡◌, ◌<◌, ◌≤◌, ℕ, suc, ◌+◌, ◌-◌, ◌==◌, true, false, List, [], ◌∷◌, length, take, inl, inr, refl, sym, ap, ◌∙◌, subst, arith}
use Rattle.std.specs.Prelude.{if◌then◌else◌}
use Rattle.std.proofs.lemmas.Bool.{cases_Bool, eqb-true, eqb-false}
use Rattle.sql_tokens.specs.declared.keyword.Keyword.TheVariants as key
use Rattle.sql_text.specs.declared.word.Sign.TheVariants.{Open}
use Rattle.sql_text.specs.Grammar.{Token, Key, Symbol, nests, nesting}
use Rattle.inspect_places.specs.Kinds.{kind_of}
use Rattle.inspect_places.specs.Nesting.{IsNestingPlace, kind_nests, nested_from}

same_nests : (t : Token) → kind_nests (kind_of t) ≡ nests t
same_nests (Key key.And) = refl
same_nests (Symbol Open) = refl
same_nests t = refl

record Is (room : ℕ) (ts : List Token) (n : ℕ) : Type 0 where
  within : n ≤ length ts
  few : nesting (take n ts) ≤ room
  past : n < length ts → room < nesting (take (n + 1) ts)

more : (k : ℕ) → suc k + 1 ≡ suc (k + 1)
more k = omega arith

here : (t : Token) (ts : List Token) → nests t ≡ true → Is 0 (t ∷ ts) 0
here t ts e = record { within = omega arith; few = omega arith; past = λ h. rw e (omega arith) }

later : (t : Token) (ts : List Token) (room more' n : ℕ) → more' + (if nests t then 1 else 0) ≡ room → Is more' ts n → Is room (t ∷ ts) (suc n)
later t ts room m n e h = record {
  within = omega (arith, h.within);
  few = omega (arith, e, h.few);
  past = λ g. (let a : n < length ts = omega (arith, g) in let p = h.past a in let s = ap (λ j. nesting (take j (t ∷ ts))) (more n) in omega (arith, e, p, s));
}

place : (room : ℕ) (ts : List Token) → Is room ts (nested_from room ts)
place room [] = record { within = omega arith; few = omega arith; past = λ h. absurd (omega (arith, h)) }
place room (t ∷ ts) = elim (cases_Bool (kind_nests (kind_of t))) [
  | inl a ↦
      let e : nests t ≡ true = sym (same_nests t) ∙ a in
      elim (cases_Bool (room == 0)) [
        | inl b ↦ let z = eqb-true room 0 b in rw (a, b) (subst (λ r. Is r (t ∷ ts) 0) (sym z) (here t ts e))
        | inr b ↦ rw (a, b) (later t ts room (room - 1) (nested_from (room - 1) ts) (rw e (omega (arith, eqb-false room 0 b))) (place (room - 1) ts))
      ]
  | inr a ↦ let e : nests t ≡ false = sym (same_nests t) ∙ a in rw a (later t ts room room (nested_from room ts) (rw e (omega arith)) (place room ts))
]

pub nesting_place : (ts : List Token) → IsNestingPlace ts (nested_from 256 ts)
nesting_place ts = let h = place 256 ts in record { within = h.within; few = h.few; past = h.past }
