-- A text has one list of tokens, found piece by piece.
use Rattle.std.proofs.Common.{◌≡◌, ◌<◌, ◌≤◌, ℕ, ◌+◌, ◌-◌, List, [], ◌∷◌, ◌++◌, length, take, drop, Option, Some, None, refl, sym, ap, ◌∙◌, subst, arith, inl, inr}
use Rattle.std.proofs.lemmas.List.{take_rest, drop-drop, drop_all, length-drop, append_assoc, append-nil}
use Rattle.std.proofs.lemmas.Bool.{cases_order}
use Rattle.sql_tokens.specs.declared.piece.Piece.{Piece}
use Rattle.sql_tokens.specs.declared.piece.Piece.TheVariants.{Lexeme, Blank, Comment}
use Rattle.sql_tokens.specs.declared.token.Token.{Token}
use Rattle.sql_tokens.specs.Pieces.{piece_of, Longest}
use Rattle.sql_tokens.specs.Tokens.{tokens_of, HasTokens, at_end, piece, AreInOrder}

pub one_longest_piece : (f : List ℕ → Option Piece) (bs : List ℕ) (p q : Piece) (n m : ℕ) → Longest f bs (Some (p, n)) → Longest f bs (Some (q, m)) → (n ≡ m) × (p ≡ q)
one_longest_piece f bs p q n m h k = elim (cases_order n m) [
  | inl e ↦ (e, some_same (sym h.2 ∙ ap (λ n. f (take n bs)) e ∙ k.2))
  | inr (inl l) ↦ absurd (apart (sym (h.3 m l k.1) ∙ k.2))
  | inr (inr l) ↦ absurd (apart (sym (k.3 n l h.1) ∙ h.2))
] where
  some_same : {x y : Piece} → Some x ≡ Some y → x ≡ y
  some_same e = cc

  apart : {x : Piece} → None ≡ Some x → ⊥
  apart e = cc

-- what the first piece leaves
pub after_piece : (at : ℕ) (bs : List ℕ) (all : List Token) (p : Piece) (n : ℕ) → Longest piece_of bs (Some (p, n)) → HasTokens at bs all → (ts : List Token) × HasTokens (at + n) (drop n bs) ts × (all ≡ tokens_of p at (at + n) ++ ts)
after_piece at bs all p n l at_end = absurd (omega (arith, l.0, l.1))
after_piece at bs all p n l (piece {ts = ts} m q k h e) =
    let s = one_longest_piece piece_of bs p q n m l k in
    (ts, subst (λ n. HasTokens (at + n) (drop n bs) ts) (sym s.0) h, e ∙ ap (λ n. tokens_of q at (at + n) ++ ts) (sym s.0) ∙ ap (λ p. tokens_of p at (at + n) ++ ts) (sym s.1))

pub no_tokens : (at : ℕ) (bs : List ℕ) (all : List Token) → 0 < length bs → Longest piece_of bs None → HasTokens at bs all → ⊥
no_tokens at bs all h l at_end = absurd (omega arith)
no_tokens at bs all h l (piece m q k t e) = apart (sym (l m k.0 k.1) ∙ k.2) where
  apart : {x : Piece} → None ≡ Some x → ⊥
  apart e = cc

-- a text has one list of tokens at most
pub one_list : (at : ℕ) (bs : List ℕ) (ts us : List Token) → HasTokens at bs ts → HasTokens at bs us → ts ≡ us
one_list at bs ts us at_end at_end = refl
one_list at bs ts us at_end (piece n p l h e) = absurd (omega (arith, l.0, l.1))
one_list at bs ts us (piece {ts = vs} n p l h e) k =
    let r = after_piece at bs us p n l k in
    e ∙ ap (λ w. tokens_of p at (at + n) ++ w) (one_list (at + n) (drop n bs) vs r.0 h r.1) ∙ sym r.2

-- ---- the loop

module _ (bs : List ℕ) (at : ℕ) where
  abbrev pub Found : List Token → Type 0
  Found items = (ts : List Token) → HasTokens at (drop at bs) ts → HasTokens 0 bs (items ++ ts)

  abbrev pub Only : Type 0
  Only = (ts : List Token) → HasTokens 0 bs ts → (us : List Token) × HasTokens at (drop at bs) us

module _ (bs : List ℕ) (at n : ℕ) (p : Piece) (l : Longest piece_of (take (length bs - at) (drop at bs)) (Some (p, n))) where
  here : Longest piece_of (drop at bs) (Some (p, n))
  here = let P : List ℕ → Type 0 = λ s. Longest piece_of s (Some (p, n)) in subst P (take_rest bs at) l

  pub within_more : at < length bs → at + n ≤ length bs
  within_more h = omega (arith, here.1, length-drop at bs)

  pub found_more : (items items' : List Token) → items' ≡ items ++ tokens_of p at (at + n) → Found bs at items → Found bs (at + n) items'
  found_more items items' e f ts h =
      let P : List ℕ → Type 0 = λ s. HasTokens (at + n) s ts in
      let h' = subst P (sym (drop-drop n at bs)) h in
      let Q : List Token → Type 0 = λ ws. HasTokens 0 bs ws in
      subst Q (sym (ap (λ w. w ++ ts) e ∙ append_assoc items (tokens_of p at (at + n)) ts)) (f (tokens_of p at (at + n) ++ ts) (piece n p here h' refl))

  pub only_more : Only bs at → Only bs (at + n)
  only_more o ts h =
      let r = o ts h in
      let s = after_piece at (drop at bs) r.0 p n here r.1 in
      let P : List ℕ → Type 0 = λ b. HasTokens (at + n) b s.0 in
      (s.0, subst P (drop-drop n at bs) s.1)

pub refused_is : (bs : List ℕ) (at : ℕ) → at < length bs → Longest piece_of (take (length bs - at) (drop at bs)) None → Only bs at → (ts : List Token) → HasTokens 0 bs ts → ⊥
refused_is bs at h l o ts k =
    let r = o ts k in
    let P : List ℕ → Type 0 = λ s. Longest piece_of s None in
    no_tokens at (drop at bs) r.0 (omega (arith, length-drop at bs)) (subst P (take_rest bs at) l) r.1

pub found_all : (bs : List ℕ) (at : ℕ) (items : List Token) → length bs ≤ at → Found bs at items → HasTokens 0 bs items
found_all bs at items h f =
    let P : List ℕ → Type 0 = λ s. HasTokens at s [] in
    let Q : List Token → Type 0 = λ ws. HasTokens 0 bs ws in
    subst Q (append-nil items) (f [] (subst P (sym (drop_all at bs h)) at_end))

-- ---- the order of the tokens

sooner : (a b end : ℕ) (ts : List Token) → a ≤ b → AreInOrder b end ts → AreInOrder a end ts
sooner a b end [] h o = omega (arith, o)
sooner a b end (t ∷ ts) h o = (omega (arith, o.0), o.1, o.2)

in_order_at : (at : ℕ) (bs : List ℕ) (ts : List Token) → HasTokens at bs ts → AreInOrder at (at + length bs) ts
in_order_at at bs ts at_end = omega arith
in_order_at at bs all (piece {ts = ts} n p l h e) =
    let z : at + n + length (drop n bs) ≡ at + length bs = omega (arith, length-drop n bs, l.1) in
    let rest = subst (λ end. AreInOrder (at + n) end ts) z (in_order_at (at + n) (drop n bs) ts h) in
    subst (AreInOrder at (at + length bs)) (sym e) (by_piece p l.0 rest)
  where
    by_piece : (p : Piece) → 0 < n → AreInOrder (at + n) (at + length bs) ts → AreInOrder at (at + length bs) (tokens_of p at (at + n) ++ ts)
    by_piece Blank h o = sooner at (at + n) _ ts (omega arith) o
    by_piece Comment h o = sooner at (at + n) _ ts (omega arith) o
    by_piece (Lexeme k) h o = (omega arith, omega arith, o)

pub in_order : (bs : List ℕ) (ts : List Token) → HasTokens 0 bs ts → AreInOrder 0 (length bs) ts
in_order bs ts h = let z : 0 + length bs ≡ length bs = omega arith in subst (λ end. AreInOrder 0 end ts) z (in_order_at 0 bs ts h)
