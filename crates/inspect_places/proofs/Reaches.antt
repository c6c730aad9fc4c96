-- Going from piece to piece reaches the end of the longest prefix.
use Rattle.std.proofs.Common.{◌≡◌, ◌<◌, ◌≤◌, ℕ, ◌+◌, ◌-◌, List, [], ◌++◌, length, take, drop, Some, None, refl, sym, ap, ◌∙◌, subst, arith}
use Rattle.std.proofs.lemmas.List.{take_rest, drop-take, length-drop, length-take-le}
use Rattle.sql_tokens.specs.declared.piece.Piece.{Piece}
use Rattle.sql_tokens.specs.declared.token.Token.{Token}
use Rattle.sql_tokens.specs.Pieces.{Longest, piece_of}
use Rattle.sql_tokens.specs.Tokens.{HasTokens, tokens_of}
use Rattle.sql_tokens.proofs.TokenLists.{Found, Only, found_more, only_more, found_all, no_tokens}
use Rattle.inspect_places.specs.Prefixes.{IsLongestPrefix}
use Rattle.inspect_places.proofs.Lengths.{shorter, shorter_none}

-- each longer prefix has these tokens up to here, and more behind them or none
pub record Reaches (bs : List ℕ) (at : ℕ) (items : List Token) : Type 0 where
  pub found : (m : ℕ) → at ≤ m → m ≤ length bs → Found (take m bs) at items
  pub only : (m : ℕ) → at ≤ m → m ≤ length bs → Only (take m bs) at

pub at_first : (bs : List ℕ) → Reaches bs 0 []
at_first bs = record { found = λ m h k ts t. t; only = λ m h k ts t. (ts, t) }

-- what a prefix has behind `at`
prefix_rest : (bs : List ℕ) (at m : ℕ) → at ≤ m → drop at (take m bs) ≡ take (m - at) (drop at bs)
prefix_rest bs at m h =
    let e : at + (m - at) ≡ m = omega arith in
    ap (λ k. drop at (take k bs)) (sym e) ∙ drop-take at (m - at) bs

module _ (bs : List ℕ) (at : ℕ) (within : at ≤ length bs) where
  -- the piece at `at` is the piece of each prefix that has it
  piece_in : (m : ℕ) (p : Piece) (n : ℕ) → at + n ≤ m → m ≤ length bs → Longest piece_of (drop at bs) (Some (p, n)) → Longest piece_of (take (length (take m bs) - at) (drop at (take m bs))) (Some (p, n))
  piece_in m p n h k l =
      let P : List ℕ → Type 0 = λ w. Longest piece_of w (Some (p, n)) in
      let short = shorter piece_of (drop at bs) (m - at) p n (omega (arith, length-drop at bs, k)) (omega (arith, h)) l in
      subst P (sym (take_rest (take m bs) at ∙ prefix_rest bs at m (omega (arith, h)))) short

  none_in : (m : ℕ) → at ≤ m → m ≤ length bs → Longest piece_of (drop at bs) None → Longest piece_of (drop at (take m bs)) None
  none_in m h k l =
      let P : List ℕ → Type 0 = λ w. Longest piece_of w None in
      subst P (sym (prefix_rest bs at m h)) (shorter_none piece_of (drop at bs) (m - at) (omega (arith, length-drop at bs, k)) l)

  pub reaches_more : (items : List Token) (p : Piece) (n : ℕ) → Longest piece_of (drop at bs) (Some (p, n)) → Reaches bs at items → Reaches bs (at + n) (items ++ tokens_of p at (at + n))
  reaches_more items p n l r = record {
    found = λ m h k. found_more (take m bs) at n p (piece_in m p n h k l) items (items ++ tokens_of p at (at + n)) refl (r.found m (omega (arith, h)) k);
    only = λ m h k. only_more (take m bs) at n p (piece_in m p n h k l) (r.only m (omega (arith, h)) k);
  }

  fits : (m : ℕ) → m ≤ length bs → length (take m bs) ≡ m
  fits m h = length-take-le m bs h

  prefix_has : (items : List Token) → Reaches bs at items → HasTokens 0 (take at bs) items
  prefix_has items r = found_all (take at bs) at items (omega (arith, fits at within)) (r.found at (omega arith) within)

  no_more : (items : List Token) → Longest piece_of (drop at bs) None → Reaches bs at items → (m : ℕ) → at < m → m ≤ length bs → (ts : List Token) → HasTokens 0 (take m bs) ts → ⊥
  no_more items l r m h k ts t =
      let o = r.only m (omega (arith, h)) k ts t in
      no_tokens at (drop at (take m bs)) o.0 (omega (arith, length-drop at (take m bs), fits m k, h)) (none_in m (omega (arith, h)) k l) o.1

  -- no piece stands here
  pub stops : (items : List Token) → Longest piece_of (take (length bs - at) (drop at bs)) None → Reaches bs at items → IsLongestPrefix bs at
  stops items l r =
      let P : List ℕ → Type 0 = λ w. Longest piece_of w None in
      let none = subst P (take_rest bs at) l in
      record { within = within; tokens = (items, prefix_has items r); longest = no_more items none r }

  -- the whole text was gone through
  pub ends : (items : List Token) → length bs ≤ at → Reaches bs at items → IsLongestPrefix bs at
  ends items e r = record { within = within; tokens = (items, prefix_has items r); longest = λ m h k ts t. absurd (omega (arith, e, h, k)) }

  pub goes_on : (items : List Token) (p : Piece) (n : ℕ) → Longest piece_of (take (length bs - at) (drop at bs)) (Some (p, n)) → Reaches bs at items → (at + n ≤ length bs) × ((more : List Token) × Reaches bs (at + n) more)
  goes_on items p n l r =
      let P : List ℕ → Type 0 = λ w. Longest piece_of w (Some (p, n)) in
      let here = subst P (take_rest bs at) l in
      (omega (arith, here.1, length-drop at bs, within), (items ++ tokens_of p at (at + n), reaches_more items p n here r))
