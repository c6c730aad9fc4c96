-- Which piece stands at a place.
use Rattle.std.proofs.Common.{◌≡◌, ◌<◌, ◌≤◌, ℕ, zero, suc, ◌+◌, true, false, List, [], ◌∷◌, length, take, get_or, Option, Some, None, refl, ◌∙◌, arith, inl, inr, ⊎_elim, add-one}
use Rattle.std.specs.Prelude.{◌==◌, ◌&&◌}
use Rattle.std.specs.List.{prefix_len, list_all}
use Rattle.std.proofs.lemmas.Bool.{cases_Bool, ne_eqb, and_parts, and_cases, and_right}
use Rattle.std.proofs.lemmas.Bool.Decides.{nat_tests}
use Rattle.sql_tokens.specs.Classes.{is_in}
use Rattle.sql_tokens.specs.declared.class.Class.TheVariants as class
use Rattle.sql_tokens.specs.declared.piece.Piece.{Piece}
use Rattle.sql_tokens.specs.declared.piece.Piece.TheVariants.{Lexeme, Comment}
use Rattle.sql_tokens.specs.declared.token.TokenKind.TheVariants as kind
use Rattle.sql_tokens.specs.Pieces.{blank_of, word_of, number_of, text_of, quoted_of, is_one, is_two, is_comment, other_of, piece_by, piece_of, Longest, ClosesLast, one_at, longest_other}
use Rattle.sql_tokens.proofs.Runs.{when_true, when_false, prefix_len_le, run_true, run_false}

pub text_longest : (b : ℕ) (bs : List ℕ) (o : Option ℕ) → ClosesLast 39 true bs o → Longest text_of (b ∷ bs) (elim o as (λ _. Option (Piece × ℕ)) [ None ↦ None | Some n ↦ Some (Lexeme kind.Text, n + 1) ])
text_longest b bs None h = go where
  go : (m : ℕ) → 0 < m → m ≤ length (b ∷ bs) → text_of (take m (b ∷ bs)) ≡ None
  go zero j k = absurd (omega arith)
  go (suc m) j k = when_false _ _ (h m (omega arith))
text_longest b bs (Some n) h = (omega arith, omega (arith, h.0), rw add-one (when_true _ _ h.1), go) where
  go : (m : ℕ) → n + 1 < m → m ≤ length (b ∷ bs) → text_of (take m (b ∷ bs)) ≡ None
  go zero j k = absurd (omega arith)
  go (suc m) j k = when_false _ _ (h.2 m (omega arith) (omega arith))

-- the first byte says which kinds of piece can stand there
pub by_first : (f : List ℕ → Option Piece) (b : ℕ) (bs : List ℕ) (r : Option (Piece × ℕ)) → ((w : List ℕ) → piece_by b w ≡ f w) → Longest f (b ∷ bs) r → Longest piece_of (b ∷ bs) r
by_first f b bs None e h = go where
  go : (m : ℕ) → 0 < m → m ≤ length (b ∷ bs) → piece_of (take m (b ∷ bs)) ≡ None
  go zero j k = absurd (omega arith)
  go (suc m) j k = e (b ∷ take m bs) ∙ h (suc m) j k
by_first f b bs (Some (p, zero)) e h = absurd (omega (arith, h.0))
by_first f b bs (Some (p, suc n)) e h = (h.0, h.1, e (b ∷ take n bs) ∙ h.2, go) where
  go : (m : ℕ) → suc n < m → m ≤ length (b ∷ bs) → piece_of (take m (b ∷ bs)) ≡ None
  go zero j k = absurd (omega arith)
  go (suc m) j k = e (b ∷ take m bs) ∙ h.3 (suc m) j k

pub letter_is_word : (b : ℕ) → is_in class.Letter b ≡ true → is_in class.Word b ≡ true
letter_is_word b e = grind (arith, nat_tests)

front : (f : List ℕ → Option Piece) (bs : List ℕ) (r : Option (Piece × ℕ)) → 0 < length bs → ((w : List ℕ) → piece_by (get_or bs 0 0) w ≡ f w) → Longest f bs r → Longest piece_of bs r
front f [] r h k l = absurd (omega arith)
front f (x ∷ bs) r h k l = by_first f x bs r k l

module _ (bs : List ℕ) (r : Option (Piece × ℕ)) (some : 0 < length bs) where
  pub as_white : is_in class.White (get_or bs 0 0) ≡ true → Longest blank_of bs r → Longest piece_of bs r
  as_white e l = front blank_of bs r some (λ w. rw e refl) l

  pub as_word : is_in class.White (get_or bs 0 0) ≡ false → is_in class.Letter (get_or bs 0 0) ≡ true → Longest word_of bs r → Longest piece_of bs r
  as_word e1 e2 l = front word_of bs r some (λ w. rw (e1, e2) refl) l

  pub as_digit : is_in class.White (get_or bs 0 0) ≡ false → is_in class.Letter (get_or bs 0 0) ≡ false → is_in class.Digit (get_or bs 0 0) ≡ true → Longest number_of bs r → Longest piece_of bs r
  as_digit e1 e2 e3 l = front number_of bs r some (λ w. rw (e1, e2, e3) refl) l

  pub as_text : get_or bs 0 0 ≡ 39 → Longest text_of bs r → Longest piece_of bs r
  as_text e l = front text_of bs r some (λ w. rw e refl) l

  pub as_quoted : get_or bs 0 0 ≡ 34 → Longest quoted_of bs r → Longest piece_of bs r
  as_quoted e l = front quoted_of bs r some (λ w. rw e refl) l

  pub as_other : is_in class.White (get_or bs 0 0) ≡ false → is_in class.Letter (get_or bs 0 0) ≡ false → is_in class.Digit (get_or bs 0 0) ≡ false → (get_or bs 0 0 ≡ 39 → ⊥) → (get_or bs 0 0 ≡ 34 → ⊥) → Longest other_of bs r → Longest piece_of bs r
  as_other e1 e2 e3 e4 e5 l =
      let f4 = ne_eqb (get_or bs 0 0) 39 e4 in let f5 = ne_eqb (get_or bs 0 0) 34 e5 in
      front other_of bs r some (λ w. rw (e1, e2, e3, f4, f5) refl) l

-- a comment or a symbol is the longest
one_longest : (a : ℕ) (bs : List ℕ) → ((k : ℕ) → k < length bs → other_of (a ∷ take (suc k) bs) ≡ None) → Longest other_of (a ∷ bs) (one_at a)
one_longest a bs h = elim (cases_Bool (is_one a)) [
  | inl e ↦ rw e (omega arith, omega arith, rw e refl, longer)
  | inr e ↦ rw e (none e)
] where
  longer : (m : ℕ) → 1 < m → m ≤ length (a ∷ bs) → other_of (take m (a ∷ bs)) ≡ None
  longer zero j k = absurd (omega arith)
  longer (suc zero) j k = absurd (omega arith)
  longer (suc (suc m)) j k = h m (omega arith)

  none : is_one a ≡ false → (m : ℕ) → 0 < m → m ≤ length (a ∷ bs) → other_of (take m (a ∷ bs)) ≡ None
  none e zero j k = absurd (omega arith)
  none e (suc zero) j k = rw e refl
  none e (suc (suc m)) j k = h m (omega arith)

-- three bytes or more are no symbol
pub long_none : (a b k : ℕ) (bs : List ℕ) → k < length bs → is_comment (a ∷ b ∷ take (suc k) bs) ≡ false → other_of (a ∷ b ∷ take (suc k) bs) ≡ None
long_none a b k [] h e = absurd (omega arith)
long_none a b k (x ∷ bs) h e = rw e refl

module _ (a b : ℕ) (bs : List ℕ) where
  comment_is : (a == 45 && b == 45) ≡ true → (w : List ℕ) → is_comment (a ∷ b ∷ w) ≡ list_all (is_in class.Line) w
  comment_is e w = let h = and_parts (a == 45) (b == 45) e in rw (h.0, h.1) refl

  comment_not : (a == 45 && b == 45) ≡ false → (w : List ℕ) → is_comment (a ∷ b ∷ w) ≡ false
  comment_not e w = ⊎_elim (λ f. rw f refl) (λ f. let g : (b == 45 && list_all (is_in class.Line) w) ≡ false = rw f refl in and_right (a == 45) (b == 45 && list_all (is_in class.Line) w) g) (and_cases (a == 45) (b == 45) e)

  comment_longest : (a == 45 && b == 45) ≡ true → Longest other_of (a ∷ b ∷ bs) (Some (Comment, 2 + prefix_len (is_in class.Line) bs))
  comment_longest e = (omega arith, omega (arith, prefix_len_le (is_in class.Line) bs), at, go) where
    at : other_of (take (2 + prefix_len (is_in class.Line) bs) (a ∷ b ∷ bs)) ≡ Some Comment
    at = let s : 2 + prefix_len (is_in class.Line) bs ≡ suc (suc (prefix_len (is_in class.Line) bs)) = omega arith in
        let t = comment_is e (take (prefix_len (is_in class.Line) bs) bs) ∙ run_true (is_in class.Line) bs in
        rw s (rw t refl)

    go : (m : ℕ) → 2 + prefix_len (is_in class.Line) bs < m → m ≤ length (a ∷ b ∷ bs) → other_of (take m (a ∷ b ∷ bs)) ≡ None
    go zero j k = absurd (omega arith)
    go (suc zero) j k = absurd (omega arith)
    go (suc (suc zero)) j k = absurd (omega arith)
    go (suc (suc (suc m))) j k = long_none a b m bs (omega arith) (comment_is e (take (suc m) bs) ∙ run_false (is_in class.Line) bs (suc m) (omega arith) (omega arith))

  module _ (e : (a == 45 && b == 45) ≡ false) where
    two_longest : is_two a b ≡ true → Longest other_of (a ∷ b ∷ bs) (Some (Lexeme kind.Symbol, 2))
    two_longest t = (omega arith, omega arith, rw (comment_not e [], t) refl, go) where
      go : (m : ℕ) → 2 < m → m ≤ length (a ∷ b ∷ bs) → other_of (take m (a ∷ b ∷ bs)) ≡ None
      go zero j k = absurd (omega arith)
      go (suc zero) j k = absurd (omega arith)
      go (suc (suc zero)) j k = absurd (omega arith)
      go (suc (suc (suc m))) j k = long_none a b m bs (omega arith) (comment_not e (take (suc m) bs))

    not_two : is_two a b ≡ false → (k : ℕ) → k < length (b ∷ bs) → other_of (a ∷ take (suc k) (b ∷ bs)) ≡ None
    not_two t zero j = rw (comment_not e [], t) refl
    not_two t (suc k) j = long_none a b k bs (omega arith) (comment_not e (take (suc k) bs))

pub other_longest : (bs : List ℕ) → Longest other_of bs (longest_other bs)
other_longest [] = λ m j k. absurd (omega arith)
other_longest (a ∷ []) = one_longest a [] (λ k h. absurd (omega arith))
other_longest (a ∷ b ∷ bs) = elim (cases_Bool (a == 45 && b == 45)) [
  | inl e ↦ rw e (comment_longest a b bs e)
  | inr e ↦ elim (cases_Bool (is_two a b)) [
    | inl t ↦ rw (e, t) (two_longest a b bs e t)
    | inr t ↦ rw (e, t) (one_longest a (b ∷ bs) (not_two a b bs e t))
  ]
]
