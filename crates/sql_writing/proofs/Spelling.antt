-- Texts that spell tokens: what stands behind a text is a space or the end.
use Rattle.std.proofs.Common.{◌≡◌, ◌<◌, ◌≤◌, ℕ, zero, suc, ◌+◌, ◌-◌, false, List, [], ◌∷◌, ◌++◌, length, map, take, drop, Some, None, refl, sym, ap, ◌∙◌, subst, arith, append_assoc, append-nil}
use Rattle.std.proofs.lemmas.List.{length-append, take_all, take_at, drop_at}
use Rattle.sql_tokens.specs.Classes.{is_in}
use Rattle.sql_tokens.specs.declared.class.Class.TheVariants as class
use Rattle.sql_tokens.specs.declared.piece.Piece.{Piece}
use Rattle.sql_tokens.specs.declared.piece.Piece.TheVariants.{Blank, Lexeme}
use Rattle.sql_tokens.specs.declared.token.Token as tokens
use Rattle.sql_tokens.specs.declared.token.TokenKind.{TokenKind}
use Rattle.sql_tokens.specs.Pieces.{piece_of, Longest}
use Rattle.sql_tokens.specs.Tokens.{HasTokens, at_end, piece}
use Rattle.sql_text.specs.Grammar.{Token}
use Rattle.sql_text.specs.Words.{meaning, meaning_in}
use Rattle.sql_text.specs.Queries.{HasWords}
use Rattle.sql_text.proofs.Tokens.{no_some}

-- a space or the end
abbrev pub Ends : List ℕ → Type 0
Ends [] = Unit {0}
Ends (b ∷ bs) = b ≡ 32

-- The first byte is no white space.
abbrev pub Begins : List ℕ → Type 0
Begins [] = ⊥
Begins (b ∷ bs) = is_in class.White b ≡ false

-- The bytes have these tokens, whatever stands in front.
abbrev pub Has : List ℕ → List Token → Type 0
Has bytes ts = (front : List ℕ) → (all : List tokens.Token) × HasTokens (length front) bytes all × (map (meaning_in (front ++ bytes)) all ≡ ts)

pub record Spells (w : List ℕ) (ts : List Token) : Type 0 where
  pub begins : Begins w
  pub has : (rest : List ℕ) (us : List Token) → Ends rest → Has rest us → Has (w ++ rest) (ts ++ us)

-- The same of a text that is empty or begins with a space.
abbrev pub Adds : List ℕ → List Token → Type 0
Adds w ts = (rest : List ℕ) (us : List Token) → Ends rest → Has rest us → Ends (w ++ rest) × Has (w ++ rest) (ts ++ us)

-- ---- pieces

begins_more : (w v : List ℕ) → Begins w → Begins (w ++ v)
begins_more [] v h = absurd h
begins_more (b ∷ w) v h = h

-- more than a word of a text is the word, the next byte, and some of the rest
take_past : (w : List ℕ) (b : ℕ) (bs : List ℕ) (m : ℕ) → length w < m → (k : ℕ) × (take m (w ++ b ∷ bs) ≡ w ++ b ∷ take k bs)
take_past [] b bs zero h = absurd (omega arith)
take_past [] b bs (suc m) h = (m, refl)
take_past (x ∷ w) b bs zero h = absurd (omega arith)
take_past (x ∷ w) b bs (suc m) h = let r = take_past w b bs m (omega arith) in (r.0, ap (λ s. x ∷ s) r.1)

not_empty : (w : List ℕ) (p : Piece) → piece_of w ≡ Some p → 0 < length w
not_empty [] p e = absurd (no_some p e)
not_empty (b ∷ w) p e = omega arith

-- a word that no longer one continues is the longest piece
pub longest_before : (w : List ℕ) (p : Piece) (b : ℕ) (bs : List ℕ) → piece_of w ≡ Some p → ((v : List ℕ) → piece_of (w ++ b ∷ v) ≡ None) → Longest piece_of (w ++ b ∷ bs) (Some (p, length w))
longest_before w p b bs e none =
    (not_empty w p e, omega (arith, length-append w (b ∷ bs)), ap piece_of (take_at w (b ∷ bs) (length w) refl) ∙ e, longer)
  where
    longer : (m : ℕ) → length w < m → m ≤ length (w ++ b ∷ bs) → piece_of (take m (w ++ b ∷ bs)) ≡ None
    longer m h k = let r = take_past w b bs m h in ap piece_of r.1 ∙ none (take r.0 bs)

longest_whole : (w : List ℕ) (p : Piece) → piece_of w ≡ Some p → Longest piece_of w (Some (p, length w))
longest_whole w p e =
    (not_empty w p e, omega arith, ap piece_of (take_all (length w) w (omega arith)) ∙ e, λ m h k. absurd (omega arith))

longest_spaced : (w rest : List ℕ) (p : Piece) → piece_of w ≡ Some p → ((v : List ℕ) → piece_of (w ++ 32 ∷ v) ≡ None) → Ends rest → Longest piece_of (w ++ rest) (Some (p, length w))
longest_spaced w [] p e none h = let P : List ℕ → Type 0 = λ s. Longest piece_of s (Some (p, length w)) in subst P (sym (append-nil w)) (longest_whole w p e)
longest_spaced w (b ∷ rest) p e none h =
    let P : List ℕ → Type 0 = λ s. Longest piece_of (w ++ s) (Some (p, length w)) in
    subst P (ap (λ b. b ∷ rest) (sym h)) (longest_before w p 32 rest e none)

-- ---- one piece more in front

part_is : (front w rest : List ℕ) → take (length front + length w - length front) (drop (length front) (front ++ (w ++ rest))) ≡ w
part_is front w rest =
    let n : length front + length w - length front ≡ length w = omega arith in
    ap (λ s. take (length front + length w - length front) s) (drop_at front (w ++ rest) (length front) refl) ∙ ap (λ n. take n (w ++ rest)) n ∙ take_at w rest (length w) refl

behind : (front w rest : List ℕ) (all : List tokens.Token) → HasTokens (length (front ++ w)) rest all → HasTokens (length front + length w) (drop (length w) (w ++ rest)) all
behind front w rest all h =
    let P : List ℕ → Type 0 = λ s. HasTokens (length front + length w) s all in
    subst P (sym (drop_at w rest (length w) refl)) (subst (λ at. HasTokens at rest all) (length-append front w) h)

pub lexeme_has : (kind : TokenKind) (w rest : List ℕ) (ts : List Token) → Longest piece_of (w ++ rest) (Some (Lexeme kind, length w)) → Has rest ts → Has (w ++ rest) (meaning kind w ∷ ts)
lexeme_has kind w rest ts l h front =
    let r = h (front ++ w) in
    let t : tokens.Token = record { kind = kind; span = record { from = length front; to = length front + length w } } in
    (t ∷ r.0, piece (length w) (Lexeme kind) l (behind front w rest r.0 r.1) refl, ap (λ s. meaning kind s ∷ map (meaning_in (front ++ (w ++ rest))) r.0) (part_is front w rest) ∙ ap (λ bytes. meaning kind w ∷ map (meaning_in bytes) r.0) (sym (append_assoc front w rest)) ∙ ap (λ us. meaning kind w ∷ us) r.2)

space_is : (b : ℕ) (v : List ℕ) → is_in class.White b ≡ false → piece_of ((32 ∷ []) ++ b ∷ v) ≡ None
space_is b v e = rw e refl

pub space_has : (rest : List ℕ) (ts : List Token) → Begins rest → Has rest ts → Has (32 ∷ rest) ts
space_has [] ts e h front = absurd e
space_has (b ∷ rest) ts e h front =
    let r = h (front ++ 32 ∷ []) in
    let l : Longest piece_of ((32 ∷ []) ++ b ∷ rest) (Some (Blank, 1)) = longest_before (32 ∷ []) Blank b rest refl (λ v. space_is b v e) in
    (r.0, piece 1 Blank l (behind front (32 ∷ []) (b ∷ rest) r.0 r.1) refl, ap (λ bytes. map (meaning_in bytes) r.0) (sym (append_assoc front (32 ∷ []) (b ∷ rest))) ∙ r.2)

-- ---- texts of one token and of more

pub spelled : (kind : TokenKind) (w : List ℕ) → piece_of w ≡ Some (Lexeme kind) → ((v : List ℕ) → piece_of (w ++ 32 ∷ v) ≡ None) → Begins w → Spells w (meaning kind w ∷ [])
spelled kind w e none b =
    record { begins = b; has = λ rest us h k. lexeme_has kind w rest us (longest_spaced w rest (Lexeme kind) e none h) k }

pub spaced : (w v : List ℕ) (ts us : List Token) → Spells w ts → Spells v us → Spells (w ++ 32 ∷ v) (ts ++ us)
spaced w v ts us s t = record { begins = begins_more w (32 ∷ v) s.begins; has = all } where
  all : (rest : List ℕ) (ws : List Token) → Ends rest → Has rest ws → Has ((w ++ 32 ∷ v) ++ rest) ((ts ++ us) ++ ws)
  all rest ws h k =
      let a = space_has (v ++ rest) (us ++ ws) (begins_more v rest t.begins) (t.has rest ws h k) in
      let b : Has (w ++ ((32 ∷ v) ++ rest)) (ts ++ (us ++ ws)) = s.has (32 ∷ (v ++ rest)) (us ++ ws) refl a in
      subst (λ n. Has n ((ts ++ us) ++ ws)) (sym (append_assoc w (32 ∷ v) rest)) (subst (λ n. Has (w ++ ((32 ∷ v) ++ rest)) n) (sym (append_assoc ts us ws)) b)

pub adds_none : Adds [] []
adds_none rest us h k = (h, k)

pub adds_spaced : (v : List ℕ) (ts : List Token) → Spells v ts → Adds (32 ∷ v) ts
adds_spaced v ts s rest us h k = (refl, space_has (v ++ rest) (ts ++ us) (begins_more v rest s.begins) (s.has rest us h k))

pub adds_more : (w v : List ℕ) (ts us : List Token) → Adds w ts → Adds v us → Adds (w ++ v) (ts ++ us)
adds_more w v ts us a b rest ws h k =
    let c = b rest ws h k in
    let d = a (v ++ rest) (us ++ ws) c.0 c.1 in
    let e = sym (append_assoc w v rest) in
    (subst Ends e d.0, subst (λ n. Has n ((ts ++ us) ++ ws)) e (subst (λ n. Has (w ++ (v ++ rest)) n) (sym (append_assoc ts us ws)) d.1))

pub spells_more : (w v : List ℕ) (ts us : List Token) → Spells w ts → Adds v us → Spells (w ++ v) (ts ++ us)
spells_more w v ts us s b = record { begins = begins_more w v s.begins; has = all } where
  all : (rest : List ℕ) (ws : List Token) → Ends rest → Has rest ws → Has ((w ++ v) ++ rest) ((ts ++ us) ++ ws)
  all rest ws h k =
      let c = b rest ws h k in
      let d = s.has (v ++ rest) (us ++ ws) c.0 c.1 in
      subst (λ n. Has n ((ts ++ us) ++ ws)) (sym (append_assoc w v rest)) (subst (λ n. Has (w ++ (v ++ rest)) n) (sym (append_assoc ts us ws)) d)

-- a text that spells tokens has them
pub has_words : (w : List ℕ) (ts : List Token) → Spells w ts → HasWords w ts
has_words w ts s =
    let h : HasWords (w ++ []) (ts ++ []) = s.has [] [] tt (λ front. ([], at_end, refl)) [] in
    subst (λ n. HasWords n ts) (append-nil w) (subst (λ n. HasWords (w ++ []) n) (append-nil ts) h)
