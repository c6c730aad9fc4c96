-- Texts cut at a byte, and lists of items.
use Rattle.std.proofs.Common.{◌≡◌, ◌∙◌, ◌<◌, ◌+◌, ap, ap₂, sym, refl, suc, subst, arith, ℕ, Bool, true, false, cond, [], ◌∷◌, length, take, drop}
use Rattle.std.specs.Prelude.{not}
use Rattle.std.specs.List.{after_first, before_first, list_any, position_or_len}
use Rattle.clap.specs.Walk.{Text}
use Rattle.prepare_words.specs.Reading.{is_comma, items_of, onto_first}

-- a text without such a byte has none
pub lacks : (p : ℕ → Bool) (xs : Text) → position_or_len p xs ≡ length xs → list_any p xs ≡ false
lacks p [] h = refl
lacks p (x ∷ xs) h = go (p x) refl (lacks p xs)
  where
    go : (b : Bool) → p x ≡ b → (position_or_len p xs ≡ length xs → list_any p xs ≡ false) → list_any p (x ∷ xs) ≡ false
    go true e rest =
        let bad : 0 ≡ length (x ∷ xs) = subst (λ b. cond (not b) (1 + position_or_len p xs) 0 ≡ length (x ∷ xs)) e h in
        absurd (omega arith)
    go false e rest =
        let more : 1 + position_or_len p xs ≡ length (x ∷ xs) = subst (λ b. cond (not b) (1 + position_or_len p xs) 0 ≡ length (x ∷ xs)) e h in
        rw e (rest (omega (arith, more)))

-- a text without a comma is one item
pub one_item : (text : Text) → position_or_len is_comma text ≡ length text → items_of text ≡ text ∷ []
one_item [] h = refl
one_item (b ∷ bytes) h = go (is_comma b) refl (one_item bytes)
  where
    go : (c : Bool) → is_comma b ≡ c → (position_or_len is_comma bytes ≡ length bytes → items_of bytes ≡ bytes ∷ []) → items_of (b ∷ bytes) ≡ (b ∷ bytes) ∷ []
    go true e rest =
        let bad : 0 ≡ length (b ∷ bytes) = subst (λ t. cond (not t) (1 + position_or_len is_comma bytes) 0 ≡ length (b ∷ bytes)) e h in
        absurd (omega arith)
    go false e rest =
        let more : 1 + position_or_len is_comma bytes ≡ length (b ∷ bytes) = subst (λ t. cond (not t) (1 + position_or_len is_comma bytes) 0 ≡ length (b ∷ bytes)) e h in
        rw e (ap (onto_first b) (rest (omega (arith, more))))

-- the item before the first comma, and those behind it
pub first_item : (text : Text) → position_or_len is_comma text < length text → items_of text ≡ before_first is_comma text ∷ items_of (after_first is_comma text)
first_item [] h = absurd (omega arith)
first_item (b ∷ bytes) h = go (is_comma b) refl (first_item bytes)
  where
    take_more : (n : ℕ) → take (1 + n) (b ∷ bytes) ≡ b ∷ take n bytes
    take_more n = let one : 1 + n ≡ suc n = omega arith in rw one refl

    drop_more : (n : ℕ) → drop (1 + n + 1) (b ∷ bytes) ≡ drop (n + 1) bytes
    drop_more n = let one : 1 + n + 1 ≡ suc (n + 1) = omega arith in rw one refl

    go : (c : Bool) → is_comma b ≡ c → (position_or_len is_comma bytes < length bytes → items_of bytes ≡ before_first is_comma bytes ∷ items_of (after_first is_comma bytes))
        → items_of (b ∷ bytes) ≡ before_first is_comma (b ∷ bytes) ∷ items_of (after_first is_comma (b ∷ bytes))
    go true e rest = rw (e) refl
    go false e rest =
        let more : 1 + position_or_len is_comma bytes < length (b ∷ bytes) = subst (λ t. cond (not t) (1 + position_or_len is_comma bytes) 0 < length (b ∷ bytes)) e h in
        let n = position_or_len is_comma bytes in
        rw e (ap (onto_first b) (rest (omega (arith, more))) ∙ ap₂ (λ t d. t ∷ items_of d) (sym (take_more n)) (sym (drop_more n)))
