-- The bytes of words read back.
use Rattle.std.proofs.Common.{◌≡◌, ◌∙◌, ◌+◌, ◌*◌, ◌%◌, ◌^◌, ◌<◌, ℕ, zero, suc, List, [], ◌∷◌, ◌++◌, length, drop, get_or, arith, refl, sym, ap}
use Rattle.std.proofs.lemmas.List.{drop_at, drop-drop}
use Rattle.std.proofs.Math.Nat.{div-one, mod-eq_of_lt}
use Rattle.byteorder.specs.Endian.{little_bytes}
use Rattle.byteorder.specs.Numbers.{little_from-bytes, length-bytes_low_first}
use Rattle.piece_format.specs.Bytes.{bytes_of, word_of}

-- the bytes from a word on
from_word : (words : List ℕ) (i : ℕ) → i < length words → drop (8 * i) (bytes_of words) ≡ little_bytes 8 (get_or words i 0) ++ bytes_of (drop (suc i) words)
from_word [] i low = absurd (omega arith)
from_word (w ∷ words) zero low = refl
from_word (w ∷ words) (suc i) low =
    let e : 8 * suc i ≡ 8 + 8 * i = omega arith in
    ap (λ n. drop n (bytes_of (w ∷ words))) e
    ∙ sym (drop-drop (8 * i) 8 (bytes_of (w ∷ words)))
    ∙ ap (drop (8 * i)) (drop_at (little_bytes 8 w) (bytes_of words) 8 (length-bytes_low_first 0 8 w))
    ∙ from_word words i (omega arith)

-- a word reads back but for what 64 bits don't hold
pub word_of-bytes : (words : List ℕ) (i : ℕ) → i < length words → word_of (bytes_of words) i ≡ get_or words i 0 % 2 ^ 64
unfolding word_of
word_of-bytes words i low =
    rw (from_word words i low) (little_from-bytes 8 0 (get_or words i 0) (bytes_of (drop (suc i) words)) ∙ ap (λ n. n % 2 ^ 64) (div-one (get_or words i 0)))

pub word_back : (words : List ℕ) (i : ℕ) → i < length words → get_or words i 0 < 2 ^ 64 → word_of (bytes_of words) i ≡ get_or words i 0
word_back words i low small = word_of-bytes words i low ∙ mod-eq_of_lt small

pub length-bytes_of : (words : List ℕ) → length (bytes_of words) ≡ 8 * length words
length-bytes_of [] = refl
length-bytes_of (w ∷ words) = omega (arith, length-bytes_of words)
