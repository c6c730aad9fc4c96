-- The front of a text as numbers.
use Rattle.std.specs.Prelude.{◌≡◌, ◌+◌, ◌*◌, ◌<◌, ℕ, zero, suc, List, slice_index_or}

-- the number that so many bytes of a text spell in base 256, from a place on; behind its end stand zeros
abbrev pub front_number : ℕ → List ℕ → ℕ → ℕ
front_number from text zero = 0
front_number from text (suc count) = front_number from text count * 256 + slice_index_or text (from + count) 0

-- the numbers of the first 16 bytes and of the next 16
pub record IsFront (text : List ℕ) (front : ℕ × ℕ) : Type 0 where
  pub first : front.0 ≡ front_number 0 text 16
  pub second : front.1 ≡ front_number 16 text 16
  pub bytes : (k : ℕ) → k < 32 → slice_index_or text k 0 < 256
