-- Words as bytes: in order, each as 8 bytes with the lowest first.
use Rattle.std.specs.Prelude.{◌*◌, ℕ, List, drop}
use Rattle.std.specs.List.{flat_map}
use Rattle.byteorder.specs.Endian.{little_bytes, little_number}

-- the bytes of words
abbrev pub bytes_of : List ℕ → List ℕ
bytes_of words = flat_map (little_bytes 8) words

-- the word at a place
unfoldable pub word_of : List ℕ → ℕ → ℕ
word_of bytes i = little_number 8 (drop (8 * i) bytes)
