-- How great a piece is.
use Rattle.std.proofs.Common.{◌≡◌, ◌+◌, ◌*◌, ◌≤◌, ℕ, length, min, arith}
use Rattle.std.proofs.Math.Nat.{mul-le-mul_right, add-mul}
use Rattle.piece_format.specs.declared.layout.Layout.{Layout}
use Rattle.piece_format.specs.declared.layout.Layout.TheVariants as layouts
use Rattle.piece_format.specs.Shape.{TableShape, chunk_of, frame_words, piece_at, rows_in, word_count, words_in}

word_count-le : (l : Layout) (columns m n : ℕ) → m ≤ n → word_count l columns m ≤ word_count l columns n
word_count-le layouts.Row columns m n low = mul-le-mul_right (columns + 1) low
word_count-le layouts.Column columns m n low = omega arith

rows-le : (s : TableShape) (c : ℕ) → rows_in s c ≤ min s.per s.rows
rows-le s c = let e : (c + 1) * s.per ≡ c * s.per + s.per = omega (arith, add-mul c 1 s.per) in omega (arith, e)

pub words-within : (s : TableShape) (p : ℕ) → words_in (piece_at s p) ≤ frame_words s
words-within s p = word_count-le s.layout (length s.kinds) (rows_in s (chunk_of s p)) (min s.per s.rows) (rows-le s (chunk_of s p))
