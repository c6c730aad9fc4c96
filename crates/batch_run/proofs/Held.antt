-- A depot into which all pieces of a table were put, and the content that its frames are told.
use Rattle.std.proofs.Common.{◌≡◌, ◌∙◌, ◌<◌, ◌≤◌, ◌+◌, ◌++◌, ℕ, zero, suc, List, [], ◌∷◌, length, take, map, get_or, arith, refl, sym, ap, add-one}
use Rattle.std.specs.Prelude.{Some, None, slice_get}
use Rattle.std.specs.List.{range_with_len}
use Rattle.std.proofs.lemmas.List.{take_all, take_more}
use Rattle.coop_outside.specs.Pieces.{Pieces, Stored}
use Rattle.piece_format.specs.Bytes.{word_of}
use Rattle.piece_format.specs.Shape.{TableShape, piece_at, pieces, words_in}
use Rattle.piece_format.specs.Words.{piece_words}
use Rattle.piece_format.proofs.Bytes.{length-bytes_of}
use Rattle.table_core.specs.declared.cell.Cell.{Cell}
use Rattle.table_pieces.specs.Putting.{AreLong, ArePut, AreSound, GiveBack, IsPutRefusal, ReadBack, piece_bytes}
use Rattle.table_pieces.specs.declared.refusal.BatchRefusal.{BatchRefusal}
use Rattle.table_pieces.specs.declared.refusal.BatchRefusal.TheVariants as refusals
use Rattle.frame_rows.specs.Tables.{HoldsTable, IsPieceThere, TellAlike, first_words}
use Rattle.batch_ends.specs.Lost.{Tells}
use Rattle.batch_run.specs.Picked.{HoldsRows, HoldsSomeTable, content_of, or_none, words_held}
use Rattle.batch_ends.specs.Refusals.{IsRefusal}

-- the first words, where each is that of a list
words_are : (word : ℕ → ℕ) (n : ℕ) (words : List ℕ) → n ≤ length words → ((i : ℕ) → i < n → word i ≡ get_or words i 0) → first_words word n ≡ take n words
words_are word zero words long same = refl
words_are word (suc n) words long same =
    ap (λ (l : List ℕ). l ++ word n ∷ []) (words_are word n words (omega (arith, long)) (λ i low. same i (omega (arith, low))))
    ∙ ap (λ (w : ℕ). take n words ++ w ∷ []) (same n (omega arith)) ∙ sym (take_more words n 0 (omega (arith, long))) ∙ ap (λ (m : ℕ). take m words) (add-one n)

-- the element of a list that is made place by place
made_at : {X : Type 0} (f : ℕ → X) (from n i : ℕ) → i < n → slice_get (map f (range_with_len from n)) i ≡ Some (f (from + i))
made_at f from zero i low = absurd (omega (arith, low))
made_at f from (suc n) zero low = ap (λ (m : ℕ). Some (f m)) (omega arith)
made_at f from (suc n) (suc i) low = made_at f (from + 1) n i (omega (arith, low)) ∙ ap (λ (m : ℕ). Some (f m)) (omega arith)

module _ (z : TableShape) (rows : List (List Cell)) where
  -- all words of a piece, read back
  words_back : (held : Pieces) → HoldsRows z rows held → (p : ℕ) → p < pieces z → words_held z held p ≡ piece_words z rows p
  words_back held holds p low =
      let bytes = piece_bytes z rows p in
      let words = piece_words z rows p in
      let n = words_in (piece_at z p) in
      let long : length words ≡ n = let e = holds.long p low in let f = length-bytes_of words in omega (arith, e, f) in
      ap (λ o. first_words (word_of (or_none o)) n) (holds.put p low)
      ∙ words_are (word_of bytes) n words (omega (arith, long)) (holds.words p low)
      ∙ ap (λ (m : ℕ). take m words) (sym long) ∙ take_all (length words) words (omega arith)

  one_there : (held : Pieces) (content : List (List ℕ)) → HoldsRows z rows held → content ≡ map (words_held z held) (range_with_len 0 (pieces z)) → (p : ℕ) → p < pieces z → IsPieceThere z rows held content p
  one_there held content holds told p low = record {
    bytes = holds.put p low;
    words = ap (λ l. slice_get l p) told ∙ made_at (words_held z held) 0 (pieces z) p low ∙ ap (λ (i : ℕ). Some (words_held z held i)) (omega arith) ∙ ap Some (words_back held holds p low);
    long = holds.long p low;
    reads_back = holds.words p low;
    gives_back = holds.back p low;
    sound = holds.sound p low;
  }

  pub there : (held : Pieces) → HoldsRows z rows held → HoldsTable (Some held) (content_of z (Some held)) z rows
  there held holds = one_there held (map (words_held z held) (range_with_len 0 (pieces z))) holds refl

  pub rows_put : (old new : Stored) → ArePut z rows (pieces z) (pieces z) old new → AreLong z rows (pieces z) → ReadBack z rows (pieces z) → GiveBack z rows (pieces z) → AreSound z rows (pieces z) → HoldsSomeTable z new
  rows_put None None are long words back sound = tt
  rows_put None (Some new) are long words back sound = absurd are
  rows_put (Some old) None are long words back sound = absurd are
  rows_put (Some old) (Some new) are long words back sound = (rows, record { put = are.put; long = long; words = words; back = back; sound = sound })

  -- where the depot told what it holds, it holds this table
  pub table_put : (old new : Stored) → ArePut z rows (pieces z) (pieces z) old new → AreLong z rows (pieces z) → ReadBack z rows (pieces z) → GiveBack z rows (pieces z) → AreSound z rows (pieces z) → Tells old
      → HoldsTable new (content_of z new) z rows
  table_put None new are long words back sound tells = absurd tells
  table_put (Some old) None are long words back sound tells = absurd are
  table_put (Some old) (Some new) are long words back sound tells = there new (record { put = are.put; long = long; words = words; back = back; sound = sound })

  -- nothing was put yet
  pub none_put : (held : Stored) → ArePut z rows 0 0 held held
  none_put None = tt
  none_put (Some held) = record { put = λ p low. absurd (omega (arith, low)); kept = λ p from. refl }

  pub put_refused : (old new : Stored) (before now : ℕ) (r : BatchRefusal) → IsPutRefusal z rows old new before now r → IsRefusal z rows old new before now r
  put_refused old new before now (refusals.Put piece) is = is
  put_refused old new before now refusals.Memory is = record { put = is.next; within = omega (arith, is.there); left = is.left }

pub alike : (z : TableShape) (held : Stored) → HoldsSomeTable z held → TellAlike held (content_of z held) z
alike z None some = tt
alike z (Some held) some = (some.0, there z some.0 held some.1)

-- the first elements of a list, before others
pub first_of : {X : Type 0} (n : ℕ) (xs ys : List X) → length xs ≡ n → take n (xs ++ ys) ≡ xs
first_of zero [] ys long = refl
first_of (suc n) [] ys long = absurd (omega (arith, long))
first_of zero (x ∷ xs) ys long = absurd (omega (arith, long))
first_of {X} (suc n) (x ∷ xs) ys long = ap (λ (l : List X). x ∷ l) (first_of n xs ys (omega (arith, long)))
