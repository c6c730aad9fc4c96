-- The rows of a table are its chunks, one after another.
use Rattle.std.proofs.Common.{◌≡◌, ◌∙◌, ◌+◌, ◌-◌, ◌*◌, ◌%◌, ◌<◌, ◌≤◌, ◌++◌, ℕ, zero, suc, List, length, take, drop, arith, refl, sym, ap, inl, inr, length-drop}
use Rattle.std.proofs.lemmas.Bool.{cases_lt}
use Rattle.std.proofs.lemmas.List.{drop-drop, drop-take, take-append-drop, take-take, take_all}
use Rattle.std.proofs.Math.Nat.{add-mul, div-add-mod, mod-lt}
use Rattle.std.specs.List.{flat_map, range_with_len}
use Rattle.table_core.specs.Chunk.{chunk, chunk_count, chunk_end}

take-add : {X : Type 0} (a b : ℕ) (xs : List X) → take (a + b) xs ≡ take a xs ++ take b (drop a xs)
take-add a b xs = sym (take-append-drop a (take (a + b) xs)) ∙ rw (take-take a (a + b) xs (omega arith), drop-take a b xs) refl

next : (c per : ℕ) → (c + 1) * per ≡ c * per + per
next c per = omega (arith, add-mul c 1 per)

-- a chunk is as many rows as there are, up to so many
chunk-take : {X : Type 0} (rows : List X) (per c : ℕ) → chunk rows per c ≡ take per (drop (c * per) rows)
chunk-take rows per c = elim (cases_lt (length rows) ((c + 1) * per)) [
  | inl short ↦
      let rest = drop (c * per) rows in
      let long : length rest ≡ length rows - c * per = length-drop (c * per) rows in
      take_all (chunk_end (length rows) per c - c * per) rest (omega (arith, short, long)) ∙ sym (take_all per rest (omega (arith, short, long, next c per)))
  | inr whole ↦ ap (λ n. take n (drop (c * per) rows)) (omega (arith, whole, next c per))
]

-- the rows of one more chunk
pub take-chunk : {X : Type 0} (rows : List X) (per c : ℕ) → take (c * per) rows ++ chunk rows per c ≡ take (suc c * per) rows
take-chunk rows per c =
    let e : suc c * per ≡ c * per + per = omega (arith, next c per) in
    rw (e, chunk-take rows per c, take-add (c * per) per rows) refl

-- so many chunks from one on are the rows from its first one on
chunks_from : {X : Type 0} (rows : List X) (per c count : ℕ) → flat_map (chunk rows per) (range_with_len c count) ≡ take (count * per) (drop (c * per) rows)
chunks_from rows per c zero = let e : 0 * per ≡ 0 = omega arith in rw e refl
chunks_from rows per c (suc count) =
    let e : suc count * per ≡ per + count * per = omega arith in
    rw (chunk-take rows per c, chunks_from rows per (c + 1) count, e, take-add per (count * per) (drop (c * per) rows), drop-drop, next c per) refl

-- the chunks have room for all rows
pub count-room : (rows per : ℕ) → 1 ≤ per → rows ≤ chunk_count rows per * per
count-room rows per some =
    let m = rows + per - 1 in
    let left : m % per < per = mod-lt m some in
    omega (arith, left, div-add-mod m per)

pub chunks_join : {X : Type 0} (rows : List X) (per : ℕ) → 1 ≤ per → flat_map (chunk rows per) (range_with_len 0 (chunk_count (length rows) per)) ≡ rows
chunks_join rows per some =
    let e : 0 * per ≡ 0 = omega arith in
    let count = chunk_count (length rows) per in
    chunks_from rows per 0 count ∙ ap (λ n. take (count * per) (drop n rows)) e ∙ take_all (count * per) rows (count-room (length rows) per some)
