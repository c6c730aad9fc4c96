-- The elements of a list that pass, taken chunk by chunk.
use Rattle.std.proofs.Common.{◌≡◌, ◌∙◌, ◌*◌, ◌<◌, ◌≤◌, ◌∷◌, ℕ, zero, suc, Bool, false, List, [], length, take, arith, refl, ap, inl, inr}
use Rattle.std.specs.Prelude.{All, filter}
use Rattle.std.specs.List.{flat_map}
use Rattle.std.proofs.lemmas.Bool.{cases_Bool}
use Rattle.std.proofs.lemmas.Grind.{flat_map-append}
use Rattle.std.proofs.lemmas.List.{append-nil, take_all}
use Rattle.std.proofs.lemmas.List.Elements.{All-head, All-tail, filter-append}
use Rattle.table_core.specs.Chunk.{chunk, chunk_count}
use Rattle.table_sets.specs.Sets.{numbers_below}
use Rattle.table_pieces.proofs.Chunks.{count-room, take-chunk}

none_passes : {X : Type 0} (passes : X → Bool) (xs : List X) → All (λ x. passes x ≡ false) xs → filter passes xs ≡ []
none_passes passes [] none = refl
none_passes passes (x ∷ xs) none = rw (All-head (λ x. passes x ≡ false) x xs none) (none_passes passes xs (All-tail (λ x. passes x ≡ false) x xs none))

module _ {X : Type 0} (passes : X → Bool) (xs : List X) (per : ℕ) (member : ℕ → Bool)
    (out : (c : ℕ) → c < chunk_count (length xs) per → member c ≡ false → All (λ x. passes x ≡ false) (chunk xs per c)) where
  -- of the first chunks
  first_passing : (count : ℕ) → count ≤ chunk_count (length xs) per → flat_map (λ c. filter passes (chunk xs per c)) (numbers_below member count) ≡ filter passes (take (count * per) xs)
  unfolding numbers_below
  first_passing zero low = let e : 0 * per ≡ 0 = omega arith in rw e refl
  first_passing (suc count) low =
      rw (← take-chunk xs per count, filter-append passes (take (count * per) xs) (chunk xs per count), ← first_passing count (omega (arith, low))) (elim (cases_Bool (member count)) [
        | inl needed ↦ rw (needed, flat_map-append (λ c. filter passes (chunk xs per c)) (numbers_below member count) (count ∷ []), append-nil (filter passes (chunk xs per count))) refl
        | inr not ↦ rw (not, none_passes passes (chunk xs per count) (out count (omega (arith, low)) not), append-nil (flat_map (λ c. filter passes (chunk xs per c)) (numbers_below member count))) refl
      ])

  -- of all chunks
  pub passing_chunks : 1 ≤ per → flat_map (λ c. filter passes (chunk xs per c)) (numbers_below member (chunk_count (length xs) per)) ≡ filter passes xs
  passing_chunks some =
      let count = chunk_count (length xs) per in
      first_passing count (omega arith) ∙ ap (filter passes) (take_all (count * per) xs (count-room (length xs) per some))
