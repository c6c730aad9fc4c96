-- The rows of the needed chunks that match are all rows that match.
use Rattle.std.proofs.Common.{◌≡◌, ◌∙◌, ◌<◌, ◌≤◌, ◌+◌, ◌-◌, ◌*◌, ◌++◌, ℕ, zero, suc, false, List, [], ◌∷◌, length, take, drop, arith, refl, sym, ap, subst}
use Rattle.std.specs.Prelude.{◌≢◌, Option, Some, None, IfSome, All, filter}
use Rattle.std.specs.List.{AllByRecursion, flat_map}
use Rattle.std.proofs.lemmas.Bool.{lt-ltb}
use Rattle.std.proofs.lemmas.List.Elements.{All-from_recursion, filter-append, recursion_from_All}
use Rattle.table_core.specs.Chunk.{chunk, chunk_count, chunk_end}
use Rattle.table_sets.specs.Sets.{has, numbers_below}
use Rattle.table_sets.proofs.Members.{has-numbers}
use Rattle.table_core.specs.declared.cell.Cell.{Cell}
use Rattle.filter_zones.specs.Possible.{chunk_at, is_needed, needed}
use Rattle.filter_zones.specs.Truth.{truth_of}
use Rattle.filter_zones.specs.declared.cond.Cond.{Cond}
use Rattle.filter_zones.specs.declared.truth.Truth.{Truth}
use Rattle.filter_zones.specs.declared.truth.Truth.TheVariants.{False, Unknown, True}
use Rattle.filter_zones.specs.declared.zone.ChunkZones.{ChunkZones}
use Rattle.piece_format.specs.Shape.{TableShape, chunks}
use Rattle.query_meaning.specs.Rows.{Numbered}
use Rattle.sql_bind.specs.declared.plan.Plan.{Plan}
use Rattle.sql_bind.specs.Meaning.{is_true, matches, numbered}
use Rattle.query_gather.specs.Partial.{matching}
use Rattle.table_pieces.specs.Zoning.{NoMatchOutside}
use Rattle.table_pieces.proofs.Passing.{passing_chunks}
use Rattle.batch_ends.specs.Rows.{chunk_rows, rows_of_chunks}

-- ---- parts of numbered rows

numbered-length : (n : ℕ) (rows : List (List Cell)) → length (numbered n rows) ≡ length rows
numbered-length n [] = refl
numbered-length n (row ∷ rows) = ap suc (numbered-length (n + 1) rows)

numbered-take : (k n : ℕ) (rows : List (List Cell)) → take k (numbered n rows) ≡ numbered n (take k rows)
numbered-take zero n rows = refl
numbered-take (suc k) n [] = refl
numbered-take (suc k) n (row ∷ rows) = ap (λ (rest : List (Numbered Cell)). (n, row) ∷ rest) (numbered-take k (n + 1) rows)

numbered-drop : (k n : ℕ) (rows : List (List Cell)) → drop k (numbered n rows) ≡ numbered (n + k) (drop k rows)
numbered-drop zero n rows = ap (λ (m : ℕ). numbered m rows) (omega arith)
numbered-drop (suc k) n [] = refl
numbered-drop (suc k) n (row ∷ rows) = numbered-drop k (n + 1) rows ∙ ap (λ (m : ℕ). numbered m (drop k rows)) (omega arith)

-- a chunk of the numbered rows of a table is a chunk of the table with its numbers
chunk_is : (per c : ℕ) (table : List (List Cell)) → chunk (numbered 0 table) per c ≡ chunk_rows per table c
chunk_is per c table =
    let start = c * per in
    let count = chunk_end (length table) per c - start in
    let zero_start : 0 + start ≡ start = omega arith in
    ap (λ (n : ℕ). take (chunk_end n per c - start) (drop start (numbered 0 table))) (numbered-length 0 table)
    ∙ ap (take count) (numbered-drop start 0 table ∙ ap (λ (n : ℕ). numbered n (drop start table)) zero_start)
    ∙ numbered-take count start (drop start table)

-- ---- rows that pass in chunks

filter-chunks : (p : Plan) (f : ℕ → List (Numbered Cell)) (cs : List ℕ) → matching p (flat_map f cs) ≡ flat_map (λ c. matching p (f c)) cs
filter-chunks p f [] = refl
filter-chunks p f (c ∷ cs) =
    filter-append (λ (r : Numbered Cell). matches p.cond r.1) (f c) (flat_map f cs) ∙ ap (λ (rest : List (Numbered Cell)). matching p (f c) ++ rest) (filter-chunks p f cs)

same-chunks : {X : Type 0} (f h : ℕ → List X) (cs : List ℕ) → ((c : ℕ) → f c ≡ h c) → flat_map f cs ≡ flat_map h cs
same-chunks f h [] same = refl
same-chunks {X} f h (c ∷ cs) same = ap (λ (xs : List X). xs ++ flat_map f cs) (same c) ∙ ap (λ (xs : List X). h c ++ xs) (same-chunks f h cs same)

not_true : (t : Truth) → t ≢ True → is_true t ≡ false
not_true True differs = absurd (differs refl)
not_true Unknown differs = refl
not_true False differs = refl

none_numbered : (c : Cond) (n : ℕ) (rows : List (List Cell)) → AllByRecursion (λ row. truth_of c row ≢ True) rows → AllByRecursion (λ (r : Numbered Cell). matches (Some c) r.1 ≡ false) (numbered n rows)
none_numbered c n [] none = tt
none_numbered c n (row ∷ rows) none = (not_true (truth_of c row) none.0, none_numbered c (n + 1) rows none.1)

module _ (s : TableShape) (table : List (List Cell)) (zones : List ChunkZones) (count : length table ≡ s.rows) (many : length zones ≡ chunks s) where
  -- no row of a chunk that isn't needed matches
  out : (o : Option Cond) → IfSome o (λ c. NoMatchOutside s table c (needed (Some c) zones)) → (k : ℕ) → k < chunk_count (length (numbered 0 table)) s.per → is_needed o (chunk_at zones k) ≡ false
      → All (λ (r : Numbered Cell). matches o r.1 ≡ false) (chunk (numbered 0 table) s.per k)
  out None none k low not = absurd (cc)
  out (Some c) none k low not =
      let long : chunk_count (length (numbered 0 table)) s.per ≡ chunks s = ap (λ (n : ℕ). chunk_count n s.per) (numbered-length 0 table ∙ count) in
      let below : k < chunks s = omega (arith, low, long) in
      let outside : has (needed (Some c) zones) k ≡ false = has-numbers (λ j. is_needed (Some c) (chunk_at zones j)) (length zones) k ∙ rw (lt-ltb k (length zones) (omega (arith, below, many)), not) refl in
      let Fails = λ (r : Numbered Cell). matches (Some c) r.1 ≡ false in
      let NotTrue = λ (row : List Cell). truth_of c row ≢ True in
      let rows = chunk table s.per k in
      subst (All Fails) (sym (chunk_is s.per k table)) (All-from_recursion Fails (numbered (k * s.per) rows) (none_numbered c (k * s.per) rows (recursion_from_All NotTrue rows (none k below outside))))

  pub matching_all : (p : Plan) → 1 ≤ s.per → IfSome p.cond (λ c. NoMatchOutside s table c (needed (Some c) zones)) → matching p (rows_of_chunks s.per (needed p.cond zones) table) ≡ matching p (numbered 0 table)
  matching_all p some none =
      let member = λ (c : ℕ). is_needed p.cond (chunk_at zones c) in
      let passes = λ (r : Numbered Cell). matches p.cond r.1 in
      let long : length zones ≡ chunk_count (length (numbered 0 table)) s.per = many ∙ ap (λ (n : ℕ). chunk_count n s.per) (sym (numbered-length 0 table ∙ count)) in
      filter-chunks p (chunk_rows s.per table) (needed p.cond zones)
      ∙ same-chunks (λ c. matching p (chunk_rows s.per table c)) (λ c. matching p (chunk (numbered 0 table) s.per c)) (needed p.cond zones) (λ c. ap (matching p) (sym (chunk_is s.per c table)))
      ∙ ap (λ (n : ℕ). flat_map (λ c. filter passes (chunk (numbered 0 table) s.per c)) (numbers_below member n)) long
      ∙ passing_chunks passes (numbered 0 table) s.per member (out p.cond none) some
