-- Rows that are gathered one after another.
use Rattle.std.proofs.Common.{◌≡◌, ◌∙◌, ◌<◌, ◌≤◌, ◌+◌, ◌*◌, ◌++◌, ℕ, zero, suc, false, List, [], ◌∷◌, length, map, take, get_or, arith, refl, sym, ap, subst, append_assoc, length-append}
use Rattle.std.specs.Prelude.{All}
use Rattle.std.specs.List.{range_with_len}
use Rattle.std.proofs.lemmas.List.{append-nil, length-take-le, map-append, take_all, take_more}
use Rattle.std.proofs.lemmas.Grind.{flat_map-append}
use Rattle.std.proofs.lemmas.List.FromFn.{length-map-range_with_len}
use Rattle.std.proofs.lemmas.List.Elements.{All-from_recursion, All-push, filter-append}
use Rattle.coop_outside.specs.Pieces.{Stored}
use Rattle.frame_pool.specs.Frames.{Told}
use Rattle.table_core.specs.Chunk.{chunk}
use Rattle.table_core.specs.declared.cell.Cell.{Cell}
use Rattle.piece_format.specs.Shape.{TableShape, rows_in}
use Rattle.scan_story.specs.Counting.{has}
use Rattle.row_blocks.specs.Blocks.{BlockView, row_at}
use Rattle.top_rows.specs.Blocks.{numbered_at, numbered_rows}
use Rattle.query_meaning.specs.Rows.{Numbered}
use Rattle.sql_bind.specs.declared.plan.Plan.{Plan}
use Rattle.sql_bind.specs.Meaning.{matches, numbered}
use Rattle.query_gather.specs.declared.partial.Partial.{Partial}
use Rattle.query_gather.specs.Agree.{Agree, RowsAgree}
use Rattle.query_gather.specs.Partial.{FitsPlan, MayJoin, Stands, matching, row_count}
use Rattle.query_gather.proofs.Below.{numbered-append}
use Rattle.frame_rows.specs.Tables.{HoldsTable}
use Rattle.batch_ends.specs.Gathered.{Gathered, GatheredRows}
use Rattle.batch_ends.specs.Rows.{AreOfShape, FitsShape, chunk_numbers, chunk_rows, numbers_of_chunks, rows_of_chunks}
use Rattle.batch_run.proofs.Numbers.{may_join, new_number, numbers_more, numbers_of, range_more}

agree_push : (columns : List ℕ) (xs ys : List (Numbered Cell)) (a b : Numbered Cell) → Agree columns xs ys → a.0 ≡ b.0 → RowsAgree columns a.1 b.1 → Agree columns (xs ++ a ∷ []) (ys ++ b ∷ [])
agree_push columns [] [] a b all same rows = (same, rows, tt)
agree_push columns [] (y ∷ ys) a b all same rows = absurd all
agree_push columns (x ∷ xs) [] a b all same rows = absurd all
agree_push columns (x ∷ xs) (y ∷ ys) a b all same rows = (all.0, all.1, agree_push columns xs ys a b all.2 same rows)

-- the rows of a table with one more of them
numbered-more : (start row : ℕ) (rows : List (List Cell)) → row < length rows → numbered start (take (row + 1) rows) ≡ numbered start (take row rows) ++ (start + row, get_or rows row []) ∷ []
numbered-more start row rows low =
    ap (numbered start) (take_more rows row [] low)
    ∙ numbered-append start (take row rows) (get_or rows row [] ∷ [])
    ∙ ap (λ n. numbered start (take row rows) ++ numbered (start + n) (get_or rows row [] ∷ [])) (length-take-le row rows (omega (arith, low)))

module _ (z : TableShape) (p : Plan) (held : Stored) (told : Told) where
  -- nothing is gathered of no chunks
  pub gathered_none : (partial : Partial) → FitsPlan p partial → Stands partial [] → row_count partial ≡ 0 → Gathered z p held told [] partial
  gathered_none partial fits stands none = record {
    plan = fits;
    rows = [];
    stands = stands;
    count = omega (arith, none);
    numbers = refl;
    shaped = All-from_recursion (λ (r : Numbered Cell). FitsShape z r.1) [] tt;
    agree = λ table wide holds. tt;
  }

  -- it counts no more rows than these chunks have
  pub count_of : (cs : List ℕ) (partial : Partial) → Gathered z p held told cs partial → row_count partial ≤ length (numbers_of_chunks z cs)
  count_of cs partial g = let long = ap length g.numbers in omega (arith, g.count, long, length-numbers g.rows)
    where
      length-numbers : (rows : List (Numbered Cell)) → length (numbers_of rows) ≡ length rows
      length-numbers [] = refl
      length-numbers (r ∷ rows) = omega (arith, length-numbers rows)

  -- the same may be said of equal numbers and of equal rows of each table that is told
  same_rows : (partial : Partial) (ns ms : List ℕ) (these those : List (List Cell) → List (Numbered Cell)) → ns ≡ ms
      → ((table : List (List Cell)) → AreOfShape z table → these table ≡ those table) → GatheredRows z p held told ns these partial → GatheredRows z p held told ms those partial
  same_rows partial ns ms these those is same g = record {
    plan = g.plan;
    rows = g.rows;
    stands = g.stands;
    count = g.count;
    numbers = g.numbers ∙ is;
    shaped = g.shaped;
    agree = λ table wide holds. subst (Agree p.columns g.rows) (same table wide) (g.agree table wide holds);
  }

  -- these rows were read: they have these numbers, and their cells are those that the columns may have, and the table's where that is told
  record AreRead (ns : List ℕ) (these : List (List Cell) → List (Numbered Cell)) (rows : List (Numbered Cell)) : Type 0 where
    pub numbers : numbers_of rows ≡ ns
    pub shaped : All (λ (r : Numbered Cell). FitsShape z r.1) rows
    pub agree : (table : List (List Cell)) → AreOfShape z table → HoldsTable held told z table → Agree p.columns rows (these table)

  -- Of a chunk

  module _ (cs : List ℕ) (c : ℕ) where
    -- the first rows of the chunk, behind the chunks before it
    abbrev pub GatheredFirst : ℕ → Partial → Type 0
    GatheredFirst count partial =
        GatheredRows z p held told (numbers_of_chunks z cs ++ range_with_len (c * z.per) count) (λ table. rows_of_chunks z.per cs table ++ numbered (c * z.per) (take count (chunk table z.per c))) partial

    -- the first rows of the chunk were read, behind those of the chunks before it
    abbrev ReadFirst : ℕ → List (Numbered Cell) → Type 0
    ReadFirst count rows = AreRead (numbers_of_chunks z cs ++ range_with_len (c * z.per) count) (λ table. rows_of_chunks z.per cs table ++ numbered (c * z.per) (take count (chunk table z.per c))) rows

    -- a row that was read is the table's as far as the plan can tell
    abbrev pub IsTables : ℕ → List Cell → Type 0
    IsTables row cells = (table : List (List Cell)) → AreOfShape z table → HoldsTable held told z table → (row < length (chunk table z.per c)) × RowsAgree p.columns cells (get_or (chunk table z.per c) row [])

    -- one more row
    read_more : (row : ℕ) (cells : List Cell) (rows : List (Numbered Cell)) → FitsShape z cells → IsTables row cells → ReadFirst row rows → ReadFirst (row + 1) (rows ++ (c * z.per + row, cells) ∷ [])
    read_more row cells rows shaped is before =
        let start = c * z.per in
        let n = start + row in
        record {
          numbers = map-append (λ (r : Numbered Cell). r.0) rows ((n, cells) ∷ [])
              ∙ (ap (λ (l : List ℕ). l ++ n ∷ []) before.numbers
              ∙ (append_assoc (numbers_of_chunks z cs) (range_with_len start row) (n ∷ []) ∙ ap (λ (l : List ℕ). numbers_of_chunks z cs ++ l) (sym (range_more start row))));
          shaped = All-push (λ (r : Numbered Cell). FitsShape z r.1) rows (n, cells) before.shaped shaped;
          agree = λ table wide holds.
              let r = is table wide holds in
              let all = chunk table z.per c in
              let these = rows_of_chunks z.per cs table in
              subst (Agree p.columns (rows ++ (n, cells) ∷ [])) (append_assoc these (numbered start (take row all)) ((n, get_or all row []) ∷ []) ∙ ap (λ (l : List (Numbered Cell)). these ++ l) (sym (numbered-more start row all r.0)))
              (agree_push p.columns rows (these ++ numbered start (take row all)) (n, cells) (n, get_or all row []) (before.agree table wide holds) refl r.1);
        }

    -- a block more, whose first row is this one of the chunk
    module _ (start : ℕ) (b : BlockView) (shaped : (i : ℕ) → i < b.count → FitsShape z (row_at b i)) (is : (i : ℕ) → i < b.count → IsTables (start + i) (row_at b i)) where
      read_on : (i k : ℕ) (rows : List (Numbered Cell)) → i + k ≤ b.count → ReadFirst (start + i) rows → ReadFirst (start + i + k) (rows ++ map (numbered_at (c * z.per + start) b) (range_with_len i k))
      read_on i zero rows low before = subst (ReadFirst (start + i + 0)) (sym (append-nil rows)) (subst (λ (n : ℕ). ReadFirst n rows) (omega arith) before)
      read_on i (suc k) rows low before =
          let one : Numbered Cell = numbered_at (c * z.per + start) b i in
          let rest : List (Numbered Cell) = map (numbered_at (c * z.per + start) b) (range_with_len (i + 1) k) in
          let number : c * z.per + (start + i) ≡ c * z.per + start + i = omega arith in
          let more : ReadFirst (start + i + 1) (rows ++ one ∷ []) =
          subst (λ (n : ℕ). ReadFirst (start + i + 1) (rows ++ (n, row_at b i) ∷ [])) number (read_more (start + i) (row_at b i) rows (shaped i (omega (arith, low))) (is i (omega (arith, low))) before) in
          let next : ReadFirst (start + (i + 1)) (rows ++ one ∷ []) = subst (λ (n : ℕ). ReadFirst n (rows ++ one ∷ [])) (omega arith) more in
          let all : ReadFirst (start + (i + 1) + k) ((rows ++ one ∷ []) ++ rest) = read_on (i + 1) k (rows ++ one ∷ []) (omega (arith, low)) next in
          subst (ReadFirst (start + i + suc k)) (append_assoc rows (one ∷ []) rest) (subst (λ (n : ℕ). ReadFirst n ((rows ++ one ∷ []) ++ rest)) (omega arith) all)

      pub gathered_block : (old new : Partial) → 1 ≤ z.per → has cs c ≡ false → start + b.count ≤ rows_in z c → GatheredFirst start old → FitsPlan p new → row_count new ≤ row_count old + b.count
          → ((rows : List (Numbered Cell)) → Stands old rows → MayJoin old rows (numbered_rows (c * z.per + start) b) → Stands new (rows ++ matching p (numbered_rows (c * z.per + start) b)))
          → GatheredFirst (start + b.count) new
      gathered_block old new some fresh low before fits count adds =
          let first = c * z.per + start in
          let these = numbered_rows first b in
          let Match = λ (r : Numbered Cell). matches p.cond r.1 in
          let lacks : (i : ℕ) → i < b.count → has (numbers_of before.rows) (first + i) ≡ false = λ i inside.
          (let number : c * z.per + (start + i) ≡ first + i = omega arith in
          ap (λ (l : List ℕ). has l (first + i)) before.numbers
          ∙ subst (λ (n : ℕ). has (numbers_of_chunks z cs ++ range_with_len (c * z.per) start) n ≡ false) number (new_number z some cs c start (start + i) fresh (omega arith) (omega (arith, low, inside)))) in
          let from : ReadFirst (start + 0) before.rows = subst (λ (n : ℕ). ReadFirst n before.rows) (omega arith) (record { numbers = before.numbers; shaped = before.shaped; agree = before.agree }) in
          let read : ReadFirst (start + b.count) (before.rows ++ these) = subst (λ (n : ℕ). ReadFirst n (before.rows ++ these)) (omega arith) (read_on 0 b.count before.rows (omega arith) from) in
          record {
            plan = fits;
            rows = before.rows ++ these;
            stands = subst (Stands new) (sym (filter-append Match before.rows these)) (adds (matching p before.rows) before.stands (may_join old p before.rows first b lacks));
            count = omega (arith, count, before.count, length-append before.rows these, length-map-range_with_len (numbered_at first b) 0 b.count);
            numbers = read.numbers;
            shaped = read.shaped;
            agree = read.agree;
          }

    -- all rows of the chunk
    pub gathered_chunk : (partial : Partial) → ((table : List (List Cell)) → AreOfShape z table → length (chunk table z.per c) ≤ rows_in z c) → GatheredFirst (rows_in z c) partial → Gathered z p held told (cs ++ c ∷ []) partial
    gathered_chunk partial short g =
        same_rows partial (numbers_of_chunks z cs ++ chunk_numbers z c) (numbers_of_chunks z (cs ++ c ∷ [])) (λ table. rows_of_chunks z.per cs table ++ numbered (c * z.per) (take (rows_in z c) (chunk table z.per c)))
        (rows_of_chunks z.per (cs ++ c ∷ [])) (numbers_more z cs c)
        (λ table wide. ap (λ (l : List (List Cell)). rows_of_chunks z.per cs table ++ numbered (c * z.per) l) (take_all (rows_in z c) (chunk table z.per c) (short table wide))
        ∙ (ap (λ (l : List (Numbered Cell)). rows_of_chunks z.per cs table ++ l) (sym (append-nil (chunk_rows z.per table c))) ∙ sym (flat_map-append (chunk_rows z.per table) cs (c ∷ [])))) g
