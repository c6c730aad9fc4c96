-- The numbers of the rows of chunks: of which chunk each is, no two chunks share one, and together they are no more than the table has.
use Rattle.std.proofs.Common.{◌≡◌, ◌==◌, ◌||◌, ◌<◌, ◌≤◌, ◌+◌, ◌-◌, ◌*◌, ◌/◌, ◌++◌, ◌∷◌, [], ℕ, zero, suc, Bool, true, false, if◌then◌else◌, List, length, map, arith, refl, sym, ap, ◌∙◌, subst, length-append, add-one}
use Rattle.std.specs.List.{range_with_len}
use Rattle.std.proofs.Math.Nat.{add-mul}
use Rattle.std.proofs.lemmas.Grind.{flat_map-append}
use Rattle.std.proofs.lemmas.List.{append-nil}
use Rattle.std.proofs.lemmas.List.Folds.{list_any-append}
use Rattle.std.proofs.lemmas.List.FromFn.{length-range_with_len}
use Rattle.std.proofs.lemmas.Nat.{div-mul-add}
use Rattle.table_core.specs.declared.cell.Cell.{Cell}
use Rattle.piece_format.specs.Shape.{TableShape, rows_in}
use Rattle.row_blocks.specs.Blocks.{BlockView}
use Rattle.top_rows.specs.Blocks.{numbered_at, numbered_rows}
use Rattle.query_meaning.specs.Rows.{Numbered, has_number}
use Rattle.scan_story.specs.Counting.{has}
use Rattle.sql_bind.specs.declared.plan.Plan.{Plan}
use Rattle.sql_bind.specs.Meaning.{matches}
use Rattle.query_gather.specs.declared.partial.Partial.{Partial}
use Rattle.query_gather.specs.declared.partial.Partial.TheVariants.{Groups, Top}
use Rattle.query_gather.specs.Partial.{MayJoin, matching}
use Rattle.story_laws.specs.Lists.{NoneTwice}
use Rattle.story_laws.proofs.Bools.{either, if_not, not_both, or_false, or_left, or_off, same_number, equal_number, flipped, or_right, self_number}
use Rattle.story_laws.proofs.Lists.{length_below}
use Rattle.batch_ends.specs.Rows.{chunk_numbers, numbers_of_chunks}

-- Lists of numbers

has-append : (xs ys : List ℕ) (n : ℕ) → has (xs ++ ys) n ≡ (has xs n || has ys n)
has-append xs ys n = list_any-append (λ y. y == n) xs ys

once_append : (xs ys : List ℕ) → NoneTwice xs → NoneTwice ys → ((n : ℕ) → has xs n ≡ true → has ys n ≡ false) → NoneTwice (xs ++ ys)
once_append [] ys a b apart = b
once_append (x ∷ xs) ys a b apart = (
  has-append xs ys x ∙ or_off (has xs x) (has ys x) a.0 (apart x (or_left (x == x) (has xs x) (self_number x))),
  once_append xs ys a.1 b (λ n there. apart n (or_right (x == n) (has xs n) there)),
)

-- the numbers of a range
in_range : (a k n : ℕ) → has (range_with_len a k) n ≡ true → (a ≤ n) × (n < a + k)
in_range a zero n there = absurd (not_both false there refl)
in_range a (suc k) n there = either (a == n) (has (range_with_len (a + 1) k) n) there (λ e. (let is = same_number a n e in (omega (arith, is), omega (arith, is)))) (λ r. (let i = in_range (a + 1) k n r in (omega (arith, i.0), omega (arith, i.1))))

below_range : (a k n : ℕ) → n < a → has (range_with_len a k) n ≡ false
below_range a k n low = if_not (has (range_with_len a k) n) (λ there. (let i = in_range a k n there in omega (arith, i.0, low)))

range_once : (a k : ℕ) → NoneTwice (range_with_len a k)
range_once a zero = tt
range_once a (suc k) = (below_range (a + 1) k a (omega arith), range_once (a + 1) k)

pub range_more : (a k : ℕ) → range_with_len a (k + 1) ≡ range_with_len a k ++ (a + k) ∷ []
range_more a zero = ap (range_with_len a) (add-one 0) ∙ ap (λ (n : ℕ). n ∷ []) (omega arith)
range_more a (suc k) =
    let rest : range_with_len (a + 1) (suc k) ≡ range_with_len (a + 1) k ++ (a + suc k) ∷ [] =
    ap (range_with_len (a + 1)) (sym (add-one k)) ∙ (range_more (a + 1) k ∙ ap (λ (n : ℕ). range_with_len (a + 1) k ++ n ∷ []) (omega arith)) in
    ap (range_with_len a) (add-one (suc k)) ∙ ap (λ (l : List ℕ). a ∷ l) rest

-- Chunks

module _ (z : TableShape) (some : 1 ≤ z.per) where
  next : (c : ℕ) → (c + 1) * z.per ≡ c * z.per + z.per
  next c = omega (arith, add-mul c 1 z.per)

  rows_within : (c : ℕ) → rows_in z c ≤ z.per
  rows_within c = omega (arith, next c)

  -- a row's number tells its chunk
  chunk_of_number : (c row : ℕ) → row < z.per → (c * z.per + row) / z.per ≡ c
  chunk_of_number c row low = div-mul-add c z.per row low

  in_chunk : (c n : ℕ) → has (chunk_numbers z c) n ≡ true → (n / z.per ≡ c) × (n < z.rows)
  in_chunk c n there =
      let i = in_range (c * z.per) (rows_in z c) n there in
      let e : n ≡ c * z.per + (n - c * z.per) = omega (arith, i.0) in (
        ap (λ (m : ℕ). m / z.per) e ∙ chunk_of_number c (n - c * z.per) (omega (arith, i.0, i.1, rows_within c)),
        omega (arith, i.0, i.1),
      )

  -- a number of the rows of some chunks tells one of them
  pub in_chunks : (cs : List ℕ) (n : ℕ) → has (numbers_of_chunks z cs) n ≡ true → (has cs (n / z.per) ≡ true) × (n < z.rows)
  in_chunks [] n there = absurd (not_both false there refl)
  in_chunks (c ∷ cs) n there =
      either (has (chunk_numbers z c) n) (has (numbers_of_chunks z cs) n) (sym (has-append (chunk_numbers z c) (numbers_of_chunks z cs) n) ∙ there)
      (λ here. (let i = in_chunk c n here in (or_left (c == n / z.per) (has cs (n / z.per)) (equal_number c (n / z.per) (sym i.0)), i.1)))
      (λ later. (let i = in_chunks cs n later in (or_right (c == n / z.per) (has cs (n / z.per)) i.0, i.1)))

  numbers_once : (cs : List ℕ) → NoneTwice cs → NoneTwice (numbers_of_chunks z cs)
  numbers_once [] once = tt
  numbers_once (c ∷ cs) once =
      once_append (chunk_numbers z c) (numbers_of_chunks z cs) (range_once (c * z.per) (rows_in z c)) (numbers_once cs once.1)
      (λ n there. if_not (has (numbers_of_chunks z cs) n) (λ other. not_both (has cs c) (subst (λ (d : ℕ). has cs d ≡ true) (in_chunk c n there).0 (in_chunks cs n other).0) once.0))

  -- different chunks have no more rows than the table
  pub few_numbers : (cs : List ℕ) → NoneTwice cs → length (numbers_of_chunks z cs) ≤ z.rows
  few_numbers cs once = length_below z.rows (numbers_of_chunks z cs) (numbers_once cs once) (λ n there. (in_chunks cs n there).1)

  -- a later row of a chunk that isn't among these
  pub new_number : (cs : List ℕ) (c count row : ℕ) → has cs c ≡ false → count ≤ row → row < rows_in z c → has (numbers_of_chunks z cs ++ range_with_len (c * z.per) count) (c * z.per + row) ≡ false
  new_number cs c count row fresh later low =
      let n = c * z.per + row in
      let is : n / z.per ≡ c = chunk_of_number c row (omega (arith, low, rows_within c)) in
      has-append (numbers_of_chunks z cs) (range_with_len (c * z.per) count) n
      ∙ or_off (has (numbers_of_chunks z cs) n) (has (range_with_len (c * z.per) count) n)
      (if_not (has (numbers_of_chunks z cs) n) (λ there. not_both (has cs c) (subst (λ (d : ℕ). has cs d ≡ true) is (in_chunks cs n there).0) fresh))
      (if_not (has (range_with_len (c * z.per) count) n) (λ there. (let i = in_range (c * z.per) count n there in omega (arith, i.1, later))))

-- one more chunk
pub numbers_more : (z : TableShape) (cs : List ℕ) (c : ℕ) → numbers_of_chunks z cs ++ chunk_numbers z c ≡ numbers_of_chunks z (cs ++ c ∷ [])
numbers_more z cs c = ap (λ (l : List ℕ). numbers_of_chunks z cs ++ l) (sym (append-nil (chunk_numbers z c))) ∙ sym (flat_map-append (chunk_numbers z) cs (c ∷ []))

pub length_more : (z : TableShape) (cs : List ℕ) (c : ℕ) → length (numbers_of_chunks z (cs ++ c ∷ [])) ≡ length (numbers_of_chunks z cs) + rows_in z c
length_more z cs c =
    ap length (sym (numbers_more z cs c)) ∙ (length-append (numbers_of_chunks z cs) (chunk_numbers z c) ∙ ap (λ (n : ℕ). length (numbers_of_chunks z cs) + n) (length-range_with_len (c * z.per) (rows_in z c)))

-- Rows with these numbers

abbrev pub numbers_of : List (Numbered Cell) → List ℕ
numbers_of rows = map (λ (r : Numbered Cell). r.0) rows

pub in_numbers : (rows : List (Numbered Cell)) (n : ℕ) → has_number rows n ≡ true → has (numbers_of rows) n ≡ true
in_numbers [] n there = absurd (not_both false there refl)
in_numbers (r ∷ rows) n there =
    either (n == r.0) (has_number rows n) there (λ here. or_left (r.0 == n) (has (numbers_of rows) n) (equal_number r.0 n (sym (same_number n r.0 here))))
    (λ later. or_right (r.0 == n) (has (numbers_of rows) n) (in_numbers rows n later))

lacks_number : (p : Plan) (rows : List (Numbered Cell)) (n : ℕ) → has (numbers_of rows) n ≡ false → has_number (matching p rows) n ≡ false
lacks_number p [] n not = refl
lacks_number p (r ∷ rows) n not =
    let o = or_false (r.0 == n) (has (numbers_of rows) n) not in
    step (matches p.cond r.1) o.0 (lacks_number p rows n o.1)
  where
    step : (b : Bool) → (r.0 == n) ≡ false → has_number (matching p rows) n ≡ false → has_number (if b then r ∷ matching p rows else matching p rows) n ≡ false
    step true differs rest = or_off (n == r.0) (has_number (matching p rows) n) (flipped r.0 n differs) rest
    step false differs rest = rest

-- the numbers of the rows of a block
in_block : (first : ℕ) (b : BlockView) (i k n : ℕ) → has_number (map (numbered_at first b) (range_with_len i k)) n ≡ true → (first + i ≤ n) × (n < first + i + k)
in_block first b i zero n there = absurd (not_both false there refl)
in_block first b i (suc k) n there =
    either (n == first + i) (has_number (map (numbered_at first b) (range_with_len (i + 1) k)) n) there (λ e. (let is = same_number n (first + i) e in (omega (arith, is), omega (arith, is))))
    (λ r. (let later = in_block first b (i + 1) k n r in (omega (arith, later.0), omega (arith, later.1))))

-- the rows of a block are new among these, where none of these has one of their numbers
pub may_join : (a : Partial) (p : Plan) (rows : List (Numbered Cell)) (first : ℕ) (b : BlockView) → ((i : ℕ) → i < b.count → has (numbers_of rows) (first + i) ≡ false) → MayJoin a (matching p rows) (numbered_rows first b)
may_join (Groups g) p rows first b new = tt
may_join (Top t) p rows first b new = λ n among. if_not (has_number (numbered_rows first b) n) (λ there.
    let among_these = in_block first b 0 b.count n there in
    let i : ℕ = n - first in
    let is : first + i ≡ n = omega (arith, among_these.0) in
    not_both (has_number (matching p rows) n) among (lacks_number p rows n (subst (λ (m : ℕ). has (numbers_of rows) m ≡ false) is (new i (omega (arith, among_these.0, among_these.1))))))
