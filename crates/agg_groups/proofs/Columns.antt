-- The chosen rows of a block, row by row and column by column.
use Rattle.std.proofs.Common.{◌≡◌, ◌∙◌, ◌<◌, ◌≤◌, ◌+◌, ◌/◌, ◌%◌, ◌^◌, ◌==◌, ◌++◌, ℕ, suc, zero, Bool, true, false, List, [], ◌∷◌, length, map, filter, ap, refl, sym, subst, arith, inl, inr, append-nil}
use Rattle.std.specs.Prelude.{if◌then◌else◌, count_ones, pos, ◌+ℤ◌}
use Rattle.std.specs.Int.{bit_at}
use Rattle.std.specs.List.{range_with_len}
use lib.Count.{ones_step}
use Rattle.std.proofs.lemmas.Bool.{cases_Bool, eqb-true, eqb-false}
use Rattle.std.proofs.lemmas.Nat.{shr-shr}
use Rattle.std.proofs.lemmas.Nat.Bits.{bit_at-lt, bit_at-zero, same_from_bits}
use Rattle.std.proofs.lemmas.List.{length-map}
use Rattle.std.proofs.lemmas.List.FromFn.{map-range_with_len_more, length-map-range_with_len}
use Rattle.table_core.specs.declared.cell.Cell.TheVariants.{Null}
use Rattle.row_blocks.specs.declared.lane.Holds.{Holds}
use Rattle.row_blocks.specs.declared.lane.Holds.TheVariants as holds
use Rattle.row_blocks.specs.declared.lane.Lane.{Lane}
use Rattle.row_blocks.specs.Blocks.{BlockView, lane_at, row_at, rows_in}
use Rattle.row_blocks.specs.Chosen.{chosen, chosen_from}
use Rattle.row_blocks.specs.Lanes.{lane_cell, is_null_at, held, word_at}
use Rattle.row_blocks.proofs.Chosen.{chosen-append, chosen-same, length-chosen}
use Rattle.row_blocks.proofs.Rows.{cell-row, length-rows}
use Rattle.query_meaning.specs.Cells.{codes, int_of, is_value}
use Rattle.query_meaning.specs.Meaning as meaning
use Rattle.agg_groups.specs.Blocks.{chosen_in, cells_in, AreInBlock}
use Rattle.agg_groups.proofs.Values.{fold-push, length-push}

-- one place more to choose from
pub chosen-more : {T : Type 0} (f : ℕ → T) (word n : ℕ) → chosen word (map f (range_with_len 0 (n + 1)))
    ≡ (if bit_at word n == 1 then chosen word (map f (range_with_len 0 n)) ++ f n ∷ [] else chosen word (map f (range_with_len 0 n)))
chosen-more f word n =
    let front = chosen word (map f (range_with_len 0 n)) in
    let at : 0 + length (map f (range_with_len 0 n)) ≡ n = omega (arith, length-map-range_with_len f 0 n) in
    ap (chosen word) (map-range_with_len_more f 0 n n (omega arith))
    ∙ chosen-append 0 word (map f (range_with_len 0 n)) (f n ∷ [])
    ∙ ap (λ m. front ++ chosen_from m word (f n ∷ [])) at
    ∙ elim (cases_Bool (bit_at word n == 1)) [ inl t ↦ rw t refl | inr t ↦ rw t (append-nil front) ]

-- ---- how many rows are chosen

-- a word has no bits from n on
pub none_above : (n word : ℕ) → AreInBlock n word → word / 2 ^ n ≡ 0
none_above n word below = same_from_bits (word / 2 ^ n) 0 (λ i. ap (λ m. m % 2) (shr-shr word n i) ∙ below (n + i) (omega arith) ∙ sym (bit_at-zero i))

-- there are as many chosen rows as set bits
ones-from : {T : Type 0} (n word : ℕ) (rows : List T) → word / 2 ^ (n + length rows) ≡ 0 → length (chosen_from n word rows) ≡ count_ones (word / 2 ^ n)
unfolding lib.Count.ones
ones-from n word [] none = sym (ap count_ones (ap (λ m. word / 2 ^ m) (let e : n ≡ n + 0 = omega arith in e) ∙ none))
ones-from n word (r ∷ rs) none =
    let rest = ones-from (n + 1) word rs (ap (λ m. word / 2 ^ m) (let e : n + 1 + length rs ≡ n + suc (length rs) = omega arith in e) ∙ none) in
    let step : count_ones (word / 2 ^ n) ≡ bit_at word n + count_ones (word / 2 ^ (n + 1)) = ones_step (word / 2 ^ n) ∙ ap (λ m. bit_at word n + count_ones m) (shr-shr word n 1) in
    elim (cases_Bool (bit_at word n == 1)) [
      | inl t ↦ rw t (omega (arith, rest, step, eqb-true (bit_at word n) 1 t))
      | inr f ↦ rw f (omega (arith, rest, step, eqb-false (bit_at word n) 1 f, bit_at-lt word n))
    ]

pub ones-chosen : {T : Type 0} (word : ℕ) (rows : List T) → AreInBlock (length rows) word → length (chosen word rows) ≡ count_ones word
ones-chosen word rows below =
    let from : 0 + length rows ≡ length rows = omega arith in
    let whole : word / 2 ^ 0 ≡ word = omega arith in
    ones-from 0 word rows (ap (λ m. word / 2 ^ m) from ∙ none_above (length rows) word below) ∙ ap count_ones whole

pub ones-block : (b : BlockView) (word : ℕ) → AreInBlock b.count word → length (chosen_in b word) ≡ count_ones word
ones-block b word below = ones-chosen word (rows_in b) (subst (λ n. AreInBlock n word) (sym (length-rows b)) below)

-- ---- the values of a column

-- a cell that isn't NULL is a value
is_value-held : (h : Holds) (word : ℕ) → is_value (held h word) ≡ true
is_value-held holds.Numbers word = refl
is_value-held holds.Codes word = refl

-- the values of a column in the chosen rows are the chosen cells that aren't NULL
values-from : (b : BlockView) (x word values n m : ℕ) → x < b.width → ((i : ℕ) → bit_at values i ≡ (if is_null_at (lane_at b x) i then 0 else bit_at word i))
    → meaning.values codes x (chosen_from n word (map (row_at b) (range_with_len n m))) ≡ chosen_from n values (map (lane_cell (lane_at b x)) (range_with_len n m))
values-from b x word values n zero in_row bits = refl
values-from b x word values n (suc m) in_row bits =
    let lane = lane_at b x in
    let rest = values-from b x word values (n + 1) m in_row bits in
    let here = bits n in
    elim (cases_Bool (bit_at word n == 1)) [
      | inl t ↦ elim (cases_Bool (is_null_at lane n)) [
        | inl null ↦
            let clear : bit_at values n ≡ 0 = here ∙ ap (λ c. if c then 0 else bit_at word n) null in
            let cell : is_value (meaning.cell codes (row_at b n) x) ≡ false = ap is_value (cell-row b n x in_row ∙ ap (λ c. if c then Null else held lane.holds (word_at lane n)) null) in
            rw (t, cell, clear) rest
        | inr full ↦
            let set : bit_at values n ≡ 1 = here ∙ ap (λ c. if c then 0 else bit_at word n) full ∙ eqb-true (bit_at word n) 1 t in
            let cell : meaning.cell codes (row_at b n) x ≡ lane_cell lane n = cell-row b n x in_row in
            let value : is_value (lane_cell lane n) ≡ true = ap is_value (ap (λ c. if c then Null else held lane.holds (word_at lane n)) full) ∙ is_value-held lane.holds (word_at lane n) in
            rw (t, cell, value, set) (ap (λ cs. lane_cell lane n ∷ cs) rest)
      ]
      | inr f ↦
          let clear : (bit_at values n == 1) ≡ false = elim (cases_Bool (is_null_at lane n)) [
            | inl null ↦ ap (λ m. m == 1) (here ∙ ap (λ c. if c then 0 else bit_at word n) null)
            | inr full ↦ ap (λ m. m == 1) (here ∙ ap (λ c. if c then 0 else bit_at word n) full) ∙ f
          ] in
          rw (f, clear) rest
    ]

pub values-chosen : (b : BlockView) (x word values : ℕ) → x < b.width → ((i : ℕ) → bit_at values i ≡ (if is_null_at (lane_at b x) i then 0 else bit_at word i))
    → meaning.values codes x (chosen_in b word) ≡ chosen values (cells_in (lane_at b x) b.count)
values-chosen b x word values in_row bits = values-from b x word values 0 b.count in_row bits

-- no more rows are chosen than the block has
pub few-chosen : (b : BlockView) (word : ℕ) → length (chosen_in b word) ≤ b.count
few-chosen b word = omega (arith, length-chosen 0 word (rows_in b), length-rows b)

-- bits that are the same among the block's rows choose the same
pub same-chosen : (b : BlockView) (word other : ℕ) → ((i : ℕ) → i < b.count → bit_at word i ≡ bit_at other i) → chosen_in b word ≡ chosen_in b other
same-chosen b word other same = chosen-same 0 word other (rows_in b) (λ i from to. same i (omega (arith, to, length-rows b)))

-- as many values as set bits
pub count-values : (b : BlockView) (x word values : ℕ) → x < b.width → AreInBlock b.count word → ((i : ℕ) → bit_at values i ≡ (if is_null_at (lane_at b x) i then 0 else bit_at word i))
    → length (meaning.values codes x (chosen_in b word)) ≡ count_ones values
count-values b x word values in_row below bits =
    let long = length-map-range_with_len (lane_cell (lane_at b x)) 0 b.count in
    let clear : AreInBlock b.count values = λ i past. bits i ∙ elim (cases_Bool (is_null_at (lane_at b x) i)) [
      | inl t ↦ ap (λ c. if c then 0 else bit_at word i) t
      | inr f ↦ ap (λ c. if c then 0 else bit_at word i) f ∙ below i past
    ] in
    ap length (values-chosen b x word values in_row bits) ∙ ones-chosen values (cells_in (lane_at b x) b.count) (subst (λ n. AreInBlock n values) (sym long) clear)

-- ---- one row more in a column

pub total-more : (lane : Lane) (word n : ℕ) → meaning.total codes (chosen word (cells_in lane (n + 1)))
    ≡ (if bit_at word n == 1 then meaning.total codes (chosen word (cells_in lane n)) +ℤ int_of (lane_cell lane n) else meaning.total codes (chosen word (cells_in lane n)))
total-more lane word n = ap (meaning.total codes) (chosen-more (lane_cell lane) word n) ∙ elim (cases_Bool (bit_at word n == 1)) [
  | inl t ↦ rw t (fold-push (λ a c. a +ℤ int_of c) (pos 0) (chosen word (cells_in lane n)) (lane_cell lane n))
  | inr f ↦ rw f refl
]

pub least-more : (lane : Lane) (word n : ℕ) → meaning.least codes (chosen word (cells_in lane (n + 1)))
    ≡ (if bit_at word n == 1 then meaning.lesser codes (meaning.least codes (chosen word (cells_in lane n))) (lane_cell lane n) else meaning.least codes (chosen word (cells_in lane n)))
least-more lane word n = ap (meaning.least codes) (chosen-more (lane_cell lane) word n) ∙ elim (cases_Bool (bit_at word n == 1)) [
  | inl t ↦ rw t (fold-push (meaning.lesser codes) Null (chosen word (cells_in lane n)) (lane_cell lane n))
  | inr f ↦ rw f refl
]

pub greatest-more : (lane : Lane) (word n : ℕ) → meaning.greatest codes (chosen word (cells_in lane (n + 1)))
    ≡ (if bit_at word n == 1 then meaning.greater codes (meaning.greatest codes (chosen word (cells_in lane n))) (lane_cell lane n) else meaning.greatest codes (chosen word (cells_in lane n)))
greatest-more lane word n = ap (meaning.greatest codes) (chosen-more (lane_cell lane) word n) ∙ elim (cases_Bool (bit_at word n == 1)) [
  | inl t ↦ rw t (fold-push (meaning.greater codes) Null (chosen word (cells_in lane n)) (lane_cell lane n))
  | inr f ↦ rw f refl
]

-- how many are chosen among one more
length-more : (lane : Lane) (word n : ℕ) → length (chosen word (cells_in lane (n + 1)))
    ≡ (if bit_at word n == 1 then length (chosen word (cells_in lane n)) + 1 else length (chosen word (cells_in lane n)))
length-more lane word n = ap length (chosen-more (lane_cell lane) word n) ∙ elim (cases_Bool (bit_at word n == 1)) [
  | inl t ↦ rw t (length-push (chosen word (cells_in lane n)) (lane_cell lane n))
  | inr f ↦ rw f refl
]

pub one_longer : (lane : Lane) (word n : ℕ) → (bit_at word n == 1) ≡ true → length (chosen word (cells_in lane (n + 1))) ≡ length (chosen word (cells_in lane n)) + 1
one_longer lane word n t = length-more lane word n ∙ ap (λ c. if c then length (chosen word (cells_in lane n)) + 1 else length (chosen word (cells_in lane n))) t

pub as_long : (lane : Lane) (word n : ℕ) → (bit_at word n == 1) ≡ false → length (chosen word (cells_in lane (n + 1))) ≡ length (chosen word (cells_in lane n))
as_long lane word n f = length-more lane word n ∙ ap (λ c. if c then length (chosen word (cells_in lane n)) + 1 else length (chosen word (cells_in lane n))) f

pub few_cells : (lane : Lane) (word n : ℕ) → length (chosen word (cells_in lane n)) ≤ n
few_cells lane word n = omega (arith, length-chosen 0 word (cells_in lane n), length-map-range_with_len (lane_cell lane) 0 n)

length-filter : {A : Type 0} (p : A → Bool) (xs : List A) → length (filter p xs) ≤ length xs
length-filter p [] = omega arith
length-filter p (x ∷ xs) = elim (cases_Bool (p x)) [ inl t ↦ rw t (omega (arith, length-filter p xs)) | inr f ↦ rw f (omega (arith, length-filter p xs)) ]

-- no column has more values than rows are chosen
pub fewer-values : (b : BlockView) (x word values : ℕ) → x < b.width → AreInBlock b.count word → ((i : ℕ) → bit_at values i ≡ (if is_null_at (lane_at b x) i then 0 else bit_at word i))
    → count_ones values ≤ count_ones word
fewer-values b x word values in_row below bits =
    let rows = chosen_in b word in
    let some : length (meaning.values codes x rows) ≤ length (map (λ row. meaning.cell codes row x) rows) = length-filter is_value (map (λ row. meaning.cell codes row x) rows) in
    omega (arith, some, length-map rows (λ row. meaning.cell codes row x), count-values b x word values in_row below bits, ones-block b word below)
