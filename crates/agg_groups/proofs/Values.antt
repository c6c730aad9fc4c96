-- Running values: over one row more, over two lists of rows, and what they show.
use Rattle.std.proofs.Common.{◌≡◌, ℕ, ◌+◌, ◌≤◌, Bool, true, false, List, [], ◌∷◌, ◌++◌, length, map, filter, fold, suc, refl, sym, ap, ◌∙◌, arith, inl, inr, length-append}
use Rattle.std.specs.Prelude.{ℤ, pos, ◌+ℤ◌, Some, None, if◌then◌else◌, All}
use Rattle.std.proofs.lemmas.Bool.{cases_Bool, false≢true}
use Rattle.std.specs.declared.cmp.Ordering.{Ordering}
use Rattle.std.specs.declared.cmp.Ordering.TheVariants.{Less, Equal, Greater}
use Rattle.std.specs.Ordering.{is_lt, ordering_reverse}
use Rattle.std.proofs.lemmas.Int.{ints}
use Rattle.std.specs.List.{AllByRecursion}
use Rattle.std.proofs.lemmas.List.Elements.{All-from_recursion, recursion_from_All}
use Rattle.table_core.specs.declared.cell.Cell.{Cell}
use Rattle.table_core.specs.declared.cell.Cell.TheVariants.{Null, Int, Code}
use Rattle.table_core.specs.Cell.{cell_cmp}
use Rattle.table_sets.specs.declared.limits.TheConstants.{MOST_ROWS}
use Rattle.agg_groups.specs.declared.running.Running.{Running}
use Rattle.agg_groups.specs.declared.running.Running.TheVariants as running
use Rattle.query_meaning.specs.declared.item.Item.{Item}
use Rattle.query_meaning.specs.declared.item.Item.TheVariants.{CountAll, Count, Sum, Min, Max, Key}
use Rattle.query_meaning.specs.Cells.{codes, is_value, int_of}
use Rattle.query_meaning.specs.Meaning as meaning
use Rattle.query_meaning.specs.Meaning.{fits, over, answer}
use Rattle.agg_groups.specs.Running.{running_of, runnings, next, nexts, join, joins, HasRoom, FitsCell, shown, all_shown, over_shown}
use Rattle.agg_groups.proofs.Order.{cell_total, cell_exact}

abbrev Row : Type 0
Row = List Cell

abbrev cell : Row → ℕ → Cell
cell = meaning.cell codes

abbrev values : ℕ → List Row → List Cell
values = meaning.values codes

abbrev total : List Cell → ℤ
total = meaning.total codes

abbrev is_less : Cell → Cell → Bool
is_less = meaning.is_less codes

abbrev lesser : Cell → Cell → Cell
lesser = meaning.lesser codes

abbrev greater : Cell → Cell → Cell
greater = meaning.greater codes

pub fold-push : {A B : Type 0} (f : B → A → B) (b : B) (xs : List A) (x : A) → fold f b (xs ++ x ∷ []) ≡ f (fold f b xs) x
fold-push f b [] x = refl
fold-push f b (y ∷ ys) x = fold-push f (f b y) ys x

values-value : (x : ℕ) (rows : List Row) (row : Row) → is_value (cell row x) ≡ true → values x (rows ++ row ∷ []) ≡ values x rows ++ cell row x ∷ []
values-value x [] row e = rw e refl
values-value x (r ∷ rows) row e = elim (cases_Bool (is_value (cell r x))) [
  | inl t ↦ rw (t, values-value x rows row e) refl
  | inr t ↦ rw t (values-value x rows row e)
]

values-null : (x : ℕ) (rows : List Row) (row : Row) → is_value (cell row x) ≡ false → values x (rows ++ row ∷ []) ≡ values x rows
values-null x [] row e = rw e refl
values-null x (r ∷ rows) row e = elim (cases_Bool (is_value (cell r x))) [
  | inl t ↦ rw (t, values-null x rows row e) refl
  | inr t ↦ rw t (values-null x rows row e)
]

pub length-push : {A : Type 0} (xs : List A) (x : A) → length (xs ++ x ∷ []) ≡ length xs + 1
length-push xs x = omega (arith, length-append xs (x ∷ []))

-- the value of an item over one more row
pub running-next : (i : Item) (rows : List Row) (row : Row) → running_of (rows ++ row ∷ []) i ≡ next i row (running_of rows i)
running-next CountAll rows row = ap running.Count (length-push rows row)
running-next (Count x) rows row = elim (cases_Bool (is_value (cell row x))) [
  | inl t ↦ rw (t, values-value x rows row t) (ap running.Count (length-push (values x rows) (cell row x)))
  | inr t ↦ rw (t, values-null x rows row t) refl
]
running-next (Sum x) rows row = elim (cases_Bool (is_value (cell row x))) [
  | inl t ↦ rw (t, values-value x rows row t, length-push (values x rows) (cell row x), fold-push (λ a c. a +ℤ int_of c) (pos 0) (values x rows) (cell row x)) refl
  | inr t ↦ rw (t, values-null x rows row t) refl
]
running-next (Min x) rows row = elim (cases_Bool (is_value (cell row x))) [
  | inl t ↦ ap running.Best (ap (λ cs. fold lesser Null cs) (values-value x rows row t) ∙ fold-push lesser Null (values x rows) (cell row x)) ∙ sym (ap (λ b. if b then running.Best (lesser (fold lesser Null (values x rows)) (cell row x)) else running.Best (fold lesser Null (values x rows))) t)
  | inr t ↦ rw (t, values-null x rows row t) refl
]
running-next (Max x) rows row = elim (cases_Bool (is_value (cell row x))) [
  | inl t ↦ ap running.Best (ap (λ cs. fold greater Null cs) (values-value x rows row t) ∙ fold-push greater Null (values x rows) (cell row x)) ∙ sym (ap (λ b. if b then running.Best (greater (fold greater Null (values x rows)) (cell row x)) else running.Best (fold greater Null (values x rows))) t)
  | inr t ↦ rw (t, values-null x rows row t) refl
]
running-next (Key k) rows row = refl

-- ---- the lesser and the greater of three

lt_is : (r : Ordering) → is_lt r ≡ true → r ≡ Less
lt_is Less e = refl
lt_is Equal e = absurd (false≢true e)
lt_is Greater e = absurd (false≢true e)

is_less-trans : (x y z : Cell) → is_less x y ≡ true → is_less y z ≡ true → is_less x z ≡ true
is_less-trans x y z e f = ap is_lt (cell_total.trans x y z (lt_is (cell_cmp x y) e) (lt_is (cell_cmp y z) f))

-- from z < x and not y < x, z < y
is_less-below : (x y z : Cell) → is_less y x ≡ false → is_less z x ≡ true → is_less z y ≡ true
is_less-below x y z e f = by (cell_cmp z y) refl where
  by : (r : Ordering) → cell_cmp z y ≡ r → is_less z y ≡ true
  by Less h = ap is_lt h
  by Equal h = absurd (false≢true (sym e ∙ ap is_lt (sym (cell_total.congr z y x h)) ∙ f))
  by Greater h =
      let yz : cell_cmp y z ≡ Less = cell_total.antisymm y z ∙ ap ordering_reverse h in
      absurd (false≢true (sym e ∙ is_less-trans y z x (ap is_lt yz) f))

-- from x < z and not x < y, y < z
is_less-above : (x y z : Cell) → is_less x y ≡ false → is_less x z ≡ true → is_less y z ≡ true
is_less-above x y z e f = by (cell_cmp x y) refl where
  by : (r : Ordering) → cell_cmp x y ≡ r → is_less y z ≡ true
  by Less h = absurd (false≢true (sym e ∙ ap is_lt h))
  by Equal h = ap is_lt (sym (cell_total.congr x y z h)) ∙ f
  by Greater h =
      let yx : cell_cmp y x ≡ Less = cell_total.antisymm y x ∙ ap ordering_reverse h in
      is_less-trans y x z (ap is_lt yx) f

abbrev min : Cell → Cell → Cell
min a c = if is_less c a then c else a

min-assoc : (x y z : Cell) → min (min x y) z ≡ min x (min y z)
min-assoc x y z = elim (cases_Bool (is_less y x)) [
  | inl a ↦ elim (cases_Bool (is_less z y)) [
    | inl b ↦ let d = is_less-trans z y x b a in rw (a, b, d) refl
    | inr b ↦ rw (a, b, a) refl
  ]
  | inr a ↦ elim (cases_Bool (is_less z y)) [
    | inl b ↦ rw (a, b) refl
    | inr b ↦ elim (cases_Bool (is_less z x)) [
      | inl d ↦ absurd (false≢true (sym b ∙ is_less-below x y z a d))
      | inr d ↦ rw (a, b, d, a) refl
    ]
  ]
]

greater-assoc : (x y z : Cell) → greater (greater x y) z ≡ greater x (greater y z)
greater-assoc x y z = elim (cases_Bool (is_less x y)) [
  | inl a ↦ elim (cases_Bool (is_less y z)) [
    | inl b ↦ let d = is_less-trans x y z a b in rw (a, b, d) refl
    | inr b ↦ rw (a, b, a) refl
  ]
  | inr a ↦ elim (cases_Bool (is_less y z)) [
    | inl b ↦ rw (a, b) refl
    | inr b ↦ elim (cases_Bool (is_less x z)) [
      | inl d ↦ absurd (false≢true (sym b ∙ is_less-above x y z a d))
      | inr d ↦ rw (a, b, d, a) refl
    ]
  ]
]

lesser_min : (a c : Cell) → is_value a ≡ true → is_value c ≡ true → lesser a c ≡ min a c
lesser_min Null c e f = absurd (false≢true e)
lesser_min (Int m) Null e f = absurd (false≢true f)
lesser_min (Int m) (Int n) e f = refl
lesser_min (Int m) (Code n) e f = refl
lesser_min (Code m) Null e f = absurd (false≢true f)
lesser_min (Code m) (Int n) e f = refl
lesser_min (Code m) (Code n) e f = refl

min-value : (a c : Cell) → is_value a ≡ true → is_value c ≡ true → is_value (min a c) ≡ true
min-value a c e f = elim (cases_Bool (is_less c a)) [ inl t ↦ rw t f | inr t ↦ rw t e ]

lesser-null : (a : Cell) → lesser a Null ≡ a
lesser-null Null = refl
lesser-null (Int n) = refl
lesser-null (Code n) = refl

of_values : (x y z : Cell) → is_value x ≡ true → is_value y ≡ true → is_value z ≡ true → lesser (lesser x y) z ≡ lesser x (lesser y z)
of_values x y z e f g =
    ap (λ m. lesser m z) (lesser_min x y e f) ∙ lesser_min (min x y) z (min-value x y e f) g ∙ min-assoc x y z ∙ sym (lesser_min x (min y z) e (min-value y z f g)) ∙ ap (lesser x) (sym (lesser_min y z f g))

lesser-assoc : (x y z : Cell) → lesser (lesser x y) z ≡ lesser x (lesser y z)
lesser-assoc Null y z = refl
lesser-assoc (Int m) Null z = refl
lesser-assoc (Code m) Null z = refl
lesser-assoc (Int m) (Int n) Null = lesser-null (lesser (Int m) (Int n))
lesser-assoc (Int m) (Code n) Null = refl
lesser-assoc (Code m) (Int n) Null = refl
lesser-assoc (Code m) (Code n) Null = lesser-null (lesser (Code m) (Code n))
lesser-assoc (Int m) (Int n) (Int k) = of_values (Int m) (Int n) (Int k) refl refl refl
lesser-assoc (Int m) (Int n) (Code k) = of_values (Int m) (Int n) (Code k) refl refl refl
lesser-assoc (Int m) (Code n) (Int k) = of_values (Int m) (Code n) (Int k) refl refl refl
lesser-assoc (Int m) (Code n) (Code k) = of_values (Int m) (Code n) (Code k) refl refl refl
lesser-assoc (Code m) (Int n) (Int k) = of_values (Code m) (Int n) (Int k) refl refl refl
lesser-assoc (Code m) (Int n) (Code k) = of_values (Code m) (Int n) (Code k) refl refl refl
lesser-assoc (Code m) (Code n) (Int k) = of_values (Code m) (Code n) (Int k) refl refl refl
lesser-assoc (Code m) (Code n) (Code k) = of_values (Code m) (Code n) (Code k) refl refl refl

greater-null : (a : Cell) → greater a Null ≡ a
greater-null Null = refl
greater-null (Int n) = refl
greater-null (Code n) = refl

null-greater : (a : Cell) → greater Null a ≡ a
null-greater Null = refl
null-greater (Int n) = refl
null-greater (Code n) = refl

-- ---- folds over two lists

fold-append : {A B : Type 0} (f : B → A → B) (b : B) (xs ys : List A) → fold f b (xs ++ ys) ≡ fold f (fold f b xs) ys
fold-append f b [] ys = refl
fold-append f b (x ∷ xs) ys = fold-append f (f b x) xs ys

least-from : (a : Cell) (ys : List Cell) → fold lesser a ys ≡ lesser a (fold lesser Null ys)
least-from a [] = sym (lesser-null a)
least-from a (y ∷ ys) = least-from (lesser a y) ys ∙ lesser-assoc a y (fold lesser Null ys) ∙ ap (lesser a) (sym (least-from y ys))

greatest-from : (a : Cell) (ys : List Cell) → fold greater a ys ≡ greater a (fold greater Null ys)
greatest-from a [] = sym (greater-null a)
greatest-from a (y ∷ ys) = greatest-from (greater a y) ys ∙ greater-assoc a y (fold greater Null ys) ∙ ap (greater a) (sym (greatest-from y ys) ∙ ap (λ b. fold greater b ys) (sym (null-greater y)))

total-from : (a : ℤ) (ys : List Cell) → fold (λ a c. a +ℤ int_of c) a ys ≡ a +ℤ total ys
total-from a [] = omega (arith, ints)
total-from a (y ∷ ys) =
    let e = total-from (a +ℤ int_of y) ys in
    let f = total-from (pos 0 +ℤ int_of y) ys in
    omega (arith, ints)

filter-append : {A : Type 0} (p : A → Bool) (xs ys : List A) → filter p (xs ++ ys) ≡ filter p xs ++ filter p ys
filter-append p [] ys = refl
filter-append p (x ∷ xs) ys = elim (cases_Bool (p x)) [ inl t ↦ rw t (ap (λ zs. x ∷ zs) (filter-append p xs ys)) | inr t ↦ rw t (filter-append p xs ys) ]

map-append : {A B : Type 0} (f : A → B) (xs ys : List A) → map f (xs ++ ys) ≡ map f xs ++ map f ys
map-append f [] ys = refl
map-append f (x ∷ xs) ys = ap (λ zs. f x ∷ zs) (map-append f xs ys)

values-append : (x : ℕ) (rows more : List Row) → values x (rows ++ more) ≡ values x rows ++ values x more
values-append x rows more = ap (filter is_value) (map-append (λ row. cell row x) rows more) ∙ filter-append is_value (map (λ row. cell row x) rows) (map (λ row. cell row x) more)

running-join : (i : Item) (rows more : List Row) → running_of (rows ++ more) i ≡ join (running_of rows i) (running_of more i) i
running-join CountAll rows more = ap running.Count (length-append rows more)
running-join (Count x) rows more = ap running.Count (ap length (values-append x rows more) ∙ length-append (values x rows) (values x more))
running-join (Sum x) rows more =
    let e = values-append x rows more in
    ap (λ n. running.Sum n (total (values x (rows ++ more)))) (ap length e ∙ length-append (values x rows) (values x more))
    ∙ ap (λ t. running.Sum (length (values x rows) + length (values x more)) t) (ap total e ∙ fold-append (λ a c. a +ℤ int_of c) (pos 0) (values x rows) (values x more) ∙ total-from (total (values x rows)) (values x more))
running-join (Min x) rows more = ap running.Best (ap (λ cs. fold lesser Null cs) (values-append x rows more) ∙ fold-append lesser Null (values x rows) (values x more) ∙ least-from (fold lesser Null (values x rows)) (values x more))
running-join (Max x) rows more = ap running.Best (ap (λ cs. fold greater Null cs) (values-append x rows more) ∙ fold-append greater Null (values x rows) (values x more) ∙ greatest-from (fold greater Null (values x rows)) (values x more))
running-join (Key k) rows more = refl

pub joins-values : (items : List Item) (rows more : List Row) → joins items (runnings items rows) (runnings items more) ≡ runnings items (rows ++ more)
joins-values [] rows more = refl
joins-values (i ∷ items) rows more = ap (λ r. r ∷ joins items (runnings items rows) (runnings items more)) (sym (running-join i rows more)) ∙ ap (λ rs. running_of (rows ++ more) i ∷ rs) (joins-values items rows more)

pub nexts-values : (items : List Item) (rows : List Row) (row : Row) → nexts items row (runnings items rows) ≡ runnings items (rows ++ row ∷ [])
nexts-values [] rows row = refl
nexts-values (i ∷ items) rows row = rw (running-next i rows row, nexts-values items rows row) refl

room_more : (n : ℕ) (r : Running) → HasRoom n r → HasRoom (n + 1) r
room_more n (running.Count m) h = omega arith
room_more n (running.Sum m t) h = (omega (arith, h.0), omega (arith, ints, h.1), omega (arith, ints, h.2))
room_more n (running.Best b) h = tt
room_more n running.Nothing h = tt

start_room : (i : Item) (n : ℕ) → HasRoom n (running_of [] i)
start_room CountAll n = omega arith
start_room (Count x) n = omega arith
start_room (Sum x) n = (omega arith, omega (arith, ints), omega (arith, ints))
start_room (Min x) n = tt
start_room (Max x) n = tt
start_room (Key k) n = tt

pub starts_room : (items : List Item) (n : ℕ) → All (HasRoom n) (runnings items [])
starts_room items n = All-from_recursion (HasRoom n) (runnings items []) (go items) where
  go : (is : List Item) → AllByRecursion (HasRoom n) (runnings is [])
  go [] = tt
  go (i ∷ is) = (start_room i n, go is)

pub starts_len : (items : List Item) → length (runnings items []) ≡ length items
starts_len [] = refl
starts_len (i ∷ items) = ap suc (starts_len items)

pub nexts_len : (items : List Item) (row : Row) (rs : List Running) → length rs ≡ length items → length (nexts items row rs) ≡ length items
nexts_len [] row rs e = refl
nexts_len (i ∷ is) row [] e = e
nexts_len (i ∷ is) row (r ∷ rs) e = ap suc (nexts_len is row rs (omega arith))

pub join_room : (i : Item) (a b : Running) (m n : ℕ) → HasRoom m a → HasRoom n b → HasRoom (m + n) (join a b i)
join_room i (running.Count x) (running.Count y) m n h g = omega arith
join_room i (running.Sum x s) (running.Sum y t) m n h g = (omega (arith, h.0, g.0), omega (arith, ints, h.1, g.1), omega (arith, ints, h.2, g.2))
join_room i (running.Best x) (running.Best y) m n h g = by i where
  by : (i : Item) → HasRoom (m + n) (join (running.Best x) (running.Best y) i)
  by (Min x) = tt
  by (Max x) = tt
  by (Sum x) = tt
  by (Count x) = tt
  by (Key x) = tt
  by CountAll = tt
join_room i (running.Count x) (running.Sum y t) m n h g = omega arith
join_room i (running.Count x) (running.Best c) m n h g = omega arith
join_room i (running.Count x) running.Nothing m n h g = omega arith
join_room i (running.Sum x s) (running.Count y) m n h g = (omega (arith, h.0), omega (arith, ints, h.1), omega (arith, ints, h.2))
join_room i (running.Sum x s) (running.Best c) m n h g = (omega (arith, h.0), omega (arith, ints, h.1), omega (arith, ints, h.2))
join_room i (running.Sum x s) running.Nothing m n h g = (omega (arith, h.0), omega (arith, ints, h.1), omega (arith, ints, h.2))
join_room i (running.Best x) (running.Count y) m n h g = tt
join_room i (running.Best x) (running.Sum y t) m n h g = tt
join_room i (running.Best x) running.Nothing m n h g = tt
join_room i running.Nothing (running.Count y) m n h g = tt
join_room i running.Nothing (running.Sum y t) m n h g = tt
join_room i running.Nothing (running.Best c) m n h g = tt
join_room i running.Nothing running.Nothing m n h g = tt

pub room_wider : (a : Running) (m n : ℕ) → m ≤ n → HasRoom m a → HasRoom n a
room_wider (running.Count x) m n l h = omega arith
room_wider (running.Sum x s) m n l h = (omega (arith, h.0), omega (arith, ints, h.1), omega (arith, ints, h.2))
room_wider (running.Best x) m n l h = tt
room_wider running.Nothing m n l h = tt

pub joins_room : (items : List Item) (rs ss : List Running) (m n : ℕ) → AllByRecursion (HasRoom m) rs → AllByRecursion (HasRoom n) ss → AllByRecursion (HasRoom (m + n)) (joins items rs ss)
joins_room [] rs ss m n h g = tt
joins_room (i ∷ is) [] ss m n h g = tt
joins_room (i ∷ is) (r ∷ rs) [] m n h g = tt
joins_room (i ∷ is) (r ∷ rs) (s ∷ ss) m n h g = (join_room i r s m n h.0 g.0, joins_room is rs ss m n h.1 g.1)

pub joins_len : (items : List Item) (rs ss : List Running) → length rs ≡ length items → length ss ≡ length items → length (joins items rs ss) ≡ length items
joins_len [] rs ss e f = refl
joins_len (i ∷ is) [] ss e f = e
joins_len (i ∷ is) (r ∷ rs) [] e f = f
joins_len (i ∷ is) (r ∷ rs) (s ∷ ss) e f = ap suc (joins_len is rs ss (omega arith) (omega arith))

-- ---- what is shown

answer-shown : (q : List Cell) (rows : List Row) (i : Item) → shown q i (running_of rows i) ≡ answer codes q rows i
answer-shown q rows CountAll = refl
answer-shown q rows (Count x) = refl
answer-shown q rows (Sum x) = refl
answer-shown q rows (Min x) = refl
answer-shown q rows (Max x) = refl
answer-shown q rows (Key j) = refl

pub answers-shown : (q : List Cell) (rows : List Row) (items : List Item) → all_shown q items (runnings items rows) ≡ map (answer codes q rows) items
answers-shown q rows [] = refl
answers-shown q rows (i ∷ items) = ap (λ c. c ∷ all_shown q items (runnings items rows)) (answer-shown q rows i) ∙ ap (λ cs. answer codes q rows i ∷ cs) (answers-shown q rows items)

pub over-shown : (n : ℕ) (items : List Item) (rows : List Row) → over_shown n (runnings items rows) ≡ over codes n items rows
over-shown n [] rows = refl
over-shown n (CountAll ∷ items) rows = over-shown (n + 1) items rows
over-shown n (Count x ∷ items) rows = over-shown (n + 1) items rows
over-shown n (Sum x ∷ items) rows = ap (λ o. if fits (total (values x rows)) then o else Some (n, total (values x rows))) (over-shown (n + 1) items rows)
over-shown n (Min x ∷ items) rows = over-shown (n + 1) items rows
over-shown n (Max x ∷ items) rows = over-shown (n + 1) items rows
over-shown n (Key j ∷ items) rows = over-shown (n + 1) items rows

over_rest : (n : ℕ) (m : ℕ) (rs : List Running) → over_shown n rs ≡ None → m ≤ MOST_ROWS → AllByRecursion (HasRoom m) rs → AllByRecursion FitsCell rs
over_rest n m [] e l h = tt
over_rest n m (running.Count x ∷ rs) e l h = (omega (arith, h.0), over_rest (n + 1) m rs e l h.1)
over_rest n m (running.Sum x t ∷ rs) e l h = elim (cases_Bool (fits t)) [
  | inl f ↦ (f, over_rest (n + 1) m rs (sym (ap (λ b. if b then over_shown (n + 1) rs else Some (n, t)) f) ∙ e) l h.1)
  | inr f ↦ absurd (let d : Some (n, t) ≡ None = sym (ap (λ b. if b then over_shown (n + 1) rs else Some (n, t)) f) ∙ e in cc)
]
over_rest n m (running.Best c ∷ rs) e l h = (tt, over_rest (n + 1) m rs e l h.1)
over_rest n m (running.Nothing ∷ rs) e l h = (tt, over_rest (n + 1) m rs e l h.1)

pub all_fit : (m : ℕ) (rs : List Running) → over_shown 1 rs ≡ None → m ≤ MOST_ROWS → All (HasRoom m) rs → All FitsCell rs
all_fit m rs e l h = All-from_recursion FitsCell rs (over_rest 1 m rs e l (recursion_from_All (HasRoom m) rs h))

-- ---- two lists of rows in the other order

-- the lesser and the greater of two in the other order
min-comm : (a c : Cell) → min a c ≡ min c a
min-comm a c = by (cell_cmp c a) refl where
  by : (o : Ordering) → cell_cmp c a ≡ o → min a c ≡ min c a
  by Less h = (let g : cell_cmp a c ≡ Greater = cell_total.antisymm a c ∙ ap ordering_reverse h in rw (h, g) refl)
  by Equal h = ap (λ x. min a x) (cell_exact c a h) ∙ ap (λ x. min x a) (sym (cell_exact c a h))
  by Greater h = (let g : cell_cmp a c ≡ Less = cell_total.antisymm a c ∙ ap ordering_reverse h in rw (h, g) refl)

greater-comm : (a c : Cell) → greater a c ≡ greater c a
greater-comm a c = by (cell_cmp c a) refl where
  by : (o : Ordering) → cell_cmp c a ≡ o → greater a c ≡ greater c a
  by Less h = (let g : cell_cmp a c ≡ Greater = cell_total.antisymm a c ∙ ap ordering_reverse h in rw (h, g) refl)
  by Equal h = ap (λ x. greater a x) (cell_exact c a h) ∙ ap (λ x. greater x a) (sym (cell_exact c a h))
  by Greater h = (let g : cell_cmp a c ≡ Less = cell_total.antisymm a c ∙ ap ordering_reverse h in rw (h, g) refl)

lesser-comm : (a c : Cell) → lesser a c ≡ lesser c a
lesser-comm Null Null = refl
lesser-comm Null (Int n) = refl
lesser-comm Null (Code n) = refl
lesser-comm (Int m) Null = refl
lesser-comm (Code m) Null = refl
lesser-comm (Int m) (Int n) = lesser_min (Int m) (Int n) refl refl ∙ min-comm (Int m) (Int n) ∙ sym (lesser_min (Int n) (Int m) refl refl)
lesser-comm (Int m) (Code n) = refl
lesser-comm (Code m) (Int n) = refl
lesser-comm (Code m) (Code n) = lesser_min (Code m) (Code n) refl refl ∙ min-comm (Code m) (Code n) ∙ sym (lesser_min (Code n) (Code m) refl refl)

join-comm : (i : Item) (rows more : List Row) → join (running_of rows i) (running_of more i) i ≡ join (running_of more i) (running_of rows i) i
join-comm CountAll rows more = ap running.Count (omega arith)
join-comm (Count x) rows more = ap running.Count (omega arith)
join-comm (Sum x) rows more =
    let n : length (values x rows) + length (values x more) ≡ length (values x more) + length (values x rows) = omega arith in
    let t : (total (values x rows) +ℤ total (values x more)) ≡ (total (values x more) +ℤ total (values x rows)) = omega (arith, ints) in
    ap (λ k. running.Sum k (total (values x rows) +ℤ total (values x more))) n ∙ ap (λ s. running.Sum (length (values x more) + length (values x rows)) s) t
join-comm (Min x) rows more = ap running.Best (lesser-comm (fold lesser Null (values x rows)) (fold lesser Null (values x more)))
join-comm (Max x) rows more = ap running.Best (greater-comm (fold greater Null (values x rows)) (fold greater Null (values x more)))
join-comm (Key j) rows more = refl

-- THE ORDER OF TWO PARTS IS FREE
pub runnings-comm : (items : List Item) (rows more : List Row) → runnings items (rows ++ more) ≡ runnings items (more ++ rows)
runnings-comm [] rows more = refl
runnings-comm (i ∷ items) rows more =
    ap (λ r. r ∷ runnings items (rows ++ more)) (running-join i rows more ∙ join-comm i rows more ∙ sym (running-join i more rows)) ∙ ap (λ rs. running_of (more ++ rows) i ∷ rs) (runnings-comm items rows more)
