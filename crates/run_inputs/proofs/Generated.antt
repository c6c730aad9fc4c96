-- A generated table is no longer than a table may be.
use Rattle.std.proofs.Common.{◌≡◌, ◌≤◌, ◌<◌, ◌+◌, ◌-◌, ◌*◌, ◌%◌, ℕ, zero, suc, Bool, true, false, List, [], ◌++◌, Option, Some, None, length, refl, ap, arith, cond, length-append}
use Rattle.std.specs.Prelude.{codes, decimal, ◌==◌, ◌&&◌, nat_lt, nat_le, option_and_then, option_map}
use Rattle.std.specs.List.{list_any, before_first, after_first}
use Rattle.std.specs.Str.{bytes_eq}
use Rattle.std.proofs.Common.{take, drop}
use Rattle.std.proofs.Math.Nat.{mod-lt}
use Rattle.std.proofs.lemmas.Bool.Decides.{nat_tests}
use Rattle.std.proofs.lemmas.Fmt.{length-decimal-le}
use Rattle.command_words.specs.Options.{TableIs, generated, file, is_colon, number_after, number_in, table_of, within}
use Rattle.run_inputs.specs.Draws.{draw, drawn, state}
use Rattle.run_inputs.specs.GeneratedTable.{row, row_by, rows_below, table_text, tag_by, value_by}
use Rattle.run_inputs.specs.Sources.{HasFewRows}

-- ---- how long the text is

joined : (xs ys : List ℕ) (a b : ℕ) → length xs ≤ a → length ys ≤ b → length (xs ++ ys) ≤ a + b
joined xs ys a b h k = omega (arith, length-append xs ys)

number-short : (n : ℕ) → n < 4294967296 → length (decimal n) ≤ 10
number-short n h = length-decimal-le 10 n (omega arith) (omega (arith, h)) (omega (arith, h))

value-short : (blank value : ℕ) → length (value_by blank value) ≤ 11
value-short blank value = go (blank % 16 == 0) (nat_lt (value % 2001) 1000)
  where
    go : (a b : Bool) → length (cond a [] (cond b (codes "-" ++ decimal (1000 - value % 2001)) (decimal (value % 2001 - 1000)))) ≤ 11
    go true b = omega arith
    go false true = joined (codes "-") (decimal (1000 - value % 2001)) 1 10 (omega arith) (number-short (1000 - value % 2001) (omega arith))
    go false false =
        let small : value % 2001 < 2001 = mod-lt value (omega arith) in
        let short = number-short (value % 2001 - 1000) (omega (arith, small)) in omega (arith, short)

tag-short : (tag : ℕ) → length (tag_by tag) ≤ 5
tag-short tag = go (tag % 4 == 0) (tag % 4 == 1) (tag % 4 == 2)
  where
    go : (a b c : Bool) → length (cond a (codes "red") (cond b (codes "green") (cond c (codes "blue") []))) ≤ 5
    go true b c = omega arith
    go false true c = omega arith
    go false false true = omega arith
    go false false false = omega arith

row-short : (i group blank value tag : ℕ) → i < 4294967296 → length (row_by i group blank value tag) ≤ 41
row-short i group blank value tag h =
    let small : group % 16 < 16 = mod-lt group (omega arith) in
    let with_g = joined (decimal i) (codes ",g") 10 2 (number-short i h) (omega arith) in
    let with_group = joined (decimal i ++ codes ",g") (decimal (group % 16)) 12 10 with_g (number-short (group % 16) (omega (arith, small))) in
    let before_value = joined (decimal i ++ codes ",g" ++ decimal (group % 16)) (codes ",") 22 1 with_group (omega arith) in
    let with_value = joined (decimal i ++ codes ",g" ++ decimal (group % 16) ++ codes ",") (value_by blank value) 23 11 before_value (value-short blank value) in
    let before_tag = joined (decimal i ++ codes ",g" ++ decimal (group % 16) ++ codes "," ++ value_by blank value) (codes ",") 34 1 with_value (omega arith) in
    let with_tag = joined (decimal i ++ codes ",g" ++ decimal (group % 16) ++ codes "," ++ value_by blank value ++ codes ",") (tag_by tag) 35 5 before_tag (tag-short tag) in
    joined (decimal i ++ codes ",g" ++ decimal (group % 16) ++ codes "," ++ value_by blank value ++ codes "," ++ tag_by tag) (codes "\n") 40 1 with_tag (omega arith)

rows-short : (seed n : ℕ) → n ≤ 1048576 → length (rows_below seed n) ≤ n * 41
rows-short seed zero h = omega arith
rows-short seed (suc i) h =
    let x = state seed i in
    let last = row-short i (drawn (draw x)) (drawn (draw (draw x))) (drawn (draw (draw (draw x)))) (drawn (draw (draw (draw (draw x))))) (omega (arith, h)) in
    let all = joined (rows_below seed i) (row i x) (i * 41) 41 (rows-short seed i (omega (arith, h))) last in omega (arith, all)

pub table-short : (seed rows : ℕ) → rows ≤ 1048576 → length (table_text seed rows) ≤ 268435456
table-short seed rows h =
    let all = joined (codes "id,grp,val,tag\n") (rows_below seed rows) 15 (rows * 41) (omega arith) (rows-short seed rows h) in omega (arith, all, h)

-- ---- how many rows a word can ask for

within-high : (low high m n : ℕ) → within low high m ≡ Some n → n ≤ high
within-high low high m n h = go (nat_le low m && nat_le m high) refl h
  where
    go : (b : Bool) → (nat_le low m && nat_le m high) ≡ b → cond b (Some m) None ≡ Some n → n ≤ high
    go true test e = let same : m ≡ n = cc e in grind (arith, nat_tests)
    go false test e = cc e

number-high : (most low high : ℕ) (text : List ℕ) (n : ℕ) → number_in most low high text ≡ Some n → n ≤ high
number-high most low high text n h = go (nat_le 1 (length text) && nat_le (length text) most) (number_after 0 text) h
  where
    go : (b : Bool) (o : Option ℕ) → cond b (option_and_then (within low high) o) None ≡ Some n → n ≤ high
    go true None e = cc e
    go true (Some m) e = within-high low high m n e
    go false o e = cc e

rows-high : (word : List ℕ) (seed rows : ℕ) → table_of word ≡ Some (generated seed rows) → rows ≤ 1048576
rows-high word seed rows h =
    go (bytes_eq (take 4 word) (codes "gen:")) (list_any is_colon (drop 4 word)) (number_in 20 0 18446744073709551615 (before_first is_colon (drop 4 word)))
    (number_in 10 0 1048576 (after_first is_colon (drop 4 word))) (number-high 10 0 1048576 (after_first is_colon (drop 4 word))) h
  where
    go : (a b : Bool) (s r : Option ℕ) → ((n : ℕ) → r ≡ Some n → n ≤ 1048576)
        → cond a (cond b (option_and_then (λ x. option_map (generated x) r) s) None) (Some (file word)) ≡ Some (generated seed rows) → rows ≤ 1048576
    go true true None r few e = cc e
    go true true (Some x) None few e = cc e
    go true true (Some x) (Some n) few e = let same : n ≡ rows = cc e in few rows (ap Some same)
    go true false s r few e = cc e
    go false b s r few e = cc e

pub few-rows : (word : List ℕ) (t : TableIs) → table_of word ≡ Some t → HasFewRows t
few-rows word (generated seed rows) h = rows-high word seed rows h
few-rows word (file name) h = tt
