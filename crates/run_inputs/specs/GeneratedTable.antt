-- The text of a generated table.
use Rattle.std.specs.Prelude.{ℕ, zero, suc, ◌-◌, ◌%◌, ◌==◌, List, [], ◌++◌, codes, decimal, if◌then◌else◌, nat_lt}
use Rattle.run_inputs.specs.Draws.{draw, drawn, state}

-- nothing in one of sixteen rows, else a whole number from -1000 to 1000
abbrev pub value_by : ℕ → ℕ → List ℕ
value_by blank value = if blank % 16 == 0 then []
    else if nat_lt (value % 2001) 1000 then codes "-" ++ decimal (1000 - value % 2001)
    else decimal (value % 2001 - 1000)

abbrev pub tag_by : ℕ → List ℕ
tag_by tag = if tag % 4 == 0 then codes "red" else if tag % 4 == 1 then codes "green"
    else if tag % 4 == 2 then codes "blue" else []

-- a row's line, by its number and its four draws
abbrev pub row_by : ℕ → ℕ → ℕ → ℕ → ℕ → List ℕ
row_by i group blank value tag = decimal i ++ codes ",g" ++ decimal (group % 16) ++ codes "," ++ value_by blank value
    ++ codes "," ++ tag_by tag ++ codes "\n"

-- a row's line, by its number and the state before it
abbrev pub row : ℕ → ℕ → List ℕ
row i x = row_by i (drawn (draw x)) (drawn (draw (draw x))) (drawn (draw (draw (draw x))))
    (drawn (draw (draw (draw (draw x)))))

abbrev pub rows_below : ℕ → ℕ → List ℕ
rows_below seed zero = []
rows_below seed (suc i) = rows_below seed i ++ row i (state seed i)

abbrev pub table_text : ℕ → ℕ → List ℕ
table_text seed rows = codes "id,grp,val,tag\n" ++ rows_below seed rows
