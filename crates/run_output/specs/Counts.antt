-- The lines that count what a run did.
use Rattle.std.specs.Prelude.{◌++◌, ℕ, List, codes, decimal}

-- a number, and a text behind it
abbrev pub number_and : ℕ → List ℕ → List ℕ
number_and n text = decimal n ++ text

-- THE SUMMARY of a run
abbrev pub summary_line : ℕ → ℕ → ℕ → ℕ → List ℕ
summary_line queries answered deliveries rows =
    codes "summary: " ++ (number_and queries (codes " queries, ") ++ (number_and answered (codes " answered, ")
    ++ (number_and deliveries (codes " deliveries, ") ++ number_and rows (codes " rows\n"))))

-- what a run did, with the line end
abbrev pub run_counts : ℕ → ℕ → ℕ → ℕ → List ℕ
run_counts reads evictions deliveries stops =
    number_and reads (codes " reads, ") ++ (number_and evictions (codes " evictions, ")
    ++ (number_and deliveries (codes " deliveries, ") ++ number_and stops (codes " stops\n")))

-- THE LINE OF A POLICY of this name, where policies are compared
abbrev pub policy_line : List ℕ → ℕ → ℕ → ℕ → ℕ → List ℕ
policy_line name reads evictions deliveries stops = name ++ (codes ": " ++ run_counts reads evictions deliveries stops)
