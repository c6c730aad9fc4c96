-- One more row, and one more part of it.
use Rattle.std.proofs.Common.{◌≡◌, ◌∙◌, ◌+◌, ◌++◌, ℕ, List, ap, codes, add-one, append_assoc}
use Rattle.run_inputs.specs.Draws.{draw, state}
use Rattle.run_inputs.specs.GeneratedTable.{row, rows_below, table_text}

pub next_state : (seed i s : ℕ) → s ≡ state seed i → draw (draw (draw (draw s))) ≡ state seed (i + 1)
next_state seed i s e = rw add-one (ap (λ x. draw (draw (draw (draw x)))) e)

pub next_text : (seed i s : ℕ) (old new : List ℕ) → s ≡ state seed i → old ≡ table_text seed i → new ≡ old ++ row i s → new ≡ table_text seed (i + 1)
next_text seed i s old new e before after =
    rw add-one (after ∙ ap (λ t. t ++ row i s) before ∙ ap (λ x. table_text seed i ++ row i x) e ∙ append_assoc (codes "id,grp,val,tag\n") (rows_below seed i) (row i (state seed i)))

-- what is written behind a text, and what behind that
pub and_then : (old mid new a b : List ℕ) → mid ≡ old ++ a → new ≡ mid ++ b → new ≡ old ++ (a ++ b)
and_then old mid new a b first second = second ∙ ap (λ t. t ++ b) first ∙ append_assoc old a b
