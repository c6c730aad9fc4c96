-- The rows of a block: which of them match, with and without their numbers.
use Rattle.std.proofs.Common.{◌≡◌, ◌∙◌, ◌<◌, ◌+◌, ◌==◌, ◌++◌, ◌∷◌, ℕ, zero, suc, false, List, map, take, refl, sym, ap, subst, arith, inl, inr}
use Rattle.std.specs.Int.{bit_at}
use Rattle.std.specs.List.{range_with_len}
use Rattle.std.proofs.lemmas.Bool.{cases_Bool, or_from, or_parts}
use Rattle.std.proofs.lemmas.List.{map-append, take-map}
use Rattle.std.proofs.lemmas.List.Sorted.{IsPermutation-append_left}
use Rattle.table_core.specs.declared.cell.Cell.{Cell}
use Rattle.row_blocks.specs.Blocks.{BlockView, row_at, rows_in}
use Rattle.row_blocks.specs.Chosen.{chosen, chosen_from}
use Rattle.agg_groups.specs.Groups as groups
use Rattle.top_rows.specs.Blocks.{HoldsInPart, numbered_at, numbered_rows}
use Rattle.query_meaning.specs.Rows.{AreApart, Numbered, has_number}
use Rattle.top_rows.specs.Top as top
use Rattle.sql_bind.specs.declared.plan.Plan.{Plan}
use Rattle.sql_bind.specs.Meaning.{matches}
use Rattle.query_gather.specs.declared.partial.Partial.TheVariants.{Groups, Top}
use Rattle.query_gather.specs.Partial.{Stands, matching, unnumbered}
use Rattle.query_gather.proofs.Standing.{same_numbers}

-- the chosen ones among so many rows of a block, from one on
abbrev pub chosen_on : BlockView → ℕ → ℕ → ℕ → List (List Cell)
chosen_on b word i k = chosen_from i word (map (row_at b) (range_with_len i k))

module _ (first : ℕ) (b : BlockView) where
  -- so many rows, from one on
  abbrev pub rows_on : ℕ → ℕ → List (Numbered Cell)
  rows_on i k = map (numbered_at first b) (range_with_len i k)

  -- bits that say which rows match choose these
  pub chosen_matching : (p : Plan) (word i k : ℕ) → ((j : ℕ) → j < i + k → (bit_at word j == 1) ≡ matches p.cond (row_at b j)) → chosen_from i word (rows_on i k) ≡ matching p (rows_on i k)
  chosen_matching p word i zero bits = refl
  chosen_matching p word i (suc k) bits =
      let here : (bit_at word i == 1) ≡ matches p.cond (row_at b i) = bits i (omega arith) in
      let rest : chosen_from (i + 1) word (rows_on (i + 1) k) ≡ matching p (rows_on (i + 1) k) = chosen_matching p word (i + 1) k (λ j low. bits j (omega (arith, low))) in
      elim (cases_Bool (matches p.cond (row_at b i))) [
        | inl so ↦ rw (here ∙ so, so) (ap (λ rows. numbered_at first b i ∷ rows) rest)
        | inr not ↦ rw (here ∙ not, not) rest
      ]

  -- without their numbers
  unnumbered_chosen : (word i k : ℕ) → unnumbered (chosen_from i word (rows_on i k)) ≡ chosen_on b word i k
  unnumbered_chosen word i zero = refl
  unnumbered_chosen word i (suc k) =
      let rest : unnumbered (chosen_from (i + 1) word (rows_on (i + 1) k)) ≡ chosen_on b word (i + 1) k = unnumbered_chosen word (i + 1) k in
      elim (cases_Bool (bit_at word i == 1)) [
        | inl set ↦ rw set (ap (λ rows. row_at b i ∷ rows) rest)
        | inr clear ↦ rw clear rest
      ]

  -- a number that the rows lack is lacked by the chosen ones
  lacks_chosen : (word i k n : ℕ) → has_number (rows_on i k) n ≡ false → has_number (chosen_from i word (rows_on i k)) n ≡ false
  lacks_chosen word i zero n lacks = refl
  lacks_chosen word i (suc k) n lacks =
      let both = or_parts (n == first + i) (has_number (rows_on (i + 1) k) n) lacks in
      let rest : has_number (chosen_from (i + 1) word (rows_on (i + 1) k)) n ≡ false = lacks_chosen word (i + 1) k n both.1 in
      elim (cases_Bool (bit_at word i == 1)) [
        | inl set ↦ rw set (or_from (n == first + i) (has_number (chosen_from (i + 1) word (rows_on (i + 1) k)) n) both.0 rest)
        | inr clear ↦ rw clear rest
      ]

  -- the chosen ones, with their numbers
  abbrev pub chosen_numbered : ℕ → List (Numbered Cell)
  chosen_numbered word = chosen word (numbered_rows first b)

  pub chosen_apart : (word : ℕ) (rows : List (Numbered Cell)) → AreApart rows (numbered_rows first b) → AreApart rows (chosen_numbered word)
  chosen_apart word rows apart = λ n has. lacks_chosen word 0 b.count n (apart n has)

  -- ---- groups

  groups_more : (g new : groups.Kept) (rows : List (Numbered Cell)) (more : List (Numbered Cell)) → ((order : List (List Cell)) → groups.Stands g order → groups.Stands new (order ++ unnumbered more))
      → Stands (Groups g) rows → Stands (Groups new) (rows ++ more)
  groups_more g new rows more h s = subst (λ rs. groups.StandsInSomeOrder new rs) (sym (map-append (λ (r : Numbered Cell). r.1) rows more)) (record {
    order = s.order ++ unnumbered more;
    stands = h s.order s.stands;
    same = IsPermutation-append_left (unnumbered more) s.order (unnumbered rows) s.same;
  })

  pub groups_block : (g new : groups.Kept) (word : ℕ) → ((rows : List (List Cell)) → groups.Stands g rows → groups.Stands new (rows ++ chosen word (rows_in b)))
      → (rows : List (Numbered Cell)) → Stands (Groups g) rows → Stands (Groups new) (rows ++ chosen_numbered word)
  groups_block g new word h rows s =
      groups_more g new rows (chosen_numbered word) (λ order st. subst (λ more. groups.Stands new (order ++ more)) (sym (unnumbered_chosen word 0 b.count)) (h order st)) s

  pub groups_part : (g new : groups.Kept) (word : ℕ) → ((rows : List (List Cell)) → groups.Stands g rows → HoldsInPart (groups.Stands new) rows (chosen word (rows_in b)))
      → (rows : List (Numbered Cell)) → Stands (Groups g) rows → HoldsInPart (Stands (Groups new)) rows (chosen_numbered word)
  groups_part g new word h rows s =
      let part = h s.order s.stands in
      let n = part.count in
      let same : take n (chosen word (rows_in b)) ≡ unnumbered (take n (chosen_numbered word)) = ap (take n) (sym (unnumbered_chosen word 0 b.count)) ∙ take-map (λ (r : Numbered Cell). r.1) n (chosen_numbered word) in
      record {
        count = n;
        holds = subst (λ rs. groups.StandsInSomeOrder new rs) (sym (map-append (λ (r : Numbered Cell). r.1) rows (take n (chosen_numbered word)))) (record {
          order = s.order ++ unnumbered (take n (chosen_numbered word));
          stands = subst (λ more. groups.Stands new (s.order ++ more)) same part.holds;
          same = IsPermutation-append_left (unnumbered (take n (chosen_numbered word))) s.order (unnumbered rows) s.same;
        });
      }

  -- ---- first rows

  order_apart : (rows order : List (Numbered Cell)) (same : (n : ℕ) → has_number order n ≡ has_number rows n) (word : ℕ) → AreApart rows (numbered_rows first b) → AreApart order (chosen_numbered word)
  order_apart rows order same word apart = chosen_apart word order (λ n has. apart n (sym (same n) ∙ has))

  pub top_block : (t new : top.Kept) (word : ℕ) → ((rows : List (Numbered Cell)) → top.Stands t rows → AreApart rows (chosen_numbered word) → top.Stands new (rows ++ chosen_numbered word))
      → (rows : List (Numbered Cell)) → Stands (Top t) rows → AreApart rows (numbered_rows first b) → Stands (Top new) (rows ++ chosen_numbered word)
  top_block t new word h rows s apart = record {
    order = s.order ++ chosen_numbered word;
    stands = h s.order s.stands (order_apart rows s.order (same_numbers s.order rows s.same) word apart);
    same = IsPermutation-append_left (chosen_numbered word) s.order rows s.same;
  }

  pub top_part : (t new : top.Kept) (word : ℕ) → ((rows : List (Numbered Cell)) → top.Stands t rows → AreApart rows (chosen_numbered word) → HoldsInPart (top.Stands new) rows (chosen_numbered word))
      → (rows : List (Numbered Cell)) → Stands (Top t) rows → AreApart rows (numbered_rows first b) → HoldsInPart (Stands (Top new)) rows (chosen_numbered word)
  top_part t new word h rows s apart =
      let part = h s.order s.stands (order_apart rows s.order (same_numbers s.order rows s.same) word apart) in
      let added = take part.count (chosen_numbered word) in
      record {
        count = part.count;
        holds = record { order = s.order ++ added; stands = part.holds; same = IsPermutation-append_left added s.order rows s.same };
      }
