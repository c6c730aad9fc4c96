use Rattle.std.proofs.Common.{◌≡◌, ◌∙◌, ◌+◌, ◌<◌, ◌++◌, ◌∷◌, [], ℕ, List, None, length, drop, get_or, refl, sym, ap, arith, add-one, drop-cons, append_assoc}
use Rattle.std.specs.Prelude.{Option}
use Rattle.table_core.specs.declared.cell.Cell.{Cell}
use Rattle.table_core.specs.declared.cell.Cell.TheVariants.{Null}
use Rattle.table_core.specs.declared.schema.Column.{Column}
use Rattle.table_core.specs.Value.{value_in, value_text, zip_with}
use Rattle.table_core.specs.Answer.{dict_at, kind_at, kinds_of, more_joined, values_of}
use Rattle.table_core.proofs.answer.write_more.Goals as goal

-- the texts from a cell on are its text, behind a comma and a space, and those behind it
more-step : (columns : List Column) (dicts : List (List (List ℕ))) (places : List (Option ℕ)) (row : List Cell) (i : ℕ) → i < length places → i < length row
    → more_joined (zip_with value_text (kinds_of columns (drop i places)) (values_of dicts (drop i places) (drop i row)))
    ≡ (44 ∷ 32 ∷ []) ++ (value_text (kind_at columns (get_or places i None)) (value_in (dict_at dicts (get_or places i None)) (get_or row i Null))
    ++ more_joined (zip_with value_text (kinds_of columns (drop (i + 1) places)) (values_of dicts (drop (i + 1) places) (drop (i + 1) row))))
more-step columns dicts places row i h g = rw (add-one, drop-cons places i None h, drop-cons row i Null g) refl

pub loop-i-preserved : goal.loop-i-preserved
loop-i-preserved c =
    let i = c.loop-i.i in
    let rest = more_joined (zip_with value_text (kinds_of c.args.columns.now (drop (i + 1) c.args.places.now)) (values_of c.args.dicts.now (drop (i + 1) c.args.places.now) (drop (i + 1) c.args.row.now))) in
    let text = value_text (kind_at c.args.columns.now (get_or c.args.places.now i None)) (value_in (dict_at c.args.dicts.now (get_or c.args.places.now i None)) (get_or c.args.row.now i Null)) in
    ap (λ out. out ++ rest) (c.in_ok-write_cell.ensures ∙ ap (λ out. out ++ text) c.in_ok-append.ensures.ok)
    ∙ append_assoc (c.loop-i.out ++ 44 ∷ 32 ∷ []) text rest ∙ append_assoc c.loop-i.out (44 ∷ 32 ∷ []) (text ++ rest)
    ∙ sym (ap (λ more. c.loop-i.out ++ more) (more-step c.args.columns.now c.args.dicts.now c.args.places.now c.args.row.now i (omega (arith, c.requires.cells.same)) (omega arith)))
    ∙ c.loop-i.invariant
