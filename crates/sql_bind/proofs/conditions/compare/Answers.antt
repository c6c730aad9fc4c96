use Rattle.std.proofs.Common.{◌≡◌, ◌∙◌, ◌<◌, List, ℕ, [], ap, subst, arith, length, refl}
use Rattle.std.proofs.lemmas.List.{get_or_default}
use Rattle.table_core.specs.Fitting.{dict_at, kind_at}
use Rattle.table_core.specs.declared.schema.Column.{Column}
use Rattle.table_core.specs.declared.schema.Kind.{Kind}
use Rattle.table_core.specs.declared.schema.Kind.TheVariants as kind
use Rattle.sql_bind.specs.Names.{column_of}
use Rattle.sql_bind.specs.Bounds.{IsBoundOf}
use Rattle.sql_bind.proofs.conditions.compare.Goals as goal

pub returns : goal.returns
returns c =
    let columns = c.args.columns.now in
    let dicts = c.args.dicts.now in
    let x = c.column_of-column.result in
    let named : x ≡ column_of columns c.args.name.now = c.column_of-column.ensures ∙ ap (column_of columns) c.as_slice.ensures in
    let inside : x < length columns = omega (arith, named, c.requires.sound.0) in
    let there : x < length dicts = omega (arith, inside, c.requires.dicts) in
    let is_kind = ap (λ (y : Column). y.kind) (get_or_default columns x c.index-columns-place.result (record { name = []; kind = kind.Int }) inside) in
    let is_dict : c.index-dicts-place.result ≡ dict_at dicts x = c.index-dicts-place.is ∙ get_or_default dicts x c.index-dicts-place.result [] there in
    let K : Kind → Type 0 = λ k. IsBoundOf k c.index-dicts-place.result c.args.literal.now c.bound_of-value.result in
    let D : List (List ℕ) → Type 0 = λ d. IsBoundOf (kind_at columns x) d c.args.literal.now c.bound_of-value.result in
    (named, refl, subst D is_dict (subst K is_kind c.bound_of-value.ensures))
