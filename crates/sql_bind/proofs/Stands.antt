-- What stands for a literal stands to each cell as the literal stands to the cell's value, and is of the column's kind.
use Rattle.std.proofs.Common.{◌≡◌, ◌∙◌, ℕ, List, [], refl, sym, ap, inl, inr}
use Rattle.std.specs.Prelude.{false, nat_lt, slice_index_or}
use Rattle.std.proofs.lemmas.Bool.{cases_Bool, false≢true, ltb-true, ltb-false}
use Rattle.table_core.specs.Dict.{text_cmp, Rises}
use Rattle.table_core.specs.declared.cell.Cell.TheVariants.{Null, Int, Code}
use Rattle.table_core.specs.declared.schema.Kind.{Kind}
use Rattle.table_core.specs.declared.schema.Kind.TheVariants as kind
use Rattle.filter_zones.specs.declared.cond.Bound.{Bound}
use Rattle.filter_zones.specs.declared.cond.Bound.TheVariants as bound
use Rattle.sql_bind.proofs.Stand.{codes_stand}
use Rattle.sql_text.specs.declared.condition.Literal.{Literal}
use Rattle.sql_text.specs.declared.condition.Literal.TheVariants as literal
use Rattle.sql_bind.specs.declared.places.Use.TheVariants as use_
use Rattle.sql_bind.specs.Places.{literal_use}
use Rattle.sql_bind.specs.Refusals.{misuses}
use Rattle.sql_bind.specs.Bounds.{IsBoundOf, IsOfKind, StandsFor}
use Rattle.sql_bind.proofs.Numbers.{stand_alike}

pub stands : (k : Kind) (dict : List (List ℕ)) (l : Literal) (v : Bound) → Rises dict → IsBoundOf k dict l v → StandsFor k dict l v
stands k dict l v rises b Null f e = absurd (false≢true (sym e))
stands k dict (literal.Int m) (bound.Number h) rises b (Int n) f e = stand_alike _ _ h b n
stands k dict (literal.Int m) (bound.Number h) rises b (Code c) f e = refl
stands k dict (literal.Int m) (bound.Code j) rises b c f e = absurd b
stands k dict (literal.Int m) (bound.Gap p) rises b c f e = absurd b
stands k dict (literal.Dec m p) (bound.Number h) rises b (Int n) f e = stand_alike _ _ h b n
stands k dict (literal.Dec m p) (bound.Number h) rises b (Code c) f e = refl
stands k dict (literal.Dec m p) (bound.Code j) rises b c f e = absurd b
stands k dict (literal.Dec m p) (bound.Gap q) rises b c f e = absurd b
stands k dict (literal.Text t) (bound.Number h) rises b c f e = absurd b
stands k dict (literal.Text t) (bound.Code j) rises b (Int n) f e = refl
stands k dict (literal.Text t) (bound.Code j) rises b (Code c) f e = codes_stand dict rises c j f.1 b.inside ∙ ap (text_cmp (slice_index_or dict c [])) b.stands
stands k dict (literal.Text t) (bound.Gap p) rises b (Int n) f e = refl
stands k dict (literal.Text t) (bound.Gap p) rises b (Code c) f e = elim (cases_Bool (nat_lt c p)) [
  | inl low ↦ rw low (sym (b.below c (ltb-true c p low)))
  | inr high ↦ rw high (sym (b.above c (ltb-false c p high) f.1))
]

text_only : (k : Kind) → misuses k use_.Text ≡ false → k ≡ kind.Text
text_only kind.Text u = refl
text_only kind.Int u = absurd (false≢true (sym u))
text_only (kind.Dec s) u = absurd (false≢true (sym u))

pub of_kind : (k : Kind) (dict : List (List ℕ)) (l : Literal) (v : Bound) → misuses k (literal_use l) ≡ false → IsBoundOf k dict l v → IsOfKind k dict v
of_kind k dict l v u b Null f = tt
of_kind k dict (literal.Int m) (bound.Number h) u b (Int n) f = tt
of_kind k dict (literal.Int m) (bound.Number h) u b (Code c) f = absurd (false≢true (sym u ∙ ap (λ x. misuses x use_.Number) f.0))
of_kind k dict (literal.Int m) (bound.Code j) u b c f = absurd b
of_kind k dict (literal.Int m) (bound.Gap p) u b c f = absurd b
of_kind k dict (literal.Dec m p) (bound.Number h) u b (Int n) f = tt
of_kind k dict (literal.Dec m p) (bound.Number h) u b (Code c) f = absurd (false≢true (sym u ∙ ap (λ x. misuses x use_.Number) f.0))
of_kind k dict (literal.Dec m p) (bound.Code j) u b c f = absurd b
of_kind k dict (literal.Dec m p) (bound.Gap q) u b c f = absurd b
of_kind k dict (literal.Text t) (bound.Number h) u b c f = absurd b
of_kind k dict (literal.Text t) (bound.Code j) u b (Int n) f = absurd (f (text_only k u))
of_kind k dict (literal.Text t) (bound.Code j) u b (Code c) f = tt
of_kind k dict (literal.Text t) (bound.Gap p) u b (Int n) f = absurd (f (text_only k u))
of_kind k dict (literal.Text t) (bound.Gap p) u b (Code c) f = tt
