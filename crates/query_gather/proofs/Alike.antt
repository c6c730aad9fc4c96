-- What fits one plan.
use Rattle.std.proofs.Common.{◌≡◌, ◌∙◌, ℕ, List, [], ◌∷◌, ◌++◌, sym, ap, subst}
use Rattle.std.specs.Prelude.{Some, None}
use Rattle.table_core.specs.declared.cell.Cell.{Cell}
use Rattle.query_meaning.specs.declared.item.Item.{Item}
use Rattle.query_meaning.specs.Places.{NamesPlaces}
use Rattle.query_meaning.specs.Rows.{Numbered}
use Rattle.sql_bind.specs.declared.plan.Plan.{Plan}
use Rattle.query_gather.specs.declared.partial.Partial.{Partial}
use Rattle.query_gather.specs.declared.partial.Partial.TheVariants.{Groups, Top}
use Rattle.query_gather.specs.Partial.{FitsPlan, FitsWidth, HasPlaces, IsAlike, MayJoinAll}

pub alike_fits : (p : Plan) (a b : Partial) → IsAlike a b → FitsPlan p a → FitsPlan p b
alike_fits p (Groups g) (Groups h) e f = (f.0, e.0 ∙ f.1, e.1 ∙ f.2)
alike_fits p (Groups g) (Top t) e f = absurd e
alike_fits p (Top t) (Groups g) e f = absurd e
alike_fits p (Top t) (Top u) e f = f ∙ ap Some (sym e)

-- what fits one plan is alike
pub both_alike : (p : Plan) (a b : Partial) → FitsPlan p a → FitsPlan p b → IsAlike a b
both_alike p (Groups g) (Groups h) e f = (f.1 ∙ sym e.1, f.2 ∙ sym e.2)
both_alike p (Groups g) (Top t) e f = let none : Some t.plan ≡ None = sym f ∙ e.0 in absurd (cc)
both_alike p (Top t) (Groups g) e f = let none : Some t.plan ≡ None = sym e ∙ f.0 in absurd (cc)
both_alike p (Top t) (Top u) e f = let same : Some u.plan ≡ Some t.plan = sym f ∙ e in cc

pub alike_on : (a b c : Partial) → IsAlike a b → IsAlike b c → IsAlike a c
alike_on (Groups g) (Groups h) (Groups i) e f = (f.0 ∙ e.0, f.1 ∙ e.1)
alike_on (Top t) (Top u) (Top v) e f = f ∙ e
alike_on (Groups g) (Top u) c e f = absurd e
alike_on (Top t) (Groups h) c e f = absurd e
alike_on (Groups g) (Groups h) (Top v) e f = absurd f
alike_on (Top t) (Top u) (Groups i) e f = absurd f

pub alike_join : (a b : Partial) (rows : List (Numbered Cell)) (lists : List (List (Numbered Cell))) → IsAlike a b → MayJoinAll a rows lists → MayJoinAll b rows lists
alike_join a b rows [] e m = tt
alike_join (Groups g) (Groups h) rows (more ∷ lists) e m = (tt, alike_join (Groups g) (Groups h) (rows ++ more) lists e m.1)
alike_join (Top t) (Top u) rows (more ∷ lists) e m = (m.0, alike_join (Top t) (Top u) (rows ++ more) lists e m.1)
alike_join (Groups g) (Top t) rows (more ∷ lists) e m = absurd e
alike_join (Top t) (Groups g) rows (more ∷ lists) e m = absurd e

-- what fits a plan has the plan's places
pub has_places : (p : Plan) (a : Partial) (width : ℕ) → FitsPlan p a → FitsWidth p width → HasPlaces a width
has_places p (Groups g) width f w =
    let Items : List Item → Type 0 = λ is. NamesPlaces is p.keys.items width in
    let Keys : List ℕ → Type 0 = λ ks. NamesPlaces g.items ks width in
    subst Keys (sym f.2) (subst Items (sym f.1) w)
has_places p (Top t) width f w = tt
