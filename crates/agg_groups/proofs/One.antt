-- A query without key columns has one group, in which all rows are.
use Rattle.std.proofs.Common.{◌≡◌, false, List, [], ◌∷◌, ◌++◌, map, refl, sym, ap, ◌∙◌, inl, inr}
use Rattle.std.specs.Prelude.{Option, Some, None, ◌||◌, if◌then◌else◌}
use Rattle.std.proofs.lemmas.Bool.{cases_Bool}
use Rattle.table_core.specs.declared.cell.Cell.{Cell}
use Rattle.query_meaning.specs.declared.item.Item.{Item}
use Rattle.agg_groups.specs.declared.running.Running.{Running}
use Rattle.query_meaning.specs.Cells.{codes}
use Rattle.query_meaning.specs.Meaning as meaning
use Rattle.agg_groups.specs.Running.{runnings, joins}
use Rattle.agg_groups.specs.Groups.{groups_of}
use Rattle.agg_groups.specs.Table.{Placed, IsPlaced, Puts, at, base, merged, seen}
use Rattle.agg_groups.proofs.Order.{same_key, same, has_key}
use Rattle.agg_groups.proofs.Keys.{state_of, state-append, at-groups_of, groups_are}
use Rattle.agg_groups.proofs.Stands.{seen_rising}

abbrev Row : Type 0
Row = List Cell

group-all : (rows : List Row) → meaning.group codes [] [] rows ≡ rows
group-all [] = refl
group-all (r ∷ rows) = ap (λ rs. r ∷ rs) (group-all rows)

has-other : (rows : List Row) (q : List Cell) → same_key q [] ≡ false → has_key (map (meaning.key_of codes []) rows) q ≡ false
has-other [] q e = refl
has-other (r ∷ rows) q e = rw e (has-other rows q e)

-- what is kept of rows at the one key, and at no other
state-one : (items : List Item) (rows : List Row) (q : List Cell) → state_of items [] rows q ≡ (if same_key q [] then Some (runnings items rows) else None)
state-one items rows q = elim (cases_Bool (same_key q [])) [
  | inl t ↦
      let F : List Row → Option (List Running) = λ rs. Some (runnings items rs) in
      ap (λ b. if b || has_key (map (meaning.key_of codes []) rows) q then Some (runnings items (meaning.group codes [] q rows)) else None) t
      ∙ ap F (ap (λ k. meaning.group codes [] k rows) (same q [] t) ∙ group-all rows)
      ∙ sym (ap (λ b. if b then Some (runnings items rows) else None) t)
  | inr f ↦ rw (f, has-other rows q f) refl
]

-- rows joined to the one group
pub groups_one : (items : List Item) (more : List Row) (old new : Placed) → IsPlaced new
    → Puts [] (joins items (base items (at (seen old) [])) (runnings items more)) (seen old) (seen new)
    → (rows : List Row) → seen old ≡ groups_of items [] rows → seen new ≡ groups_of items [] (rows ++ more)
groups_one items more old new p puts rows s = groups_are items [] (seen new) (rows ++ more) (seen_rising new p) (λ q. by q) where
  stood : (q : List Cell) → at (seen old) q ≡ (if same_key q [] then Some (runnings items rows) else None)
  stood q = ap (λ gs. at gs q) s ∙ at-groups_of items [] rows q ∙ state-one items rows q

  whole : (q : List Cell) → state_of items [] (rows ++ more) q ≡ merged items (if same_key q [] then Some (runnings items rows) else None) (if same_key q [] then Some (runnings items more) else None)
  whole q = state-append items [] rows more q ∙ ap (λ o. merged items o (state_of items [] more q)) (state-one items rows q) ∙ ap (merged items (if same_key q [] then Some (runnings items rows) else None)) (state-one items more q)

  by : (q : List Cell) → at (seen new) q ≡ state_of items [] (rows ++ more) q
  by q = elim (cases_Bool (same_key q [])) [
    | inl t ↦
        puts q ∙ ap (λ b. if b then Some (joins items (base items (at (seen old) [])) (runnings items more)) else at (seen old) q) t
        ∙ ap (λ o. Some (joins items (base items o) (runnings items more))) (stood [])
        ∙ sym (whole q ∙ ap (λ b. merged items (if b then Some (runnings items rows) else None) (if b then Some (runnings items more) else None)) t)
    | inr f ↦
        puts q ∙ ap (λ b. if b then Some (joins items (base items (at (seen old) [])) (runnings items more)) else at (seen old) q) f
        ∙ stood q ∙ ap (λ b. if b then Some (runnings items rows) else None) f
        ∙ sym (whole q ∙ ap (λ b. merged items (if b then Some (runnings items rows) else None) (if b then Some (runnings items more) else None)) f)
  ]
