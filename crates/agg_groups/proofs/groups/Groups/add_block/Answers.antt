use Rattle.std.proofs.Common.{◌≡◌, ◌∙◌, ◌<◌, ◌++◌, [], ◌∷◌, sym, ap, subst, refl, List, ℕ, length, get_or, arith, append-nil}
use Rattle.std.specs.Prelude.{vec_len}
use Rattle.std.proofs.lemmas.Bool.{eqb-true}
use Rattle.table_core.specs.declared.cell.Cell.{Cell}
use Rattle.agg_groups.specs.Blocks.{chosen_in}
use Rattle.query_meaning.specs.Cells.{codes}
use Rattle.query_meaning.specs.Meaning.{key_of}
use Rattle.agg_groups.specs.Groups.{Kept, IsKnown, KnowsAll, Stands}
use Rattle.agg_groups.proofs.Columns.{ones-block}
use Rattle.agg_groups.proofs.groups.Groups.add_block.Goals as goal

none : {A : Type 0} (xs : List A) → length xs ≡ 0 → xs ≡ []
none [] e = refl
none (x ∷ xs) e = absurd (omega arith)

pub returns-then-count_of-eq0-clause-ok : goal.returns-then-count_of-eq0-clause-ok
returns-then-count_of-eq0-clause-ok c = λ rows s.
    let b = c.args.block.now in
    let word = c.in_block-word.result in
    let few : length (chosen_in b word) ≡ 0 = omega (arith, ones-block b word c.in_block-word.ensures.below, c.count_of.ensures.count, c.if-count_of-eq0.true) in
    let all : [] ≡ chosen_in b c.args.chosen = sym (none (chosen_in b word) few) ∙ c.in_block-word.ensures.same in
    subst (λ (more : List (List Cell)). Stands c.args.self.now (rows ++ more)) all (subst (Stands c.args.self.now) (sym (append-nil rows)) s)

pub returns-then-count_of-eq0-clause-count : goal.returns-then-count_of-eq0-clause-count
returns-then-count_of-eq0-clause-count c =
    let b = c.args.block.now in
    let word = c.in_block-word.result in
    omega (arith, ones-block b word c.in_block-word.ensures.below, c.count_of.ensures.count, c.if-count_of-eq0.true, ap length c.in_block-word.ensures.same)

-- the one key is that of some chosen row
pub returns-then-is_empty-clause-free : goal.returns-then-is_empty-clause-free
returns-then-is_empty-clause-free c = λ known.
    let b = c.args.block.now in
    let word = c.in_block-word.result in
    let these = chosen_in b c.args.chosen in
    let some : 0 < length these = omega (arith, ones-block b word c.in_block-word.ensures.below, c.count_of.ensures.count, c.if-count_of-eq0.false, ap length c.in_block-word.ensures.same) in
    let count = eqb-true (vec_len c.self.inside.keys) 0 (sym c.is_empty.ensures ∙ c.if-is_empty.true) in
    let no_keys : c.args.self.now.keys ≡ [] = sym (ap (λ (g : Kept). g.keys) c.self.view_is) ∙ none c.self.inside.keys.items (sym c.self.inside.keys.ok.0 ∙ count) in
    c.add_to_one.ensures.free (subst (λ (ks : List ℕ). IsKnown c.args.self.now (key_of codes ks (get_or these 0 []))) no_keys (known 0 [] some))

pub returns-clause-free : goal.returns-clause-free
returns-clause-free c = λ known.
    c.add_to_places.ensures.free (subst (λ (rows : List (List Cell)). KnowsAll c.args.self.now rows) (sym c.in_block-word.ensures.same) known)
