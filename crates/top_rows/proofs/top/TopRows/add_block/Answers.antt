use Rattle.std.proofs.Common.{◌≡◌, ◌∙◌, ◌-◌, ◌+◌, ◌==◌, ◌++◌, ◌∷◌, [], ℕ, suc, Bool, true, false, if◌then◌else◌, List, length, refl, sym, ap, subst, arith, rules}
use Rattle.std.specs.Prelude.{All}
use Rattle.std.specs.Int.{bit_at}
use Rattle.table_core.specs.declared.cell.Cell.{Cell}
use Rattle.row_blocks.specs.Chosen.{chosen}
use Rattle.row_blocks.proofs.Rows.{length-row}
use Rattle.top_rows.specs.Blocks.{HoldsInPart, numbered_at, numbered_rows}
use Rattle.query_meaning.specs.Rows.{has_number}
use Rattle.top_rows.specs.Top.{IsBehind, Kept, Stands}
use Rattle.top_rows.proofs.Before.{Row}
use Rattle.top_rows.proofs.Firsts.{distinct-append}
use Rattle.top_rows.proofs.Stands.{stands_more}
use Rattle.top_rows.proofs.Blocks.{IsAdded, IsSpared, added_all, added_none, added_part, added_row, chosen_on, chosen_set, distinct_chosen, spared_first, spared_rest}
use Rattle.agg_groups.proofs.Refusals.{on_err}
use Rattle.top_rows.proofs.top.TopRows.add_block.Goals as goal

pub loop-row-init : goal.loop-row-init
loop-row-init c =
    let b = c.args.block.now in
    let word = c.args.chosen in
    let these = chosen word (numbered_rows c.args.first b) in
    record {
      plan = refl;
      width = search rules;
      added = λ rows k s apart whole. subst (λ (n : ℕ). IsAdded (Stands c.args.self.now) rows (chosen_on c.args.first b word 0 n) these) (omega (arith, whole)) (added_none (Stands c.args.self.now) rows these s);
      free = λ behind k whole.
          let t = c.args.self.now in
          record { same = refl; behind = subst (λ (n : ℕ). All (IsBehind t.plan.limit t.plan.order t.rows) (chosen_on c.args.first b word 0 n)) (omega (arith, whole)) behind };
    }

-- a row that isn't chosen
pub loop-row-preserved-then-not-is_chosen : goal.loop-row-preserved-then-not-is_chosen
loop-row-preserved-then-not-is_chosen c =
    let first = c.args.first in
    let b = c.args.block.now in
    let word = c.args.chosen in
    let i : ℕ = c.loop-row.row in
    let these = chosen word (numbered_rows first b) in
    let before = c.loop-row.invariant in
    let clear : (bit_at word i == 1) ≡ false = sym c.is_chosen.ensures ∙ c.if-not-is_chosen.true in
    record {
      plan = before.plan;
      width = before.width;
      added = λ rows k s apart whole.
          let more = chosen_on first b word (i + 1) k in
          subst (λ (set : Bool). IsAdded (Stands c.loop-row.self) rows (if set then numbered_at first b i ∷ more else more) these) clear (before.added rows (suc k) s apart (omega (arith, whole)));
      free = λ behind k whole.
          let more = chosen_on first b word (i + 1) k in
          subst (λ (is : Bool). IsSpared c.args.self.now c.loop-row.self (if is then numbered_at first b i ∷ more else more)) clear (before.free behind (suc k) (omega (arith, whole)));
    }

-- a row that can't be among the first ones
pub loop-row-preserved-then-passes_over : goal.loop-row-preserved-then-passes_over
loop-row-preserved-then-passes_over c =
    let first = c.args.first in
    let b = c.args.block.now in
    let word = c.args.chosen in
    let i : ℕ = c.loop-row.row in
    let r : Row = numbered_at first b i in
    let these = chosen word (numbered_rows first b) in
    let t = c.loop-row.self in
    let before = c.loop-row.invariant in
    let set : (bit_at word i == 1) ≡ true = sym c.is_chosen.ensures ∙ c.if-not-is_chosen.false in
    record {
      plan = before.plan;
      width = before.width;
      added = λ rows k s apart whole.
          added_row first b word i k t t rows these set (stands_more t t r refl (λ n. sym c.if-passes_over.ensures.behind))
          (distinct-append rows these s.distinct (distinct_chosen first b word 0 b.count) apart) (before.added rows (suc k) s apart (omega (arith, whole)));
      free = λ behind k whole.
          spared_rest c.args.self.now t r (chosen_on first b word (i + 1) k)
          (subst (λ left. IsSpared c.args.self.now t left) (chosen_set first b word i k set) (before.free behind (suc k) (omega (arith, whole))));
    }

pub loop-row-preserved : goal.loop-row-preserved
loop-row-preserved c =
    let first = c.args.first in
    let b = c.args.block.now in
    let word = c.args.chosen in
    let i : ℕ = c.loop-row.row in
    let r : Row = numbered_at first b i in
    let these = chosen word (numbered_rows first b) in
    let old = c.loop-row.self in
    let new = c.add.new.self in
    let before = c.loop-row.invariant in
    let set : (bit_at word i == 1) ≡ true = sym c.is_chosen.ensures ∙ c.if-not-is_chosen.false in
    let Adds : List Cell → Type 0 = λ cells. (rows : List Row) → Stands old rows → has_number rows r.0 ≡ false → Stands new (rows ++ (r.0, cells) ∷ []) in
    record {
      plan = c.add.ensures.plan ∙ before.plan;
      width = ap length c.row.ensures ∙ length-row b i;
      added = λ rows k s apart whole.
          added_row first b word i k old new rows these set (subst Adds c.row.ensures c.in_ok-add.ensures.ok)
          (distinct-append rows these s.distinct (distinct_chosen first b word 0 b.count) apart) (before.added rows (suc k) s apart (omega (arith, whole)));
      free = λ behind k whole.
          absurd (c.if-passes_over.ensures.among (spared_first c.args.self.now old r (chosen_on first b word (i + 1) k)
          (subst (λ left. IsSpared c.args.self.now old left) (chosen_set first b word i k set) (before.free behind (suc k) (omega (arith, whole))))));
    }

pub returns-in_err-add-clause-free : goal.returns-in_err-add-clause-free
returns-in_err-add-clause-free c = λ behind.
    let first = c.args.first in
    let b = c.args.block.now in
    let word = c.args.chosen in
    let i : ℕ = c.loop-row.row in
    let r : Row = numbered_at first b i in
    let t = c.loop-row.self in
    let k : ℕ = b.count - i - 1 in
    let set : (bit_at word i == 1) ≡ true = sym c.is_chosen.ensures ∙ c.if-not-is_chosen.false in
    let whole : i + suc k ≡ b.count = omega (arith, c.loop-row-test.true, c.len-row-end.ensures.len) in
    absurd (c.if-passes_over.ensures.among (spared_first c.args.self.now t r (chosen_on first b word (i + 1) k)
    (subst (λ left. IsSpared c.args.self.now t left) (chosen_set first b word i k set) (c.loop-row.invariant.free behind (suc k) whole))))

pub returns-in_err-add-clause-err : goal.returns-in_err-add-clause-err
returns-in_err-add-clause-err c = on_err c.from_residual.result (λ rows s apart.
    let first = c.args.first in
    let b = c.args.block.now in
    let word = c.args.chosen in
    let i : ℕ = c.loop-row.row in
    let k : ℕ = b.count - i in
    let these = chosen word (numbered_rows first b) in
    let whole : i + k ≡ b.count = omega (arith, c.loop-row-test.true, c.len-row-end.ensures.len) in
    subst (λ (t : Kept). HoldsInPart (Stands t) rows these) (sym c.in_err-add.ensures.err)
    (added_part (Stands c.loop-row.self) rows (chosen_on first b word i k) these (c.loop-row.invariant.added rows k s apart whole)))

pub returns-clause-ok : goal.returns-clause-ok
returns-clause-ok c = λ rows s apart.
    let these = chosen c.args.chosen (numbered_rows c.args.first c.args.block.now) in
    added_all (Stands c.loop-row.self) rows these
    (c.loop-row.invariant.added rows 0 s apart (omega (arith, c.loop-row-test.false, c.loop-row.auto.row-end, c.len-row-end.ensures.len)))
