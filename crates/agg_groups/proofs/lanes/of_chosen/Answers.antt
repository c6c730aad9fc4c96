use Rattle.std.proofs.Common.{◌≡◌, ◌∙◌, ℕ, sym, ap, subst, length, arith, rules}
use Rattle.std.specs.Prelude.{if◌then◌else◌, count_ones}
use Rattle.std.specs.Int.{bit_at}
use mir.Syntax.{w128}
use Rattle.std.proofs.lemmas.Int.{ints, to_z-of_z}
use Rattle.row_blocks.specs.declared.lane.Lane.{Lane}
use Rattle.row_blocks.specs.Blocks.{lane_at}
use Rattle.row_blocks.specs.Chosen.{chosen}
use Rattle.row_blocks.specs.Lanes.{is_null_at}
use Rattle.query_meaning.specs.declared.item.Item.{Item}
use Rattle.agg_groups.specs.declared.running.Running.TheVariants as running
use Rattle.agg_groups.specs.Blocks.{cells_in, chosen_in}
use Rattle.query_meaning.specs.Cells.{codes}
use Rattle.query_meaning.specs.Meaning as meaning
use Rattle.agg_groups.specs.Running.{running_of}
use Rattle.query_meaning.specs.Places.{IsInRow}
use Rattle.agg_groups.proofs.Columns.{count-values, fewer-values, ones-block, values-chosen}
use Rattle.agg_groups.proofs.lanes.of_chosen.Goals as goal

abbrev Bits : Lane → ℕ → ℕ → Type 0
Bits lane word values = (i : ℕ) → bit_at values i ≡ (if is_null_at lane i then 0 else bit_at word i)

pub returns-in-CountAll-clause-value : goal.returns-in-CountAll-clause-value
returns-in-CountAll-clause-value c =
    ap running.Count (c.from.ensures ∙ c.count_of.ensures.count ∙ sym (ones-block c.args.block.now c.args.word c.requires.below))
    ∙ sym (ap (running_of (chosen_in c.args.block.now c.args.word)) c.in-CountAll.is)

pub returns-in-CountAll-clause-room : goal.returns-in-CountAll-clause-room
returns-in-CountAll-clause-room c =
    omega (arith, c.from.ensures, c.count_of.ensures.count)

pub returns-in-Count-clause-value : goal.returns-in-Count-clause-value
returns-in-Count-clause-value c =
    let b = c.args.block.now in
    let word = c.args.word in
    let x = c.in-Count.x in
    let in_row = subst (λ (i : Item). IsInRow i b.width) c.in-Count.is c.requires.in_row in
    let bits = subst (λ (l : Lane). Bits l word c.values_of.result) c.lane.ensures c.values_of.ensures.bits in
    ap running.Count (c.from-in-Count.ensures ∙ c.count_of-in-Count.ensures.count ∙ sym (count-values b x word c.values_of.result in_row c.requires.below bits))
    ∙ sym (ap (running_of (chosen_in b word)) c.in-Count.is)

pub returns-in-Count-clause-room : goal.returns-in-Count-clause-room
returns-in-Count-clause-room c =
    let b = c.args.block.now in
    let in_row = subst (λ (i : Item). IsInRow i b.width) c.in-Count.is c.requires.in_row in
    let bits = subst (λ (l : Lane). Bits l c.args.word c.values_of.result) c.lane.ensures c.values_of.ensures.bits in
    omega (arith, c.from-in-Count.ensures, c.count_of-in-Count.ensures.count, fewer-values b c.in-Count.x c.args.word c.values_of.result in_row c.requires.below bits)

pub returns-in-Sum-clause-value : goal.returns-in-Sum-clause-value
returns-in-Sum-clause-value c =
    let b = c.args.block.now in
    let word = c.args.word in
    let x = c.in-Sum.x in
    let values = c.values_of-values.result in
    let in_row = subst (λ (i : Item). IsInRow i b.width) c.in-Sum.is c.requires.in_row in
    let bits = subst (λ (l : Lane). Bits l word values) c.lane-lane.ensures c.values_of-values.ensures.bits in
    let count = c.from-in-Sum.ensures ∙ c.count_of-in-Sum.ensures.count ∙ sym (count-values b x word values in_row c.requires.below bits) in
    let total = to_z-of_z w128 c.total_of-total.result (search rules) ∙ c.total_of-total.ensures.value
    ∙ ap (λ l. meaning.total codes (chosen values (cells_in l c.len.result))) c.lane-lane.ensures ∙ ap (λ n. meaning.total codes (chosen values (cells_in (lane_at b x) n))) c.len.ensures.len
    ∙ sym (ap (meaning.total codes) (values-chosen b x word values in_row bits)) in
    ap (running.Sum c.from-in-Sum.result) total ∙ ap (λ n. running.Sum n (meaning.total codes (meaning.values codes x (chosen_in b word)))) count ∙ sym (ap (running_of (chosen_in b word)) c.in-Sum.is)

pub returns-in-Sum-clause-room : goal.returns-in-Sum-clause-room
returns-in-Sum-clause-room c =
    let b = c.args.block.now in
    let values = c.values_of-values.result in
    let in_row = subst (λ (i : Item). IsInRow i b.width) c.in-Sum.is c.requires.in_row in
    let bits = subst (λ (l : Lane). Bits l c.args.word values) c.lane-lane.ensures c.values_of-values.ensures.bits in
    let total = to_z-of_z w128 c.total_of-total.result (search rules) in
    let few = fewer-values b c.in-Sum.x c.args.word values in_row c.requires.below bits in
    let long : length (chosen values (cells_in c.lane-lane.result.now c.len.result)) ≡ count_ones values =
    ap (λ l. length (chosen values (cells_in l c.len.result))) c.lane-lane.ensures ∙ ap (λ n. length (chosen values (cells_in (lane_at b c.in-Sum.x) n))) c.len.ensures.len
    ∙ sym (ap length (values-chosen b c.in-Sum.x c.args.word values in_row bits)) ∙ count-values b c.in-Sum.x c.args.word values in_row c.requires.below bits in (
      omega (arith, c.from-in-Sum.ensures, c.count_of-in-Sum.ensures.count, few),
      omega (arith, ints, total, c.total_of-total.ensures.low, long, few),
      omega (arith, ints, total, c.total_of-total.ensures.high, long, few),
    )

pub returns-in-Min-clause-value : goal.returns-in-Min-clause-value
returns-in-Min-clause-value c =
    let b = c.args.block.now in
    let word = c.args.word in
    let x = c.in-Min.x in
    let values = c.values_of-in-Min.result in
    let in_row = subst (λ (i : Item). IsInRow i b.width) c.in-Min.is c.requires.in_row in
    let bits = subst (λ (l : Lane). Bits l word values) c.lane-lane-in-Min.ensures c.values_of-in-Min.ensures.bits in
    ap running.Best (c.least_of.ensures
    ∙ ap (λ l. meaning.least codes (chosen values (cells_in l c.len-in-Min.result))) c.lane-lane-in-Min.ensures ∙ ap (λ n. meaning.least codes (chosen values (cells_in (lane_at b x) n))) c.len-in-Min.ensures.len
    ∙ sym (ap (meaning.least codes) (values-chosen b x word values in_row bits)))
    ∙ sym (ap (running_of (chosen_in b word)) c.in-Min.is)

pub returns-in-Max-clause-value : goal.returns-in-Max-clause-value
returns-in-Max-clause-value c =
    let b = c.args.block.now in
    let word = c.args.word in
    let x = c.in-Max.x in
    let values = c.values_of-in-Max.result in
    let in_row = subst (λ (i : Item). IsInRow i b.width) c.in-Max.is c.requires.in_row in
    let bits = subst (λ (l : Lane). Bits l word values) c.lane-lane-in-Max.ensures c.values_of-in-Max.ensures.bits in
    ap running.Best (c.greatest_of.ensures
    ∙ ap (λ l. meaning.greatest codes (chosen values (cells_in l c.len-in-Max.result))) c.lane-lane-in-Max.ensures ∙ ap (λ n. meaning.greatest codes (chosen values (cells_in (lane_at b x) n))) c.len-in-Max.ensures.len
    ∙ sym (ap (meaning.greatest codes) (values-chosen b x word values in_row bits)))
    ∙ sym (ap (running_of (chosen_in b word)) c.in-Max.is)
