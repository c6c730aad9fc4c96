use Rattle.std.proofs.Common.{◌≡◌, ◌∙◌, ◌++◌, ap}
use Rattle.run_inputs.specs.Draws.{draw, drawn}
use Rattle.run_inputs.specs.GeneratedTable.{row_by}
use Rattle.run_inputs.proofs.Growing.{next_state, next_text}
use Rattle.run_inputs.proofs.generated_table.table_text.Goals as goal

pub loop-id-preserved : goal.loop-id-preserved
loop-id-preserved c =
    let s = c.loop-id.draws.state in
    let first : c.next-group.new.self.state ≡ draw s = c.next-group.ensures.state in
    let second : c.next-blank.new.self.state ≡ draw (draw s) = c.next-blank.ensures.state ∙ ap draw first in
    let third : c.next-value.new.self.state ≡ draw (draw (draw s)) = c.next-value.ensures.state ∙ ap draw second in
    let fourth : c.next-tag.new.self.state ≡ draw (draw (draw (draw s))) = c.next-tag.ensures.state ∙ ap draw third in
    let group = c.next-group.ensures.number in
    let blank = c.next-blank.ensures.number ∙ ap (λ x. drawn (draw x)) first in
    let value = c.next-value.ensures.number ∙ ap (λ x. drawn (draw x)) second in
    let tag = c.next-tag.ensures.number ∙ ap (λ x. drawn (draw x)) third in
    record {
      text = next_text c.args.seed c.loop-id.id s c.loop-id.text.items c.push_row.new.text.items c.loop-id.invariant.state c.loop-id.invariant.text
          (c.in_ok-push_row.ensures ∙ (λ k. c.loop-id.text.items ++ row_by c.loop-id.id (group k) (blank k) (value k) (tag k)));
      state = fourth ∙ next_state c.args.seed c.loop-id.id s c.loop-id.invariant.state;
    }
