use Rattle.std.proofs.Common.{◌∙◌, ◌++◌, ◌%◌, ap, codes, decimal}
use Rattle.run_inputs.specs.GeneratedTable.{tag_by, value_by}
use Rattle.run_inputs.proofs.Growing.{and_then}
use Rattle.run_inputs.proofs.generated_table.push_row.Goals as goal

pub returns : goal.returns
returns c =
    let old = c.args.text.now.items in
    let id = decimal c.args.id in
    let group = id ++ codes ",g" ++ decimal (c.args.row.group % 16) in
    let value = group ++ codes "," ++ value_by c.args.row.blank c.args.row.value in
    let tag = value ++ codes "," ++ tag_by c.args.row.tag in
    let letter_is = and_then old c.push_number.new.text.items c.extend_from_slice.new.self.items id (codes ",g") c.in_ok-push_number.ensures c.in_ok-extend_from_slice.ensures.items in
    let group_is = and_then old c.extend_from_slice.new.self.items c.push_number-2.new.text.items (id ++ codes ",g") (decimal (c.args.row.group % 16)) letter_is c.in_ok-push_number-2.ensures in
    let comma_is = and_then old c.push_number-2.new.text.items c.push.new.self.items group (codes ",") group_is c.in_ok-push.ensures.items in
    let value_is = and_then old c.push.new.self.items c.push_value.new.text.items (group ++ codes ",") (value_by c.args.row.blank c.args.row.value) comma_is c.in_ok-push_value.ensures in
    let next_comma_is = and_then old c.push_value.new.text.items c.push-2.new.self.items value (codes ",") value_is c.in_ok-push-2.ensures.items in
    let written = c.in_ok-extend_from_slice-2.ensures.items ∙ ap (λ tag. c.push-2.new.self.items ++ tag) c.tag_of.ensures in
    let tag_is = and_then old c.push-2.new.self.items c.extend_from_slice-2.new.self.items (value ++ codes ",") (tag_by c.args.row.tag) next_comma_is written in
    and_then old c.extend_from_slice-2.new.self.items c.push-3.new.self.items tag (codes "\n") tag_is c.in_ok-push-3.ensures.items
