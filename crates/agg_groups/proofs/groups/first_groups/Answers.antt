use Rattle.std.proofs.Common.{◌∙◌, [], sym, length, rules}
use Rattle.std.proofs.lemmas.Bool.{eqb-true}
use Rattle.query_meaning.specs.Cells.{codes}
use Rattle.query_meaning.specs.Meaning.{key_of}
use Rattle.agg_groups.proofs.Grown.{ready_none}
use Rattle.agg_groups.proofs.Stands.{first_place, first_sound}
use Rattle.agg_groups.proofs.groups.first_groups.Goals as goal

pub returns-then-is_empty-clause-first : goal.returns-then-is_empty-clause-first
returns-then-is_empty-clause-first c =
    first_place c.args.items.now c.args.keys.now c.in_ok-place_of.field-0 c.new-table.result c.place_of.new.table
    (eqb-true (length c.args.keys.now) 0 (sym c.is_empty.ensures ∙ c.if-is_empty.true)) c.new-table.ensures.empty c.in_ok-place_of.ensures.ready.placed c.in_ok-place_of.ensures.ok

pub returns-then-is_empty-clause-sound : goal.returns-then-is_empty-clause-sound
returns-then-is_empty-clause-sound c =
    first_sound c.args.items.now (key_of codes c.args.keys.now []) c.in_ok-place_of.field-0 c.new-table.result c.place_of.new.table c.new-table.ensures.empty c.in_ok-place_of.ensures.ok

pub place_of-requires-clause-ready : goal.place_of-requires-clause-ready
place_of-requires-clause-ready c =
    let n = length c.args.keys.now in
    ready_none n c.in_ok-key.key.items c.in_ok-met.met.items c.new-table.result (search rules) c.new-table.ensures.placed (c.in_ok-met.ensures n c.new-table.result)

pub returns-clause-ready : goal.returns-clause-ready
returns-clause-ready c =
    let n = length c.args.keys.now in
    ready_none n c.in_ok-key.key.items c.in_ok-met.met.items c.new-table.result (search rules) c.new-table.ensures.placed (c.in_ok-met.ensures n c.new-table.result)
