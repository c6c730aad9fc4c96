use Rattle.inspect_notes.proofs.Zoned.{fits_where}
use Rattle.inspect_notes.proofs.noting.note_of.Goals as goal

pub note_of_plan-requires-clause-query : goal.note_of_plan-requires-clause-query
note_of_plan-requires-clause-query c = (c.in_ok-plan.ensures.plan.query, c.in_ok-plan.ensures.plan.text)

pub note_of_plan-requires-clause-few : goal.note_of_plan-requires-clause-few
note_of_plan-requires-clause-few c = c.requires.zones.few

pub note_of_plan-requires-clause-fits : goal.note_of_plan-requires-clause-fits
note_of_plan-requires-clause-fits c =
    let p = c.in_ok-plan.ensures.plan in
    fits_where c.args.schema.now c.args.dicts.now p.query.cond _ c.args.zones.now p.truth c.requires.zones
