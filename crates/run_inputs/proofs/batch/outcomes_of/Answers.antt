use Rattle.std.proofs.Common.{◌<◌, ◌∙◌, ◌∷◌, [], ap, arith, map, take, length, get_or}
use Rattle.std.proofs.lemmas.List.{map-append, take_more}
use Rattle.sql_tokens.specs.declared.span.Span.{Span}
use Rattle.run_inputs.specs.Statements.{part}
use Rattle.run_stops.specs.Outcomes.{ComesTo}
use Rattle.csv_load.proofs.Zips.{zip-push}
use Rattle.run_inputs.proofs.batch.outcomes_of.Goals as goal

pub loop-span-preserved : goal.loop-span-preserved
loop-span-preserved c =
    let spans = c.args.spans.now in
    let text = c.args.text.now in
    let i = c.loop-span.span-index in
    let d : Span = record { from = 0; to = 0 } in
    let low : i < length spans = omega (arith, c.loop-span-test.true) in
    let more = ap (map (part text)) (take_more spans i d low) ∙ map-append (part text) (take i spans) (get_or spans i d ∷ []) in
    let whole = zip-push (ComesTo c.args.schema.now c.args.dicts.now) (map (part text) (take i spans)) c.loop-span.outcomes.items (part text (get_or spans i d)) c.in_ok-outcome.outcome c.loop-span.invariant
    c.in_ok-outcome.ensures.ok in
    rw (more, c.in-Ok.ensures.items) whole
