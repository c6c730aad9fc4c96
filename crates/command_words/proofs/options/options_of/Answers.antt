use Rattle.std.proofs.Common.{◌∙◌, sym}
use Rattle.command_words.specs.Knows.{known_to}
use Rattle.command_words.specs.Matched.{texts}
use Rattle.command_words.specs.Views.{values_view}
use Rattle.command_words.proofs.Asking.{asks, knows_values}
use Rattle.command_words.proofs.options.options_of.Goals as goal

pub returns-in-Some-clause-ok : goal.returns-in-Some-clause-ok
returns-in-Some-clause-ok c =
    let ok = c.in_ok-matches.ensures.ok in
    let values = c.found.ensures (known_to c.args.call) ok.0 ok.2 (knows_values c.args.call) in
    asks c.args.call (texts c.args.words.now) ok.0 (values_view c.found.result) ok.1 values ∙ sym c.in-Some.ensures.request

pub returns-clause-usage : goal.returns-clause-usage
returns-clause-usage c =
    let ok = c.in_ok-matches.ensures.ok in
    let values = c.found.ensures (known_to c.args.call) ok.0 ok.2 (knows_values c.args.call) in
    λ _. asks c.args.call (texts c.args.words.now) ok.0 (values_view c.found.result) ok.1 values ∙ sym c.in-None.ensures.request
