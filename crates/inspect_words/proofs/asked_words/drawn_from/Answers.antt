use Rattle.clap.specs.Matches.{found_of}
use Rattle.inspect_words.proofs.Asking.{windows}
use Rattle.inspect_words.proofs.asked_words.drawn_from.Goals as goal

pub returns-in-Some-clause-asked : goal.returns-in-Some-clause-asked
returns-in-Some-clause-asked c = windows (found_of c.args.found.now) c.args.output.now _ _ _ _ _ c.get_str-from.ensures c.get_str-to.ensures c.get_str.ensures c.in-Some.ensures.window c.form_of-form.ensures

pub returns-in-None-clause-refused : goal.returns-in-None-clause-refused
returns-in-None-clause-refused c = windows (found_of c.args.found.now) c.args.output.now _ _ _ _ _ c.get_str-from.ensures c.get_str-to.ensures c.get_str.ensures c.in-None.ensures.window c.form_of-form.ensures
