use Rattle.std.proofs.Common.{◌∙◌, ap, []}
use Rattle.std.specs.Prelude.{unwrap_or}
use Rattle.clap.specs.Matches.{found_of}
use Rattle.clap.proofs.WalkLemmas.{raw_values-rows}
use Rattle.prepare_words.proofs.Asking.{given}
use Rattle.prepare_words.proofs.found.values_in.Goals as goal

pub returns : goal.returns
returns c = given c.get_strs.result ∙ ap (λ o. unwrap_or o []) (c.get_strs.ensures ∙ raw_values-rows (found_of c.args.found.now) c.args.name.now)
