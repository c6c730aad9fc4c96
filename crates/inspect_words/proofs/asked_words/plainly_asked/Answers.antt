use Rattle.std.proofs.Common.{◌≡◌, ◌∙◌, sym, Some}
use Rattle.std.proofs.lemmas.Result.{IfErr-weaker, IfOk-weaker}
use Rattle.clap.specs.Matches.{found_of}
use Rattle.clap.specs.Simple.{subcommand_of}
use Rattle.clap.specs.Walk.{rows_of}
use Rattle.clap.specs.declared.parser.matches.ArgMatches.TheViews.{out-ArgMatches}
use Rattle.command_words.specs.Matched.{texts}
use Rattle.inspect_words.specs.Command.{inspect}
use Rattle.inspect_words.proofs.Asking.{asks, joined, refused_by}
use Rattle.inspect_words.proofs.asked_words.plainly_asked.Goals as goal

pub returns-in-Some : goal.returns-in-Some
returns-in-Some c =
    let taken = c.in_ok-matches.ensures.taken in
    let met : subcommand_of inspect (texts c.args.words.now) ≡ Some (c.in-Some.name.now, rows_of (found_of c.in-Some.found.now)) =
    sym taken.1 ∙ joined _ _ (out-ArgMatches c.in_ok-matches.matches).subcommand _ _ c.in-Some.ensures.name c.in-Some.ensures.rows in
    let asked = asks c.args.words.now c.behind_name.result.now _ _ taken.0 met c.behind_name.ensures in
    record {
      asked = IfOk-weaker c.asked_by.result _ _ (λ _ h. asked ∙ h) c.asked_by.ensures.asked;
      limits = c.asked_by.ensures.limits;
      refused = IfErr-weaker c.asked_by.result _ _ (λ e h. refused_by _ _ _ e taken.0 asked h) c.asked_by.ensures.refused;
    }
