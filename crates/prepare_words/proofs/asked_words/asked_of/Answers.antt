use Rattle.std.proofs.Common.{◌∙◌, ap, sym, Some}
use Rattle.std.proofs.lemmas.Result.{IfErr-weaker, IfOk-weaker}
use Rattle.clap.specs.Matches.{found_of}
use Rattle.clap.specs.Walk.{rows_of}
use Rattle.clap.specs.declared.parser.matches.ArgMatches.TheViews.{out-ArgMatches}
use Rattle.prepare_words.specs.Asked.{done_by, texts}
use Rattle.prepare_words.proofs.Asking.{asks, joined, refused_for}
use Rattle.prepare_words.proofs.asked_words.asked_of.Goals as goal

pub returns-in-Some : goal.returns-in-Some
returns-in-Some c =
    let taken = c.in_ok-matches.ensures.taken in
    let met = sym taken.1 ∙ joined _ _ (out-ArgMatches c.in_ok-matches.matches).subcommand _ _ c.in-Some.ensures.name c.in-Some.ensures.rows in
    let asked = asks (texts c.args.words.now) _ taken.0 met in
    record {
      asked = IfOk-weaker c.asked_by.result _ _ (λ _ h. asked ∙ ap Some h) c.asked_by.ensures.asked;
      refused = IfErr-weaker c.asked_by.result _ _ (λ e h. refused_for (texts c.args.words.now) (done_by c.in-Some.name.now (rows_of (found_of c.in-Some.found.now))) e asked h) c.asked_by.ensures.refused;
    }
