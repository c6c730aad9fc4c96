use Rattle.std.proofs.Common.{◌∙◌, subst, sym}
use Rattle.std.proofs.lemmas.Result.{IfErr-weaker, IfOk-weaker}
use Rattle.clap.specs.Matches.{found_of}
use Rattle.inspect_words.specs.Asked.{IsRunRefused}
use Rattle.inspect_words.proofs.Asking.{settings}
use Rattle.inspect_words.proofs.story_words.story_of.Goals as goal

pub returns-in-Some : goal.returns-in-Some
returns-in-Some c =
    let met = settings (found_of c.args.found.now) _ c.in-Some.ensures in
    record {
      asked = IfOk-weaker c.story_for.result _ _ (λ _ h. met ∙ h) c.story_for.ensures.asked;
      limits = c.story_for.ensures.limits;
      refused = IfErr-weaker c.story_for.result _ _ (λ e h. subst (λ a. IsRunRefused a e) (sym met) h) c.story_for.ensures.refused;
    }

pub returns-in-None-clause-refused : goal.returns-in-None-clause-refused
returns-in-None-clause-refused c = settings (found_of c.args.found.now) _ c.in-None.ensures
