use Rattle.std.proofs.Common.{◌∙◌, subst, sym}
use Rattle.std.proofs.lemmas.Result.{IfErr-weaker, IfOk-weaker}
use Rattle.clap.specs.Matches.{found_of}
use Rattle.inspect_words.specs.Asked.{IsRunRefused}
use Rattle.inspect_words.proofs.Asking.{draws}
use Rattle.inspect_words.proofs.asked_words.drawn.Goals as goal

pub returns-in-Some : goal.returns-in-Some
returns-in-Some c =
    let met = draws (found_of c.args.found.now) _ c.in-Some.ensures in
    record {
      asked = IfOk-weaker c.drawn_from.result _ _ (λ _ h. met ∙ h) c.drawn_from.ensures.asked;
      limits = c.drawn_from.ensures.limits;
      refused = IfErr-weaker c.drawn_from.result _ _ (λ e h. subst (λ a. IsRunRefused a e) (sym met) h) c.drawn_from.ensures.refused;
    }

pub returns-in-None-clause-refused : goal.returns-in-None-clause-refused
returns-in-None-clause-refused c = draws (found_of c.args.found.now) _ c.in-None.ensures
