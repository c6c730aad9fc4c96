use Rattle.std.proofs.Common.{◌∙◌, subst, sym}
use Rattle.std.proofs.lemmas.Result.{IfErr-weaker, IfOk-weaker}
use Rattle.clap.specs.Matches.{found_of}
use Rattle.inspect_words.specs.Asked.{IsRunRefused}
use Rattle.inspect_words.proofs.Asking.{stories}
use Rattle.inspect_words.proofs.story_words.story_for.Goals as goal

pub returns-in-Some : goal.returns-in-Some
returns-in-Some c =
    let met = stories (found_of c.args.found.now) c.args.setting.now _ _ _ c.in-Some.ensures c.get_str-policy.ensures c.get_str-dealt.ensures in
    record {
      asked = IfOk-weaker c.story_with.result _ _ (λ _ h. met ∙ h) c.story_with.ensures.asked;
      limits = c.story_with.ensures.limits;
      refused = IfErr-weaker c.story_with.result _ _ (λ e h. subst (λ a. IsRunRefused a e) (sym met) h) c.story_with.ensures.refused;
    }

pub returns-in-None-clause-refused : goal.returns-in-None-clause-refused
returns-in-None-clause-refused c = stories (found_of c.args.found.now) c.args.setting.now _ _ _ c.in-None.ensures c.get_str-policy.ensures c.get_str-dealt.ensures
