use Rattle.std.proofs.Common.{◌≡◌, Some}
use Rattle.std.proofs.lemmas.Result.{IfErr-weaker, IfOk-weaker}
use Rattle.clap.specs.Faults.{fault_of}
use Rattle.command_words.specs.Matched.{texts}
use Rattle.inspect_words.specs.Asked.{IsRefusedBy, IsRefusedFor, asked_in, asked_of, asked_view, story_in}
use Rattle.inspect_words.specs.Command.{inspect, story}
use Rattle.inspect_words.specs.declared.asked.Asked.{Asked}
use Rattle.inspect_words.specs.declared.refused.Refused.{Refused}
use Rattle.inspect_words.proofs.Asking.{plainly_ok, plainly_refused, story_ok, story_refused, story_words}
use Rattle.inspect_words.proofs.asked_words.asked_of.Goals as goal

pub returns-in-Some : goal.returns-in-Some
returns-in-Some c =
    let words = texts c.args.words.now in
    let behind = texts c.in-Some.behind.now in
    let names = c.in-Some.ensures.names in
    let is = story_words c.args.words.now c.in-Some.behind.now c.in-Some.ensures.some in
    record {
      asked = IfOk-weaker c.story_asked.result (λ (a : Asked). story_in (fault_of story behind) behind ≡ Some (asked_view a)) (λ (a : Asked). asked_of words ≡ Some (asked_view a))
          (λ a h. story_ok words behind (asked_view a) names is h) c.story_asked.ensures.asked;
      limits = c.story_asked.ensures.limits;
      refused = IfErr-weaker c.story_asked.result (λ (e : Refused). IsRefusedBy (fault_of story behind) (story_in (fault_of story behind) behind) e) (λ (e : Refused). IsRefusedFor words e)
          (λ e h. story_refused words behind e names is h) c.story_asked.ensures.refused;
    }

pub returns : goal.returns
returns c =
    let words = texts c.args.words.now in
    let names = c.in_default.ensures.none in
    record {
      asked = IfOk-weaker c.plainly_asked.result (λ (a : Asked). asked_in (fault_of inspect words) words ≡ Some (asked_view a)) (λ (a : Asked). asked_of words ≡ Some (asked_view a))
          (λ a h. plainly_ok words (asked_view a) names h) c.plainly_asked.ensures.asked;
      limits = c.plainly_asked.ensures.limits;
      refused = IfErr-weaker c.plainly_asked.result (λ (e : Refused). IsRefusedBy (fault_of inspect words) (asked_in (fault_of inspect words) words) e) (λ (e : Refused). IsRefusedFor words e)
          (λ e h. plainly_refused words e names h) c.plainly_asked.ensures.refused;
    }
