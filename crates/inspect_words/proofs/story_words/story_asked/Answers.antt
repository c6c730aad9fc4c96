use Rattle.std.proofs.Common.{◌≡◌, Some}
use Rattle.std.proofs.lemmas.Result.{IfErr-weaker, IfOk-weaker}
use Rattle.clap.specs.Faults.{fault_of}
use Rattle.clap.specs.Matches.{found_of}
use Rattle.clap.specs.Walk.{rows_of}
use Rattle.command_words.specs.Matched.{texts}
use Rattle.inspect_words.specs.Asked.{IsRefusedBy, IsRunRefused, asked_view, story_in, story_of}
use Rattle.inspect_words.specs.Command.{story}
use Rattle.inspect_words.specs.declared.asked.Asked.{Asked}
use Rattle.inspect_words.specs.declared.refused.Refused.{Refused}
use Rattle.inspect_words.proofs.Asking.{refused_by, story_met, story_told}
use Rattle.inspect_words.proofs.story_words.story_asked.Goals as goal

pub returns : goal.returns
returns c =
    let words = texts c.args.words.now in
    let rows = rows_of (found_of c.in_ok-matches.matches) in
    let taken = c.in_ok-matches.ensures.taken in
    record {
      asked = IfOk-weaker c.story_of.result (λ (a : Asked). story_of rows ≡ Some (asked_view a)) (λ (a : Asked). story_in (fault_of story words) words ≡ Some (asked_view a))
          (λ a h. story_told words rows (asked_view a) taken.0 taken.1 h) c.story_of.ensures.asked;
      limits = c.story_of.ensures.limits;
      refused = IfErr-weaker c.story_of.result (λ (e : Refused). IsRunRefused (story_of rows) e) (λ (e : Refused). IsRefusedBy (fault_of story words) (story_in (fault_of story words) words) e)
          (λ e h. refused_by (fault_of story words) (story_in (fault_of story words) words) (story_of rows) e taken.0 (story_met words rows taken.0 taken.1) h) c.story_of.ensures.refused;
    }
