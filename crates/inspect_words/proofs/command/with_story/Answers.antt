use Rattle.std.proofs.lemmas.Result.{IfOk-weaker}
use Rattle.inspect_words.specs.Command.{story_places}
use Rattle.inspect_words.proofs.Growing.{all}
use Rattle.inspect_words.proofs.command.with_story.Goals as goal

pub returns : goal.returns
returns c = λ a is. IfOk-weaker c.args-2.result _ _
    (λ new. all c.args.command c.in_ok-places.places.items new a story_places (rw c.in_ok-places.ensures.items (c.place.ensures.rule, c.place.ensures.local, (c.place-2.ensures.rule, c.place-2.ensures.local, tt))) is)
    c.args-2.ensures
