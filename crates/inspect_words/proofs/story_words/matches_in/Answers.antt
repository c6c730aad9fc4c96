use Rattle.std.proofs.Common.{◌∙◌}
use Rattle.clap.specs.Simple.{app_of}
use Rattle.command_words.specs.Matched.{texts}
use Rattle.inspect_words.proofs.Outcomes.{story_said, story_taken}
use Rattle.inspect_words.proofs.story_words.matches_in.Goals as goal

pub returns-in-Ok-clause-taken : goal.returns-in-Ok-clause-taken
returns-in-Ok-clause-taken c = story_taken (app_of c.in_ok-command.command) (texts c.args.words.now) c.in-Ok.matches c.in_ok-command.ensures c.in-Ok.ensures.kinds c.in-Ok.ensures.matches

pub returns-clause-refused : goal.returns-clause-refused
returns-clause-refused c = story_said (app_of c.in_ok-command.command) (texts c.args.words.now) c.in-Err.error c.in_ok-command.ensures c.in-Err.ensures.kinds
    (λ e. c.in_default.not-OutOfMemory (c.kind.ensures ∙ e))
