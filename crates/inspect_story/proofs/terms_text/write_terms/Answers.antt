use Rattle.std.proofs.lemmas.Result.{IfOk-weaker}
use Rattle.inspect_story.proofs.Told.{spelled}
use Rattle.inspect_story.proofs.terms_text.write_terms.Goals as goal

pub returns-in-Ok-clause-read : goal.returns-in-Ok-clause-read
returns-in-Ok-clause-read c = IfOk-weaker c.write_setting.result _ _
    (λ text is. spelled c.args.terms.now c.in-Ok.plain text c.requires.may c.requires.room c.in-Ok.ensures.head c.in-Ok.ensures.needs c.in-Ok.ensures.short is) c.write_setting.ensures
