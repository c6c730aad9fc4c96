use Rattle.std.proofs.Common.{codes, refl}
use Rattle.std.proofs.lemmas.Result.{IfOk-weaker}
use Rattle.clap.specs.Simple.{new_app}
use Rattle.prepare_words.specs.Command.{IsCommand}
use Rattle.prepare_words.proofs.Growing.{about, next}
use Rattle.prepare_words.proofs.command.write.Goals as goal

pub returns : goal.returns
returns c =
    let begun : IsCommand (new_app (codes "write")) c.about-start.result = about _ _ _ _ c.about-start.ensures (record { app = c.new.ensures.app; local = c.new.ensures.local }) in
    let rules = c.in_ok-dates.ensures _ (c.in_ok-numbers.ensures _ (c.in_ok-table.ensures _ (c.in_ok-records.ensures _ begun))) in
    IfOk-weaker c.arg.result _ _ (λ new adds. (_, next _ _ new _ _ rules c.place.ensures.rule c.place.ensures.local adds, refl)) c.arg.ensures
