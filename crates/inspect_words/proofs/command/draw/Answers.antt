use Rattle.std.proofs.Common.{codes, refl, true}
use Rattle.std.proofs.lemmas.Result.{IfOk-weaker}
use Rattle.clap.specs.Simple.{Shape, new_app, on_top}
use Rattle.inspect_words.specs.Command.{IsCommand}
use Rattle.inspect_words.proofs.Growing.{about, version}
use Rattle.inspect_words.proofs.command.draw.Goals as goal

pub returns : goal.returns
returns c =
    let begun : IsCommand (on_top (λ (s : Shape). record s { has_version = true }) (new_app (codes "draw"))) c.about-start.result =
    about _ _ _ _ c.about-start.ensures (version _ _ _ _ c.version.ensures (record { app = c.new.ensures.app; local = c.new.ensures.local })) in
    IfOk-weaker c.with_output.result _ _ (λ _ is. (_, is, refl)) (c.with_output.ensures _ (c.in_ok-form.ensures _ (c.in_ok-window.ensures _ begun)))
