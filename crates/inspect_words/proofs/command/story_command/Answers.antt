use Rattle.std.proofs.Common.{codes, refl, true}
use Rattle.std.proofs.lemmas.Result.{IfOk-weaker}
use Rattle.clap.specs.Simple.{Shape, new_app, on_top}
use Rattle.clap.specs.declared.builder.command.Command.{Command}
use Rattle.clap.specs.declared.builder.command.Command.TheOpen.{Command-F}
use Rattle.clap.specs.declared.builder.command.Command.TheViews.{out-Command}
use Rattle.inspect_words.specs.Command.{IsCommand}
use Rattle.inspect_words.proofs.Growing.{about, set, version}
use Rattle.inspect_words.proofs.command.story_command.Goals as goal

pub returns : goal.returns
returns c =
    let new : IsCommand (new_app (codes "coop_inspect-judge")) c.new.result = record { app = c.new.ensures.app; local = c.new.ensures.local } in
    let called = set _ _ (λ (f : Command-F Command). record f { bin_name = (out-Command c.in_ok-named.named).bin_name }) (λ a. a) _ (λ _. refl) (λ _. refl) c.in_ok-named.ensures.0 new in
    let no_name = set _ _ (λ (f : Command-F Command). record f { no_binary_name = true }) (on_top (λ (s : Shape). record s { no_binary_name = true })) _ (λ _. refl) (λ _. refl)
    c.no_binary_name.ensures called in
    let begun = about _ _ _ _ c.about-start.ensures (version _ _ _ _ c.version.ensures no_name) in
    IfOk-weaker c.with_story.result _ _ (λ _ is. is.app) (c.with_story.ensures _ (c.in_ok-freedom.ensures _ begun))
