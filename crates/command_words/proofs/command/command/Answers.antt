use Rattle.std.proofs.Common.{◌≡◌, ◌∙◌, ap, codes, true}
use Rattle.std.proofs.lemmas.Result.{IfOk-weaker}
use Rattle.clap.specs.Simple.{App, app_of, app_of_fields}
use Rattle.clap.specs.declared.builder.command.Command.{Command}
use Rattle.clap.specs.declared.builder.command.Command.TheOpen.{Command-F}
use Rattle.command_words.specs.Command.{start, with_options}
use Rattle.command_words.specs.Knows.{known_to}
use Rattle.command_words.proofs.Adding.{next}
use Rattle.command_words.proofs.command.command.Goals as goal

pub returns : goal.returns
returns c =
    let begun : app_of c.disable_help_flag-start.result ≡ start (codes "coop_cli") =
    ap app_of_fields c.disable_help_flag-start.ensures
    ∙ ap (λ (f : Command-F Command). app_of_fields (record f { disable_help_flag = true })) c.no_binary_name.ensures
    ∙ ap (λ (a : App). record a { top = record a.top { no_binary_name = true; disable_help_flag = true } }) c.new.ensures.app in
    let known = c.in_ok-known.ensures ∙ ap (λ (a : App). with_options a (known_to c.args.call)) begun in
    let table = next _ _ _ _ _ known c.place.ensures.rule c.place.ensures.local c.in_ok-arg.ensures in
    IfOk-weaker c.arg-2.result _ _ (λ new. next _ _ _ _ _ table c.place-2.ensures.rule c.place-2.ensures.local) c.arg-2.ensures
