use Rattle.std.proofs.Common.{◌∙◌, [], ◌∷◌, ap, codes, refl, subst, sym, true}
use Rattle.std.proofs.lemmas.Result.{IfOk-weaker}
use Rattle.clap.specs.Built.{AddsInTurn, AddsSubcommand}
use Rattle.clap.specs.Simple.{Shape, app_of, new_app, on_top}
use Rattle.clap.specs.declared.builder.command.Command.{Command}
use Rattle.clap.specs.declared.builder.command.Command.TheOpen.{Command-F}
use Rattle.clap.specs.declared.builder.command.Command.TheViews.{out-Command}
use Rattle.inspect_words.specs.Command.{IsCommand}
use Rattle.inspect_words.proofs.Growing.{about, join, set, version}
use Rattle.inspect_words.proofs.command.command.Goals as goal

pub returns : goal.returns
returns c =
    let new : IsCommand (new_app (codes "coop_inspect")) c.new.result = record { app = c.new.ensures.app; local = c.new.ensures.local } in
    let called = set _ _ (λ (f : Command-F Command). record f { bin_name = (out-Command c.in_ok-named.named).bin_name }) (λ a. a) _ (λ _. refl) (λ _. refl) c.in_ok-named.ensures.0 new in
    let no_name = set _ _ (λ (f : Command-F Command). record f { no_binary_name = true }) (on_top (λ (s : Shape). record s { no_binary_name = true })) _ (λ _. refl) (λ _. refl)
    c.no_binary_name.ensures called in
    let no_help = set _ _ (λ (f : Command-F Command). record f { disable_help_subcommand = true }) (on_top (λ (s : Shape). record s { disable_help_subcommand = true })) _ (λ _. refl) (λ _. refl)
    c.disable_help_subcommand.ensures no_name in
    let else_help = set _ _ (λ (f : Command-F Command). record f { arg_required_else_help = true }) (on_top (λ (s : Shape). record s { arg_required_else_help = true })) _ (λ _. refl) (λ _. refl)
    c.arg_required_else_help.ensures no_help in
    let required = set _ _ (λ (f : Command-F Command). record f { subcommand_required = true }) (on_top (λ (s : Shape). record s { subcommand_required = true })) _ (λ _. refl) (λ _. refl)
    c.subcommand_required.ensures else_help in
    let versioned = version _ _ _ _ c.version.ensures required in
    let told = about _ _ _ _ c.about.ensures versioned in
    IfOk-weaker c.subcommands.result _ _ (λ new adds.
    let four : AddsInTurn AddsSubcommand c.about.result (c.in_ok-first.first ∷ c.in_ok-second.second ∷ c.in_ok-third.third ∷ c.in_ok-last.last ∷ []) new =
    subst (λ subs. AddsInTurn AddsSubcommand c.about.result subs new) c.in_ok-subcommands.ensures.items adds in
    let two = join _ _ _ _ _ _ (join _ _ _ _ _ _ told.app c.in_ok-first.ensures.1 c.in_ok-first.ensures.2 four.1) c.in_ok-second.ensures.1 c.in_ok-second.ensures.2 four.2.1 in
    ap app_of (sym four.2.2.2.2) ∙ join _ _ _ _ _ _ (join _ _ _ _ _ _ two c.in_ok-third.ensures.1 c.in_ok-third.ensures.2 four.2.2.1) c.in_ok-last.ensures.1 c.in_ok-last.ensures.2 four.2.2.2.1)
    c.subcommands.ensures
