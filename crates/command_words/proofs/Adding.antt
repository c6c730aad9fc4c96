-- An argument of a command, by the rule of an option, a flag or a place.
use Rattle.std.proofs.Common.{◌≡◌, ◌∙◌, ap₂, false}
use Rattle.clap.specs.Words.{AddsArg, App, Rule, app_of, rule_of, with_rule}
use Rattle.clap.specs.declared.builder.command.Command.{Command}
use Rattle.clap.specs.declared.builder.arg.Arg.{Arg}

pub next : (old : Command) (a : Arg) (new : Command) (x : App) (r : Rule) → app_of old ≡ x → rule_of a ≡ r → a.global ≡ false → AddsArg old a new → app_of new ≡ with_rule x r
next old a new x r is rule local adds = adds.shape local ∙ ap₂ with_rule is rule
