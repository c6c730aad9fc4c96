-- More settings, arguments or subcommands of a command.
use Rattle.std.proofs.Common.{◌≡◌, ◌∙◌, ◌||◌, ap, ap₂, false, true, refl, subst, ℕ, List, [], ◌∷◌, Some}
use Rattle.std.specs.Bool.{⊤}
use Rattle.std.specs.Borrow.{Bor}
use Rattle.clap.specs.Built.{AddsArg, AddsInTurn, AddsSubcommand}
use Rattle.clap.specs.Simple.{App, Shape, app_of, app_of_fields, on_top, with_rule, with_subcommand}
use Rattle.clap.specs.Walk.{Rule, rule_of}
use Rattle.clap.specs.declared.builder.arg.Arg.{Arg}
use Rattle.clap.specs.declared.builder.command.Command.{Command}
use Rattle.clap.specs.declared.builder.command.Command.TheOpen.{Command-F}
use Rattle.clap.specs.declared.builder.command.Command.TheViews.{out-Command}
use Rattle.prepare_words.specs.Command.{IsCommand, with_rules}

pub next : (old : Command) (a : Arg) (new : Command) (x : App) (r : Rule) → IsCommand x old → rule_of a ≡ r → a.global ≡ false → AddsArg old a new → IsCommand (with_rule x r) new
next old a new x r is rule local adds = record {
  app = adds.shape local ∙ ap₂ with_rule is.app rule;
  local = adds.globals ∙ ap₂ (λ b c. b || c) is.local local;
}

-- the arguments have these rules, in their order, and none is global
abbrev pub Give : List Arg → List Rule → Type 0
Give [] [] = ⊤
Give (a ∷ more) (r ∷ rules) = (rule_of a ≡ r) × (a.global ≡ false) × Give more rules
Give _ _ = ⊥

pub all : (old : Command) (args : List Arg) (new : Command) (x : App) (rules : List Rule) → Give args rules → IsCommand x old → AddsInTurn AddsArg old args new
    → IsCommand (with_rules x rules) new
all old [] new x [] give is adds = subst (IsCommand x) adds is
all old (a ∷ more) new x (r ∷ rules) give is adds = all adds.0 more new (with_rule x r) rules give.2 (next old a adds.0 x r is give.0 give.1 adds.1) adds.2
all old [] new x (r ∷ rules) give is adds = absurd give
all old (a ∷ more) new x [] give is adds = absurd give

-- a setting that clap's walk sees as g
pub set : (old new : Command) (f : Command-F Command → Command-F Command) (g : App → App) (x : App) → ((c : Command-F Command) → app_of_fields (f c) ≡ g (app_of_fields c))
    → ((c : Command-F Command) → (f c).has_globals ≡ c.has_globals) → out-Command new ≡ f (out-Command old) → IsCommand x old → IsCommand (g x) new
set old new f g x sees keeps e is = record {
  app = ap app_of_fields e ∙ sees (out-Command old) ∙ ap g is.app;
  local = ap (λ (c : Command-F Command). c.has_globals) e ∙ keeps (out-Command old) ∙ is.local;
}

pub about : (old new : Command) (x : App) (text : Bor (List ℕ)) → out-Command new ≡ record (out-Command old) { about = Some text } → IsCommand x old → IsCommand x new
about old new x text = set old new (λ (c : Command-F Command). record c { about = Some text }) (λ a. a) x (λ _. refl) (λ _. refl)

pub version : (old new : Command) (x : App) (text : Bor (List ℕ)) → out-Command new ≡ record (out-Command old) { version = Some text } → IsCommand x old
    → IsCommand (on_top (λ (s : Shape). record s { has_version = true }) x) new
version old new x text = set old new (λ (c : Command-F Command). record c { version = Some text }) (on_top (λ (s : Shape). record s { has_version = true })) x (λ _. refl) (λ _. refl)

pub join : (old sub new : Command) (x y : App) (s : Shape) → app_of old ≡ x → IsCommand y sub → y.top ≡ s → AddsSubcommand old sub new → app_of new ≡ with_subcommand x s
join old sub new x y s is below top adds = adds.shape below.local ∙ ap₂ with_subcommand is (ap (λ (a : App). a.top) below.app ∙ top)
