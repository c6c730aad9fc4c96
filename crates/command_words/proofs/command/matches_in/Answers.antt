use Rattle.std.proofs.Common.{◌≡◌, ◌∙◌, sym, false}
use Rattle.std.specs.List.{list_any}
use Rattle.clap.specs.Simple.{app_of}
use Rattle.command_words.specs.Pairs.{is_bare}
use Rattle.command_words.specs.Matched.{texts}
use Rattle.command_words.specs.Knows.{known_to}
use Rattle.command_words.proofs.Outcomes.{bare_none, read_ok, read_usage}
use Rattle.command_words.proofs.command.matches_in.Goals as goal

pub returns-then-has_bare-clause-usage : goal.returns-then-has_bare-clause-usage
returns-then-has_bare-clause-usage c = λ _. bare_none (known_to c.args.call) c.args.words.now (sym c.if-has_bare.true ∙ c.has_bare.ensures)

pub returns-in-Ok-clause-ok : goal.returns-in-Ok-clause-ok
returns-in-Ok-clause-ok c =
    let not_bare : list_any is_bare (texts c.args.words.now) ≡ false = sym c.has_bare.ensures ∙ c.if-has_bare.false in
    read_ok c.args.call c.args.words.now not_bare (app_of c.in_ok-command.command) c.in-Ok.matches c.in_ok-command.ensures c.in-Ok.ensures.kinds c.in-Ok.ensures.matches

pub returns : goal.returns
returns c =
    let not_bare : list_any is_bare (texts c.args.words.now) ≡ false = sym c.has_bare.ensures ∙ c.if-has_bare.false in
    record {
      ok = tt;
      usage = λ _. read_usage c.args.call c.args.words.now not_bare (app_of c.in_ok-command.command) c.in-Err.error c.in_ok-command.ensures c.in-Err.ensures.kinds
          (λ e. c.in_default.not-OutOfMemory (c.kind.ensures ∙ e));
    }
