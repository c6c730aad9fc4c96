use Rattle.std.proofs.Common.{◌≡◌, Bool, true, false, sym, ap, subst}
use Rattle.std.specs.Prelude.{IfOk, is_some, option_map}
use Rattle.command_words.specs.Views.{request_view}
use Rattle.inspect_verdict.specs.Verdict.{IsVerdict}
use Rattle.inspect_calls.proofs.judging.verdict_for.Goals as goal

pub returns-in-Some : goal.returns-in-Some
returns-in-Some c =
    let run = c.args.run.now in
    let there : is_some (request_view run).scratch ≡ true = ap (λ o. is_some (option_map (λ s. s.now) o)) c.in-Some.is in
    let For = λ (b : Bool). IfOk c.verdict_of.result (IsVerdict c.args.inputs.now run.policy b c.args.text.now) in
    subst For (sym there) c.verdict_of.ensures.verdict

pub returns-in-None : goal.returns-in-None
returns-in-None c =
    let run = c.args.run.now in
    let there : is_some (request_view run).scratch ≡ false = ap (λ o. is_some (option_map (λ s. s.now) o)) c.in-None.is in
    let For = λ (b : Bool). IfOk c.verdict_of-in-None.result (IsVerdict c.args.inputs.now run.policy b c.args.text.now) in
    subst For (sym there) c.verdict_of-in-None.ensures.verdict
