use Rattle.std.proofs.Common.{◌∙◌, ◌++◌, ap, List, ℕ}
use Rattle.inspect_calls.proofs.statements.tell_statement.Goals as goal

pub returns-in_ok-append-in-Ok : goal.returns-in_ok-append-in-Ok
returns-in_ok-append-in-Ok c =
    let noted = c.in-Ok.ensures.note in
    record {
      told = c.in_ok-told-in-Ok.told;
      is = record { plan = noted.0; note = c.in-Ok.note; planned = noted.1; is = noted.2; lines = c.in_ok-told-in-Ok.ensures };
      behind = c.in_ok-append-in-Ok.ensures.ok ∙ ap (λ (told : List ℕ). c.args.out.now ++ told) c.as_slice.ensures;
    }
