use Rattle.std.proofs.Common.{[], List, sym, subst}
use Rattle.std.proofs.lemmas.List.{append-nil}
use Rattle.query_gather.specs.declared.answer.Answer.{Answer}
use Rattle.run_stops.specs.Outcomes.{plans_of}
use Rattle.run_stops.specs.declared.outcome.Outcome.{Outcome}
use Rattle.inspect_verdict.proofs.Statements.{none_left}
use Rattle.inspect_verdict.specs.Plain.{ArePlain}
use Rattle.inspect_verdict.proofs.answers.answers_of.Goals as goal

pub returns : goal.returns
returns c =
    let l = c.loop-statements in
    let rows = c.args.table.now.rows in
    let None = λ (os : List Outcome). ArePlain rows (plans_of os) [] in
    let All = λ (xs : List Answer). ArePlain rows (plans_of c.args.outcomes.now) xs in
    record { plain = subst All (append-nil l.answers.items) (l.invariant.plain [] (subst None (sym (none_left l.statements.now c.in_default.len_below)) tt)) }
