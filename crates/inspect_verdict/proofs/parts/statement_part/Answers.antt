use Rattle.std.proofs.Common.{◌≡◌, ◌∙◌, ◌+◌, ◌-◌, ◌∷◌, List, length, take, drop, ap, sym, subst}
use Rattle.query_gather.specs.declared.answer.Answer.{Answer}
use Rattle.run_stops.specs.declared.outcome.Outcome.{Outcome}
use Rattle.run_stops.specs.declared.outcome.Outcome.TheVariants as outcome
use Rattle.inspect_verdict.specs.declared.part.Part.{Part}
use Rattle.inspect_verdict.specs.StatementParts.{parts_in}
use Rattle.inspect_verdict.proofs.Statements.{first_of}
use Rattle.inspect_verdict.proofs.parts.statement_part.Goals as goal

pub returns-in_ok-part-in-len1-up-clause-part : goal.returns-in_ok-part-in-len1-up-clause-part
returns-in_ok-part-in-len1-up-clause-part c more =
    let columns = c.args.schema.now in
    let dicts = c.args.dicts.now in
    let n = c.args.query in
    let all = c.args.answers.now in
    let a = c.answer-item.result in
    let part = c.in_ok-part-in-len1-up.part in
    let left = take (length all - 1) (drop 1 all) in
    let whole : all ≡ a ∷ left = first_of a all c.in-len1-up.len_at_least c.answer-item.is in
    let First = λ (o : Outcome). parts_in columns dicts n (o ∷ more) all ≡ part ∷ parts_in columns dicts (n + 1) more left in
    let first = ap (λ (xs : List Answer). parts_in columns dicts n (outcome.Planned c.in-Planned.plan ∷ more) xs) whole
    ∙ ap (λ (q : Part). q ∷ parts_in columns dicts (n + 1) more left) (sym c.in_ok-part-in-len1-up.ensures) in
    subst First (sym c.in-Planned.is) first
