use Rattle.std.proofs.Common.{◌≡◌, ◌+◌, ◌-◌, ◌∙◌, ◌∷◌, [], ◌++◌, List, length, take, drop, rules, append_assoc, sym, ap, subst, arith}
use Rattle.std.proofs.lemmas.List.{append-nil}
use Rattle.std.specs.List.{AllByRecursion, AllZip}
use Rattle.query_gather.specs.Answer.{CanBeWritten}
use Rattle.run_output.specs.Answers.{NamesColumns}
use Rattle.run_stops.specs.Outcomes.{plans_of}
use Rattle.run_stops.specs.declared.outcome.Outcome.{Outcome}
use Rattle.inspect_verdict.specs.declared.part.Part.{Part}
use Rattle.inspect_verdict.specs.StatementParts.{ArePartsFrom, parts_in}
use Rattle.inspect_verdict.proofs.Statements.{first_of, no_parts, none_left, parts_print, plans_tail}
use Rattle.inspect_verdict.proofs.parts.parts_of.Goals as goal

pub loop-statements-preserved : goal.loop-statements-preserved
loop-statements-preserved c =
    let l = c.loop-statements in
    let columns = c.args.schema.now in
    let dicts = c.args.dicts.now in
    let os = l.statements.now in
    let o = c.outcome-item.result in
    let more = take (length os - 1) (drop 1 os) in
    let part = c.in_ok-part.part in
    let told = c.in_ok-part.ensures in
    let inv = l.invariant in
    let whole : os ≡ o ∷ more = first_of o os c.in-len1-up.len_at_least c.outcome-item.is in
    let count : length os ≡ length (o ∷ more) = ap length whole in
    let grown : c.push.new.self.items ≡ l.parts.items ++ part ∷ [] = search rules in
    let Plans = λ (xs : List Outcome). AllByRecursion (NamesColumns (length columns)) (plans_of xs) in
    let Answers = λ (xs : List Outcome). AllZip (CanBeWritten dicts) (plans_of xs) l.left.now in
    record {
      number = omega (arith, inv.number, count);
      plans = plans_tail (NamesColumns (length columns)) o more (subst Plans whole inv.plans);
      answers = told.left more (subst Answers whole inv.answers);
      parts =
          ap (λ (xs : List Part). xs ++ parts_in columns dicts (l.query + 1 + 1) more c.in_ok-part.behind.now) grown
          ∙ (append_assoc l.parts.items (part ∷ []) (parts_in columns dicts (l.query + 1 + 1) more c.in_ok-part.behind.now)
          ∙ (ap (λ (xs : List Part). l.parts.items ++ xs) (sym (ap (λ (xs : List Outcome). parts_in columns dicts (l.query + 1) xs l.left.now) whole ∙ told.part more)) ∙ inv.parts));
    }

pub returns-clause-parts : goal.returns-clause-parts
returns-clause-parts c =
    let l = c.loop-statements in
    sym (append-nil l.parts.items)
    ∙ (ap (λ (xs : List Part). l.parts.items ++ xs) (sym (no_parts c.args.schema.now c.args.dicts.now (l.query + 1) l.statements.now l.left.now (none_left l.statements.now c.in_default.len_below))) ∙ l.invariant.parts)

pub returns-clause-print : goal.returns-clause-print
returns-clause-print c =
    let columns = c.args.schema.now in
    let dicts = c.args.dicts.now in
    let Are = λ (ps : List Part). ArePartsFrom columns dicts 1 c.args.outcomes.now c.args.answers.now ps in
    subst Are (sym (returns-clause-parts c)) (parts_print columns dicts 1 c.args.outcomes.now c.args.answers.now)
