use Rattle.std.proofs.Common.{Some}
use Rattle.csv_load.proofs.Keeping.{kept-place, fields-place}
use Rattle.csv_load.proofs.kept_texts.KeptTexts.put_among_many.Goals as goal

pub invariant_of-self-in-Some : goal.invariant_of-self-in-Some
invariant_of-self-in-Some c =
    rw c.in_ok-push.ensures.ok (kept-place c.self.inside.texts c.self.inside.places c.self.inside.seen.entries (Some c.in-Some.last) c.self.invariant c.in-Some.ensures.0)

pub returns-in-Some : goal.returns-in-Some
returns-in-Some c =
    fields-place c.self.inside.texts c.self.inside.places c.push.new.self (Some c.in-Some.last) c.args.self.now c.args.field.now c.self.view_is c.in_ok-push.ensures.ok c.in-Some.ensures.1
