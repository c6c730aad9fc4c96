use Rattle.std.proofs.Common.{None, Some, sym}
use Rattle.csv_load.proofs.Keeping.{kept-place, fields-place}
use Rattle.csv_load.proofs.Keys.{no_text}
use Rattle.csv_load.proofs.kept_texts.KeptTexts.put.Goals as goal

pub invariant_of-self-then-field-eq0 : goal.invariant_of-self-then-field-eq0
invariant_of-self-then-field-eq0 c =
    rw c.in_ok-push.ensures.ok (kept-place c.self.inside.texts c.self.inside.places c.self.inside.seen.entries None c.self.invariant tt)

pub invariant_of-self-in-Some : goal.invariant_of-self-in-Some
invariant_of-self-in-Some c =
    rw c.in_ok-push-2.ensures.ok (kept-place c.self.inside.texts c.self.inside.places c.self.inside.seen.entries (Some c.in-Some.known) c.self.invariant c.in-Some.ensures.0)

pub invariant_of-self-in-Some-place_seen : goal.invariant_of-self-in-Some-place_seen
invariant_of-self-in-Some-place_seen c =
    rw c.in_ok-push-3.ensures.ok
    (kept-place c.self.inside.texts c.self.inside.places c.self.inside.seen.entries (Some c.in-Some-place_seen.known) c.self.invariant
    (c.in-Some-place_seen.ensures c.self.inside.texts c.self.invariant.sound).0)

pub returns-then-field-eq0 : goal.returns-then-field-eq0
returns-then-field-eq0 c =
    fields-place c.self.inside.texts c.self.inside.places c.push.new.self None c.args.self.now c.args.field.now c.self.view_is c.in_ok-push.ensures.ok (sym (no_text c.args.field.now c.if-field-eq0.true))

pub returns-in-Some : goal.returns-in-Some
returns-in-Some c =
    fields-place c.self.inside.texts c.self.inside.places c.push-in-Some.new.self (Some c.in-Some.known) c.args.self.now c.args.field.now c.self.view_is c.in_ok-push-2.ensures.ok c.in-Some.ensures.1

pub returns-in-Some-place_seen : goal.returns-in-Some-place_seen
returns-in-Some-place_seen c =
    fields-place c.self.inside.texts c.self.inside.places c.push-in-Some-place_seen.new.self (Some c.in-Some-place_seen.known) c.args.self.now c.args.field.now c.self.view_is c.in_ok-push-3.ensures.ok
    (c.in-Some-place_seen.ensures c.self.inside.texts c.self.invariant.sound).1
