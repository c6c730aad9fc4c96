use Rattle.std.proofs.Common.{◌∙◌, ◌++◌, ◌∷◌, [], List, ℕ, arith, ap, None}
use Rattle.csv_load.proofs.Keeping.{kept-new, kept-place}
use Rattle.csv_load.proofs.kept_texts.KeptTexts.put_new.Goals as goal

pub invariant_of-self-in_err-push-2 : goal.invariant_of-self-in_err-push-2
invariant_of-self-in_err-push-2 c =
    rw (c.in_err-push-2.ensures.err, c.in_ok-push.ensures.ok) (kept-place c.self.inside.texts c.self.inside.places c.self.inside.seen.entries None c.self.invariant tt)

pub invariant_of-self-in_err-remember : goal.invariant_of-self-in_err-remember
invariant_of-self-in_err-remember c =
    (kept-new c.self.inside.texts c.self.inside.places c.self.inside.seen.entries c.remember.new.seen.entries c.args.field.now c.len-count.result c.len-row.result
    c.push-2.new.self c.push.new.self c.set.new.self c.self.invariant c.requires c.len-count.ensures (omega (arith, c.if-count.false)) c.len-row.ensures
    c.in_ok-push-2.ensures.ok c.in_ok-push.ensures.ok c.set.ensures c.remember.ensures).0

pub invariant_of-self-2 : goal.invariant_of-self-2
invariant_of-self-2 c =
    (kept-new c.self.inside.texts c.self.inside.places c.self.inside.seen.entries c.remember.new.seen.entries c.args.field.now c.len-count.result c.len-row.result
    c.push-2.new.self c.push.new.self c.set.new.self c.self.invariant c.requires c.len-count.ensures (omega (arith, c.if-count.false)) c.len-row.ensures
    c.in_ok-push-2.ensures.ok c.in_ok-push.ensures.ok c.set.ensures c.remember.ensures).0

pub returns : goal.returns
returns c =
    (kept-new c.self.inside.texts c.self.inside.places c.self.inside.seen.entries c.remember.new.seen.entries c.args.field.now c.len-count.result c.len-row.result
    c.push-2.new.self c.push.new.self c.set.new.self c.self.invariant c.requires c.len-count.ensures (omega (arith, c.if-count.false)) c.len-row.ensures
    c.in_ok-push-2.ensures.ok c.in_ok-push.ensures.ok c.set.ensures c.remember.ensures).1
    ∙ ap (λ (l : List (List ℕ)). l ++ c.args.field.now ∷ []) c.self.view_is
