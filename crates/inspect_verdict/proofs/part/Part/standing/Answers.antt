use Rattle.std.proofs.Common.{◌≡◌, ◌∙◌, ◌++◌, refl, sym, ap}
use Rattle.std.specs.Prelude.{Some, None}
use Rattle.inspect_verdict.proofs.PartTexts.{cancelled}
use Rattle.inspect_verdict.proofs.part.Part.standing.Goals as goal

pub returns-in-Some-clause-end : goal.returns-in-Some-clause-end
returns-in-Some-clause-end c = record { before = c.as_slice.result.now; joined = c.in-Some.ensures }

pub returns-in-Some-clause-found : goal.returns-in-Some-clause-found
returns-in-Some-clause-found c None rest may is =
    let text : c.args.text.now ≡ c.args.self.now.text ++ c.in-Some.rest.now = c.in-Some.ensures ∙ ap (λ l. l ++ c.in-Some.rest.now) c.as_slice.ensures in
    (refl, cancelled c.args.self.now.text c.in-Some.rest.now rest (sym text ∙ is))
returns-in-Some-clause-found c (Some words) rest may is =
    let text : c.args.text.now ≡ c.args.self.now.text ++ c.in-Some.rest.now = c.in-Some.ensures ∙ ap (λ l. l ++ c.in-Some.rest.now) c.as_slice.ensures in
    absurd (may.apart c.in-Some.rest.now rest (sym text ∙ is))
