use Rattle.std.proofs.Common.{◌≡◌, ◌∙◌, ◌++◌, List, ℕ, length, drop, sym, ap, subst, arith}
use Rattle.std.proofs.lemmas.List.{length-take-le, take-append-drop}
use Rattle.inspect_verdict.specs.Verdict.{IsVerdict}
use Rattle.inspect_verdict.specs.declared.verdict.Verdict.{Verdict}
use Rattle.inspect_verdict.specs.declared.verdict.Verdict.TheVariants as verdict
use Rattle.inspect_verdict.proofs.Fronts.{earlier_is}
use Rattle.inspect_verdict.proofs.verdict.verdict_of.Goals as goal

pub verdict_on-requires-2-clause-short : goal.verdict_on-requires-2-clause-short
verdict_on-requires-2-clause-short c =
    omega (arith, c.requires.short, c.start_of_line.ensures, ap length c.front_of.ensures, length-take-le c.start_of_line.result c.args.output.now c.start_of_line.ensures)

pub returns : goal.returns
returns c =
    let i = c.args.inputs.now in
    let out = c.args.output.now in
    let n = c.start_of_line.result in
    let Is = λ (v : Verdict). IsVerdict i c.args.policy c.args.scratch out v in
    let told = subst Is c.in-NotStory.is c.in_ok-verdict.ensures.verdict in
    let split : out ≡ c.front_of.result.now ++ drop n out = sym (take-append-drop n out) ∙ ap (λ (l : List ℕ). l ++ drop n out) (sym c.front_of.ensures) in
    record {
      verdict = subst Is (sym c.earlier_of.ensures)
          (earlier_is i c.args.policy c.args.scratch c.front_of.result.now (drop n out) out (verdict.NotStory c.in-NotStory.line) c.in_ok-front.front split told told.none c.in_ok-front.ensures.verdict);
    }
