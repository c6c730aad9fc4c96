use Rattle.std.proofs.Common.{◌≡◌, ◌∙◌, ◌+◌, ◌++◌, ◌∷◌, [], ℕ, List, drop, length, length-append, take, rules, ap, sym, subst, arith}
use Rattle.std.proofs.lemmas.List.{drop_more, length-take-le, take-append-drop, take_more}
use Rattle.inspect_verdict.specs.Ends.{PartsFrom}
use Rattle.inspect_verdict.specs.Parts.{StandsBehind}
use Rattle.inspect_verdict.specs.declared.part.Part.{Part}
use Rattle.inspect_verdict.proofs.Left.{keeps_more}
use Rattle.inspect_verdict.proofs.PartLines.{end_of_end}
use Rattle.inspect_verdict.proofs.Standing.{behind_more, not_own, stands_more}
use Rattle.inspect_verdict.proofs.splitting.take_apart.Goals as goal

pub loop-part-preserved : goal.loop-part-preserved
loop-part-preserved c =
    let parts = c.args.parts.now in
    let i = c.loop-part.part-index in
    let p = c.part-item.result in
    let next : drop i parts ≡ p ∷ drop (i + 1) parts = drop_more parts i p c.loop-part-test.true ∙ ap (λ (s : Part). s ∷ drop (i + 1) parts) (sym c.part-item.is) in
    let longer : take (i + 1) parts ≡ take i parts ++ p ∷ [] = take_more parts i p c.loop-part-test.true ∙ ap (λ (s : Part). take i parts ++ s ∷ []) (sym c.part-item.is) in
    let Front = λ (ps : List Part). StandsBehind ps c.args.text.now c.in-Some.behind.now in
    let pushed : c.push.new.self.items ≡ c.loop-part.lines.items ++ c.in-Some.line ∷ [] = search rules in
    record {
      keeps = keeps_more parts (drop i parts) (drop (i + 1) parts) p c.args.text.now c.loop-part.rest.now c.in-Some.behind.now c.in-Some.line c.loop-part.lines.items c.push.new.self.items
          next pushed c.in-Some.ensures.found c.loop-part.invariant.keeps;
      behind = behind_more parts (drop i parts) (drop (i + 1) parts) p c.args.text.now c.loop-part.rest.now c.in-Some.behind.now next c.in-Some.ensures.stands c.loop-part.invariant.behind;
      end = end_of_end c.args.text.now c.loop-part.rest.now c.in-Some.behind.now c.loop-part.invariant.end c.in-Some.ensures.end;
      front = subst Front (sym longer) (stands_more (take i parts) p c.args.text.now c.loop-part.rest.now c.in-Some.behind.now c.loop-part.invariant.front c.in-Some.ensures.stands);
      count = (let a = ap length pushed in let b = length-append c.loop-part.lines.items (c.in-Some.line ∷ []) in omega (arith, a, b, c.loop-part.invariant.count));
    }

pub returns-in_default-clause-left : goal.returns-in_default-clause-left
returns-in_default-clause-left c = end_of_end c.args.text.now c.loop-part.rest.now c.ends_apart.result.0.now c.loop-part.invariant.end c.ends_apart.ensures.end

pub returns-in_default-clause-lacks : goal.returns-in_default-clause-lacks
returns-in_default-clause-lacks c =
    let parts = c.args.parts.now in
    let i = c.loop-part.part-index in
    let p = c.part-item.result in
    let rest = c.loop-part.rest.now in
    let next : drop i parts ≡ p ∷ drop (i + 1) parts = drop_more parts i p c.loop-part-test.true ∙ ap (λ (s : Part). s ∷ drop (i + 1) parts) (sym c.part-item.is) in
    let none = c.in_default.ensures.none in
    let Parts = λ (own : List ℕ). PartsFrom rest own c.ends_apart.result.0.now c.ends_apart.result.1.now in
    record {
      before = take i parts;
      part = p;
      after = drop (i + 1) parts;
      parts_are = sym (take-append-drop i parts) ∙ ap (λ (l : List Part). take i parts ++ l) next;
      at_place = (let a = length-take-le i parts (omega (arith, c.loop-part-test.true)) in omega (arith, a, c.loop-part.invariant.count));
      front = c.loop-part.invariant.end.before;
      rest = rest;
      text_is = c.loop-part.invariant.end.joined;
      behind = c.loop-part.invariant.front;
      none = none;
      parted = subst Parts c.as_slice.ensures (c.ends_apart.ensures.parts (λ e. not_own p rest none (e ∙ c.as_slice.ensures)));
    }
