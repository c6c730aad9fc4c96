use Rattle.std.proofs.Common.{◌≡◌, ◌∙◌, ap, rules, subst, sym}
use Rattle.std.specs.Prelude.{All, Some, unwrap_or}
use Rattle.std.proofs.lemmas.List.Elements.{All-push}
use Rattle.scan_streams.specs.declared.kind.Kind.{Kind}
use Rattle.scan_streams.specs.declared.range_query.RangeQuery.{RangeQuery}
use Rattle.scan_streams.proofs.range_query.drawn.Goals as goal

pub loop-preserved : goal.loop-preserved
loop-preserved c =
    let before = c.loop.invariant in
    let made = c.placed.result in
    let given = c.args.experiment.now.kind in
    record {
      count = search rules;
      kind = λ (kind : Kind) (same : given ≡ Some kind).
          let IsOf = λ (query : RangeQuery). query.kind ≡ kind in
          let is : made.kind ≡ kind = c.placed.ensures.kind ∙ c.unwrap_or-kind.ensures ∙ ap (λ k. unwrap_or k c.numbered-drawn.result) same in
          subst (All IsOf) (sym c.in_ok-push.ensures.items) (All-push IsOf c.loop.queries.items made (before.kind kind same) is);
    }
