use Rattle.std.proofs.Common.{◌≡◌, ◌∙◌, ◌++◌, ◌∷◌, [], ◌==◌, false, List, map, ap, sym, subst, arith}
use Rattle.std.specs.List.{list_any, AllByRecursion}
use Rattle.scan_story.specs.declared.setting.Need as asked
use Rattle.scan_story.specs.Setting.{IsNeed, AreDistinct}
use Rattle.chunk_interest.specs.declared.need.Need.{Need}
use Rattle.chunk_interest.specs.Fresh.{as_need}
use Rattle.help_book.proofs.Listed.{map_push, all_push, distinct_push, none_names, append_apart, unnot}
use Rattle.help_book.proofs.settings.add_needs.Goals as goal

pub loop-n-preserved : goal.loop-n-preserved
loop-n-preserved c =
    let s = c.args.s.now in
    let ns = c.loop-n.needs.items in
    let m = c.in-Some-book_need.need in
    let n = c.in-Some.n.now in
    let same : as_need m ≡ n = c.in-Some-book_need.ensures.same in
    let mapped : map as_need c.push.new.self.items ≡ map as_need ns ++ n ∷ [] =
    ap (map as_need) c.in_ok-push.ensures.items ∙ (map_push ns m ∙ ap (λ (x : asked.Need). map as_need ns ++ x ∷ []) same) in
    let split : c.loop-n.n-iterator ≡ n ∷ c.next.new.self = c.in-Some.ensures.steps in
    let free : list_any (λ (x : Need). x.query == n.query) ns ≡ false =
    ap (list_any (λ (x : Need). x.query == n.query)) (sym c.deref.ensures.value) ∙ unnot (list_any (λ (x : Need). x.query == n.query) c.deref.result.now) (sym c.is_new.ensures ∙ grind (arith, c.if-not-is_new.ensures, c.if-not-is_new.false)) in
    record {
      same = ap (λ (xs : List asked.Need). xs ++ c.next.new.self) mapped ∙ (append_apart (map as_need ns) n c.next.new.self ∙ (ap (λ (xs : List asked.Need). map as_need ns ++ xs) (sym split) ∙ c.loop-n.invariant.same));
      needs = subst (AllByRecursion (IsNeed s)) (sym mapped) (all_push (IsNeed s) (map as_need ns) n c.loop-n.invariant.needs c.in-Some-book_need.ensures.fits);
      distinct = subst AreDistinct (sym mapped) (distinct_push (map as_need ns) n c.loop-n.invariant.distinct (none_names n.query ns free));
    }
