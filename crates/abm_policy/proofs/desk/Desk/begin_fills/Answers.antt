use Rattle.std.proofs.Common.{◌++◌, ◌∷◌, [], ◌∙◌, ap, sym, subst, List, Some, length, arith, ℕ}
use Rattle.std.specs.Option.{option_map}
use Rattle.std.proofs.lemmas.List.{length-append}
use Rattle.scan_story.specs.Views.{past}
use Rattle.scan_story.specs.Loads.{underway, begin_fill, free_frames}
use Rattle.abm_policy.specs.Loads.{MayBegin, AreLeastFills, fills, pieces, load_at}
use Rattle.abm_policy.proofs.Beginning.{may_begin, fills_more, pieces_more, load_more, least_more}
use Rattle.abm_policy.proofs.desk.Desk.begin_fills.Goals as goal

pub begin_fill-frame-requires-clause-may : goal.begin_fill-frame-requires-clause-may
begin_fill-frame-requires-clause-may g c κs within =
    let s = g.S.Origin.origin.setting in
    let i = c.loop-i.i in
    let is = c.loop-i.invariant in
    let u = underway s (past c.loop-i.self) in
    let free = free_frames s (past c.loop-i.self) in
    let P : ℕ → Type 0 = λ p. MayBegin u free c.args.w p in
    subst P (sym c.at-piece.ensures)
    (may_begin u free c.args.w c.args.query c.args.chunk i c.args.missing.now c.loop-i.slots is.load c.requires.none_twice (omega (arith, c.len-i-end.ensures.len)) is.same is.count is.free)

pub loop-i-preserved : goal.loop-i-preserved
loop-i-preserved g c =
    let s = g.S.Origin.origin.setting in
    let is = c.loop-i.invariant in
    let bs = c.loop-i.slots in
    let f = c.begin_fill-frame.result in
    let p = c.at-piece.result in
    let old = c.args.self.now in
    let w = c.args.w in
    let missing = c.args.missing.now in
    let A : List (ℕ × ℕ) → Type 0 = λ x. AreLeastFills s (past old) w x in
    record {
      entries = fills_more w f p old c.loop-i.self c.begin_fill-frame.new.self bs is.entries c.begin_fill-frame.ensures.entries ∙ ap (λ (x : List (ℕ × ℕ)). old ++ fills w x) (sym c.push.ensures);
      same = ap pieces c.push.ensures ∙ pieces_more c.loop-i.i f p missing bs (omega (arith, c.len-i-end.ensures.len)) is.same c.at-piece.ensures;
      count = omega (arith, ap length c.push.ensures, length-append bs ((f, p) ∷ []), is.count);
      load = c.begin_fill-frame.ensures.load ∙ ap (option_map (begin_fill f p)) is.load ∙ sym (load_more w c.args.query c.args.chunk f p missing bs)
          ∙ ap (λ (x : List (ℕ × ℕ)). Some (load_at w c.args.query c.args.chunk missing x [])) (sym c.push.ensures);
      free = omega (arith, is.free, c.begin_fill-frame.ensures.free);
      least = subst A (sym c.push.ensures) (least_more s old c.loop-i.self w f p bs is.least is.entries c.begin_fill-frame.ensures.frame);
    }
