use Rattle.std.proofs.Common.{◌++◌, ◌∷◌, [], ap, ◌∙◌, sym, subst, ℕ, List, length, arith}
use Rattle.std.proofs.lemmas.List.{length-append}
use Rattle.scan_story.specs.declared.entry.Entry.{Entry}
use Rattle.scan_story.specs.Views.{past}
use Rattle.abm_policy.specs.Loads.{pieces}
use Rattle.abm_policy.specs.Turns.{StandIn}
use Rattle.abm_policy.proofs.Beginning.{pieces_more}
use Rattle.abm_policy.proofs.Taking.{stand_more}
use Rattle.abm_policy.proofs.desk.Desk.slots_of.Goals as goal

pub loop-i-preserved : goal.loop-i-preserved
loop-i-preserved g c =
    let s = g.S.Origin.origin.setting in
    let is = c.loop-i.invariant in
    let bs = c.loop-i.slots in
    let f = c.in-Some.frame in
    let p = c.at-piece.result in
    let h = past c.self.inside.story.entries in
    let A : List (ℕ × ℕ) → Type 0 = λ x. StandIn s (past c.args.self.now) x in
    let F : List Entry → Type 0 = λ es. StandIn s (past es) (bs ++ (f, p) ∷ []) in
    let B : List Entry → Type 0 = λ es. StandIn s (past es) bs in
    record {
      same = ap pieces c.push.ensures ∙ pieces_more c.loop-i.i f p c.pieces_read-read.result bs (omega (arith, c.len-i-end.ensures.len)) is.same c.at-piece.ensures;
      count = omega (arith, ap length c.push.ensures, length-append bs ((f, p) ∷ []), is.count);
      frames = subst A (sym c.push.ensures) (subst F c.self.view_is (stand_more s h f p bs (subst B (sym c.self.view_is) is.frames) (c.in-Some.ensures s h (rw c.deref-in-loop-i.ensures c.self.invariant.written.stands))));
    }
