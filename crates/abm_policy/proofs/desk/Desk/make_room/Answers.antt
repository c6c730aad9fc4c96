use Rattle.std.proofs.Common.{◌∙◌}
use Rattle.abm_policy.proofs.Beginning.{adds_more}
use Rattle.abm_policy.proofs.desk.Desk.make_room.Goals as goal

pub loop-self-preserved : goal.loop-self-preserved
loop-self-preserved g c = record {
  added = adds_more c.args.w c.args.self.now c.loop-self.self c.evict.new.self c.loop-self.invariant.added c.evict.ensures.entries;
  load = c.evict.ensures.load ∙ c.loop-self.invariant.load;
}
