use Rattle.std.proofs.Common.{◌∙◌, ◌≤◌, List, [], refl, sym, subst}
use Rattle.std.specs.Prelude.{All}
use Rattle.scan_story.specs.Setting.{IsSetting}
use Rattle.scan_story.specs.declared.setting.PolicyName.TheVariants.{Relevance}
use Rattle.filter_zones.specs.declared.zone.ChunkZones.{ChunkZones}
use Rattle.chunk_interest.specs.declared.need.Need.{Need}
use Rattle.batch_plan.specs.Setting.{batch_setting}
use Rattle.batch_ends.proofs.Within.{numbers_within}
use Rattle.batch_ends.proofs.setup.set_up.Goals as goal

pub takings_of-requires-clause-numbers : goal.takings_of-requires-clause-numbers
takings_of-requires-clause-numbers c =
    let Within = λ (ns : List Need). All (λ (n : Need). (1 ≤ n.query) × (n.query ≤ 256)) ns in
    let setting = batch_setting c.in_ok-shape.shape c.deref.result.now c.args.tasks.now c.args.options.now Relevance [] in
    subst Within (sym (c.deref-2.ensures.value ∙ c.in_ok-needs.ensures.needs)) (numbers_within setting _ (c.in_ok-needs.ensures.setting refl Relevance []).needs)

pub returns-clause-setting : goal.returns-clause-setting
returns-clause-setting c = λ name cursor.
    let Over = λ (zones : List ChunkZones). IsSetting (batch_setting c.in_ok-shape.shape zones c.args.tasks.now c.args.options.now name cursor) in
    subst Over (c.deref.ensures.value ∙ c.in_ok-zones.ensures.zones) (c.in_ok-needs.ensures.setting refl name cursor)
