use Rattle.std.proofs.Common.{◌≡◌, rules, refl, sym, subst}
use Rattle.std.specs.Prelude.{map}
use Rattle.scan_story.specs.Setting.{HasRoom, IsSetting, first_cursor}
use Rattle.scan_story.specs.declared.setting.Setting.{Setting}
use Rattle.chunk_interest.specs.Fresh.{as_need}
use Rattle.batch_plan.specs.Setting.{batch_setting}
use Rattle.inspect_verdict.proofs.terms.terms_of.Goals as goal

pub returns-clause-may : goal.returns-clause-may
returns-clause-may c =
    let made : Setting = record { needs = map as_need c.in_ok-needs.needs.items; chunks = c.chunks_of.result; workers = c.args.options.now.workers; frames = c.args.options.now.frames; groups = c.groups_in.result; policy = c.args.policy; cursor = first_cursor c.args.policy } in
    let same : made ≡ batch_setting c.in_ok-shape.shape c.deref.result.now c.args.tasks.now c.args.options.now c.args.policy (first_cursor c.args.policy) = search rules in
    subst IsSetting (sym same) (c.in_ok-needs.ensures.setting refl c.args.policy (first_cursor c.args.policy))

pub returns-clause-room : goal.returns-clause-room
returns-clause-room c =
    let made : Setting = record { needs = map as_need c.in_ok-needs.needs.items; chunks = c.chunks_of.result; workers = c.args.options.now.workers; frames = c.args.options.now.frames; groups = c.groups_in.result; policy = c.args.policy; cursor = first_cursor c.args.policy } in
    let same : made ≡ batch_setting c.in_ok-shape.shape c.deref.result.now c.args.tasks.now c.args.options.now c.args.policy (first_cursor c.args.policy) = search rules in
    subst HasRoom (sym same) (c.in_ok-needs.ensures.room c.args.policy (first_cursor c.args.policy))
