use Rattle.std.proofs.Common.{◌∙◌, List, ap, map, sym, subst}
use Rattle.std.specs.Prelude.{All}
use Rattle.scan_story.specs.declared.setting.Need.{Need}
use Rattle.setting_text.proofs.Keeping.{is_setting}
use Rattle.chunk_interest.specs.Fresh.{as_need}
use Rattle.inspect_story.specs.Freedom.{needs_for}
use Rattle.inspect_story.specs.Settings.{HasMembers}
use Rattle.inspect_story.proofs.Dealt.{all_members, dealt_good, made_setting}
use Rattle.inspect_story.proofs.plain_terms.plain_terms.Goals as goal

pub needs_on-requires : goal.needs_on-requires
needs_on-requires c =
    let p = c.args.plain.now in
    subst (All HasMembers) (sym c.deref.ensures.value) (all_members p.head p.needs.items c.requires.head c.requires.good)

pub returns-clause-may : goal.returns-clause-may
returns-clause-may c =
    let f = c.args.freedom in
    let p = c.args.plain.now in
    let es = c.args.entries.now in
    let needs = needs_for f p.head.workers es p.needs.items in
    made_setting p.head needs (map as_need c.in_ok-needs.needs.items) c.policy_or.result
    (c.in_ok-needs.ensures ∙ ap (λ (ns : List Need). needs_for f p.head.workers es ns) c.deref.ensures.value) c.policy_or.ensures
    (is_setting p.head needs c.requires.head (dealt_good f p.head es p.needs.items c.requires.good)).0
