use Rattle.std.proofs.Common.{rules, List, subst}
use Rattle.scan_story.specs.declared.setting.Need.{Need}
use Rattle.setting_text.specs.Rules.{IsFirstBroken, IsGoodHead}
use Rattle.setting_text.proofs.Spelling.{broken_at}
use Rattle.setting_text.proofs.reading.fault_in.Goals as goal

pub returns-in-Some-first_broken-clause-first : goal.returns-in-Some-first_broken-clause-first
returns-in-Some-first_broken-clause-first c = λ text left begun ends.
    let good : IsGoodHead c.args.begun.now.head = search rules in
    broken_at text c.args.begun.now.head c.args.begun.now.needs.items left c.in-Some-first_broken.place c.in-Some-first_broken.rule begun good
    (subst (λ (ns : List Need). IsFirstBroken c.args.begun.now.head ns c.in-Some-first_broken.place c.in-Some-first_broken.rule) c.deref.ensures.value c.in-Some-first_broken.ensures.some)
