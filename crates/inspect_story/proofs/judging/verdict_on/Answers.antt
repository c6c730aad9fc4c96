use Rattle.std.proofs.Common.{List, sym, subst}
use Rattle.scan_story.specs.declared.entry.Entry.{Entry}
use Rattle.scan_story.specs.declared.setting.Setting.{Setting}
use Rattle.inspect_referee.specs.Terms.{setting_of}
use Rattle.inspect_referee.specs.declared.choices.Choices.{Choices}
use Rattle.inspect_story.specs.Freedom.{choices_of, setting_in}
use Rattle.inspect_story.specs.Reading.{IsBegun}
use Rattle.inspect_story.specs.Verdicts.{IsStoryVerdict}
use Rattle.inspect_story.specs.declared.verdict.StoryVerdict.{StoryVerdict}
use Rattle.inspect_story.proofs.Judged.{IsRuled, verdict_is}
use Rattle.inspect_story.proofs.judging.verdict_on.Goals as goal

pub returns : goal.returns
returns c = λ setting story spells begun.
    let f = c.args.freedom in
    let p = c.args.plain.now in
    let b = c.args.begun.now in
    let es = c.as_slice-entries.result.now in
    let r = c.in_ok-ruling.ruling in
    let terms = c.in_ok-terms.terms in
    let judged = c.in_ok-ruling.ensures in
    let found : IsRuled c.choices_of-choices.result (setting_of terms) es r = record { ruling = judged.ruling; exactly = judged.exactly; first = judged.first; calm = judged.calm c.in_ok-terms.ensures.room } in
    let chosen : IsRuled (choices_of f p.head.policy) (setting_of terms) es r = subst (λ (k : Choices). IsRuled k (setting_of terms) es r) c.choices_of-choices.ensures found in
    let ruled : IsRuled (choices_of f p.head.policy) (setting_in f p.head p.needs.items es) es r = subst (λ (s : Setting). IsRuled (choices_of f p.head.policy) s es r) c.in_ok-terms.ensures.setting chosen in
    let here : IsBegun story es b.is_whole = subst (λ (xs : List Entry). IsBegun story xs b.is_whole) (sym c.as_slice-entries.ensures.value) begun in
    let fall = c.first_fall-fall.ensures in
    subst (λ (v : StoryVerdict). IsStoryVerdict f setting story v) (sym c.verdict_by.ensures)
    (verdict_is f setting story p es b.is_whole r c.first_fall-fall.result spells here ruled fall.some fall.none)
