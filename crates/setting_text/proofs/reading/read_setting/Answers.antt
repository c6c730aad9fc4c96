use Rattle.std.proofs.Common.{rules, ◌≡◌, ℕ, List, Option, IfSome, true, subst}
use Rattle.setting_text.specs.Reading.{EndsSo, HasNoHead, IsBegun}
use Rattle.setting_text.specs.declared.reading.Begun.{Begun}
use Rattle.setting_text.specs.declared.fault.SettingFault.TheVariants as fault
use Rattle.setting_text.specs.Rules.{AreGood, IsGoodHead}
use Rattle.setting_text.proofs.Keeping.{is_setting}
use Rattle.setting_text.proofs.Spelling.{never, text_is}
use Rattle.setting_text.proofs.reading.read_setting.Goals as goal

abbrev Told : List ℕ → Option Begun → Type 0
Told text o = IfSome o (λ b. (left : List (List ℕ)) × IsBegun text b.head b.needs.items left × EndsSo b.is_whole left)

pub returns-in-Ok-None-clause-exactly : goal.returns-in-Ok-None-clause-exactly
returns-in-Ok-None-clause-exactly c = λ p s k.
    let none : HasNoHead c.args.text.now = search rules in
    never c.args.text.now p fault.NoHead s none k

pub returns-in-Some-clause-exactly : goal.returns-in-Some-clause-exactly
returns-in-Some-clause-exactly c = λ p s k.
    let b = subst (Told c.args.text.now) c.in-Ok-Some.field-0-is c.in-Ok-Some.ensures.some in
    never c.args.text.now p c.in-Some.fault s (c.in-Some.ensures.first c.args.text.now b.0 b.1 b.2) k

pub returns-clause-setting : goal.returns-clause-setting
returns-clause-setting c =
    let head : IsGoodHead c.in-Ok-Some.begun.head = search rules in
    let good : AreGood c.in-Ok-Some.begun.head c.in-Ok-Some.begun.needs.items = search rules in
    (is_setting c.in-Ok-Some.begun.head c.in-Ok-Some.begun.needs.items head good).0

pub returns-clause-room : goal.returns-clause-room
returns-clause-room c =
    let head : IsGoodHead c.in-Ok-Some.begun.head = search rules in
    let good : AreGood c.in-Ok-Some.begun.head c.in-Ok-Some.begun.needs.items = search rules in
    (is_setting c.in-Ok-Some.begun.head c.in-Ok-Some.begun.needs.items head good).1

pub returns-clause-spells : goal.returns-clause-spells
returns-clause-spells c =
    let b = subst (Told c.args.text.now) c.in-Ok-Some.field-0-is c.in-Ok-Some.ensures.some in
    let whole : c.in-Ok-Some.begun.is_whole ≡ true = search rules in
    record {
      fit_head = b.1.head;
      fit = b.1.fit;
      good_head = search rules;
      good = search rules;
      text_is = text_is c.args.text.now c.in-Ok-Some.begun.head c.in-Ok-Some.begun.needs.items b.0 b.1 (subst (λ t. EndsSo t b.0) whole b.2);
    }
