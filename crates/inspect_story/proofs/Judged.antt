-- From a ruling and the counts of a story to the verdict on two texts.
use Rattle.std.proofs.Common.{◌≡◌, ◌↔◌, ◌∙◌, ◌<◌, ◌≤◌, ◌+◌, [], ◌++◌, append-nil, ℕ, Bool, true, false, List, Option, None, Some, IfNone, IfSome, IsTrue, nat_lt, if◌then◌else◌, length, take, refl, sym, ap, subst, arith}
use Rattle.std.proofs.lemmas.Bool.Decides.{nat_tests}
use Rattle.std.proofs.lemmas.List.{take_all}
use Rattle.scan_story.specs.declared.entry.Entry.{Entry}
use Rattle.scan_story.specs.declared.setting.Need.{Need}
use Rattle.scan_story.specs.declared.setting.Setting.{Setting}
use Rattle.scan_story.specs.Views.{past}
use Rattle.scan_story.specs.Whole.{Undisturbed}
use Rattle.setting_text.specs.Reading.{Spells}
use Rattle.setting_text.specs.declared.head.Head.{Head}
use Rattle.setting_text.specs.declared.plain.PlainSetting.{PlainSetting}
use Rattle.setting_text.proofs.Spelling.{one_setting}
use Rattle.story_text.specs.Text.{story_text}
use Rattle.inspect_referee.specs.declared.choices.Choices.{Choices}
use Rattle.inspect_referee.specs.declared.counts.Counts.{Counts}
use Rattle.inspect_referee.specs.declared.ruling.Reason.{Reason}
use Rattle.inspect_referee.specs.declared.ruling.Ruling.{Ruling}
use Rattle.inspect_referee.specs.declared.ruling.Ruling.TheVariants as rulings
use Rattle.inspect_referee.specs.Choices.{LegalBy}
use Rattle.inspect_referee.specs.Ruling.{IsFirstIllegalBy, IsRulingBy, finds_legal, place_of}
use Rattle.inspect_referee.proofs.Judged.{prefix}
use Rattle.inspect_referee.proofs.Taking.{all_follow}
use Rattle.inspect_story.specs.declared.falls.Fall.{Fall}
use Rattle.inspect_story.specs.declared.freedom.Freedom.{Freedom}
use Rattle.inspect_story.specs.declared.verdict.StoryVerdict.TheVariants as verdict
use Rattle.inspect_story.specs.Falling.{IsFirstFall, NeverFalls}
use Rattle.inspect_story.specs.Freedom.{choices_of, setting_in}
use Rattle.inspect_story.specs.Reading.{IsBegun}
use Rattle.inspect_story.specs.Stories.{IsRight, TellNone}
use Rattle.inspect_story.specs.Verdicts.{FallsIn, IsRefusedIn, IsStoryVerdict, OfBegin, StandsBelow, at_end, fell_by, verdict_by}
use Rattle.inspect_story.proofs.Licences.{is_licensed, licensed_never, never_falls, never_taken, taken_licensed, taken_on}

-- what the referee says of the entries
pub record IsRuled (choices : Choices) (s : Setting) (es : List Entry) (r : Ruling) : Type 0 where
  pub ruling : IsRulingBy choices s es r
  pub exactly : IsTrue (finds_legal r) ↔ LegalBy choices s (past es)
  pub first : IsFirstIllegalBy choices s es (place_of r)
  pub calm : IsTrue (finds_legal r) → Undisturbed s (past es)

-- what is ruled on stands in the story
pub stands : (choices : Choices) (s : Setting) (es : List Entry) (r : Ruling) (n : ℕ) → IsFirstIllegalBy choices s es (place_of r) → length es ≤ n → StandsBelow n r
stands choices s es (rulings.Legal whole counts) n first le = tt
stands choices s es (rulings.Illegal place reason) n first le = let lt = first.0 in omega (arith, lt, le)

pub fall_stands : (es : List Entry) (o : Option Fall) (n : ℕ) → IfSome o (IsFirstFall es) → length es ≤ n → IfSome o (λ (x : Fall). x.place < n)
fall_stands es None n some le = tt
fall_stands es (Some fall) n some le = let lt = some.there in omega (arith, lt, le)

legal_taken : (choices : Choices) (s : Setting) (es : List Entry) (i j : ℕ) → i ≤ j → LegalBy choices s (past (take j es)) → LegalBy choices s (past (take i es))
legal_taken choices s es i j le legal = let p = taken_on es i j le in prefix choices s p.0 (past (take i es)) (subst (LegalBy choices s) p.1 legal)

legal_front : (choices : Choices) (s : Setting) (es : List Entry) (i : ℕ) → i < length es → LegalBy choices s (past es) → LegalBy choices s (past (take i es))
legal_front choices s es i lt legal =
    legal_taken choices s es i (length es) (omega (arith, lt)) (subst (λ (xs : List Entry). LegalBy choices s (past xs)) (sym (take_all (length es) es (omega arith))) legal)

never_front : (es : List Entry) (i : ℕ) → i < length es → NeverFalls (past es) → NeverFalls (past (take i es))
never_front es i lt never =
    never_taken es i (length es) (omega (arith, lt)) (subst (λ (xs : List Entry). NeverFalls (past xs)) (sym (take_all (length es) es (omega arith))) never)

-- two texts tell no right story

not_right : (f : Freedom) (setting story : List ℕ) (p : PlainSetting) (es : List Entry) (is_whole : Bool) → Spells setting p → IsBegun story es is_whole
    → (IsRight f p.head p.needs.items es → ⊥) → TellNone f setting story
not_right f setting story p es is_whole spells begun never told k =
    let one = one_setting setting k.plain p k.spells spells in
    let same : es ≡ told = (begun.only told k.fit k.text_is).1 in
    let headed : IsRight f p.head k.plain.needs.items told = subst (λ (h : Head). IsRight f h k.plain.needs.items told) one.0 k.right in
    let needed : IsRight f p.head p.needs.items told = subst (λ (ns : List Need). IsRight f p.head ns told) one.1 headed in
    never (subst (λ (xs : List Entry). IsRight f p.head p.needs.items xs) (sym same) needed)

off : false ≡ true → ⊥
off e = cc

true_false : (b : Bool) → b ≡ true → b ≡ false → ⊥
true_false b e g = cc

not_ended : (f : Freedom) (setting story : List ℕ) (es : List Entry) (is_whole : Bool) → IsBegun story es is_whole → is_whole ≡ false → TellNone f setting story
not_ended f setting story es is_whole begun off told k = true_false is_whole (begun.only told k.fit k.text_is).0 off

-- Verdicts

refused_in : (f : Freedom) (setting story : List ℕ) (p : PlainSetting) (es : List Entry) (is_whole : Bool) (place : ℕ) (reason : Reason) → Spells setting p → IsBegun story es is_whole
    → IsRuled (choices_of f p.head.policy) (setting_in f p.head p.needs.items es) es (rulings.Illegal place reason) → NeverFalls (past (take place es))
    → OfBegin f setting story (IsRefusedIn (place + 1) reason)
refused_in f setting story p es is_whole place reason spells begun ruled never =
    let choices = choices_of f p.head.policy in
    let s = setting_in f p.head p.needs.items es in
    record {
      none = not_right f setting story p es is_whole spells begun (λ right. off (ruled.exactly.1 right.legal));
      plain = p;
      spells = spells;
      entries = es;
      is_whole = is_whole;
      begins = begun.begins;
      holds = record {
        place = place;
        at_line = refl;
        refused = ruled.ruling;
        first = ruled.first;
        licensed = taken_licensed s es place begun.begins.fit (all_follow choices s (past (take place es)) ruled.first.1) never;
      };
    }

falls_in : (f : Freedom) (setting story : List ℕ) (p : PlainSetting) (es : List Entry) (is_whole : Bool) (fall : Fall) → Spells setting p → IsBegun story es is_whole
    → LegalBy (choices_of f p.head.policy) (setting_in f p.head p.needs.items es) (past (take fall.place es)) → IsFirstFall es fall
    → OfBegin f setting story (FallsIn (fall.place + 1) fall.last)
falls_in f setting story p es is_whole fall spells begun legal falls = record {
  none = not_right f setting story p es is_whole spells begun (λ right. never_falls es fall.place fall.last falls.there falls.last falls.falls (licensed_never (past es) right.licensed));
  plain = p;
  spells = spells;
  entries = es;
  is_whole = is_whole;
  begins = begun.begins;
  holds = record {
    place = fall.place;
    at_line = refl;
    legal = legal;
    falls = record { there = falls.there; before = falls.before; last = falls.last; falls = falls.falls };
  };
}

at_end_is : (f : Freedom) (setting story : List ℕ) (p : PlainSetting) (es : List Entry) (is_whole : Bool) (whole : Bool) (counts : Counts) → Spells setting p → IsBegun story es is_whole
    → IsRuled (choices_of f p.head.policy) (setting_in f p.head p.needs.items es) es (rulings.Legal whole counts) → NeverFalls (past es)
    → IsStoryVerdict f setting story (at_end is_whole (length es) whole counts)
at_end_is f setting story p es false whole counts spells begun ruled never =
    let choices = choices_of f p.head.policy in
    let s = setting_in f p.head p.needs.items es in
    record {
      none = not_ended f setting story es false begun refl;
      plain = p;
      spells = spells;
      entries = es;
      is_whole = false;
      begins = begun.begins;
      holds = record { at_line = refl; legal = ruled.ruling.0; licensed = is_licensed s es begun.begins.fit (all_follow choices s (past es) ruled.ruling.0) never; bad = refl };
    }
at_end_is f setting story p es true false counts spells begun ruled never =
    let choices = choices_of f p.head.policy in
    let s = setting_in f p.head p.needs.items es in
    record {
      none = not_right f setting story p es true spells begun (λ right. off (ruled.ruling.1.1 right.whole));
      plain = p;
      spells = spells;
      entries = es;
      is_whole = true;
      begins = begun.begins;
      holds = record {
        at_line = refl;
        legal = ruled.ruling.0;
        licensed = is_licensed s es begun.begins.fit (all_follow choices s (past es) ruled.ruling.0) never;
        ends = refl;
        still_open = λ whole. off (ruled.ruling.1.1 whole);
      };
    }
at_end_is f setting story p es true true counts spells begun ruled never =
    let choices = choices_of f p.head.policy in
    let s = setting_in f p.head p.needs.items es in
    let over : begun.begins.rest ≡ [] = begun.begins.ends in
    record {
      told = es;
      right = record {
        plain = p;
        spells = spells;
        fit = begun.begins.fit;
        text_is = begun.begins.joined ∙ (ap (λ (l : List ℕ). story_text es ++ l) over ∙ append-nil (story_text es));
        right = record {
          legal = ruled.ruling.0;
          whole = ruled.ruling.1.0 refl;
          undisturbed = ruled.calm refl;
          licensed = is_licensed s es begun.begins.fit (all_follow choices s (past es) ruled.ruling.0) never;
        };
      };
      entries_are = refl;
      counts_are = ruled.ruling.2;
    }

not_below : (a b : ℕ) → nat_lt a b ≡ false → b ≤ a
not_below a b e = grind (arith, nat_tests)

below : (a b : ℕ) → nat_lt a b ≡ true → a < b
below a b e = grind (arith, nat_tests)

earlier : (f : Freedom) (setting story : List ℕ) (p : PlainSetting) (es : List Entry) (is_whole : Bool) (place : ℕ) (reason : Reason) (fall : Fall) → Spells setting p → IsBegun story es is_whole
    → IsRuled (choices_of f p.head.policy) (setting_in f p.head p.needs.items es) es (rulings.Illegal place reason) → IsFirstFall es fall → (b : Bool) → nat_lt fall.place place ≡ b
    → IsStoryVerdict f setting story (if b then fell_by fall else verdict.Illegal (place + 1) reason)
earlier f setting story p es is_whole place reason fall spells begun ruled falls false e =
    refused_in f setting story p es is_whole place reason spells begun ruled (never_taken es place fall.place (not_below fall.place place e) falls.before)
earlier f setting story p es is_whole place reason fall spells begun ruled falls true e =
    let choices = choices_of f p.head.policy in
    let s = setting_in f p.head p.needs.items es in
    let lt = below fall.place place e in
    falls_in f setting story p es is_whole fall spells begun (legal_taken choices s es fall.place place (omega (arith, lt)) ruled.first.1) falls

pub verdict_is : (f : Freedom) (setting story : List ℕ) (p : PlainSetting) (es : List Entry) (is_whole : Bool) (r : Ruling) (o : Option Fall) → Spells setting p → IsBegun story es is_whole
    → IsRuled (choices_of f p.head.policy) (setting_in f p.head p.needs.items es) es r → IfSome o (IsFirstFall es) → IfNone o (NeverFalls (past es))
    → IsStoryVerdict f setting story (verdict_by r o is_whole (length es))
verdict_is f setting story p es is_whole (rulings.Illegal place reason) None spells begun ruled some none =
    refused_in f setting story p es is_whole place reason spells begun ruled (never_front es place ruled.first.0 none)
verdict_is f setting story p es is_whole (rulings.Illegal place reason) (Some fall) spells begun ruled some none =
    earlier f setting story p es is_whole place reason fall spells begun ruled some (nat_lt fall.place place) refl
verdict_is f setting story p es is_whole (rulings.Legal whole counts) None spells begun ruled some none = at_end_is f setting story p es is_whole whole counts spells begun ruled none
verdict_is f setting story p es is_whole (rulings.Legal whole counts) (Some fall) spells begun ruled some none =
    let choices = choices_of f p.head.policy in
    let s = setting_in f p.head p.needs.items es in
    falls_in f setting story p es is_whole fall spells begun (legal_front choices s es fall.place some.there ruled.ruling.0) some
