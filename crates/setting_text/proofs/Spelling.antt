-- Texts of settings, and what is none.
use Rattle.std.proofs.Common.{◌≡◌, ◌≢◌, ◌+◌, ◌∷◌, [], ◌++◌, ◌==◌, ℕ, List, true, map, drop, refl, sym, ◌∙◌, ap, subst, append_assoc, arith}
use Rattle.std.specs.List.{AllByRecursion, slice_split}
use Rattle.scan_story.specs.declared.setting.Need.{Need}
use Rattle.story_text.specs.Reading.{lacks}
use Rattle.setting_text.specs.declared.head.Head.{Head}
use Rattle.setting_text.specs.declared.plain.PlainSetting.{PlainSetting}
use Rattle.setting_text.specs.declared.fault.NeedRule.{NeedRule}
use Rattle.setting_text.specs.declared.fault.SettingFault.{SettingFault}
use Rattle.setting_text.specs.declared.fault.SettingFault.TheVariants as fault
use Rattle.setting_text.specs.Text.{ended, head_line, need_line, setting_text}
use Rattle.setting_text.specs.Reading.{BeginsBadly, FitsHead, FitsNeed, HasNoHead, IsBegun, IsBrokenAt, IsFault, IsRefusal, Spells, lines_of}
use Rattle.setting_text.specs.Rules.{AreGood, IsFirstBroken, IsGoodHead, KeepsHead}
use Rattle.setting_text.proofs.Parts.{AllLack, ended_is, split_ended}
use Rattle.setting_text.proofs.Wording.{head_clean, need_clean}
use Rattle.setting_text.proofs.Same.{same_head, same_need}
use Rattle.setting_text.proofs.Keeping.{head_kept, none_broken}

needs_clean : (ns : List Need) → AllByRecursion FitsNeed ns → AllLack 10 (map need_line ns)
needs_clean [] fit = tt
needs_clean (n ∷ ns) fit = (need_clean n fit.0, needs_clean ns fit.1)

-- the lines of a setting's text
pub lines_are : (h : Head) (ns : List Need) → FitsHead h → AllByRecursion FitsNeed ns → lines_of (setting_text h ns) ≡ head_line h ∷ (map need_line ns ++ [] ∷ [])
lines_are h ns head fit = split_ended (head_line h ∷ map need_line ns) (head_clean h head, needs_clean ns fit)

-- a text that begins so and has nothing left is the setting's
pub text_is : (text : List ℕ) (h : Head) (ns : List Need) (left : List (List ℕ)) → IsBegun text h ns left → left ≡ [] ∷ [] → text ≡ setting_text h ns
text_is text h ns left b over =
    ended_is text (head_line h ∷ map need_line ns) (b.joined ∙ ap (λ (l : List (List ℕ)). head_line h ∷ (map need_line ns ++ l)) over)

no_line : (n : Need) (xs ys : List (List ℕ)) → need_line n ∷ xs ≢ [] ∷ ys
no_line n xs ys e = let line : 113 ∷ drop 1 (need_line n) ≡ [] = first_is (need_line n) [] xs ys e in absurd cc
  where
    first_is : (a b : List ℕ) (us vs : List (List ℕ)) → a ∷ us ≡ b ∷ vs → a ≡ b
    first_is a b us vs k = cc

-- lines of queries that don't go on as those of a setting are none's
apart : (ns ms : List Need) (left : List (List ℕ)) → AllByRecursion FitsNeed ms → BeginsBadly left → map need_line ns ++ left ≢ map need_line ms ++ [] ∷ []
apart [] [] left fit bad e = bad.more e
apart [] (m ∷ []) left fit bad e = bad.no_need m [] [] fit.0 e
apart [] (m ∷ k ∷ ms) left fit bad e = bad.no_need m (need_line k) (map need_line ms ++ [] ∷ []) fit.0 e
apart (n ∷ ns) [] left fit bad e = no_line n (map need_line ns ++ left) [] e
apart (n ∷ ns) (m ∷ ms) left fit bad e = let tails : map need_line ns ++ left ≡ map need_line ms ++ [] ∷ [] = cc in apart ns ms left fit.1 bad tails

-- the queries that a text begins with are a setting's first ones
begin_is : (ns ms : List Need) (left : List (List ℕ)) → AllByRecursion FitsNeed ns → AllByRecursion FitsNeed ms → map need_line ns ++ left ≡ map need_line ms ++ [] ∷ []
    → (after : List Need) × (ms ≡ ns ++ after)
begin_is [] ms left fn fm e = (ms, refl)
begin_is (n ∷ ns) [] left fn fm e = absurd (no_line n (map need_line ns ++ left) [] e)
begin_is (n ∷ ns) (m ∷ ms) left fn fm e =
    let line : need_line n ≡ need_line m = cc in
    let tails : map need_line ns ++ left ≡ map need_line ms ++ [] ∷ [] = cc in
    let same = same_need n m fn.0 fm.0 line in
    let again = begin_is ns ms left fn.1 fm.1 tails in
    (again.0, ap (λ (l : List Need). m ∷ l) again.1 ∙ ap (λ (k : Need). k ∷ (ns ++ again.0)) (sym same))

no_head : (text : List ℕ) (h : Head) (ns : List Need) → FitsHead h → lines_of text ≡ head_line h ∷ (map need_line ns ++ [] ∷ []) → HasNoHead text → ⊥
no_head text h [] fit is none = none h [] [] fit is
no_head text h (n ∷ ns) fit is none = none h (need_line n) (map need_line ns ++ [] ∷ []) fit is

spelled : (text : List ℕ) (p : PlainSetting) → Spells text p → lines_of text ≡ head_line p.head ∷ (map need_line p.needs.items ++ [] ∷ [])
spelled text p s = ap lines_of s.text_is ∙ lines_are p.head p.needs.items s.fit_head s.fit

begun_lines : (text : List ℕ) (p : PlainSetting) (h : Head) (ns : List Need) (left : List (List ℕ)) → Spells text p → IsBegun text h ns left
    → (p.head ≡ h) × (map need_line ns ++ left ≡ map need_line p.needs.items ++ [] ∷ [])
begun_lines text p h ns left s b =
    let both : head_line h ∷ (map need_line ns ++ left) ≡ head_line p.head ∷ (map need_line p.needs.items ++ [] ∷ []) = sym b.joined ∙ spelled text p s in
    let line : head_line p.head ≡ head_line h = cc in
    (same_head p.head h s.fit_head b.head line, (let tails : map need_line ns ++ left ≡ map need_line p.needs.items ++ [] ∷ [] = cc in tails))

same_needs : (ns ms : List Need) → AllByRecursion FitsNeed ns → AllByRecursion FitsNeed ms → map need_line ns ++ [] ∷ [] ≡ map need_line ms ++ [] ∷ [] → ns ≡ ms
same_needs [] [] fn fm e = refl
same_needs [] (m ∷ ms) fn fm e = absurd (no_line m (map need_line ms ++ [] ∷ []) [] (sym e))
same_needs (n ∷ ns) [] fn fm e = absurd (no_line n (map need_line ns ++ [] ∷ []) [] e)
same_needs (n ∷ ns) (m ∷ ms) fn fm e =
    let line : need_line n ≡ need_line m = cc in
    let tails : map need_line ns ++ [] ∷ [] ≡ map need_line ms ++ [] ∷ [] = cc in
    ap (λ (k : Need). k ∷ ns) (same_need n m fn.0 fm.0 line) ∙ ap (λ (l : List Need). m ∷ l) (same_needs ns ms fn.1 fm.1 tails)

-- a text spells one setting
pub one_setting : (text : List ℕ) (p q : PlainSetting) → Spells text p → Spells text q → (p.head ≡ q.head) × (p.needs.items ≡ q.needs.items)
one_setting text p q sp sq =
    let both : head_line p.head ∷ (map need_line p.needs.items ++ [] ∷ []) ≡ head_line q.head ∷ (map need_line q.needs.items ++ [] ∷ []) = sym (spelled text p sp) ∙ spelled text q sq in
    let line : head_line p.head ≡ head_line q.head = cc in
    let tails : map need_line p.needs.items ++ [] ∷ [] ≡ map need_line q.needs.items ++ [] ∷ [] = cc in
    (same_head p.head q.head sp.fit_head sq.fit_head line, same_needs p.needs.items q.needs.items sp.fit sq.fit tails)

-- a text that spells a setting has no fault
pub never : (text : List ℕ) (p : PlainSetting) (f : SettingFault) → Spells text p → IsRefusal text f → IsFault f → ⊥
never text p fault.NoHead s r k = no_head text p.head p.needs.items s.fit_head (spelled text p s) r
never text p (fault.Head rule) s r k =
    let b = begun_lines text p r.head [] r.left s r.begun in
    r.broken (subst (λ (h : Head). KeepsHead h rule) b.0 (head_kept p.head rule s.good_head))
never text p (fault.NoQuery line) s r k = apart r.needs p.needs.items r.left s.fit r.bad (begun_lines text p r.head r.needs r.left s r.begun).1
never text p (fault.Query line rule) s r k =
    let b = begun_lines text p r.head (r.before ++ r.need ∷ []) r.left s r.begun in
    let more = begin_is (r.before ++ r.need ∷ []) p.needs.items r.left r.begun.fit s.fit b.1 in
    let all : p.needs.items ≡ r.before ++ r.need ∷ more.0 = more.1 ∙ append_assoc r.before (r.need ∷ []) more.0 in
    let good : AreGood r.head (r.before ++ r.need ∷ more.0) = subst (λ (h : Head). AreGood h (r.before ++ r.need ∷ more.0)) b.0 (subst (AreGood p.head) all s.good) in
    r.broken (none_broken r.head r.before r.need more.0 rule good)
never text p fault.Memory s r k = k

all_front : (ns : List Need) (n : Need) (after : List Need) → AllByRecursion FitsNeed (ns ++ n ∷ after) → AllByRecursion FitsNeed (ns ++ n ∷ [])
all_front [] n after fit = (fit.0, tt)
all_front (m ∷ ns) n after fit = (fit.0, all_front ns n after fit.1)

lines_on : (ns : List Need) (n : Need) (after : List Need) (left : List (List ℕ)) → map need_line (ns ++ n ∷ after) ++ left ≡ map need_line (ns ++ n ∷ []) ++ (map need_line after ++ left)
lines_on [] n after left = refl
lines_on (m ∷ ns) n after left = ap (λ (l : List (List ℕ)). need_line m ∷ l) (lines_on ns n after left)

pub broken_at : (text : List ℕ) (h : Head) (ns : List Need) (left : List (List ℕ)) (place : ℕ) (r : NeedRule) → IsBegun text h ns left → IsGoodHead h → IsFirstBroken h ns place r → IsBrokenAt text (place + 2) r
broken_at text h ns left place r begun good b = record {
  head = h;
  before = b.before;
  need = b.need;
  left = map need_line b.after ++ left;
  begun = record {
    head = begun.head;
    fit = all_front b.before b.need b.after (subst (AllByRecursion FitsNeed) b.joined begun.fit);
    joined = begun.joined ∙ ap (λ (l : List (List ℕ)). head_line h ∷ l) (ap (λ (l : List Need). map need_line l ++ left) b.joined ∙ lines_on b.before b.need b.after left);
  };
  good_head = good;
  good = b.good;
  number = ap (λ (n : ℕ). n + 2) b.at_place;
  broken = b.broken;
}
