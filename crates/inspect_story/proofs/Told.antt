-- The text of the setting of terms spells it.
use Rattle.std.proofs.Common.{◌≡◌, ◌<◌, ◌≤◌, ℕ, List, [], ◌∷◌, sym, ap₂, subst, arith}
use Rattle.std.specs.List.{AllByRecursion}
use Rattle.scan_story.specs.declared.setting.Need.{Need}
use Rattle.scan_story.specs.declared.setting.Setting.{Setting}
use Rattle.scan_story.specs.Setting.{HasRoom, IsNeed, IsSetting}
use Rattle.setting_text.specs.Reading.{AreShort, FitsHead, FitsNeed}
use Rattle.setting_text.specs.Rules as told
use Rattle.setting_text.specs.Rules.{AreGood, IsGoodHead, IsGoodNeed}
use Rattle.setting_text.specs.Text.{setting_text}
use Rattle.setting_text.specs.declared.head.Head.{Head}
use Rattle.setting_text.specs.declared.plain.PlainSetting.{PlainSetting}
use Rattle.inspect_referee.specs.Terms.{setting_of}
use Rattle.inspect_referee.specs.declared.terms.Terms.{Terms}
use Rattle.inspect_story.specs.Settings.{HasShortColumns, IsReadAs, head_of}

short : (end : ℕ) (ns : List ℕ) → end ≤ 1024 → AllByRecursion (λ (n : ℕ). n < end) ns → AreShort ns
short end [] low all = tt
short end (n ∷ ns) low all = (let lt = all.0 in omega (arith, low, lt), short end ns low all.1)

fits : (s : Setting) (ns : List Need) → IsSetting s → AllByRecursion (IsNeed s) ns → AllByRecursion HasShortColumns ns → AllByRecursion FitsNeed ns
fits s [] ok are few = tt
fits s (n ∷ ns) ok are few =
    let is = are.0 in
    let top = is.query.1 in
    let on = is.worker in
    let workers = ok.workers.1 in
    ((omega (arith, top), omega (arith, on, workers), short s.chunks n.chunks ok.chunks is.within, short 16 n.columns (omega arith) few.0), fits s ns ok are.1 few.1)

goods : (s : Setting) (ns : List Need) → AllByRecursion (IsNeed s) ns → AllByRecursion HasShortColumns ns → AllByRecursion (IsGoodNeed (head_of s)) ns
goods s [] are few = tt
goods s (n ∷ ns) are few =
    let is = are.0 in (
      record {
        query = is.query;
        worker = is.worker;
        rising = is.rising;
        within = is.within;
        columns_rise = is.columns_rise;
        columns = (is.columns, few.0);
      },
      goods s ns are.1 few.1,
    )

head_fits : (s : Setting) → IsSetting s → FitsHead (head_of s)
head_fits s ok =
    let workers = ok.workers.1 in
    let groups = ok.groups.1 in
    let chunks = ok.chunks in
    let frames = ok.frames in
    (omega (arith, workers), omega (arith, frames), omega (arith, chunks), omega (arith, groups))

pub spelled : (t : Terms) (p : PlainSetting) (text : List ℕ) → IsSetting (setting_of t) → HasRoom (setting_of t) → p.head ≡ head_of (setting_of t) → p.needs.items ≡ (setting_of t).needs
    → AllByRecursion HasShortColumns p.needs.items → text ≡ setting_text p.head p.needs.items → IsReadAs text (setting_of t)
spelled t p text ok room heads needs few is =
    let s = setting_of t in
    let here : AllByRecursion HasShortColumns s.needs = subst (AllByRecursion HasShortColumns) needs few in
    let good : AreGood (head_of s) s.needs = record { each = goods s s.needs ok.needs here; distinct = ok.distinct } in
    let head : IsGoodHead (head_of s) = record { workers = ok.workers; chunks = ok.chunks; groups = ok.groups; room = room; frames = ok.frames } in
    record {
      plain = p;
      spells = record {
        fit_head = subst FitsHead (sym heads) (head_fits s ok);
        fit = subst (AllByRecursion FitsNeed) (sym needs) (fits s s.needs ok ok.needs here);
        good_head = subst IsGoodHead (sym heads) head;
        good = subst (λ (ns : List Need). AreGood p.head ns) (sym needs) (subst (λ (h : Head). AreGood h s.needs) (sym heads) good);
        text_is = is;
      };
      setting = ap₂ told.setting_of heads needs;
    }
