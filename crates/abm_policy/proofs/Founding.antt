-- A desk with no entry yet.
use Rattle.std.proofs.Common.{◌≡◌, ◌<◌, ◌∷◌, [], ℕ, List, Some, map, refl, sym, ◌∙◌, ap, subst, arith}
use Rattle.std.specs.List.{AllByRecursion}
use Rattle.scan_story.specs.declared.origin.Start.{Start}
use Rattle.scan_story.specs.declared.setting.Need as asked
use Rattle.scan_story.specs.declared.setting.PolicyName.{PolicyName}
use Rattle.scan_story.specs.declared.setting.Setting.{Setting}
use Rattle.scan_story.specs.Kept.{Kept}
use Rattle.scan_story.specs.Setting.{AreColumns, IsNeed, IsSetting, IsStart}
use Rattle.scan_story.specs.Views.{History, past}
use Rattle.scan_story.specs.Loads.{underway}
use Rattle.scan_story.specs.Legal.{Legal, cursor_at}
use Rattle.interest_book.specs.declared.book.Book.{Book}
use Rattle.chunk_interest.specs.declared.need.Need.{Need}
use Rattle.chunk_interest.specs.Fresh.{as_need}
use Rattle.interest_book.specs.Made.{made_for, IsMadeFor}
use Rattle.interest_book.specs.Stands.{Stands}
use Rattle.story_laws.specs.Bounds.{capacity_for}
use Rattle.story_laws.proofs.Laws.{all_room_new}
use Rattle.abm_policy.specs.Depots.{DepotView, HasDepot}
use Rattle.abm_policy.specs.Sound.{setting_of, start_of, IsSound}

-- needs fit a setting whatever its policy
same_needs : (s t : Setting) (ns : List asked.Need) → s.workers ≡ t.workers → s.chunks ≡ t.chunks → s.groups ≡ t.groups → AllByRecursion (IsNeed s) ns → AllByRecursion (IsNeed t) ns
same_needs s t [] ew ec eg all = tt
same_needs s t (n ∷ ns) ew ec eg all =
    let i = all.0 in
    let W : ℕ → Type 0 = λ k. n.worker < k in (
      record {
        query = i.query;
        worker = subst W ew i.worker;
        rising = i.rising;
        within = subst (λ (k : ℕ). AllByRecursion (λ (c : ℕ). c < k) n.chunks) ec i.within;
        columns_rise = i.columns_rise;
        columns = subst (λ (k : ℕ). AreColumns k n.columns) eg i.columns;
      },
      same_needs s t ns ew ec eg all.1,
    )

pub made_for_setting : (s : Setting) (needs : List Need) (chunks workers frames groups : ℕ) (policy : PolicyName) (cursor : List ℕ) → s ≡ setting_of needs chunks workers frames groups policy cursor
    → IsMadeFor s needs chunks workers frames groups
made_for_setting s needs chunks workers frames groups policy cursor is =
    let M : Setting → Type 0 = λ t. IsMadeFor t needs chunks workers frames groups in
    subst M (sym is) (record { needs = refl; chunks = refl; workers = refl; frames = refl; groups = refl })

pub book_setting : (s : Setting) (needs : List Need) (chunks workers frames groups : ℕ) (policy : PolicyName) (cursor : List ℕ) → s ≡ setting_of needs chunks workers frames groups policy cursor
    → IsSetting s → IsSetting (made_for needs chunks workers frames groups)
book_setting s needs chunks workers frames groups policy cursor is ok =
    let t = setting_of needs chunks workers frames groups policy cursor in
    let good : IsSetting t = subst IsSetting is ok in
    record {
      distinct = good.distinct;
      needs = same_needs t (made_for needs chunks workers frames groups) (map as_need needs) refl refl refl good.needs;
      chunks = good.chunks;
      workers = good.workers;
      groups = good.groups;
      frames = good.frames;
    }

pub founded : (o : Start) (needs : List Need) (chunks workers frames groups : ℕ) (name : PolicyName) (cursor : List ℕ) (b : Book) (k : Kept) (d : DepotView)
    → IsStart o → o.setting ≡ setting_of needs chunks workers frames groups name cursor → o ≡ start_of o.setting d → Stands b o.setting [] → k.entries ≡ [] → k.spare ≡ capacity_for o.setting
    → IsSound o name cursor b k (Some d)
founded o needs chunks workers frames groups name cursor b k d start is from stands empty room =
    let none : past k.entries ≡ [] = ap past empty in
    let L : History → Type 0 = λ h. Legal o.setting h in
    let S : History → Type 0 = λ h. Stands b o.setting h in
    let H : History → Type 0 = λ h. HasDepot o h (underway o.setting h) (Some d) in
    let held : d.held ≡ o.held = sym (ap (λ (x : Start). x.held) from) in
    let gets : o.gets ≡ d.gets = ap (λ (x : Start). x.gets) from in
    let faults : o.faults ≡ d.faults = ap (λ (x : Start). x.faults) from in
    record {
      start = start;
      written = record { legal = subst L (sym none) tt; stands = subst S (sym none) stands; room = all_room_new o.setting k empty room };
      named = sym (ap (λ (t : Setting). t.policy) is);
      at_cursor = sym (ap (λ (t : Setting). t.cursor) is) ∙ ap (cursor_at o.setting) (sym none);
      depot = subst H (sym none) (record { held = held; gets = omega (arith, gets); licensed = omega (arith, faults) });
    }
