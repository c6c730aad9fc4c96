use Rattle.std.proofs.Common.{◌≡◌, ◌==◌, ◌&&◌, false}
use Rattle.std.specs.List.{list_any}
use Rattle.scan_story.specs.declared.setting.Setting.{Setting}
use Rattle.scan_story.specs.Views.{History, is_active}
use Rattle.interest_book.specs.Stands.{Stands}
use Rattle.trial_desk.proofs.next.is_alone.Given as goal

abbrev pub invariant-loop-n : goal.invariant-loop-n
invariant-loop-n l = (t : Setting) (h : History) → Stands l.book t h → list_any (λ n. n.worker == l.w && is_active h n.query) l.n-iterator ≡ false
    → list_any (λ n. n.worker == l.w && is_active h n.query) l.s.needs ≡ false
