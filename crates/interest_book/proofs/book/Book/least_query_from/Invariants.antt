use Rattle.std.proofs.Common.{◌≡◌, ◌<◌, ◌≤◌, ℕ, false, is_some}
use Rattle.scan_story.specs.declared.setting.Setting.{Setting}
use Rattle.scan_story.specs.Setting.{need_of}
use Rattle.scan_story.specs.Views.{History}
use Rattle.interest_book.specs.Stands.{Stands}
use Rattle.interest_book.proofs.book.Book.least_query_from.Given as goal

abbrev pub invariant-loop-r : goal.invariant-loop-r
invariant-loop-r l = record {
  from : l.q ≤ l.r;
  none : (s : Setting) (h : History) → Stands l.self s h → (k : ℕ) → l.q ≤ k → k < l.r → is_some (need_of s k) ≡ false;
}
