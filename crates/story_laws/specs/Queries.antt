-- Which queries are active together, and what was delivered to a query.
use Rattle.std.specs.Prelude.{◌≡◌, ◌==◌, ◌≤◌, true, false, ℕ, List, [], ◌∷◌, Some, if◌then◌else◌}
use Rattle.scan_story.specs.declared.entry.Entry.TheVariants.{Deliver}
use Rattle.scan_story.specs.declared.setting.Setting.{Setting}
use Rattle.scan_story.specs.Counting.{has}
use Rattle.scan_story.specs.Setting.{asks_for, worker_of}
use Rattle.scan_story.specs.Views.{History, is_active, is_ended, is_stopped}
use Rattle.scan_story.specs.Numbers.{running}
use Rattle.story_laws.specs.Lists.{NoneTwice}

-- no two queries of one worker are active
abbrev pub OneActiveAWorker : Setting → History → Type 0
OneActiveAWorker s h =
    (w q r : ℕ) → worker_of s q ≡ Some w → worker_of s r ≡ Some w → is_active h q ≡ true → is_active h r ≡ true → q ≡ r

-- so at most as many queries are active as there are workers
abbrev pub FewAreActive : Setting → History → Type 0
FewAreActive s h = running s h ≤ s.workers

-- the chunks of the Delivers to the query, the last one first
abbrev pub chunks_delivered : History → ℕ → List ℕ
chunks_delivered [] q = []
chunks_delivered (Deliver w r c ∷ h) q = if r == q then c ∷ chunks_delivered h q else chunks_delivered h q
chunks_delivered (_ ∷ h) q = chunks_delivered h q

-- each chunk that was delivered to a query is of its need, and was delivered once
pub record IsOnceEach (s : Setting) (h : History) (q : ℕ) : Type 0 where
  pub asked : (c : ℕ) → has (chunks_delivered h q) c ≡ true → asks_for s q c ≡ true
  pub once : NoneTwice (chunks_delivered h q)

abbrev pub DeliveredOnceEach : Setting → History → Type 0
DeliveredOnceEach s h = (q : ℕ) → IsOnceEach s h q

-- to a query that has ended each chunk of its need was delivered
abbrev pub EndedTookAll : Setting → History → Type 0
EndedTookAll s h = (q c : ℕ) → is_ended h q ≡ true → asks_for s q c ≡ true → has (chunks_delivered h q) c ≡ true

-- no query that has ended is stopped
abbrev pub EndedAreNotStopped : Setting → History → Type 0
EndedAreNotStopped s h = (q : ℕ) → is_ended h q ≡ true → is_stopped h q ≡ false
