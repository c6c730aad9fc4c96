-- What of a setting is left to the story.
use Rattle.std.specs.Prelude.{◌==◌, ◌||◌, ℕ, List, [], ◌∷◌, Option, None, Some, is_none, map, nat_lt, if◌then◌else◌}
use Rattle.scan_story.specs.declared.entry.Entry.{Entry}
use Rattle.scan_story.specs.declared.entry.Entry.TheVariants.{Register}
use Rattle.scan_story.specs.declared.setting.Need.{Need}
use Rattle.scan_story.specs.declared.setting.PolicyName.{PolicyName}
use Rattle.scan_story.specs.declared.setting.Setting.{Setting}
use Rattle.setting_text.specs.Rules.{setting_of}
use Rattle.setting_text.specs.declared.head.Head.{Head}
use Rattle.inspect_referee.specs.declared.choices.Choices.{Choices}
use Rattle.inspect_referee.specs.declared.choices.Choices.TheVariants as choices
use Rattle.inspect_story.specs.declared.freedom.Freedom.{Freedom}

-- BY WHICH CHOICES a story is judged: those of the policy that the setting names, unless choices are left to the story
abbrev pub choices_of : Freedom → Option PolicyName → Choices
choices_of f policy = if f.choices || is_none policy then choices.Free else choices.OfPolicy

-- the worker on which an entry registers the query
abbrev pub worker_by : ℕ → Entry → Option ℕ
worker_by q (Register w r) = if r == q then Some w else None
worker_by q _ = None

abbrev pub or_later : Option ℕ → Option ℕ → Option ℕ
or_later None later = later
or_later (Some w) later = Some w

-- the worker on which entries register the query first
abbrev pub first_worker : List Entry → ℕ → Option ℕ
first_worker [] q = None
first_worker (e ∷ es) q = or_later (worker_by q e) (first_worker es q)

-- the first of two workers, where it is one of so many
abbrev pub worker_or : ℕ → Option ℕ → ℕ → ℕ
worker_or workers None own = own
worker_or workers (Some w) own = if nat_lt w workers then w else own

-- THE WORKER of a query: its need's, or, where dealing is left to the story, the one on which the story registers it
-- first
abbrev pub worker_for : Freedom → ℕ → List Entry → Need → ℕ
worker_for f workers es n = if f.dealing then worker_or workers (first_worker es n.query) n.worker else n.worker

abbrev pub on_worker : ℕ → Need → Need
on_worker w n = record { query = n.query; worker = w; chunks = n.chunks; columns = n.columns }

abbrev pub needs_for : Freedom → ℕ → List Entry → List Need → List Need
needs_for f workers es needs = map (λ (n : Need). on_worker (worker_for f workers es n) n) needs

-- THE SETTING in which a story is judged
abbrev pub setting_in : Freedom → Head → List Need → List Entry → Setting
setting_in f h needs es = setting_of h (needs_for f h.workers es needs)
