-- The line of a policy's run, and those of several.
use Rattle.std.specs.Prelude.{◌≡◌, ◌<◌, ◌+◌, ◌++◌, true, ℕ, List, [], ◌∷◌, codes, if◌then◌else◌}
use Rattle.run_output.specs.Counts.{policy_line}
use Rattle.scan_story.specs.Spent.{deliveries, reads}
use Rattle.scan_story.specs.Views.{History, is_stopped, past}
use Rattle.scan_story.specs.declared.entry.Entry.TheVariants.{Failed, Stop}
use Rattle.scan_story.specs.declared.setting.PolicyName.{PolicyName}
use Rattle.scan_story.specs.declared.setting.PolicyName.TheVariants.{Relevance, Elevator, Normal, Attach}
use Rattle.run_ends.specs.Counts.{evictions}
use Rattle.run_ends.specs.declared.policy_run.PolicyRun.{PolicyRun}

-- a policy's name in small letters
abbrev pub name_text : PolicyName → List ℕ
name_text Relevance = codes "relevance"
name_text Elevator = codes "elevator"
name_text Normal = codes "normal"
name_text Attach = codes "attach"

-- how many scans a history stopped: each counts where it is stopped first
abbrev pub stops : History → ℕ
stops [] = 0
stops (Stop w q ∷ h) = if is_stopped h q then stops h else stops h + 1
stops (Failed w q p why ∷ h) = if is_stopped h q then stops h else stops h + 1
stops (_ ∷ h) = stops h

-- each scan that a history stopped has a number below 1024
abbrev pub AreSmall : History → Type 0
AreSmall h = (q : ℕ) → is_stopped h q ≡ true → q < 1024

-- the line of a name and a history: the Filled and Failed, the Evict and the Deliver entries, and the scans that were
-- stopped
abbrev pub counted : PolicyName → History → List ℕ
counted name h = policy_line (name_text name) (reads h) (evictions h) (deliveries h) (stops h)

-- THE LINE OF A RUN
abbrev pub line_of : PolicyRun → List ℕ
line_of run = counted run.name (past run.story.items)

-- THE LINES of runs, in their order
abbrev pub lines_of : List PolicyRun → List ℕ
lines_of [] = []
lines_of (run ∷ runs) = line_of run ++ lines_of runs
