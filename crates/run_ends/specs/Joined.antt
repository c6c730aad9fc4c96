-- The stories of several runs.
use Rattle.std.specs.Prelude.{◌++◌, List, [], ◌∷◌}
use Rattle.scan_story.specs.declared.entry.Entry.{Entry}
use Rattle.run_ends.specs.declared.policy_run.PolicyRun.{PolicyRun}

-- the stories of runs joined in their order, the oldest entry first
abbrev pub joined_story : List PolicyRun → List Entry
joined_story [] = []
joined_story (run ∷ runs) = run.story.items ++ joined_story runs
