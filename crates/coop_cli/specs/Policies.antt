-- The policies that the program hands in.
use Rattle.std.specs.Prelude.{List, [], ◌∷◌, map}
use Rattle.run_ends.specs.Policies.{PolicyAt, policy_at}
use Rattle.scan_story.specs.Setting.{first_cursor}
use Rattle.scan_story.specs.declared.setting.PolicyName.{PolicyName}
use Rattle.scan_story.specs.declared.setting.PolicyName.TheVariants.{Relevance, Elevator, Normal, Attach}

-- a policy with its first cursor
abbrev pub at_first : PolicyName → PolicyAt
at_first name = policy_at name (first_cursor name)

-- relevance, elevator, normal and attach, in this order
abbrev pub all_four : List PolicyAt
all_four = map at_first (Relevance ∷ Elevator ∷ Normal ∷ Attach ∷ [])
