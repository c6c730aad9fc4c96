-- What a run is to do that is handed policies in boxes.
use Rattle.std.specs.Prelude.{Bool, true, false, List, [], ◌∷◌, Option, Some, None, if◌then◌else◌}
use Rattle.command_words.specs.Options.{Request}
use Rattle.run_ends.specs.Policies.{PolicyAt}
use Rattle.scan_story.specs.declared.setting.PolicyName.{PolicyName}
use Rattle.scan_story.specs.declared.setting.PolicyName.TheVariants.{Relevance, Elevator, Normal, Attach}

-- nothing; to run with one policy; or to compare policies
pub data Job : Type 0 where
  refused : Job
  alone : Request → PolicyAt → Job
  compared : Request → List PolicyAt → Job

abbrev pub is_named : PolicyName → PolicyName → Bool
is_named Relevance Relevance = true
is_named Elevator Elevator = true
is_named Normal Normal = true
is_named Attach Attach = true
is_named _ _ = false

-- the first policy of a name
abbrev pub first_named : PolicyName → List PolicyAt → Option PolicyAt
first_named wanted [] = None
first_named wanted (p ∷ ps) = if is_named wanted p.name then Some p else first_named wanted ps

abbrev pub alone_with : Request → Option PolicyAt → Job
alone_with r None = refused
alone_with r (Some p) = alone r p

-- THE JOB that words and policies give: to compare all policies, or to run with the first one of the name that the
-- words ask for; nothing where the words are refused, and where no policy has the name
abbrev pub job_of : List PolicyAt → Option Request → Job
job_of policies None = refused
job_of policies (Some r) = if r.compare then compared r policies else alone_with r (first_named r.policy policies)

-- what is asked, where there is something to do
abbrev pub asked_in : Job → Option Request
asked_in refused = None
asked_in (alone r p) = Some r
asked_in (compared r ps) = Some r

-- what is asked where a table and a batch are read: with no policy to compare none is
abbrev pub asked_to_read : Job → Option Request
asked_to_read refused = None
asked_to_read (alone r p) = Some r
asked_to_read (compared r []) = None
asked_to_read (compared r (p ∷ ps)) = Some r
