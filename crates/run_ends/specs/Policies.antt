-- The policies that are compared.
use Rattle.std.specs.Prelude.{ℕ, List}
use Rattle.scan_story.specs.declared.setting.PolicyName.{PolicyName}

-- a policy as it is handed in: its name and its first cursor
pub record PolicyAt : Type 0 where
  pub name : PolicyName
  pub cursor : List ℕ

abbrev pub policy_at : PolicyName → List ℕ → PolicyAt
policy_at name cursor = record { name = name; cursor = cursor }
