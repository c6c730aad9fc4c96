-- What a setting that contradicts itself breaks, and the setting that is told.
use Rattle.std.specs.Prelude.{◌≡◌, ◌≢◌, ◌+◌, ◌*◌, ◌<◌, ◌≤◌, ◌⊎◌, ℕ, List, [], ◌∷◌, ◌++◌, Option, None, Some, length}
use Rattle.std.specs.List.{AllByRecursion}
use Rattle.scan_story.specs.declared.setting.Need.{Need}
use Rattle.scan_story.specs.declared.setting.Setting.{Setting}
use Rattle.scan_story.specs.declared.setting.PolicyName.{PolicyName}
use Rattle.scan_story.specs.declared.setting.PolicyName.TheVariants.{Relevance}
use Rattle.scan_story.specs.Setting.{AreColumns, AreDistinct, IsRising, first_cursor}
use Rattle.setting_text.specs.declared.head.Head.{Head}
use Rattle.setting_text.specs.declared.plain.PlainSetting.{PlainSetting}
use Rattle.setting_text.specs.declared.fault.HeadRule.{HeadRule}
use Rattle.setting_text.specs.declared.fault.HeadRule.TheVariants as head_rule
use Rattle.setting_text.specs.declared.fault.NeedRule.{NeedRule}
use Rattle.setting_text.specs.declared.fault.NeedRule.TheVariants as need_rule

-- where choices are free the name is any
abbrev pub policy_or : Option PolicyName → PolicyName
policy_or None = Relevance
policy_or (Some name) = name

-- THE SETTING of a first line and queries: the policy begins with its first cursor
abbrev pub setting_of : Head → List Need → Setting
setting_of h ns = record {
  needs = ns;
  chunks = h.chunks;
  workers = h.workers;
  frames = h.frames;
  groups = h.groups;
  policy = policy_or h.policy;
  cursor = first_cursor (policy_or h.policy);
}

-- the first line keeps the rule
abbrev pub KeepsHead : Head → HeadRule → Type 0
KeepsHead h head_rule.Workers = (1 ≤ h.workers) × (h.workers ≤ 32)
KeepsHead h head_rule.Chunks = h.chunks ≤ 1024
KeepsHead h head_rule.Groups = (1 ≤ h.groups) × (h.groups ≤ 16)
KeepsHead h head_rule.FewFrames = (3 * h.workers + 1) * h.groups ≤ h.frames
KeepsHead h head_rule.ManyFrames = h.frames ≤ 33554432

pub record IsGoodHead (h : Head) : Type 0 where
  pub workers : (1 ≤ h.workers) × (h.workers ≤ 32)
  pub chunks : h.chunks ≤ 1024
  pub groups : (1 ≤ h.groups) × (h.groups ≤ 16)
  pub room : (3 * h.workers + 1) * h.groups ≤ h.frames
  pub frames : h.frames ≤ 33554432

-- with one group columns are below 16, else below the groups
abbrev pub AreKnown : Head → Need → Type 0
AreKnown h n = AreColumns h.groups n.columns × AllByRecursion (λ (g : ℕ). g < 16) n.columns

-- the query keeps the rule, behind queries before it
abbrev pub KeepsNeed : Head → List Need → Need → NeedRule → Type 0
KeepsNeed h before n need_rule.Number = (1 ≤ n.query) × (n.query ≤ 256)
KeepsNeed h before n need_rule.Once = AllByRecursion (λ (m : Need). m.query ≢ n.query) before
KeepsNeed h before n need_rule.Worker = n.worker < h.workers
KeepsNeed h before n need_rule.ChunksRise = IsRising n.chunks
KeepsNeed h before n need_rule.Chunks = AllByRecursion (λ (c : ℕ). c < h.chunks) n.chunks
KeepsNeed h before n need_rule.ColumnsRise = IsRising n.columns
KeepsNeed h before n need_rule.Columns = AreKnown h n

pub record IsGoodNeed (h : Head) (n : Need) : Type 0 where
  pub query : (1 ≤ n.query) × (n.query ≤ 256)
  pub worker : n.worker < h.workers
  pub rising : IsRising n.chunks
  pub within : AllByRecursion (λ (c : ℕ). c < h.chunks) n.chunks
  pub columns_rise : IsRising n.columns
  pub columns : AreKnown h n

-- the queries contradict neither the first line nor each other
pub record AreGood (h : Head) (needs : List Need) : Type 0 where
  pub each : AllByRecursion (IsGoodNeed h) needs
  pub distinct : AreDistinct needs

-- the query at the place is the first that breaks a rule
pub record IsFirstBroken (h : Head) (needs : List Need) (place : ℕ) (rule : NeedRule) : Type 0 where
  pub before : List Need
  pub need : Need
  pub after : List Need
  pub joined : needs ≡ before ++ need ∷ after
  pub at_place : length before ≡ place
  pub good : AreGood h before
  pub broken : KeepsNeed h before need rule → ⊥
