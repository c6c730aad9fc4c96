-- What is read of a text, and the first line that stands in the way.
use Rattle.std.specs.Prelude.{◌≡◌, ◌≢◌, ◌==◌, ◌+◌, ◌^◌, ◌<◌, true, false, ℕ, Bool, List, [], ◌∷◌, ◌++◌, length, map}
use Rattle.std.specs.List.{AllByRecursion, slice_split}
use Rattle.scan_story.specs.declared.setting.Need.{Need}
use Rattle.setting_text.specs.declared.head.Head.{Head}
use Rattle.setting_text.specs.declared.plain.PlainSetting.{PlainSetting}
use Rattle.setting_text.specs.declared.fault.HeadRule.{HeadRule}
use Rattle.setting_text.specs.declared.fault.NeedRule.{NeedRule}
use Rattle.setting_text.specs.declared.fault.SettingFault.{SettingFault}
use Rattle.setting_text.specs.declared.fault.SettingFault.TheVariants as fault
use Rattle.setting_text.specs.Text.{head_line, need_line, setting_text}
use Rattle.setting_text.specs.Rules.{AreGood, IsGoodHead, KeepsHead, KeepsNeed}

-- numbers of a setting are of 32 bits

abbrev pub FitsHead : Head → Type 0
FitsHead h = (h.workers < 2 ^ 32) × (h.frames < 2 ^ 32) × (h.chunks < 2 ^ 32) × (h.groups < 2 ^ 32)

abbrev pub AreShort : List ℕ → Type 0
AreShort ns = AllByRecursion (λ (n : ℕ). n < 2 ^ 32) ns

abbrev pub FitsNeed : Need → Type 0
FitsNeed n = (n.query < 2 ^ 32) × (n.worker < 2 ^ 32) × AreShort n.chunks × AreShort n.columns

-- the lines of a text: what stands before each line end, and what behind the last
abbrev pub lines_of : List ℕ → List (List ℕ)
lines_of text = slice_split (λ (b : ℕ). b == 10) text

-- the first lines are those of queries, and these are left
pub record LeavesLines (lines : List (List ℕ)) (needs : List Need) (left : List (List ℕ)) : Type 0 where
  pub fit : AllByRecursion FitsNeed needs
  pub joined : lines ≡ map need_line needs ++ left

-- nothing is left behind the last line end
abbrev pub IsOver : List (List ℕ) → Type 0
IsOver left = left ≡ [] ∷ []

-- something is left, and it doesn't begin with a query's line and its end
pub record BeginsBadly (left : List (List ℕ)) : Type 0 where
  pub more : IsOver left → ⊥
  pub no_need : (n : Need) (next : List ℕ) (rest : List (List ℕ)) → FitsNeed n → left ≢ need_line n ∷ next ∷ rest

abbrev pub EndsSo : Bool → List (List ℕ) → Type 0
EndsSo true left = IsOver left
EndsSo false left = BeginsBadly left

-- the text begins with this first line and the lines of these queries, and these lines are left
pub record IsBegun (text : List ℕ) (h : Head) (needs : List Need) (left : List (List ℕ)) : Type 0 where
  pub head : FitsHead h
  pub fit : AllByRecursion FitsNeed needs
  pub joined : lines_of text ≡ head_line h ∷ (map need_line needs ++ left)

-- no text of a setting begins as this one
abbrev pub HasNoHead : List ℕ → Type 0
HasNoHead text =
    (h : Head) (next : List ℕ) (rest : List (List ℕ)) → FitsHead h → lines_of text ≢ head_line h ∷ next ∷ rest

-- the lines before the line with this number are those of queries that contradict nothing, and that line isn't one
pub record IsNoQueryAt (text : List ℕ) (line : ℕ) : Type 0 where
  pub head : Head
  pub needs : List Need
  pub left : List (List ℕ)
  pub begun : IsBegun text head needs left
  pub good_head : IsGoodHead head
  pub good : AreGood head needs
  pub number : length needs + 2 ≡ line
  pub bad : BeginsBadly left

-- the first line breaks the rule
pub record IsHeadBroken (text : List ℕ) (rule : HeadRule) : Type 0 where
  pub head : Head
  pub left : List (List ℕ)
  pub begun : IsBegun text head [] left
  pub broken : KeepsHead head rule → ⊥

-- the line with this number is a query's that breaks the rule; those before it contradict nothing
pub record IsBrokenAt (text : List ℕ) (line : ℕ) (rule : NeedRule) : Type 0 where
  pub head : Head
  pub before : List Need
  pub need : Need
  pub left : List (List ℕ)
  pub begun : IsBegun text head (before ++ need ∷ []) left
  pub good_head : IsGoodHead head
  pub good : AreGood head before
  pub number : length before + 2 ≡ line
  pub broken : KeepsNeed head before need rule → ⊥

-- what stands in the way is the first that does; out of memory may always be answered
abbrev pub IsRefusal : List ℕ → SettingFault → Type 0
IsRefusal text fault.NoHead = HasNoHead text
IsRefusal text (fault.Head rule) = IsHeadBroken text rule
IsRefusal text (fault.NoQuery line) = IsNoQueryAt text line
IsRefusal text (fault.Query line rule) = IsBrokenAt text line rule
IsRefusal text fault.Memory = Unit {0}

-- it is not that memory ran out
abbrev pub IsFault : SettingFault → Type 0
IsFault fault.Memory = ⊥
IsFault _ = Unit {0}

-- the text spells the setting, which contradicts nothing
pub record Spells (text : List ℕ) (p : PlainSetting) : Type 0 where
  pub fit_head : FitsHead p.head
  pub fit : AllByRecursion FitsNeed p.needs.items
  pub good_head : IsGoodHead p.head
  pub good : AreGood p.head p.needs.items
  pub text_is : text ≡ setting_text p.head p.needs.items
