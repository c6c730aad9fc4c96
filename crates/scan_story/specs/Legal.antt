-- Which histories are legal.
use Rattle.std.specs.Prelude.{ℕ, List, [], ◌∷◌}
use Rattle.scan_story.specs.declared.entry.Entry.{Entry}
use Rattle.scan_story.specs.declared.entry.Entry.TheVariants.{Plan, Evict, Deliver}
use Rattle.scan_story.specs.declared.setting.Setting.{Setting}
use Rattle.scan_story.specs.Views.{History}
use Rattle.scan_story.specs.MayFollow.{Allowed}
use Rattle.scan_story.specs.Policies.{BestQuery, BestLoad, BestDelivery, BestVictim, after_load, after_delivery}

-- the policy's cursor after the history: the first one, moved by each Plan and each Deliver
abbrev pub cursor_at : Setting → History → List ℕ
cursor_at s [] = s.cursor
cursor_at s (Plan w q c ∷ h) = after_load s.policy s (cursor_at s h) q c
cursor_at s (Deliver w q c ∷ h) = after_delivery s.policy (cursor_at s h) q c
cursor_at s (_ ∷ h) = cursor_at s h

-- what the entry takes is a choice of the setting's policy
abbrev pub Chosen : Setting → History → Entry → Type 0
Chosen s h (Plan w q c) = BestQuery s.policy (cursor_at s h) s h q × BestLoad s.policy (cursor_at s h) s h q c
Chosen s h (Deliver w q c) = BestDelivery s.policy (cursor_at s h) s h q c
Chosen s h (Evict w c) = BestVictim s.policy (cursor_at s h) s h c
Chosen s h _ = Unit {0}

-- each entry may follow those before it, and takes a choice of the policy
abbrev pub Legal : Setting → History → Type 0
Legal s [] = Unit {0}
Legal s (e ∷ h) = Allowed s h e × Chosen s h e × Legal s h
