-- The counts that the faults of a story name: none begins below the one that the last fault left.
use Rattle.std.specs.Prelude.{◌≡◌, ◌<◌, ◌≤◌, ◌-◌, ◌^◌, ℕ, false, List, [], ◌∷◌, length, get_or, take}
use Rattle.scan_story.specs.declared.entry.Entry.{Entry}
use Rattle.scan_story.specs.declared.entry.Entry.TheVariants.{Failed, Register}
use Rattle.scan_story.specs.declared.entry.Why.TheVariants.{Fault}
use Rattle.scan_story.specs.Causes.{Licensed, last_fault}
use Rattle.scan_story.specs.Views.{History, past}
use Rattle.inspect_story.specs.declared.falls.Fall.{Fall}

-- the failed reads are those of some depot: each fault has a rise of its own
abbrev pub IsLicensed : History → Type 0
IsLicensed h = Licensed false 0 (2 ^ 64 - 1) h

-- behind faults of which the last one left this count, the entry names none that begins below it
abbrev pub KeepsCount : ℕ → Entry → Type 0
KeepsCount last (Failed w q p (Fault before after)) = last ≤ before
KeepsCount last _ = Unit {0}

abbrev pub NeverFalls : History → Type 0
NeverFalls [] = Unit {0}
NeverFalls (e ∷ h) = KeepsCount (last_fault 0 h) e × NeverFalls h

abbrev pub FallsBelow : ℕ → Entry → Type 0
FallsBelow last (Failed w q p (Fault before after)) = before < last
FallsBelow last _ = ⊥

-- the entry at the place is the first whose fault begins below the count that the last one left
pub record IsFirstFall (es : List Entry) (fall : Fall) : Type 0 where
  pub there : fall.place < length es
  pub before : NeverFalls (past (take fall.place es))
  pub last : fall.last ≡ last_fault 0 (past (take fall.place es))
  pub falls : FallsBelow fall.last (get_or es fall.place (Register 0 0))
