-- Entries that are no pick.
use Rattle.scan_story.specs.declared.entry.Entry.{Entry}
use Rattle.scan_story.specs.declared.entry.Entry.TheVariants.{Register, Release, Stop, End}

-- the entry takes no choice of the policy, and touches neither a load nor the depot
abbrev pub IsPlain : Entry → Type 0
IsPlain (Register w q) = Unit {0}
IsPlain (Release w q c) = Unit {0}
IsPlain (Stop w q) = Unit {0}
IsPlain (End w q) = Unit {0}
IsPlain _ = ⊥
