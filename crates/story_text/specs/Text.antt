-- The text of a story.
use Rattle.std.specs.Prelude.{ℕ, List, [], ◌∷◌, ◌++◌, codes, decimal}
use Rattle.std.specs.List.{flat_map}
use Rattle.scan_story.specs.declared.entry.Why.{Why}
use Rattle.scan_story.specs.declared.entry.Why.TheVariants.{Fault, Damage}
use Rattle.scan_story.specs.declared.entry.Entry.{Entry}
use Rattle.scan_story.specs.declared.entry.Entry.TheVariants.{Register, Plan, Evict, Fill, Filled}
use Rattle.scan_story.specs.declared.entry.Entry.TheVariants.{Failed, Deliver, Release, Stop, End}

-- a word and two numbers, with one space between
abbrev pub with_two : List ℕ → ℕ → ℕ → List ℕ
with_two word a b = word ++ (decimal a ++ (codes " " ++ decimal b))

abbrev pub with_three : List ℕ → ℕ → ℕ → ℕ → List ℕ
with_three word a b c = word ++ (decimal a ++ (codes " " ++ (decimal b ++ (codes " " ++ decimal c))))

abbrev pub why_text : Why → List ℕ
why_text (Fault before after) = with_two (codes "fault ") before after
why_text (Damage word) = codes "damage " ++ decimal word

abbrev pub entry_text : Entry → List ℕ
entry_text (Register w q) = with_two (codes "register ") w q
entry_text (Plan w q c) = with_three (codes "plan ") w q c
entry_text (Evict w c) = with_two (codes "evict ") w c
entry_text (Fill w f p) = with_three (codes "fill ") w f p
entry_text (Filled w f p) = with_three (codes "filled ") w f p
entry_text (Failed w q p why) = with_two (codes "failed ") w q
    ++ (codes " " ++ (decimal p ++ (codes " " ++ why_text why)))
entry_text (Deliver w q c) = with_three (codes "deliver ") w q c
entry_text (Release w q c) = with_three (codes "release ") w q c
entry_text (Stop w q) = with_two (codes "stop ") w q
entry_text (End w q) = with_two (codes "end ") w q

-- a line for each entry
abbrev pub story_text : List Entry → List ℕ
story_text entries = flat_map (λ e. entry_text e ++ 10 ∷ []) entries
