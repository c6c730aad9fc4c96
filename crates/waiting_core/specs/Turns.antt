-- What an entry of one worker changes of another's query: what a step of the machine asks of a turn.
use Rattle.std.specs.Prelude.{◌≡◌, ◌≤◌, ◌∷◌, ◌||◌, true, false, ℕ, Bool}
use Rattle.scan_story.specs.declared.entry.Entry.{Entry}
use Rattle.scan_story.specs.declared.entry.Entry.TheVariants.{Filled}
use Rattle.scan_story.specs.declared.setting.Setting.{Setting}
use Rattle.scan_story.specs.Numbers.{available}
use Rattle.scan_story.specs.Views.{History, ends, is_active, registers, stops}

abbrev pub is_filled : Entry → Bool
is_filled (Filled w f p) = true
is_filled _ = false

-- it registers the query, stops it or ends it
abbrev pub names : ℕ → Entry → Bool
names q e = registers q e || (stops q e || ends q e)

-- an entry other than a Filled makes no chunk available
abbrev pub LoadsAloneBringChunks : Type 0
LoadsAloneBringChunks = (s : Setting) (h : History) (e : Entry) (q : ℕ) → is_filled e ≡ false
    → available s (e ∷ h) q ≤ available s h q

-- an entry that doesn't name the query leaves it active or not
abbrev pub OthersStayActive : Type 0
OthersStayActive = (h : History) (e : Entry) (q : ℕ) → names q e ≡ false → is_active (e ∷ h) q ≡ is_active h q
