-- What is read of the text of a story.
use Rattle.std.specs.Prelude.{◌≡◌, true, false, ℕ, Bool, List, [], ◌++◌, Result, Ok, Err}
use Rattle.std.specs.List.{AllByRecursion}
use Rattle.std.specs.declared.vec.Vec.{Vec}
use Rattle.std.specs.declared.alloc.Global.{Global}
use Rattle.story_text.specs.Reading.{BeginsBadly, Fits}
use Rattle.story_text.specs.Text.{story_text}
use Rattle.scan_story.specs.declared.entry.Entry.{Entry}

-- the story is read, and no line is refused
abbrev pub TellsStory : List Entry → Result (Vec Entry Global) ℕ → Type 0
TellsStory story (Ok es) = es.items ≡ story
TellsStory story (Err line) = ⊥

-- nothing is left behind entries, or what begins with no entry's line
abbrev pub EndsSo : Bool → List ℕ → Type 0
EndsSo true rest = rest ≡ []
EndsSo false rest = BeginsBadly rest

-- a text begins with the lines of these entries, and behind them it ends, or goes on with what is no entry's line
pub record BeginsWith (text : List ℕ) (es : List Entry) (is_whole : Bool) : Type 0 where
  pub fit : AllByRecursion Fits es
  pub rest : List ℕ
  pub joined : text ≡ story_text es ++ rest
  pub ends : EndsSo is_whole rest

-- it begins with these and no others: where it is a story's text, it is that of just these
pub record IsBegun (text : List ℕ) (es : List Entry) (is_whole : Bool) : Type 0 where
  pub begins : BeginsWith text es is_whole
  pub only : (story : List Entry) → AllByRecursion Fits story → text ≡ story_text story
      → (is_whole ≡ true) × (es ≡ story)
