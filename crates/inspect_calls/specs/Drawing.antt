-- What is said to `draw`.
use Rattle.std.specs.Prelude.{◌≡◌, ◌≤◌, ◌⊎◌, ◌++◌, ℕ, false, List, [], Option, Some, None, codes, decimal, length}
use Rattle.coop_outside.specs.Held.{Held}
use Rattle.story_text.specs.Text.{story_text}
use Rattle.scan_story.specs.declared.entry.Entry.{Entry}
use Rattle.inspect_page.specs.Page.{page}
use Rattle.inspect_picture.specs.Svg.{picture_part}
use Rattle.inspect_picture.specs.Groups.{IsLeastGroups, fills_agree}
use Rattle.inspect_picture.specs.Trace.{IsBadLine, trace}
use Rattle.inspect_picture.specs.declared.view.View.{View}
use Rattle.inspect_words.specs.declared.form.Form.{Form}
use Rattle.inspect_words.specs.declared.form.Form.TheVariants.{Page, Picture}
use Rattle.inspect_words.specs.declared.window.Window.{Window}
use Rattle.inspect_calls.specs.Output.{IsReadAs, IsUnread}
use Rattle.inspect_calls.specs.Replies.{IsAnswer, IsFault, IsMemory}
use Rattle.inspect_calls.specs.Showing.{IsPastEnd, behind_of, view_of}
use Rattle.inspect_calls.specs.declared.reply.Reply.{Reply}
use Rattle.inspect_calls.specs.declared.showing.Behind.{Behind}

abbrev pub no_trace_line : List ℕ
no_trace_line = codes "stopped 3: no trace in the output\n"

abbrev pub no_entry_line : ℕ → List ℕ
no_entry_line line = codes "stopped 3: line " ++ (decimal line ++ codes " of the output is no entry\n")

-- this line of OUTPUT is no entry, and it is told; or memory ran out
abbrev pub IsNoEntry : ℕ → Reply → Type 0
IsNoEntry line reply = IsFault 3 (no_entry_line line) reply ⊎ IsMemory reply

-- a chunk has the least number of pieces by which the loads agree, or 1 where they agree by none
abbrev pub AgreeByNone : List Entry → Type 0
AgreeByNone entries = (g : ℕ) → 1 ≤ g → g ≤ 16 → fills_agree g 0 entries ≡ false

abbrev pub IsGroupsIn : List Entry → ℕ → Type 0
IsGroupsIn entries groups = IsLeastGroups entries groups ⊎ ((groups ≡ 1) × AgreeByNone entries)

-- the entries of a story in this view, as a picture, or as a page with it
abbrev pub drawn_as : Form → ℕ → View → List Entry → List ℕ
drawn_as Picture groups v entries = picture_part groups v.from v.to entries
drawn_as Page groups v entries = page groups v.from v.to entries

-- a story, or some of its entries, is drawn
pub record IsDrawingOf (f : Form) (v : View) (entries : List Entry) (reply : Reply) : Type 0 where
  pub groups : ℕ
  pub groups_are : IsGroupsIn entries groups
  pub answer : IsAnswer 0 (drawn_as f groups v entries) reply

abbrev pub IsPartDrawn : Form → View → List Entry → Reply → Type 0
IsPartDrawn f v entries reply = IsDrawingOf f v entries reply ⊎ IsMemory reply

-- a word names an entry behind the last one, or what is asked for is drawn
abbrev pub IsDrawnBy : Form → Window → List Entry → Option Behind → Reply → Type 0
IsDrawnBy f w entries (Some b) reply = IsPastEnd b (length entries) reply
IsDrawnBy f w entries None reply = IsPartDrawn f (view_of w (length entries)) entries reply

abbrev pub IsDrawnAs : Form → Window → List Entry → Reply → Type 0
IsDrawnAs f w entries reply = IsDrawnBy f w entries (behind_of w (length entries)) reply

-- the trace at the end of a text is this story's
pub record IsOfStory (f : Form) (w : Window) (text : List ℕ) (reply : Reply) : Type 0 where
  pub entries : List Entry
  pub story : trace text ≡ story_text entries
  pub drawn : IsDrawnAs f w entries reply

-- there is no trace
pub record LacksTrace (text : List ℕ) (reply : Reply) : Type 0 where
  pub none : trace text ≡ []
  pub told : IsFault 3 no_trace_line reply ⊎ IsMemory reply

-- it is no story's, since this line is no entry
pub record IsOfNoStory (text : List ℕ) (reply : Reply) : Type 0 where
  pub line : ℕ
  pub bad : IsBadLine text line
  pub told : IsNoEntry line reply

-- what is said of the text of OUTPUT
abbrev pub IsDrawn : Form → Window → List ℕ → Reply → Type 0
IsDrawn f w text reply = IsOfStory f w text reply ⊎ LacksTrace text reply ⊎ IsOfNoStory text reply ⊎ IsMemory reply

-- OUTPUT was read as some text, and what is said is of it
pub record IsOfText (f : Form) (w : Window) (held : Held) (name : List ℕ) (reply : Reply) : Type 0 where
  pub text : List ℕ
  pub read : IsReadAs held name text
  pub drawn : IsDrawn f w text reply

-- WHAT IS SAID to `draw`
abbrev pub IsDrawing : Form → Window → Held → List ℕ → ℕ → ℕ → Reply → Type 0
IsDrawing f w held name before now reply = IsOfText f w held name reply ⊎ IsUnread held name before now reply
