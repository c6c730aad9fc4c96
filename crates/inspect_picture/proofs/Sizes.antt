-- A story has no more entries than its text has bytes.
use Rattle.std.proofs.Common.{◌≤◌, ◌++◌, ◌∷◌, [], List, length, arith, length-append}
use Rattle.scan_story.specs.declared.entry.Entry.{Entry}
use Rattle.story_text.specs.Text.{entry_text, story_text}

pub entries_within : (es : List Entry) → length es ≤ length (story_text es)
entries_within [] = omega arith
entries_within (e ∷ es) =
    omega (arith, length-append (entry_text e ++ 10 ∷ []) (story_text es), length-append (entry_text e) (10 ∷ []), entries_within es)
