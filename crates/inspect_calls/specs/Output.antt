-- The files OUTPUT, SETTING and STORY.
use Rattle.std.specs.Prelude.{◌≡◌, ◌<◌, ◌⊎◌, ℕ, List, length, codes}
use Rattle.coop_outside.specs.Held.{Held, Holds, Lacks, ReadFails}
use Rattle.inspect_calls.specs.Replies.{IsFault, IsMemory}
use Rattle.inspect_calls.specs.declared.file.File.{File}
use Rattle.inspect_calls.specs.declared.file.File.TheVariants as file
use Rattle.inspect_calls.specs.declared.output.TheConstants.{MOST_OUTPUT_BYTES}
use Rattle.inspect_calls.specs.declared.reply.Reply.{Reply}

-- a name was read as this text: as the one that the shelf tells, or as any where it tells nothing
pub record IsReadAs (held : Held) (name text : List ℕ) : Type 0 where
  pub told : (bytes : List ℕ) → Holds held name bytes → text ≡ bytes
  pub there : Lacks held name → ⊥

-- the name has more bytes than are read
pub record IsTooLong (held : Held) (name : List ℕ) : Type 0 where
  pub long : (bytes : List ℕ) → Holds held name bytes → MOST_OUTPUT_BYTES < length bytes
  pub there : Lacks held name → ⊥

-- the line where a file can't be read, and where it has more bytes than are read

abbrev pub fault_line : File → List ℕ
fault_line file.Output = codes "stopped 4: output read fault\n"
fault_line file.Setting = codes "stopped 4: setting read fault\n"
fault_line file.Story = codes "stopped 4: story read fault\n"

abbrev pub long_line : File → List ℕ
long_line file.Output = codes "stopped 9: output text too long\n"
long_line file.Setting = codes "stopped 9: setting text too long\n"
long_line file.Story = codes "stopped 9: story text too long\n"

-- what is said where a file isn't read: the shelf failed, or it is too long, or memory ran out
abbrev pub IsUnreadOf : File → Held → List ℕ → ℕ → ℕ → Reply → Type 0
IsUnreadOf of held name before now reply = (IsFault 4 (fault_line of) reply × ReadFails held name before now)
    ⊎ (IsFault 9 (long_line of) reply × IsTooLong held name)
    ⊎ IsMemory reply

abbrev pub IsUnread : Held → List ℕ → ℕ → ℕ → Reply → Type 0
IsUnread held name before now reply = IsUnreadOf file.Output held name before now reply
