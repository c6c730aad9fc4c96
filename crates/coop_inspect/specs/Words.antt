-- What is said where the words of the command line could not be had.
use Rattle.std.specs.Prelude.{◌⊎◌, codes}
use Rattle.std.specs.declared.io.ErrorKind.{ErrorKind}
use Rattle.std.specs.declared.io.ErrorKind.TheVariants as kind
use Rattle.inspect_calls.specs.Replies.{IsFault, IsMemory}
use Rattle.inspect_calls.specs.declared.reply.Reply.{Reply}

-- a word that isn't UTF-8 is a faulty command line, and all else is out of memory
abbrev pub IsUnreadFor : ErrorKind → Reply → Type 0
IsUnreadFor kind.InvalidData reply = IsFault 2 (codes "error: a word is not UTF-8\n") reply ⊎ IsMemory reply
IsUnreadFor _ reply = IsMemory reply
