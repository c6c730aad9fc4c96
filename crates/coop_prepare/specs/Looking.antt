-- How a look ends.
use Rattle.std.specs.Prelude.{◌⊎◌, codes}
use Rattle.coop_prepare.specs.Replies.{IsFault, IsMemory, IsShown, IsText}
use Rattle.coop_prepare.specs.declared.reply.Reply.{Reply}

-- 9 where there are more than 256 MiB, 4 where the input can't be read, 7 out of memory
abbrev pub IsUnread : Reply → Type 0
IsUnread reply = IsText 9 reply ⊎ IsText 4 reply ⊎ IsMemory reply

-- 3 where a byte isn't of the encoding, 7 out of memory
abbrev pub IsUndecoded : Reply → Type 0
IsUndecoded reply = IsText 3 reply ⊎ IsMemory reply

-- 0 with the page, 3 where a byte isn't of the encoding, 9 past 2^62 records, 7 out of memory
abbrev pub IsLooked : Reply → Type 0
IsLooked reply = IsShown reply ⊎ IsText 3 reply ⊎ IsFault 9 (codes "stopped 9: too many records\n") reply
    ⊎ IsFault 7 (codes "stopped 7: memory\n") reply ⊎ IsMemory reply
