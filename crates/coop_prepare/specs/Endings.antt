-- How a preparation ends.
use Rattle.std.specs.Prelude.{◌⊎◌, Option, Some, None, codes}
use Rattle.prepare_auto.specs.declared.stop.Stop.{Stop}
use Rattle.prepare_rules.specs.declared.cause.Refusal.{Refusal}
use Rattle.prepare_rules.specs.declared.failure.Failure.{Failure}
use Rattle.prepare_rules.specs.declared.failure.Failure.TheVariants as failure
use Rattle.coop_prepare.specs.Replies.{IsFault, IsMemory, IsText}
use Rattle.coop_prepare.specs.declared.reply.Reply.{Reply}

-- 0 where all records are written, and 3 where one is refused; what is told goes to standard error
abbrev pub IsEnded : Option Refusal → Reply → Type 0
IsEnded None reply = IsText 0 reply ⊎ IsMemory reply
IsEnded (Some refusal) reply = IsText 3 reply ⊎ IsMemory reply

-- 4 where the export can't be read, 6 where standard output failed, 7 out of memory, 9 past 2^62 records
abbrev pub IsBroken : Failure → Reply → Type 0
IsBroken failure.Input reply = IsText 4 reply ⊎ IsMemory reply
IsBroken failure.Output reply = IsFault 6 (codes "stopped 6: standard output takes no more\n") reply ⊎ IsMemory reply
IsBroken failure.TooLong reply = IsFault 9 (codes "stopped 9: too many records\n") reply ⊎ IsMemory reply
IsBroken failure.Memory reply = IsFault 7 (codes "stopped 7: memory\n") reply ⊎ IsMemory reply

-- 0 where all records are written by the rules of a look, which are told; 3 where records seem to stand above the
-- table, or one is refused
abbrev pub IsGuessed : Option Stop → Reply → Type 0
IsGuessed None reply = IsText 0 reply ⊎ IsMemory reply
IsGuessed (Some stop) reply = IsText 3 reply ⊎ IsMemory reply
