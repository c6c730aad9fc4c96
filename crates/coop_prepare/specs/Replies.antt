-- What is said.
use Rattle.std.specs.Prelude.{◌≡◌, ◌⊎◌, ℕ, true, false, List, [], codes}
use Rattle.std.specs.declared.io.ErrorKind.{ErrorKind}
use Rattle.std.specs.declared.io.ErrorKind.TheVariants as kind
use Rattle.prepare_words.specs.Refusals.{is_fault, status_of}
use Rattle.prepare_words.specs.declared.refused.Refused.{Refused}
use Rattle.coop_prepare.specs.declared.reply.Reply.{Reply}

-- some text on standard error, and this status
pub record IsText (wanted : ℕ) (reply : Reply) : Type 0 where
  pub ends : reply.status ≡ wanted
  pub err : reply.is_fault ≡ true

-- this line on standard error, and this status
pub record IsFault (wanted : ℕ) (line : List ℕ) (reply : Reply) : Type 0 where
  pub says : reply.text.items ≡ line
  pub text : IsText wanted reply

-- some text on standard output, and status 0
pub record IsShown (reply : Reply) : Type 0 where
  pub ends : reply.status ≡ 0
  pub out : reply.is_fault ≡ false

-- out of memory: 7, without a text
abbrev pub IsMemory : Reply → Type 0
IsMemory reply = IsFault 7 [] reply

-- a word that isn't UTF-8 is a faulty command line, and all else is out of memory
abbrev pub IsUnreadFor : ErrorKind → Reply → Type 0
IsUnreadFor kind.InvalidData reply = IsFault 2 (codes "error: a word is not UTF-8\n") reply ⊎ IsMemory reply
IsUnreadFor _ reply = IsMemory reply

-- help or the version on standard output with status 0, or what is wrong with the words on standard error
pub record IsToldBy (refused : Refused) (reply : Reply) : Type 0 where
  pub ends : reply.status ≡ status_of refused
  pub goes : reply.is_fault ≡ is_fault refused

abbrev pub IsRefusal : Refused → Reply → Type 0
IsRefusal refused reply = IsToldBy refused reply ⊎ IsMemory reply
