-- Replies.
use Rattle.std.specs.Prelude.{◌≡◌, ◌⊎◌, ℕ, true, false, List, []}
use Rattle.run_stops.specs.Stops.{line_of, status_of}
use Rattle.run_stops.specs.declared.stop.Stop.{Stop}
use Rattle.inspect_calls.specs.declared.reply.Reply.{Reply}

-- this text on standard output, and this status
pub record IsAnswer (wanted : ℕ) (text : List ℕ) (reply : Reply) : Type 0 where
  pub says : reply.text.items ≡ text
  pub ends : reply.status ≡ wanted
  pub out : reply.is_fault ≡ false

-- this line on standard error, and this status
pub record IsFault (wanted : ℕ) (line : List ℕ) (reply : Reply) : Type 0 where
  pub says : reply.text.items ≡ line
  pub ends : reply.status ≡ wanted
  pub err : reply.is_fault ≡ true

-- out of memory: 7, without a text
abbrev pub IsMemory : Reply → Type 0
IsMemory reply = IsFault 7 [] reply

-- what coop_cli says of a table or a batch that it refuses, on standard error; or out of memory
abbrev pub IsStop : Stop → Reply → Type 0
IsStop stop reply = IsFault (status_of stop) (line_of stop) reply ⊎ IsMemory reply
