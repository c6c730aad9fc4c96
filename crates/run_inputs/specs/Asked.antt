-- What the words of a call ask for.
use Rattle.std.specs.Prelude.{List, Option, String}
use Rattle.std.specs.declared.alloc.Global.{Global}
use Rattle.command_words.specs.Matched.{texts}
use Rattle.command_words.specs.Options.{Request, options_of}
use Rattle.command_words.specs.declared.call.Call.{Call}

-- what the words after the program's name ask for; none where they are refused
abbrev pub asked_of : Call → List (String Global) → Option Request
asked_of call words = options_of call (texts words)
