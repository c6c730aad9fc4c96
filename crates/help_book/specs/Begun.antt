-- Whether a load has begun a fill.
use Rattle.std.specs.Prelude.{Bool, false, Option, None, Some, length, nat_lt}
use Rattle.scan_story.specs.declared.view.Load.{Load}

abbrev pub begins_some : Option Load → Bool
begins_some None = false
begins_some (Some l) = nat_lt 0 (length l.begun)
