use Rattle.std.proofs.Common.{◌≡◌, ◌+◌, ◌-◌, ◌≤◌, length, drop}
use Rattle.std.specs.List.{prefix_len}
use Rattle.sql_tokens.specs.Classes.{is_in}
use Rattle.sql_tokens.specs.declared.class.Class.TheVariants as class
use Rattle.inspect_places.proofs.runs.white_len.Given as goal

abbrev pub invariant-loop-end : goal.invariant-loop-end
invariant-loop-end l =
    (l.end + prefix_len (is_in class.White) (drop l.end l.bytes) ≡ prefix_len (is_in class.White) l.bytes) × (l.end ≤ length l.bytes)

abbrev pub decreases-loop-end : goal.decreases-loop-end
decreases-loop-end l = length l.bytes - l.end
