-- The profile of a column can be written.
use Rattle.std.proofs.Common.{ℕ, List}
use Rattle.std.specs.Prelude.{Option, Some, None}
use Rattle.table_core.specs.Value.{Value}
use Rattle.table_core.specs.declared.schema.Kind.{Kind}
use Rattle.inspect_notes.specs.declared.reason.Reason.{Reason}
use Rattle.inspect_notes.specs.declared.reason.Reason.TheVariants.{Strangers, Mixed}
use Rattle.inspect_notes.specs.Reasons.{IsReason}
use Rattle.inspect_notes.specs.Written.{IsReasonOf}

pub reason_coded : (kind : Kind) (dict : List (List ℕ)) (values : List Value) (reason : Option Reason) → IsReason kind dict values reason → IsReasonOf dict reason
reason_coded kind dict values None is = tt
reason_coded kind dict values (Some (Strangers row code count)) is = is.1.coded
reason_coded kind dict values (Some Mixed) is = tt
