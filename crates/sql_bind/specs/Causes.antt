-- What a refusal says of its cause.
use Rattle.std.specs.Prelude.{◌≡◌, Option, Some, None, Result, Ok, Err}
use Rattle.sql_bind.specs.declared.refusal.BindRefusal.{BindRefusal}
use Rattle.sql_bind.specs.declared.refusal.BindRefusal.TheVariants as refusal

-- what is refused has this cause, unless memory ran out
abbrev pub IsCause : BindRefusal → Option BindRefusal → Type 0
IsCause refusal.Memory cause = Unit {0}
IsCause e cause = cause ≡ Some e

-- what passed has no cause, and what is refused has this cause, unless memory ran out
abbrev pub Judges : {A : Type 0} → Result A BindRefusal → Option BindRefusal → Type 0
Judges (Ok x) cause = cause ≡ None
Judges (Err e) cause = IsCause e cause
