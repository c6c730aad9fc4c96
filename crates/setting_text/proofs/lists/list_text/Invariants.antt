use Rattle.std.proofs.Common.{◌≡◌, ◌++◌, ◌∷◌, ℕ}
use Rattle.std.specs.Prelude.{decimal}
use Rattle.std.specs.List.{flat_map}
use Rattle.std.specs.String.{string_bytes}
use Rattle.setting_text.specs.Text.{list_text}
use Rattle.setting_text.proofs.lists.list_text.Given as goal

abbrev pub invariant-loop-n : goal.invariant-loop-n
invariant-loop-n l = string_bytes l.text ++ flat_map (λ (m : ℕ). 44 ∷ decimal m) l.n-iterator ≡ list_text l.list
