use Rattle.std.proofs.Common.{◌≡◌, ◌≤◌, ◌<◌, ℕ, false}
use Rattle.inspect_picture.specs.Groups.{fills_agree}
use Rattle.inspect_picture.proofs.groups.groups_of.Given as goal

abbrev pub invariant-loop-groups : goal.invariant-loop-groups
invariant-loop-groups l = (g : ℕ) → 1 ≤ g → g < l.groups → fills_agree g 0 l.entries ≡ false
