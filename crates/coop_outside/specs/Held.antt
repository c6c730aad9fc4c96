-- What a shelf tells of the bytes under each name, and what a read gives of them.
use Rattle.std.specs.Prelude.{◌≡◌, ◌≤◌, ◌<◌, ◌⊎◌, ℕ, List, length, take, drop, Option, Some}
use Rattle.std.specs.Prelude.{None, option_map, Result, Ok, Err, ⊤, Bool, MatchBool, ◌+◌}
use Rattle.coop_outside.specs.Causes.{Rose}
use Rattle.coop_outside.specs.declared.failed.Failed.{Failed}

-- the bytes of each name, where a shelf tells them
abbrev pub Held : Type 0
Held = Option (List ℕ → Option (List ℕ))

-- what is told of one name: nothing, or whether it is held, and its bytes
abbrev pub told : Held → List ℕ → Option (Option (List ℕ))
told held name = option_map (λ files. files name) held

-- the shelf tells that it holds these bytes under the name
abbrev pub Holds : Held → List ℕ → List ℕ → Type 0
Holds held name bytes = told held name ≡ Some (Some bytes)

-- the shelf tells what it holds, and lacks the name
abbrev pub Lacks : Held → List ℕ → Type 0
Lacks held name = told held name ≡ Some None

-- what a read at a place gives
abbrev pub ReadsAt : Held → List ℕ → ℕ → Result ℕ Failed → List ℕ → Type 0
ReadsAt held name place (Ok n) buf = (n ≤ length buf)
    × (Lacks held name → ⊥)
    × ((bytes : List ℕ) → Holds held name bytes → (take n buf ≡ take n (drop place bytes))
    × (n ≡ 0 → 0 < length buf → length bytes ≤ place))
ReadsAt held name place (Err e) buf = ⊤

-- how many bytes a read gave
abbrev pub count_of : Result ℕ Failed → ℕ
count_of (Ok n) = n
count_of (Err e) = 0

-- a read fails only where the count rose, or where the shelf tells that it lacks the name
abbrev pub ReadFails : Held → List ℕ → ℕ → ℕ → Type 0
ReadFails held name before now = Rose before now ⊎ Lacks held name

-- at most so many bytes of the name now stand behind those that were there before, or it ends there
abbrev pub ReadsMore : Held → List ℕ → ℕ → Bool → List ℕ → List ℕ → Type 0
ReadsMore held name room some old new = (Lacks held name → ⊥) × (length new ≤ length old + room)
    × MatchBool some (length old < length new) (new ≡ old)
    × ((bytes : List ℕ) → Holds held name bytes → old ≡ take (length old) bytes → (new ≡ take (length new) bytes)
    × MatchBool some ⊤ (length bytes ≤ length old))
