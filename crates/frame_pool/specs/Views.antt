-- What a berth knows of the pool: the frames that it pins, each with its piece, and the frame that it fills.
use Rattle.std.specs.Prelude.{ℕ, ◌+◌, ◌==◌, Bool, true, false, if◌then◌else◌, List, [], ◌∷◌, ◌++◌, Option, Some, None}
use Rattle.frame_pool.specs.declared.geometry.Geometry.{Geometry}
use Rattle.frame_pool.specs.declared.view.Pin.{Pin}
use Rattle.frame_pool.specs.declared.view.Fill.{Fill}
use Rattle.frame_pool.specs.declared.view.Duty.{Duty}

abbrev pub duty : Geometry → List Pin → Option Fill → Duty
duty shape pins fill = record { shape = shape; pins = pins; fill = fill }

-- no pin and no fill
abbrev pub blank : Geometry → Duty
blank shape = duty shape [] None

-- the view of a berth that was given back
abbrev pub spent : Duty
spent = blank (let z : Geometry = record { frames = 0; words = 0 } in z)

abbrev pub pin : ℕ → ℕ → Pin
pin f p = record { frame = f; piece = p }

-- a fill of the frame f with the words put so far
abbrev pub filling : ℕ → List ℕ → Fill
filling f ws = record { frame = f; words = ws }

-- the fill after one word more was put
abbrev pub grown : ℕ → Option Fill → Option Fill
grown x None = None
grown x (Some f) = Some (filling f.frame (f.words ++ x ∷ []))

-- the piece with which the frame f is pinned
abbrev pub pinned : ℕ → List Pin → Option ℕ
pinned f [] = None
pinned f (x ∷ xs) = if x.frame == f then Some x.piece else pinned f xs

-- the pins without those of the frame f
abbrev pub unpinned : ℕ → List Pin → List Pin
unpinned f [] = []
unpinned f (x ∷ xs) = if x.frame == f then unpinned f xs else x ∷ unpinned f xs

-- a number of each view, added up
abbrev pub total : (Duty → ℕ) → List Duty → ℕ
total h [] = 0
total h (v ∷ vs) = h v + total h vs

abbrev pub one_if : Bool → ℕ
one_if true = 1
one_if false = 0

abbrev pub one_some : Option ℕ → ℕ
one_some None = 0
one_some (Some p) = 1

abbrev pub one_fill : ℕ → Option Fill → ℕ
one_fill f None = 0
one_fill f (Some x) = one_if (x.frame == f)

-- 1 where the berth pins the frame f
abbrev pub pins_on : ℕ → Duty → ℕ
pins_on f v = one_some (pinned f v.pins)

-- 1 where the berth fills the frame f
abbrev pub fills_on : ℕ → Duty → ℕ
fills_on f v = one_fill f v.fill
