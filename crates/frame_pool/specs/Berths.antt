-- A pool and a berth as contracts see them, and what the calls make of them.
use Rattle.std.specs.Prelude.{◌≡◌, ◌≢◌, ℕ, ◌+◌, ◌*◌, ◌<◌, ◌≤◌, List, [], ◌∷◌, length, slice_get, Option, Some, None}
use Rattle.atomic_table.specs.Table.{Me}
use Rattle.atomic_table.specs.Seated.{TableId}
use Rattle.frame_pool.specs.declared.geometry.Geometry.{Geometry}
use Rattle.frame_pool.specs.declared.view.Pin.{Pin}
use Rattle.frame_pool.specs.declared.view.Fill.{Fill}
use Rattle.frame_pool.specs.declared.view.Duty.{Duty}
use Rattle.frame_pool.specs.declared.berth.Progress.{Progress}
use Rattle.frame_pool.specs.Views.{filling, pin, pinned, unpinned, grown}
use Rattle.frame_pool.specs.Frames.{Told}

-- a pool: its table, its shape and the number of its berths
pub record PoolView : Type 0 where
  pub pool : TableId
  pub shape : Geometry
  pub berths : ℕ

-- a berth: its pool, what it pins, and what it fills
pub record BerthView : Type 0 where
  pub pool : TableId
  pub shape : Geometry
  pub pins : List Pin
  pub fill : Option Fill

-- 1 to 2^25 frames, and at most 2^25 data words in all
abbrev pub IsAllowed : Geometry → Type 0
IsAllowed z = (0 < z.frames) × (z.frames ≤ 33554432) × (z.frames * z.words ≤ 33554432)

-- the table of a pool of this shape
pub record IsLaid (t : TableId) (key z : Geometry) : Type 0 where
  pub wide : t.words ≡ z.frames + z.frames * z.words
  pub key_is : key ≡ z
  pub allowed : IsAllowed z

abbrev pub berth_view : TableId → Duty → BerthView
berth_view t v = record { pool = t; shape = v.shape; pins = v.pins; fill = v.fill }

-- what the berth keeps in memory of its fill
abbrev pub Matches : Geometry → Option Progress → Option Fill → Type 0
Matches z None fill = fill ≡ None
Matches z (Some p) fill = (words : List ℕ) × (fill ≡ Some (filling p.frame words)) × (p.count ≡ length words)
    × (p.frame < z.frames)

abbrev pub IsOpen : Me (Unit {0}) Duty → Option Progress → Type 0
IsOpen me progress = Matches me.0.shape progress me.0.fill × (me.1 ≡ [])

-- the berth is the pool's
abbrev pub IsOf : PoolView → BerthView → Type 0
IsOf p b = (b.pool ≡ p.pool) × (b.shape ≡ p.shape)

-- the berth and the frame f are the pool's
abbrev pub IsAt : PoolView → BerthView → ℕ → Type 0
IsAt p b f = IsOf p b × (f < p.shape.frames)

-- no pin and no fill
abbrev pub IsBlank : BerthView → Type 0
IsBlank b = (b.pins ≡ []) × (b.fill ≡ None)

-- no pin on the frame f, and no fill
abbrev pub IsIdleAt : BerthView → ℕ → Type 0
IsIdleAt b f = (pinned f b.pins ≡ None) × (b.fill ≡ None)

-- the frame of a fill
abbrev pub filled_frame : Option Fill → Option ℕ
filled_frame None = None
filled_frame (Some x) = Some x.frame

-- no pin and no fill on the frame f
abbrev pub IsApart : BerthView → ℕ → Type 0
IsApart b f = (pinned f b.pins ≡ None) × (filled_frame b.fill ≢ Some f)

abbrev pub room_for : ℕ → Option Fill → Type 0
room_for width None = ⊥
room_for width (Some f) = length f.words < width

-- the berth fills a frame, and has put fewer words than a frame has
abbrev pub HasRoom : BerthView → Type 0
HasRoom b = room_for b.shape.words b.fill

-- where the content is told, the words put are those of the piece p
abbrev pub IsWhole : Told → ℕ → Option Fill → Type 0
IsWhole None p fill = Unit {0}
IsWhole (Some pieces) p None = Unit {0}
IsWhole (Some pieces) p (Some f) = slice_get pieces p ≡ Some f.words

-- the berth pins the frame f besides, with this piece
abbrev pub takes_pin : BerthView → ℕ → ℕ → BerthView
takes_pin b f piece = record b { pins = pin f piece ∷ b.pins }

-- the berth pins the frame f no more
abbrev pub unpins : BerthView → ℕ → BerthView
unpins b f = record b { pins = unpinned f b.pins }

-- the berth fills the frame f, with no word put
abbrev pub fills : BerthView → ℕ → BerthView
fills b f = record b { fill = Some (filling f []) }

-- the berth has put one word more
abbrev pub grows : BerthView → ℕ → BerthView
grows b x = record b { fill = grown x b.fill }

-- the berth fills no frame
abbrev pub fills_none : BerthView → BerthView
fills_none b = record b { fill = None }
