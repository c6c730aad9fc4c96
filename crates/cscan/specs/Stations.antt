-- A worker's station between two calls.
use Rattle.std.specs.Prelude.{◌≡◌, ◌*◌, false, ℕ, List, None, vec_len}
use Rattle.atomic_table.specs.Seated.{TableId}
use Rattle.scan_story.specs.declared.origin.Start.{Start}
use Rattle.scan_story.specs.Makers.{entries_by}
use Rattle.baton.specs.Passes.{PassView}
use Rattle.frame_pool.specs.declared.view.Pin.{Pin}
use Rattle.frame_pool.specs.Berths.{BerthView, PoolView, IsOf}
use Rattle.cscan.specs.declared.station.Station.{Station}
use Rattle.frame_rows.specs.Pins.{pins_of}

-- the pass is of this baton and this origin, is the worker's, isn't holding, and has made just the entries of its
-- number that it has seen
abbrev pub Waits : TableId → Start → ℕ → PassView → Type 0
Waits id o w p = (p.baton ≡ id) × (p.number ≡ w) × (p.origin ≡ o) × (p.holding ≡ false) × (entries_by w p.seen ≡ p.mine)

-- the berth is the pool's, has just these pins, and fills no frame
abbrev pub PinsJust : PoolView → List Pin → BerthView → Type 0
PinsJust pool pins b = IsOf pool b × (b.pins ≡ pins) × (b.fill ≡ None)

module _ {S C P D : Type 0} where
  -- the station's pass waits, its berth pins just the frames of these slots, and its buffer has 8 bytes for each word
  -- of a frame
  abbrev pub IsSeated : TableId → PoolView → Start → List (ℕ × ℕ) → Station S C P D → Type 0
  IsSeated id pool o slots s = Waits id o s.number s.pass × PinsJust pool (pins_of slots) s.berth
      × (vec_len s.buf ≡ 8 * pool.shape.words)
