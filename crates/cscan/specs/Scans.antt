-- A scan under way, and a scan that is over.
use Rattle.std.specs.Prelude.{◌≡◌, ◌<◌, ⊤, true, false, ℕ, Bool, List, [], Option, None, Some, length}
use Rattle.atomic_table.specs.Seated.{TableId}
use Rattle.scan_story.specs.declared.origin.Start.{Start}
use Rattle.scan_story.specs.declared.setting.Setting.{Setting}
use Rattle.scan_story.specs.declared.view.Hold.{Hold}
use Rattle.scan_story.specs.Counting.{has}
use Rattle.table_sets.specs.Sets.{has as is_member}
use Rattle.scan_story.specs.Setting.{columns_in, need_of, pieces_read}
use Rattle.scan_story.specs.Views.{History, past, held_by, is_active}
use Rattle.scan_story.specs.Loads.{underway, is_load_by}
use Rattle.scan_story.specs.MayFollow.{IsIdle}
use Rattle.scan_story.specs.Legal.{Legal}
use Rattle.abm_policy.specs.Loads.{pieces}
use Rattle.abm_policy.specs.Turns.{RunsOn, StandIn}
use Rattle.frame_pool.specs.Frames.{Told}
use Rattle.frame_pool.specs.Berths.{PoolView}
use Rattle.piece_format.specs.Shape.{TableShape, IsShape, chunks, frame_words, groups, rows_in}
use Rattle.frame_rows.specs.declared.given.Given.{Given}
use Rattle.cscan.specs.declared.scan.CScan.{CScan}
use Rattle.cscan.specs.declared.station.Station.{Station}
use Rattle.frame_rows.specs.Pins.{AreFrames}
use Rattle.cscan.specs.Stations.{IsSeated}
use Rattle.frame_rows.specs.Tables.{TellAlike}

-- What a scan is begun with

-- the origin is of the shape's chunks and groups and the pool's frames, a frame has room for each piece, and depot and
-- frames tell of one table of the shape or tell nothing
pub record Fits (o : Start) (told : Told) (z : TableShape) (pool : PoolView) : Type 0 where
  pub shape : IsShape z
  pub chunks : o.setting.chunks ≡ chunks z
  pub groups : o.setting.groups ≡ groups z
  pub frames : o.setting.frames ≡ pool.shape.frames
  pub words : pool.shape.words ≡ frame_words z
  pub alike : TellAlike o.held told z

-- the query reads the column: its need has it
abbrev pub reads_column : Setting → ℕ → ℕ → Bool
reads_column s q x = has (columns_in (need_of s q)) x

-- each column that the query reads is one of the shape's
abbrev pub HasColumns : Setting → TableShape → ℕ → Type 0
HasColumns s z q = (x : ℕ) → reads_column s q x ≡ true → x < length z.kinds

-- the query reads each of these columns
abbrev pub ReadsColumns : Setting → ℕ → List ℕ → Type 0
ReadsColumns s q columns = (x : ℕ) → is_member columns x ≡ true → reads_column s q x ≡ true

-- What is out

-- the chunk is the table's and has so many rows; the slots are the pieces of it that the query reads, each in the frame
-- in which the story sees it, and no two in one frame
pub record IsGiven (s : Setting) (z : TableShape) (h : History) (q : ℕ) (g : Given) : Type 0 where
  pub chunk : g.chunk < chunks z
  pub rows : g.rows ≡ rows_in z g.chunk
  pub read : pieces g.slots ≡ pieces_read s q g.chunk
  pub stand : StandIn s h g.slots
  pub frames : AreFrames s.frames g.slots

abbrev pub IsOut : Setting → TableShape → History → ℕ → Option Given → Type 0
IsOut s z h q None = ⊤
IsOut s z h q (Some g) = IsGiven s z h q g

-- the slots that are out
abbrev pub slots_out : Option Given → List (ℕ × ℕ)
slots_out None = []
slots_out (Some g) = g.slots

-- what the worker holds of the query
abbrev pub hold_of : ℕ → Option Given → Option Hold
hold_of q None = None
hold_of q (Some g) = Some (record { query = q; chunk = g.chunk })

-- the query runs on the worker, which holds just what is out, and loads nothing
pub record IsAt (s : Setting) (h : History) (w q : ℕ) (out : Option Given) : Type 0 where
  pub runs : RunsOn s h q w
  pub holds : held_by h w ≡ hold_of q out
  pub loads_nothing : is_load_by w (underway s h) ≡ false

-- the story is legal, the query isn't active, and the worker holds nothing and loads nothing
pub record IsAtRest (s : Setting) (h : History) (w q : ℕ) : Type 0 where
  pub legal : Legal s h
  pub inactive : is_active h q ≡ false
  pub idle : IsIdle s h w

-- Scans

module _ {S C P D T K : Type 0} where
  -- a scan under way, between two of its calls: no Done or Stopped came
  pub record IsScan (o : Start) (told : Told) (scan : CScan S C P D T K) : Type 0 where
    pub seated : IsSeated scan.baton.now scan.pool.now o (slots_out scan.out) scan.station.now
    pub fits : Fits o told scan.shape.now scan.pool.now
    pub columns : HasColumns o.setting scan.shape.now scan.query
    pub legal : Legal o.setting (past scan.station.now.pass.seen)
    pub at : IsAt o.setting (past scan.station.now.pass.seen) scan.station.now.number scan.query scan.out
    pub given : IsOut o.setting scan.shape.now (past scan.station.now.pass.seen) scan.query scan.out

  -- one scan, before and after a call: the same station, worker, baton, pool, shape and query
  pub record IsSameScan (old new : CScan S C P D T K) : Type 0 where
    pub station : new.station.ghost_name ≡ old.station.ghost_name
    pub number : new.station.now.number ≡ old.station.now.number
    pub baton : new.baton.now ≡ old.baton.now
    pub pool : new.pool.now ≡ old.pool.now
    pub shape : new.shape.now ≡ old.shape.now
    pub query : new.query ≡ old.query

module _ {S C P D : Type 0} where
  -- the station of a scan that is over: nothing is pinned, and by what the worker has seen its query isn't active and
  -- it is idle
  pub record IsOver (o : Start) (id : TableId) (pool : PoolView) (q : ℕ) (s : Station S C P D) : Type 0 where
    pub seated : IsSeated id pool o [] s
    pub rests : IsAtRest o.setting (past s.pass.seen) s.number q
