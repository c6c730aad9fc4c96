-- The load that is underway, and the frames that are free.
use Rattle.std.specs.Prelude.{◌==◌, ◌&&◌, not, false, ℕ, Bool, List, [], ◌∷◌}
use Rattle.std.specs.Prelude.{Option, None, Some, is_none, filter, if◌then◌else◌}
use Rattle.std.specs.List.{list_any, list_all}
use Rattle.std.specs.Option.{option_map}
use Rattle.scan_story.specs.declared.entry.Entry.TheVariants.{Plan, Fill, Filled, Failed}
use Rattle.scan_story.specs.declared.view.Load.{Load}
use Rattle.scan_story.specs.declared.setting.Setting.{Setting}
use Rattle.scan_story.specs.Counting.{has, count_below}
use Rattle.scan_story.specs.Setting.{pieces_read}
use Rattle.scan_story.specs.Views.{History, piece_in, is_framed}

-- the pieces of the chunk that the query reads and no frame has
abbrev pub missing_pieces : Setting → History → ℕ → ℕ → List ℕ
missing_pieces s h q c = filter (λ p. not (is_framed s h p)) (pieces_read s q c)

abbrev pub begin_fill : ℕ → ℕ → Load → Load
begin_fill f p l = record l { begun = (f, p) ∷ l.begun }

abbrev pub end_fill : ℕ → Load → Load
end_fill p l = record l { filled = p ∷ l.filled }

-- a piece that was missing is not filled yet
abbrev pub is_open : Load → Bool
is_open l = list_any (λ p. not (has l.filled p)) l.missing

abbrev pub if_open : Option Load → Option Load
if_open None = None
if_open (Some l) = if is_open l then Some l else None

-- the load of the last Plan, unless a Failed came since or each of its missing pieces was filled
abbrev pub underway : Setting → History → Option Load
underway s [] = None
underway s (Plan w q c ∷ h) =
    Some (record { worker = w; query = q; chunk = c; missing = missing_pieces s h q c; begun = []; filled = [] })
underway s (Fill w f p ∷ h) = option_map (begin_fill f p) (underway s h)
underway s (Filled w f p ∷ h) = if_open (option_map (end_fill p) (underway s h))
underway s (Failed w q p why ∷ h) = None
underway s (_ ∷ h) = underway s h

-- the load began a fill of the piece
abbrev pub begins : Load → ℕ → Bool
begins l p = list_any (λ b. b.1 == p) l.begun

-- the load began a fill of the frame with the piece
abbrev pub begins_in : Load → ℕ → ℕ → Bool
begins_in l f p = list_any (λ b. b.0 == f && b.1 == p) l.begun

-- each missing piece was begun
abbrev pub all_begun : Load → Bool
all_begun l = list_all (begins l) l.missing

abbrev pub is_load_by : ℕ → Option Load → Bool
is_load_by w None = false
is_load_by w (Some l) = l.worker == w

abbrev pub is_load_of : ℕ → Option Load → Bool
is_load_of c None = false
is_load_of c (Some l) = l.chunk == c

abbrev pub fills_frame : ℕ → Option Load → Bool
fills_frame f None = false
fills_frame f (Some l) = list_any (λ b. b.0 == f) l.begun

-- no piece is in the frame, and the load underway has not begun to fill it
abbrev pub is_free : Setting → History → ℕ → Bool
is_free s h f = is_none (piece_in s h f) && not (fills_frame f (underway s h))

-- how many frames are free
abbrev pub free_frames : Setting → History → ℕ
free_frames s h = count_below (is_free s h) s.frames
