-- The text of a picture: what marks are drawn as, and what stands around them. Lengths are tenths of a pixel.
use Rattle.std.specs.Prelude.{◌≤◌, ◌+◌, ◌-◌, ◌*◌, ◌/◌, ◌==◌, ◌&&◌, ◌++◌, ℕ, zero, suc, max, min, nat_le, nat_lt}
use Rattle.std.specs.Prelude.{Bool, not, List, [], ◌∷◌, codes, decimal, length, if◌then◌else◌}
use Rattle.std.specs.List.{flat_map}
use Rattle.scan_story.specs.declared.entry.Entry.{Entry}
use Rattle.scan_story.specs.Spent.{reads, deliveries}
use Rattle.inspect_picture.specs.declared.guide.Guide.{Guide}
use Rattle.inspect_picture.specs.declared.guide.Guide.TheVariants.{Blank, FrameLane, Time, WorkerLane}
use Rattle.inspect_picture.specs.declared.head.Head.{Head}
use Rattle.inspect_picture.specs.declared.ink.Ink.{Ink}
use Rattle.inspect_picture.specs.declared.ink.Ink.TheVariants.{Hue, Many, Pale, Red, Thin}
use Rattle.inspect_picture.specs.declared.mark.Mark.{Mark}
use Rattle.inspect_picture.specs.declared.mark.Mark.TheVariants.{Alive, Load, Read, Stay, Given, Eviction, Fault}
use Rattle.inspect_picture.specs.declared.rect.Rect.{Rect}
use Rattle.inspect_picture.specs.declared.scale.Scale.{Scale}
use Rattle.inspect_picture.specs.declared.shape.Label.{Label}
use Rattle.inspect_picture.specs.declared.shape.Label.TheVariants as label
use Rattle.inspect_picture.specs.declared.shape.Strip.{Strip}
use Rattle.inspect_picture.specs.declared.rows.TheConstants.{MOST_TITLES}
use Rattle.inspect_picture.specs.declared.stretch.Stretch.{Stretch}
use Rattle.inspect_picture.specs.Extents.{shown_count}
use Rattle.inspect_picture.specs.Marks.{marks}
use Rattle.inspect_picture.specs.Scales.{evictions_top, first_in, frame_count, frame_lane, frame_lanes, frame_y}
use Rattle.inspect_picture.specs.Scales.{lanes_end, scale_of, worker_count, worker_lane, worker_lanes, worker_y}
use Rattle.inspect_picture.specs.Scales.{workers_top, x_at}
use Rattle.inspect_picture.specs.Stretches.{stretches}
use Rattle.inspect_picture.specs.Titles.{title_text}

-- Marks

abbrev pub strip : ℕ → ℕ → Strip
strip y height = record { y = y; height = height }

-- the height of a mark in its lane: a worker's loads lie above, what is delivered to it below, over the life of its
-- query;
-- a fault lies over all lanes
abbrev pub strip_of : Scale → Mark → Strip
strip_of z (Alive l) = strip (worker_y (worker_lane z l.worker)) 370
strip_of z (Load w q c i) = strip (worker_y (worker_lane z w) + 125) 90
strip_of z (Given d) = strip (worker_y (worker_lane z d.worker) + 230) 140
strip_of z (Stay b) = strip (frame_y z (frame_lane z b.frame)) 140
strip_of z (Read r) = strip (frame_y z (frame_lane z r.frame) + 50) 40
strip_of z (Eviction c i) = strip (evictions_top z) 140
strip_of z (Fault q p i) = strip workers_top (lanes_end z - workers_top)

-- where marks that are drawn as one lie
abbrev pub rect_of : Scale → Stretch → Rect
rect_of z g =
    record { x = g.from; y = (strip_of z g.mark).y; width = g.to - g.from; height = (strip_of z g.mark).height }

-- red where one of them is a failure
abbrev pub drawn_ink : Stretch → Ink
drawn_ink g = if g.failed then Red else g.ink

abbrev pub rect_text : Rect → List ℕ
rect_text r =
    codes "x='" ++ (decimal r.x
    ++ (codes "' y='"
    ++ (decimal r.y ++
    (codes "' width='" ++ (decimal r.width ++ (codes "' height='" ++ (decimal r.height ++ codes "'")))))))

abbrev pub ink_text : Ink → List ℕ
ink_text (Hue h) = codes "hsl(" ++ (decimal h ++ codes ",60%,50%)")
ink_text Many = codes "#7d8799"
ink_text Pale = codes "#e2e5ea"
ink_text Thin = codes "#4a5468"
ink_text Red = codes "#e00000"

-- how many entries are shown
abbrev pub shown : Scale → ℕ
shown z = z.last - z.first

abbrev pub told_text : Stretch → List ℕ
told_text g = if g.count == 1 then title_text g.mark
    else decimal g.count
    ++ (codes " marks up to entry " ++ (decimal g.last ++ (codes ", first: " ++ title_text g.mark)))

-- how the element of marks that are drawn as one ends: with a title, or without
abbrev pub inside : Bool → Stretch → List ℕ
inside titled g = if titled then codes "><title>" ++ (told_text g ++ codes "</title></rect>\n") else codes "/>\n"

abbrev pub element_text : Rect → Ink → Bool → Stretch → List ℕ
element_text r ink titled g =
    codes "<rect " ++ (rect_text r ++ (codes " fill='" ++ (ink_text ink ++ (codes "'" ++ inside titled g))))

-- THE ELEMENT of marks that are drawn as one
abbrev pub shape_text : Scale → Bool → Stretch → List ℕ
shape_text z titled g = element_text (rect_of z g) (drawn_ink g) titled g

unfoldable pub number_text : ℕ → ℕ → ℕ → List ℕ
number_text x y n =
    codes "<text x='" ++ (decimal x ++ (codes "' y='" ++ (decimal y
    ++ (codes "' dx='30' dy='115' fill='#fff'>" ++ (decimal n ++ codes "</text>\n")))))

unfoldable pub query_text : ℕ → ℕ → ℕ → List ℕ
query_text x y n =
    codes "<text x='" ++ (decimal x ++ (codes "' y='" ++ (decimal y
    ++ (codes "' dx='30' dy='100' fill='#303030'>query " ++ (decimal n ++ codes "</text>\n")))))

abbrev pub label_in : Label → List ℕ
label_in label.Blank = []
label_in (label.Number x y n) = number_text x y n
label_in (label.Query x y n) = query_text x y n

-- the number on one mark: of its piece, chunk or query
abbrev pub label_of : Mark → Rect → Label
label_of (Stay b) r = label.Number r.x r.y b.piece
label_of (Given d) r = label.Number r.x r.y d.chunk
label_of (Alive l) r = label.Query r.x r.y l.query
label_of _ r = label.Blank

-- one mark has room for its number
abbrev pub has_room : Scale → Stretch → Bool
has_room z g = g.count == 1 && nat_le 500 (rect_of z g).width

-- where it has room
abbrev pub label_text : Scale → Stretch → List ℕ
label_text z g = label_in (if has_room z g then label_of g.mark (rect_of z g) else label.Blank)

-- a row, and the first of the rows, the lower ones drawn first
abbrev pub row_text : Scale → Bool → List Stretch → List ℕ
row_text z titled gs = flat_map (shape_text z titled) gs ++ flat_map (label_text z) gs

unfoldable pub rows_text : Scale → Bool → List Mark → ℕ → List ℕ
rows_text z titled ms zero = []
rows_text z titled ms (suc k) = rows_text z titled ms k ++ row_text z titled (stretches z k ms)

-- as how many the marks are drawn
unfoldable pub drawn : Scale → List Mark → ℕ → ℕ
drawn z ms zero = 0
drawn z ms (suc k) = min (drawn z ms k + length (stretches z k ms)) 18446744073709551615

-- on how many of them there is room for a number
abbrev pub room_count : Scale → List Stretch → ℕ
room_count z [] = 0
room_count z (g ∷ gs) = (if has_room z g then 1 else 0) + room_count z gs

-- A PICTURE IS SMALL: a row has few elements, and few numbers stand on them, so all rows have few
pub record IsSmall (z : Scale) (ms : List Mark) : Type 0 where
  pub elements : (row : ℕ) → length (stretches z row ms) ≤ 193
  pub numbers : (row : ℕ) → room_count z (stretches z row ms) ≤ 15
  pub all : drawn z ms 114 ≤ 22002

-- the title of an element shows up under the pointer; where there are more elements than this there is none
abbrev pub is_titled : Scale → List Mark → Bool
is_titled z ms = nat_le (drawn z ms 114) MOST_TITLES

-- Guides: when and for whom

-- the steps at which numbers are written
unfoldable pub steps : List ℕ
steps = 1 ∷ 2 ∷ 5 ∷ 10 ∷ 20 ∷ 50 ∷ 100 ∷ 200 ∷ 500 ∷ 1000 ∷ 2000 ∷ 5000 ∷ 10000 ∷ 20000 ∷ 50000 ∷ 100000 ∷ 200000
    ∷ 500000 ∷ []

abbrev pub step_from : List ℕ → ℕ → ℕ
step_from [] n = 1000000000
step_from (s ∷ ss) n = if nat_lt n (s * 16) then s else step_from ss n

-- the first step by which n is reached in fewer than 16
abbrev pub step_of : ℕ → ℕ
step_of n = step_from steps n

-- the number of the time that is told so many steps behind the first round one
abbrev pub round_number : ℕ → ℕ → ℕ → ℕ
round_number first step k = (first / max 1 step + k) * step

-- the k-th of what is told of times, of lanes of workers and of lanes of frames
abbrev pub time_guide : Scale → ℕ → Guide
time_guide z i =
    if nat_le z.first i && nat_lt i z.last then Time (x_at z i) (lanes_end z) (lanes_end z - workers_top) i else Blank

abbrev pub worker_guide : Scale → ℕ → Guide
worker_guide z k =
    if nat_lt k (worker_lanes z) then WorkerLane (worker_y k) (first_in 16 (worker_count z) k) else Blank

abbrev pub frame_guide : Scale → ℕ → Guide
frame_guide z k = if nat_lt k (frame_lanes z) then FrameLane (frame_y z k) (first_in 32 (frame_count z) k) else Blank

unfoldable pub along_text : List ℕ
along_text = codes "<path stroke='#e0e0e0' stroke-width='6' d='M1000 0H8700'/>"

unfoldable pub upright_text : ℕ → List ℕ
upright_text high = codes "<path stroke='#e0e0e0' stroke-width='6' d='M0 0V-" ++ (decimal high ++ codes "'/>")

-- a line up from the end of the lanes, and the number of the entry
unfoldable pub time_text : ℕ → ℕ → ℕ → ℕ → List ℕ
time_text x end high i =
    codes "<g transform='translate(" ++ (decimal x ++ (codes " " ++ (decimal end ++ (codes ")'>" ++ (upright_text high
    ++ (codes "<text y='160' text-anchor='middle'>" ++ (decimal i ++ codes "</text></g>\n")))))))

-- a line along the lane that begins at this height, and the name of the lane
unfoldable pub worker_text : ℕ → ℕ → List ℕ
worker_text y q =
    codes "<g transform='translate(0 " ++ (decimal y ++ (codes ")'>" ++ (along_text
    ++ (codes "<text x='960' y='225' text-anchor='end'>worker " ++ (decimal q ++ codes "</text></g>\n")))))

unfoldable pub frame_text : ℕ → ℕ → List ℕ
frame_text y f =
    codes "<g transform='translate(0 " ++ (decimal y ++ (codes ")'>" ++ (along_text
    ++ (codes "<text x='960' y='115' text-anchor='end'>frame " ++ (decimal f ++ codes "</text></g>\n")))))

abbrev pub guide_text : Guide → List ℕ
guide_text Blank = []
guide_text (Time x end high i) = time_text x end high i
guide_text (WorkerLane y w) = worker_text y w
guide_text (FrameLane y f) = frame_text y f

abbrev pub guides_text : Guide → Guide → Guide → List ℕ
guides_text time worker frame = guide_text time ++ (guide_text worker ++ guide_text frame)

abbrev pub guides_at : Scale → ℕ → List ℕ
guides_at z k =
    guides_text (time_guide z (round_number z.first (step_of (shown z)) k)) (worker_guide z k) (frame_guide z k)

-- the first n guides of each kind
unfoldable pub guides : Scale → ℕ → List ℕ
guides z zero = []
guides z (suc k) = guides z k ++ guides_at z k

-- Above the lanes, and below them

unfoldable pub opening_text : ℕ → List ℕ
opening_text height =
    codes "<svg xmlns='http://www.w3.org/2000/svg' viewBox='0 0 9000 " ++ (decimal height
    ++ (codes "' width='900' font-family='sans-serif' font-size='120'>\n"
    ++ codes "<rect width='100%' height='100%' fill='#fff'/>\n"))

-- the title line
unfoldable pub counts_text : ℕ → ℕ → ℕ → List ℕ
counts_text entries reads deliveries =
    codes "<text x='1000' y='280' font-size='180'>"
    ++ (decimal entries ++ (codes " entries, " ++ (decimal reads ++ (codes " reads, "
    ++ (decimal deliveries ++ codes " deliveries</text>\n")))))

-- the colours from the begin of the table to its end
unfoldable pub hues_text : List ℕ
hues_text =
    codes "<linearGradient id='hues'><stop stop-color='hsl(40,60%,50%)'/><stop offset='.25' stop-color='hsl(100,60%,50%)'/>"
    ++ (codes "<stop offset='.5' stop-color='hsl(160,60%,50%)'/><stop offset='.75' stop-color='hsl(220,60%,50%)'/>"
    ++ codes "<stop offset='1' stop-color='hsl(280,60%,50%)'/></linearGradient>\n")

unfoldable pub colours_text : ℕ → List ℕ
colours_text last =
    codes "<text x='1000' y='520'>Colour: from chunk 0</text><rect x='2420' y='410' width='1000' height='130' fill='url(#hues)'/>"
    ++ (codes "<text x='3480' y='520'>to chunk " ++ (decimal last ++ (codes ". A query is given"
    ++ codes " a chunk of rows; a frame holds a piece of one.</text>\n")))

-- what the lanes show
unfoldable pub workers_legend : List ℕ
workers_legend =
    codes "<text x='1000' y='710'>Lane of a worker: its queries, pale where they wait; above, loads that are planned; "
    ++ codes "below, the chunks in its hands.</text>\n"

unfoldable pub frames_legend : List ℕ
frames_legend =
    codes "<text x='1000' y='900'>Lane of a frame: a dark line while a piece is read"
    ++ codes " (Fill to Filled), a bar while it stays. Red, and nothing else is: a load failed.</text>\n"

unfoldable pub evictions_name : ℕ → List ℕ
evictions_name y = codes "<text x='960' y='" ++ (decimal y ++ codes "' dy='115' text-anchor='end'>evictions</text>\n")

unfoldable pub lanes_text : ℕ → List ℕ
lanes_text evictions = workers_legend ++ (frames_legend ++ evictions_name evictions)

abbrev pub phrase : Bool → List ℕ → List ℕ
phrase shown text = if shown then text else []

unfoldable pub range_text : Bool → ℕ → ℕ → List ℕ
range_text part first last =
    if part then codes "Entries " ++ (decimal first ++ (codes " to " ++ (decimal last ++ codes " are shown. "))) else []

-- how lanes are shared, and whether titles are left out
unfoldable pub sharing_text : Scale → Bool → List ℕ
sharing_text z titled =
    phrase (nat_lt 16 (worker_count z)) (codes "The workers share 16 lanes. ")
    ++ (phrase (nat_lt 32 (frame_count z)) (codes "The frames share 32 lanes. ")
    ++ phrase (not titled) (codes "Too much is drawn to be told under the pointer: show fewer entries."))

unfoldable pub notes_in : Bool → ℕ → ℕ → Scale → Bool → List ℕ
notes_in part first last z titled =
    codes "<text x='1000' y='1090' fill='#5a6478'>"
    ++ (range_text part first last ++ (sharing_text z titled ++ codes "</text>\n"))

-- what of it is shown, and how
abbrev pub notes_text : Scale → Bool → List ℕ
notes_text z titled = notes_in (nat_le (shown z) z.entries) z.first (z.last - 1) z titled

unfoldable pub head_text : Head → List ℕ
head_text h =
    opening_text (lanes_end h.scale + 460) ++ (counts_text h.scale.entries h.reads h.deliveries
    ++ (hues_text ++ (colours_text h.scale.last_chunk
    ++ (lanes_text (evictions_top h.scale) ++ notes_text h.scale h.titled))))

-- the title of the axis
unfoldable pub axis_text : ℕ → List ℕ
axis_text y = codes "<text x='4850' y='"
    ++ (decimal y ++ codes "' dy='340' text-anchor='middle'>number of the entry in the story</text>\n")

-- what was merged
unfoldable pub merged_text : ℕ → ℕ → List ℕ
merged_text marks drawn =
    codes "<text x='1000' y='1280' fill='#5a6478'>" ++ (decimal marks ++ (codes " marks are drawn as " ++ (decimal drawn
    ++ (codes ": below 5 pixels, those that touch are one, grey where chunks differ.</text>\n"))))

unfoldable pub foot_in : ℕ → ℕ → ℕ → List ℕ
foot_in y marks drawn = axis_text y ++ (merged_text marks drawn ++ codes "</svg>\n")

abbrev pub foot_text : Scale → ℕ → ℕ → List ℕ
foot_text z marks drawn = foot_in (lanes_end z) marks drawn

abbrev pub head : Scale → List Entry → Bool → Head
head z entries titled = record { scale = z; reads = reads entries; deliveries = deliveries entries; titled = titled }

-- the picture with this scale of a story with these marks
abbrev pub picture_of : Scale → List Entry → List Mark → List ℕ
picture_of z entries ms =
    head_text (head z entries (is_titled z ms))
    ++ (guides z 32 ++ (rows_text z (is_titled z ms) ms 114 ++ foot_text z (shown_count z ms) (drawn z ms 114)))

-- THE PICTURE OF A STORY, of the entries from and to these: the head, the guides, the marks row by row, and the foot
abbrev pub picture_part : ℕ → ℕ → ℕ → List Entry → List ℕ
picture_part groups from to entries = picture_of (scale_of groups from to entries) entries (marks groups entries)

-- of all entries
abbrev pub picture : ℕ → List Entry → List ℕ
picture groups entries = picture_part groups 0 4294967295 entries
