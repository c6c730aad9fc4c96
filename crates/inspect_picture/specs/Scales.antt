-- What a picture has room for, and where things lie in it. Lengths are tenths of a pixel.
use Rattle.std.specs.Prelude.{◌+◌, ◌-◌, ◌*◌, ◌/◌, ℕ, min, max, nat_le, List, [], ◌∷◌, length, if◌then◌else◌}
use Rattle.scan_story.specs.declared.entry.Entry.{Entry}
use Rattle.scan_story.specs.declared.entry.Entry.TheVariants.{Register, Plan, Evict, Fill, Filled, Failed, Deliver}
use Rattle.scan_story.specs.declared.entry.Entry.TheVariants.{Release, Stop, End}
use Rattle.inspect_picture.specs.declared.scale.Scale.{Scale}

-- The greatest numbers

abbrev pub with_room : Scale → ℕ → ℕ → ℕ → Scale
with_room z w f c = record z
    { last_worker = max z.last_worker w; last_frame = max z.last_frame f; last_chunk = max z.last_chunk c }

-- room for the worker, frame and chunk that the entry names
abbrev pub seen : Scale → Entry → Scale
seen z (Register w q) = with_room z w 0 0
seen z (Plan w q c) = with_room z w 0 c
seen z (Evict w c) = with_room z w 0 c
seen z (Fill w f p) = with_room z w f (p / z.groups)
seen z (Filled w f p) = with_room z w f (p / z.groups)
seen z (Failed w q p why) = with_room z w 0 (p / z.groups)
seen z (Deliver w q c) = with_room z w 0 c
seen z (Release w q c) = with_room z w 0 c
seen z (Stop w q) = with_room z w 0 0
seen z (End w q) = with_room z w 0 0

abbrev pub all_seen : Scale → List Entry → Scale
all_seen z [] = z
all_seen z (e ∷ es) = all_seen (seen z e) es

-- THE SCALE OF A STORY: its number of entries, the first that is shown and the first behind those, and the greatest
-- worker, frame and chunk that they name
abbrev pub scale_of : ℕ → ℕ → ℕ → List Entry → Scale
scale_of groups from to entries =
    all_seen (record {
      entries = length entries;
      first = min from (length entries);
      last = max (min from (length entries)) (min to (length entries)) + 1;
      last_worker = 0;
      last_frame = 0;
      last_chunk = 0;
      groups = groups;
    }) entries

-- Time

abbrev pub part_of_7700 : ℕ → ℕ → ℕ
part_of_7700 part whole = part * 7700 / max 1 whole

-- where entry i lies: the time that is shown goes from 1000 on over 7700, and what is before or behind it lies at
-- its ends
abbrev pub x_at : Scale → ℕ → ℕ
x_at z i = 1000 + part_of_7700 (min (max i z.first) (max z.first z.last) - z.first) (z.last - z.first)

-- Lanes: up to 16 workers have 40 pixels each, and up to 32 frames 16; where there are more, they share these lanes

abbrev pub lane : ℕ → ℕ → ℕ → ℕ
lane most count k = min (most - 1) (if nat_le count most then k else k * most / max 1 count)

-- the first that lies in a lane
abbrev pub first_in : ℕ → ℕ → ℕ → ℕ
first_in most count k = if nat_le count most then k else (k * count + (most - 1)) / max 1 most

abbrev pub worker_count : Scale → ℕ
worker_count z = z.last_worker + 1

abbrev pub frame_count : Scale → ℕ
frame_count z = z.last_frame + 1

abbrev pub worker_lanes : Scale → ℕ
worker_lanes z = min (worker_count z) 16

abbrev pub frame_lanes : Scale → ℕ
frame_lanes z = min (frame_count z) 32

abbrev pub worker_lane : Scale → ℕ → ℕ
worker_lane z w = lane 16 (worker_count z) w

abbrev pub frame_lane : Scale → ℕ → ℕ
frame_lane z f = lane 32 (frame_count z) f

-- where the lanes of workers begin, the lane of evictions, the lanes of frames, and where they end
abbrev pub workers_top : ℕ
workers_top = 1700

abbrev pub evictions_top : Scale → ℕ
evictions_top z = workers_top + worker_lanes z * 400 + 60

abbrev pub frames_top : Scale → ℕ
frames_top z = evictions_top z + 260

abbrev pub lanes_end : Scale → ℕ
lanes_end z = frames_top z + frame_lanes z * 160

abbrev pub worker_y : ℕ → ℕ
worker_y k = workers_top + k * 400

abbrev pub frame_y : Scale → ℕ → ℕ
frame_y z k = frames_top z + k * 160

-- the colour of a chunk, from orange at the table's begin to violet at its end; red is none
abbrev pub hue_of : Scale → ℕ → ℕ
hue_of z c = 40 + c * 240 / max 1 z.last_chunk
