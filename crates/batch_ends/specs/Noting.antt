-- Chunks that are noted as the story delivered them.
use Rattle.std.specs.Prelude.{◌≡◌, ◌<◌, ◌≤◌, ◌+◌, ◌-◌, ◌*◌, ◌/◌, ◌%◌, ◌++◌, ◌∷◌}
use Rattle.std.specs.Prelude.{◌==◌, ℕ, List, [], length, vec_capacity, if◌then◌else◌}
use Rattle.scan_story.specs.declared.entry.Entry.{Entry}
use Rattle.story_laws.specs.Queries.{chunks_delivered}
use Rattle.chunk_interest.specs.declared.need.Need.{Need}
use Rattle.batch_plan.specs.Scans.{scan_number}
use Rattle.batch_ends.specs.declared.taken.Taken.{Taken}

-- the number of the scan of which this is told
abbrev pub number_of : ℕ → Taken → ℕ
number_of parts t = scan_number parts t.query t.part

-- nothing is told of a scan yet but who it is, and there is room for all chunks that it needs
pub record IsOpened (parts : ℕ) (n : Need) (t : Taken) : Type 0 where
  pub query : t.query ≡ (n.query - 1) / parts + 1
  pub part : t.part ≡ (n.query - 1) % parts
  pub worker : t.worker ≡ n.worker
  pub none : t.chunks.items ≡ []
  pub room : length n.chunks ≤ vec_capacity t.chunks

-- who it is, is within the limits
pub record IsNamed (parts : ℕ) (t : Taken) : Type 0 where
  pub query : 1 ≤ t.query
  pub part : t.part < parts
  pub few : t.query * parts ≤ 256

-- and there is room for what these entries delivered to it
pub record HasRoomFor (parts : ℕ) (story : List Entry) (t : Taken) : Type 0 where
  pub named : IsNamed parts t
  pub room : length t.chunks.items + length (chunks_delivered story (number_of parts t)) ≤ vec_capacity t.chunks

-- the same scan, with these chunks more
pub record IsGrown (old new : Taken) (more : List ℕ) : Type 0 where
  pub query : new.query ≡ old.query
  pub part : new.part ≡ old.part
  pub worker : new.worker ≡ old.worker
  pub chunks : new.chunks.items ≡ old.chunks.items ++ more
  pub room : vec_capacity old.chunks ≤ vec_capacity new.chunks

-- the chunk is noted where it was delivered to the scan, and nothing else
abbrev pub NotesOne : ℕ → ℕ → ℕ → Taken → Taken → Type 0
NotesOne parts number c old new = IsGrown old new (if number == number_of parts old then c ∷ [] else [])

-- all chunks that these entries delivered to the scan are noted, in their order
abbrev pub NotesAll : ℕ → List Entry → Taken → Taken → Type 0
NotesAll parts story old new = IsGrown old new (chunks_delivered story (number_of parts old))
