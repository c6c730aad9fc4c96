-- A load, from its ticket. Slots are pairs of a frame and a piece, in the order of the fills.
use Rattle.std.specs.Prelude.{◌≡◌, ◌+◌, ◌<◌, ◌≤◌, ◌++◌, ◌∷◌, [], ℕ, Bool, true}
use Rattle.std.specs.Prelude.{false, List, Option, Some, length, map, reverse}
use Rattle.scan_story.specs.declared.entry.Entry.{Entry}
use Rattle.scan_story.specs.declared.entry.Entry.TheVariants.{Plan, Evict, Fill, Filled}
use Rattle.scan_story.specs.declared.setting.Setting.{Setting}
use Rattle.scan_story.specs.declared.view.Load.{Load}
use Rattle.scan_story.specs.Counting.{has}
use Rattle.scan_story.specs.Views.{History, past}
use Rattle.scan_story.specs.Loads.{underway, missing_pieces, is_free, is_open, end_fill, begins, begins_in, all_begun}
use Rattle.interest_book.specs.Firsts.{IsFirst}
use Rattle.abm_policy.specs.declared.ticket.Ticket.{Ticket}

-- Loads

-- a load of these pieces, after the fills of the slots were begun and these pieces were filled
abbrev pub load_at : ℕ → ℕ → ℕ → List ℕ → List (ℕ × ℕ) → List ℕ → Load
load_at w q c missing slots filled = record {
  worker = w;
  query = q;
  chunk = c;
  missing = missing;
  begun = reverse slots;
  filled = reverse filled;
}

-- the pieces of the slots
abbrev pub pieces : List (ℕ × ℕ) → List ℕ
pieces slots = map (λ b. b.1) slots

-- the load of a ticket, after these pieces were filled
abbrev pub load_of : Ticket → List ℕ → Load
load_of t filled = load_at t.worker t.query t.chunk (pieces t.slots) t.slots filled

-- Entries

abbrev pub evicts : ℕ → List ℕ → List Entry
evicts w chunks = map (Evict w) chunks

abbrev pub fills : ℕ → List (ℕ × ℕ) → List Entry
fills w slots = map (λ b. Fill w b.0 b.1) slots

abbrev pub all_filled : ℕ → List (ℕ × ℕ) → List Entry
all_filled w slots = map (λ b. Filled w b.0 b.1) slots

-- the new story is the old one and evictions by the worker
pub record AddsEvicts (w : ℕ) (old new : List Entry) : Type 0 where
  pub chunks : List ℕ
  pub added : new ≡ old ++ evicts w chunks

-- each fill is into the free frame of least number
abbrev pub AreLeastFills : Setting → History → ℕ → List (ℕ × ℕ) → Type 0
AreLeastFills s h w [] = Unit {0}
AreLeastFills s h w (b ∷ bs) = IsFirst (is_free s h) s.frames b.0 × AreLeastFills s (Fill w b.0 b.1 ∷ h) w bs

-- the new story is the old one, a Plan, Evicts, and a Fill for each missing piece, just those that the ticket names:
-- each into the free frame of least number
pub record AddsLoad (s : Setting) (w : ℕ) (t : Ticket) (old new : List Entry) : Type 0 where
  pub by_worker : t.worker ≡ w
  pub evicted : List ℕ
  pub added : new ≡ old ++ Plan w t.query t.chunk ∷ (evicts w evicted ++ fills w t.slots)
  pub missing : pieces t.slots ≡ missing_pieces s (past old) t.query t.chunk
  pub least : AreLeastFills s (past (old ++ Plan w t.query t.chunk ∷ evicts w evicted)) w t.slots
  pub underway : underway s (past new) ≡ Some (load_of t [])

-- What the steps of a load ask

-- a load by the worker of so many missing pieces, which has begun no fill
pub record IsUnbegun (u : Option Load) (w need : ℕ) : Type 0 where
  pub load : Load
  pub is_load : u ≡ Some load
  pub by_worker : load.worker ≡ w
  pub none_begun : load.begun ≡ []
  pub count : length load.missing ≡ need

-- a load by the worker that may begin a fill of the piece, with so many frames free
pub record MayBegin (u : Option Load) (free w p : ℕ) : Type 0 where
  pub load : Load
  pub is_load : u ≡ Some load
  pub by_worker : load.worker ≡ w
  pub enough : length load.missing ≤ free + length load.begun
  pub left : length load.begun < length load.missing
  pub piece : has load.missing p ≡ true
  pub not_begun : begins load p ≡ false

-- a load by the worker whose begun fill of the frame may be recorded; with it the load is open, or not
pub record MayFinish (u : Option Load) (w f p : ℕ) (open_after : Bool) : Type 0 where
  pub load : Load
  pub is_load : u ≡ Some load
  pub by_worker : load.worker ≡ w
  pub begun : begins_in load f p ≡ true
  pub not_filled : has load.filled p ≡ false
  pub all_begun : all_begun load ≡ true
  pub after : is_open (end_fill p load) ≡ open_after
