-- Which entries may follow a history.
use Rattle.std.specs.Prelude.{◌≡◌, ◌==◌, ◌+◌, ◌-◌, ◌^◌, ◌<◌, ◌≤◌, ◌⊎◌, ◌&&◌, not, true, false}
use Rattle.std.specs.Prelude.{ℕ, Bool, [], None, Some, is_none, is_some, nat_lt, length}
use Rattle.std.specs.List.{list_any}
use Rattle.scan_story.specs.declared.entry.Why.{Why}
use Rattle.scan_story.specs.declared.entry.Why.TheVariants.{Fault, Damage}
use Rattle.scan_story.specs.declared.entry.Entry.{Entry}
use Rattle.scan_story.specs.declared.entry.Entry.TheVariants.{Register, Plan, Evict, Fill, Filled}
use Rattle.scan_story.specs.declared.entry.Entry.TheVariants.{Failed, Deliver, Release, Stop, End}
use Rattle.scan_story.specs.declared.view.Load.{Load}
use Rattle.scan_story.specs.declared.setting.Setting.{Setting}
use Rattle.scan_story.specs.Counting.{has, any_below}
use Rattle.scan_story.specs.Setting.{need_of, worker_of}
use Rattle.scan_story.specs.Views.{History, is_registered, is_active, needs_chunk}
use Rattle.scan_story.specs.Views.{is_wholly_framed, is_available, held_by, is_held}
use Rattle.scan_story.specs.Loads.{underway, begins, begins_in, all_begun, is_load_by, is_load_of, is_free, free_frames}
use Rattle.scan_story.specs.Numbers.{needed, cached, is_starved}

-- Candidates

-- a chunk that the query needs and that isn't wholly in frames for it
abbrev pub is_target : Setting → History → ℕ → ℕ → Bool
is_target s h q c = nat_lt c s.chunks && needs_chunk s h q c && not (is_wholly_framed s h q c)

-- a chunk that is available to the query
abbrev pub is_ready : Setting → History → ℕ → ℕ → Bool
is_ready s h q c = nat_lt c s.chunks && is_available s h q c

-- a starved query that needs a chunk that isn't wholly in frames, while no plan is underway
abbrev pub is_trigger : Setting → History → ℕ → Bool
is_trigger s h q = is_some (need_of s q) && is_none (underway s h) && is_starved s h q
    && any_below (is_target s h q) s.chunks

-- the chunk is available to a starved query
abbrev pub feeds_starved : Setting → History → ℕ → Bool
feeds_starved s h c = list_any (λ n. is_starved s h n.query && is_available s h n.query c) s.needs

-- a chunk that has a piece in a frame, isn't the target of the load underway, is held by nobody, and available to no
-- starved query
abbrev pub is_victim : Setting → History → ℕ → Bool
is_victim s h c =
    nat_lt c s.chunks && nat_lt 0 (cached s h c) && not (is_load_of c (underway s h)) && not (is_held s h c)
    && not (feeds_starved s h c)

-- What each kind asks

-- the query is active, and its need names the worker
pub record IsActiveOn (s : Setting) (h : History) (q w : ℕ) : Type 0 where
  pub active : is_active h q ≡ true
  pub on : worker_of s q ≡ Some w

-- the worker holds nothing and has no plan underway
pub record IsIdle (s : Setting) (h : History) (w : ℕ) : Type 0 where
  pub holds_nothing : held_by h w ≡ None
  pub loads_nothing : is_load_by w (underway s h) ≡ false

-- the load is underway, and it is the worker's
pub record IsLoadOf (s : Setting) (h : History) (w : ℕ) (l : Load) : Type 0 where
  pub underway : underway s h ≡ Some l
  pub by_worker : l.worker ≡ w

pub record MayRegister (s : Setting) (h : History) (w q : ℕ) : Type 0 where
  pub first : is_registered h q ≡ false
  pub on : worker_of s q ≡ Some w
  pub alone : list_any (λ n. n.worker == w && is_active h n.query) s.needs ≡ false
  pub idle : IsIdle s h w

pub record MayPlan (s : Setting) (h : History) (w q c : ℕ) : Type 0 where
  pub worker : w < s.workers
  pub none_underway : underway s h ≡ None
  pub holds_nothing : held_by h w ≡ None
  pub starved : is_starved s h q ≡ true
  pub target : is_target s h q c ≡ true

pub record MayEvict (s : Setting) (h : History) (w c : ℕ) : Type 0 where
  pub load : Load
  pub is_load : IsLoadOf s h w load
  pub none_begun : load.begun ≡ []
  pub too_few : free_frames s h < length load.missing
  pub victim : is_victim s h c ≡ true

pub record MayFill (s : Setting) (h : History) (w f p : ℕ) : Type 0 where
  pub load : Load
  pub is_load : IsLoadOf s h w load
  pub enough : length load.missing ≤ free_frames s h + length load.begun
  pub frame : f < s.frames
  pub free : is_free s h f ≡ true
  pub piece : has load.missing p ≡ true
  pub not_begun : begins load p ≡ false

pub record MayFilled (s : Setting) (h : History) (w f p : ℕ) : Type 0 where
  pub load : Load
  pub is_load : IsLoadOf s h w load
  pub begun : begins_in load f p ≡ true
  pub not_filled : has load.filled p ≡ false
  pub all_begun : all_begun load ≡ true

-- a count of faults rose, or stands at its last value
abbrev pub IsRise : ℕ → ℕ → Type 0
IsRise before after = (before < after) ⊎ ((before ≡ 2 ^ 64 - 1) × (after ≡ 2 ^ 64 - 1))

abbrev pub IsReason : Why → Type 0
IsReason (Fault before after) = IsRise before after
IsReason (Damage word) = Unit {0}

pub record MayFail (s : Setting) (h : History) (w q p : ℕ) (why : Why) : Type 0 where
  pub load : Load
  pub is_load : IsLoadOf s h w load
  pub for_query : load.query ≡ q
  pub begun : begins load p ≡ true
  pub not_filled : has load.filled p ≡ false
  pub all_begun : all_begun load ≡ true
  pub reason : IsReason why

pub record MayDeliver (s : Setting) (h : History) (w q c : ℕ) : Type 0 where
  pub on : IsActiveOn s h q w
  pub idle : IsIdle s h w
  pub ready : is_ready s h q c ≡ true

pub record MayStop (s : Setting) (h : History) (w q : ℕ) : Type 0 where
  pub on : IsActiveOn s h q w
  pub idle : IsIdle s h w

pub record MayEnd (s : Setting) (h : History) (w q : ℕ) : Type 0 where
  pub on : IsActiveOn s h q w
  pub idle : IsIdle s h w
  pub needs_nothing : needed s h q ≡ 0

-- the entry may follow the history
abbrev pub Allowed : Setting → History → Entry → Type 0
Allowed s h (Register w q) = MayRegister s h w q
Allowed s h (Plan w q c) = MayPlan s h w q c
Allowed s h (Evict w c) = MayEvict s h w c
Allowed s h (Fill w f p) = MayFill s h w f p
Allowed s h (Filled w f p) = MayFilled s h w f p
Allowed s h (Failed w q p why) = MayFail s h w q p why
Allowed s h (Deliver w q c) = MayDeliver s h w q c
Allowed s h (Release w q c) = held_by h w ≡ Some (record { query = q; chunk = c })
Allowed s h (Stop w q) = MayStop s h w q
Allowed s h (End w q) = MayEnd s h w q
