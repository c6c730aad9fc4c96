-- What is kept of a query, and what it stands for.
use Rattle.std.specs.Prelude.{◌≡◌, ◌-◌, ◌<◌, ◌≤◌, ℕ, Bool, true, false, List}
use Rattle.std.specs.Prelude.{[], Option, None, Some, length, slice_index_or}
use Rattle.std.specs.Option.{option_map}
use Rattle.scan_story.specs.declared.entry.Entry.{Entry}
use Rattle.scan_story.specs.declared.view.Phase.{Phase}
use Rattle.scan_story.specs.declared.view.Phase.TheVariants.{Waiting, Active}
use Rattle.scan_story.specs.declared.setting.Setting.{Setting}
use Rattle.scan_story.specs.Counting.{has}
use Rattle.scan_story.specs.Setting.{need_of, worker_of, columns_in, reads_group}
use Rattle.scan_story.specs.Views.{History, registers, stops, ends, delivers, phase_of, needs_chunk, is_available}
use Rattle.scan_story.specs.Numbers.{begins_wait, since_wait}
use Rattle.chunk_interest.specs.declared.client.Client.{Client}

-- the number in the option, if there is one, is at most n
abbrev pub IsUpTo : ℕ → Option ℕ → Type 0
IsUpTo n None = Unit {0}
IsUpTo n (Some b) = b ≤ n

-- the query's wait began with this entry, counted from 1, if it did begin
pub record IsWait (h : History) (q : ℕ) (began : Option ℕ) : Type 0 where
  pub past : IsUpTo (length h) began
  pub since : since_wait h q ≡ option_map (λ b. length h - b) began

-- the client stands for query q
pub record IsClient (s : Setting) (h : History) (q : ℕ) (k : Client) : Type 0 where
  pub worker : k.worker ≡ worker_of s q
  pub columns : k.columns ≡ columns_in (need_of s q)
  pub reads : (g : ℕ) → has k.reads g ≡ reads_group s q g
  pub phase : k.phase ≡ phase_of h q
  pub remaining : (c : ℕ) → has k.remaining c ≡ needs_chunk s h q c
  pub began : IsWait h q k.began

-- the client has the chunks that are available to query q
abbrev pub IsReady : Setting → History → ℕ → Client → Type 0
IsReady s h q k = (c : ℕ) → has k.available c ≡ is_available s h q c

-- the query of a number without a need
abbrev pub vacant : Client
vacant = record {
  worker = None;
  columns = [];
  reads = [];
  phase = Waiting;
  remaining = [];
  available = [];
  began = None;
}

abbrev pub client_at : List Client → ℕ → Client
client_at clients q = slice_index_or clients q vacant

-- each client stands for the query of its place
abbrev pub AreClients : Setting → History → List Client → Type 0
AreClients s h clients = (q : ℕ) → q < length clients → IsClient s h q (client_at clients q)

abbrev pub AreReady : Setting → History → List Client → Type 0
AreReady s h clients = (q : ℕ) → q < length clients → IsReady s h q (client_at clients q)

-- the entry doesn't touch the query
pub record Spares (q : ℕ) (e : Entry) : Type 0 where
  pub registers : registers q e ≡ false
  pub stops : stops q e ≡ false
  pub ends : ends q e ≡ false
  pub delivers : (c : ℕ) → delivers q c e ≡ false
  pub begins_wait : begins_wait q e ≡ false

abbrev pub is_active_phase : Phase → Bool
is_active_phase Active = true
is_active_phase _ = false
