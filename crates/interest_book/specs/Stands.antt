-- What a book stands for.
use Rattle.std.specs.Prelude.{◌≡◌, ◌^◌, ◌-◌, ◌<◌, ◌≤◌, ℕ, true, false, is_some, length, map}
use Rattle.std.specs.Option.{option_map}
use Rattle.scan_story.specs.declared.entry.Entry.{Entry}
use Rattle.scan_story.specs.declared.view.Load.{Load}
use Rattle.interest_book.specs.declared.loading.Underway.{Underway}
use Rattle.scan_story.specs.declared.setting.Setting.{Setting}
use Rattle.scan_story.specs.Counting.{has}
use Rattle.scan_story.specs.Setting.{IsSetting, need_of, shares}
use Rattle.scan_story.specs.Views.{History}
use Rattle.scan_story.specs.Loads.{underway}
use Rattle.scan_story.specs.MayFollow.{Allowed}
use Rattle.interest_book.specs.declared.book.Book.{Book}
use Rattle.interest_book.specs.Held.{AreHolds}
use Rattle.chunk_interest.specs.Fresh.{as_need}
use Rattle.chunk_interest.specs.Follows.{AllMayFollow}
use Rattle.chunk_interest.specs.Clients.{AreClients, AreReady}
use Rattle.interest_book.specs.Loading.{loading_of}
use Rattle.chunk_interest.specs.Marked.{row_at}
use Rattle.chunk_interest.specs.Buffers.{IsBuffer}

-- who loads which chunk, and for which query
abbrev pub underway_of : Load → Underway
underway_of l = record { worker = l.worker; query = l.query; chunk = l.chunk }

-- the book stands for the setting's needs and the history, in which each entry may follow those before it
pub record Stands (b : Book) (s : Setting) (h : History) : Type 0 where
  pub setting : IsSetting s
  pub followed : AllMayFollow s h
  pub needs : map as_need b.needs.items ≡ s.needs
  pub chunks : b.chunks ≡ s.chunks
  pub workers : b.workers ≡ s.workers
  pub noted : length h ≡ b.noted
  pub clients : AreClients s h b.clients
  pub ready : AreReady s h b.clients
  pub buffer : IsBuffer s h b.buffer
  pub holds : AreHolds h b.holds.items
  pub sharers : (q r : ℕ) → q ≤ 256 → r ≤ 256 → has (row_at b.sharers.items q) r ≡ shares s q r
  pub loading : b.loading ≡ option_map loading_of (underway s h)

-- the entry may follow a history that the book stands for, and that has room for it in a count of 63 bits
pub record MayFollow (b : Book) (e : Entry) : Type 0 where
  pub setting : Setting
  pub history : History
  pub stands : Stands b setting history
  pub allowed : Allowed setting history e
  pub short : length history < 2 ^ 63 - 1

-- m is the least query of the needs from q on
pub record IsLeastQuery (s : Setting) (q m : ℕ) : Type 0 where
  pub from : q ≤ m
  pub there : is_some (need_of s m) ≡ true
  pub least : (r : ℕ) → q ≤ r → r < m → is_some (need_of s r) ≡ false
