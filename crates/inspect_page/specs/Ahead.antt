-- What a walk back from the end of a story knows of the queries of the entries ahead.
use Rattle.std.specs.Prelude.{◌≡◌, ◌+◌, ℕ, min, nat_eq, List, Option, None, Some}
use Rattle.std.specs.Option.{unwrap_or}
use Rattle.std.specs.HashMap.{get}
use Rattle.scan_story.specs.declared.entry.Entry.{Entry}
use Rattle.scan_story.specs.declared.entry.Entry.TheVariants.{Plan, Failed, Deliver, Stop, End}
use Rattle.inspect_page.specs.declared.scan_end.ScanEnd.TheVariants.{Open, Over, Stopped}
use Rattle.inspect_page.specs.declared.tallies.Tallies.{Tallies}
use Rattle.inspect_page.specs.declared.tally.Tally.{Tally}
use Rattle.inspect_page.specs.Scans.{tally_of}

-- of no entries
abbrev pub blank : Tally
blank = record { loads = 0; deliveries = 0; failures = 0; end = Open }

-- what is known of each query is what the entries ahead say of it, the first of which has number i
abbrev pub IsAhead : Tallies → ℕ → List Entry → Type 0
IsAhead t i es = (q : ℕ) → unwrap_or (get nat_eq t.queries q) blank ≡ tally_of q i es

-- the query of which an entry tells something, beside that it registers
abbrev pub query_of : Entry → Option ℕ
query_of (Plan w q c) = Some q
query_of (Deliver w q c) = Some q
query_of (Failed w q p why) = Some q
query_of (Stop w q) = Some q
query_of (End w q) = Some q
query_of _ = None

-- with entry i, which tells of the query, before those ahead
abbrev pub with_entry : ℕ → Entry → Tally → Tally
with_entry i (Plan w q c) t = record t { loads = min (t.loads + 1) 4294967295 }
with_entry i (Deliver w q c) t = record t { deliveries = min (t.deliveries + 1) 4294967295 }
with_entry i (Failed w q p why) t = record t { failures = min (t.failures + 1) 4294967295 }
with_entry i (Stop w q) t = record t { end = Stopped i }
with_entry i (End w q) t = record t { end = Over i }
with_entry i _ t = t
