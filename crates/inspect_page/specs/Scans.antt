-- What a story says of its scans. Entries are numbered from 1, the oldest first.
use Rattle.std.specs.Prelude.{◌==◌, ◌+◌, ℕ, suc, Bool, false, List, [], ◌∷◌, ◌++◌, Option, None, Some, if◌then◌else◌}
use Rattle.scan_story.specs.declared.entry.Entry.{Entry}
use Rattle.scan_story.specs.declared.entry.Entry.TheVariants.{Register, Plan, Failed, Deliver, Stop, End}
use Rattle.inspect_page.specs.declared.scan.Scan.{Scan}
use Rattle.inspect_page.specs.declared.scan_end.ScanEnd.{ScanEnd}
use Rattle.inspect_page.specs.declared.scan_end.ScanEnd.TheVariants.{Open, Over, Stopped}
use Rattle.inspect_page.specs.declared.tally.Tally.{Tally}

-- a load is planned for the query
abbrev pub plans : ℕ → Entry → Bool
plans q (Plan w r c) = r == q
plans q _ = false

-- the query is given a chunk
abbrev pub delivers : ℕ → Entry → Bool
delivers q (Deliver w r c) = r == q
delivers q _ = false

-- a load for the query fails
abbrev pub fails : ℕ → Entry → Bool
fails q (Failed w r p why) = r == q
fails q _ = false

-- how many of the entries are so
abbrev pub count : (Entry → Bool) → List Entry → ℕ
count p [] = 0
count p (e ∷ es) = if p e then count p es + 1 else count p es

-- how the query ends by these entries, of which the first has number i
abbrev pub end_of : ℕ → ℕ → List Entry → ScanEnd
end_of q i [] = Open
end_of q i (Stop w r ∷ es) = if r == q then Stopped i else end_of q (suc i) es
end_of q i (End w r ∷ es) = if r == q then Over i else end_of q (suc i) es
end_of q i (_ ∷ es) = end_of q (suc i) es

-- what these entries say of a query
abbrev pub tally_of : ℕ → ℕ → List Entry → Tally
tally_of q i es = record {
  loads = count (plans q) es;
  deliveries = count (delivers q) es;
  failures = count (fails q) es;
  end = end_of q i es;
}

-- the scan of a query that registers by entry i, of which the entries behind it say this
abbrev pub scan : ℕ → ℕ → ℕ → Tally → Scan
scan w q i t = record {
  worker = w;
  query = q;
  loads = t.loads;
  deliveries = t.deliveries;
  failures = t.failures;
  first = i;
  end = t.end;
}

-- the scan that begins by entry i, which these entries follow
abbrev pub scan_at : ℕ → Entry → List Entry → Option Scan
scan_at i (Register w q) es = Some (scan w q i (tally_of q (suc i) es))
scan_at i _ es = None

abbrev pub scan_list : Option Scan → List Scan
scan_list None = []
scan_list (Some s) = s ∷ []

-- the scans that begin by the entries from number i on
abbrev pub scans_from : ℕ → List Entry → List Scan
scans_from i [] = []
scans_from i (e ∷ es) = scan_list (scan_at i e es) ++ scans_from (suc i) es

-- THE SCANS OF A STORY
abbrev pub scans : List Entry → List Scan
scans entries = scans_from 1 entries
