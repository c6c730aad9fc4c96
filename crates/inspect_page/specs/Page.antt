-- The text of a page.
use Rattle.std.specs.Prelude.{◌++◌, ℕ, min, List, codes, decimal, length, take}
use Rattle.std.specs.List.{flat_map}
use Rattle.scan_story.specs.declared.entry.Entry.{Entry}
use Rattle.inspect_picture.specs.Svg.{picture_part}
use Rattle.inspect_page.specs.declared.fixed.TheConstants.{FOOT, HEAD}
use Rattle.inspect_page.specs.declared.scan.Scan.{Scan}
use Rattle.inspect_page.specs.declared.scan_end.ScanEnd.{ScanEnd}
use Rattle.inspect_page.specs.declared.scan_end.ScanEnd.TheVariants.{Open, Over, Stopped}
use Rattle.inspect_page.specs.declared.table.TheConstants.{MOST_ROWS}
use Rattle.inspect_page.specs.Scans.{scans}

-- what each page has above its picture: its style; and below its table: its script
unfoldable pub head : List ℕ
head = HEAD.now

unfoldable pub foot : List ℕ
foot = FOOT.now

-- the entry by which a scan ends, and how it does
abbrev pub end_text : ScanEnd → List ℕ
end_text Open = codes "<td>open"
end_text (Over i) = decimal i ++ codes "<td>over"
end_text (Stopped i) = decimal i ++ codes "<td>stopped"

-- a row of the table
unfoldable pub row_text : Scan → List ℕ
row_text s =
    codes "<tr><td>" ++ (decimal s.query ++ (codes "<td>" ++ (decimal s.worker ++ (codes "<td>" ++ (decimal s.loads
    ++ (codes "<td>" ++ (decimal s.deliveries ++ (codes "<td>" ++ (decimal s.failures
    ++ (codes "<td>" ++ (decimal s.first ++ (codes "<td>" ++ (end_text s.end ++ codes "\n")))))))))))))

-- which entries the picture shows
unfoldable pub shown_text : ℕ → ℕ → ℕ → List ℕ
shown_text entries from to =
    codes "<table data-entries='" ++ (decimal entries ++ (codes "' data-from='" ++ (decimal from
    ++ (codes "' data-to='" ++ (decimal to ++ codes "'>\n")))))

-- how many of the scans have a row
unfoldable pub caption_text : ℕ → ℕ → List ℕ
caption_text rows all =
    codes "<caption>" ++ (decimal rows ++ (codes " of " ++ (decimal all ++ codes " scans</caption>\n")))

unfoldable pub columns_text : List ℕ
columns_text =
    codes "<thead><tr><th>query<th>worker<th>loads<th>deliveries"
    ++ codes "<th>failed loads<th>first entry<th>last entry<th>end\n<tbody>\n"

-- what stands before the rows
abbrev pub opening_text : ℕ → ℕ → ℕ → ℕ → ℕ → List ℕ
opening_text entries from to rows all = shown_text entries from to ++ (caption_text rows all ++ columns_text)

-- the table of scans, of which the first have a row
abbrev pub table_of : ℕ → ℕ → ℕ → List Scan → List ℕ
table_of entries from to ss =
    opening_text entries from to (min (length ss) MOST_ROWS) (length ss)
    ++ (flat_map row_text (take (min (length ss) MOST_ROWS) ss) ++ codes "</table>\n")

-- THE TABLE of the scans of a story
abbrev pub table : ℕ → ℕ → List Entry → List ℕ
table from to entries = table_of (length entries) from to (scans entries)

abbrev pub page_with : List ℕ → List ℕ → List ℕ
page_with picture table = head ++ (picture ++ (table ++ foot))

-- THE PAGE OF A STORY: the picture of the entries from and to these, as it stands, and the table of its scans
abbrev pub page : ℕ → ℕ → ℕ → List Entry → List ℕ
page groups from to entries = page_with (picture_part groups from to entries) (table from to entries)
