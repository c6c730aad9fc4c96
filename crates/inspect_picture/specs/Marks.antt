-- The marks of a story: what a picture of it shows, by what the entries say. Entries are numbered from 1, the oldest
-- first.
use Rattle.std.specs.Prelude.{◌==◌, ◌/◌, ℕ, suc, Bool, true, false, List, [], ◌∷◌, ◌++◌, Option, None, Some}
use Rattle.std.specs.Prelude.{if◌then◌else◌}
use Rattle.scan_story.specs.declared.entry.Entry.{Entry}
use Rattle.scan_story.specs.declared.entry.Entry.TheVariants.{Register, Plan, Evict, Fill, Filled, Failed, Deliver}
use Rattle.scan_story.specs.declared.entry.Entry.TheVariants.{Release, Stop, End}
use Rattle.inspect_picture.specs.declared.bar.Bar.{Bar}
use Rattle.inspect_picture.specs.declared.bar.Ended.{Ended}
use Rattle.inspect_picture.specs.declared.bar.Ended.TheVariants.{Evicted, Refilled, Story}
use Rattle.inspect_picture.specs.declared.delivery.Delivery.{Delivery}
use Rattle.inspect_picture.specs.declared.life.Life.{Life}
use Rattle.inspect_picture.specs.declared.mark.Mark.{Mark}
use Rattle.inspect_picture.specs.declared.reading.Reading.{Reading}
use Rattle.inspect_picture.specs.declared.mark.Mark.TheVariants.{Alive, Load, Read, Stay, Given, Eviction, Fault}

abbrev pub bar : ℕ → ℕ → ℕ → ℕ → Ended → Bar
bar f p first last ended = record { frame = f; piece = p; first = first; last = last; ended = ended }

-- the stay of a piece in a frame from entry a on, where i is the number of the first of the entries behind it: until
-- the
-- chunk of the piece is evicted, or the frame is filled again, or the story ends
abbrev pub bar_of : ℕ → ℕ → ℕ → ℕ → ℕ → List Entry → Bar
bar_of groups f p a i [] = bar f p a i Story
bar_of groups f p a i (Evict w c ∷ es) = if c == p / groups then bar f p a i Evicted else bar_of groups f p a (suc i) es
bar_of groups f p a i (Fill w g q ∷ es) = if g == f then bar f p a i Refilled else bar_of groups f p a (suc i) es
bar_of groups f p a i (Filled w g q ∷ es) = if g == f then bar f p a i Refilled else bar_of groups f p a (suc i) es
bar_of groups f p a i (_ ∷ es) = bar_of groups f p a (suc i) es

abbrev pub reading : ℕ → ℕ → ℕ → ℕ → Bool → Reading
reading f p first last failed = record { frame = f; piece = p; first = first; last = last; failed = failed }

-- the reading of a piece into a frame from entry a on: until the frame is filled, or the load of the piece fails, or
-- the
-- story ends
abbrev pub read_of : ℕ → ℕ → ℕ → ℕ → List Entry → Reading
read_of f p a i [] = reading f p a i false
read_of f p a i (Fill w g q ∷ es) = if g == f then reading f p a i false else read_of f p a (suc i) es
read_of f p a i (Filled w g q ∷ es) = if g == f then reading f p a i false else read_of f p a (suc i) es
read_of f p a i (Failed w q r why ∷ es) = if r == p then reading f p a i true else read_of f p a (suc i) es
read_of f p a i (_ ∷ es) = read_of f p a (suc i) es

abbrev pub life : ℕ → ℕ → ℕ → ℕ → Life
life w q first last = record { worker = w; query = q; first = first; last = last }

-- a query that registers by entry a lives until it ends or is given up, or the story ends
abbrev pub life_of : ℕ → ℕ → ℕ → ℕ → List Entry → Life
life_of w q a i [] = life w q a i
life_of w q a i (Stop v r ∷ es) = if r == q then life w q a i else life_of w q a (suc i) es
life_of w q a i (End v r ∷ es) = if r == q then life w q a i else life_of w q a (suc i) es
life_of w q a i (_ ∷ es) = life_of w q a (suc i) es

abbrev pub delivery : ℕ → ℕ → ℕ → ℕ → ℕ → Delivery
delivery w q c first last = record { worker = w; query = q; chunk = c; first = first; last = last }

-- what is delivered to a worker by entry a is held until the worker's next Release or Deliver, or the story ends
abbrev pub delivery_of : ℕ → ℕ → ℕ → ℕ → ℕ → List Entry → Delivery
delivery_of w q c a i [] = delivery w q c a i
delivery_of w q c a i (Deliver v r d ∷ es) = if v == w then delivery w q c a i else delivery_of w q c a (suc i) es
delivery_of w q c a i (Release v r d ∷ es) = if v == w then delivery w q c a i else delivery_of w q c a (suc i) es
delivery_of w q c a i (_ ∷ es) = delivery_of w q c a (suc i) es

-- the mark of entry i, which these entries follow
abbrev pub mark_of : ℕ → ℕ → Entry → List Entry → Option Mark
mark_of groups i (Register w q) es = Some (Alive (life_of w q i (suc i) es))
mark_of groups i (Plan w q c) es = Some (Load w q c i)
mark_of groups i (Evict w c) es = Some (Eviction c i)
mark_of groups i (Fill w f p) es = Some (Read (read_of f p i (suc i) es))
mark_of groups i (Filled w f p) es = Some (Stay (bar_of groups f p i (suc i) es))
mark_of groups i (Failed w q p why) es = Some (Fault q p i)
mark_of groups i (Deliver w q c) es = Some (Given (delivery_of w q c i (suc i) es))
mark_of groups i (Release w q c) es = None
mark_of groups i (Stop w q) es = None
mark_of groups i (End w q) es = None

abbrev pub mark_list : Option Mark → List Mark
mark_list None = []
mark_list (Some mark) = mark ∷ []

-- the marks of the entries from number i on
abbrev pub marks_from : ℕ → ℕ → List Entry → List Mark
marks_from groups i [] = []
marks_from groups i (e ∷ es) = mark_list (mark_of groups i e es) ++ marks_from groups (suc i) es

-- THE MARKS OF A STORY, a chunk having so many pieces
abbrev pub marks : ℕ → List Entry → List Mark
marks groups entries = marks_from groups 1 entries

-- the bars among the marks
abbrev pub bars_in : List Mark → List Bar
bars_in [] = []
bars_in (Stay b ∷ ms) = b ∷ bars_in ms
bars_in (_ ∷ ms) = bars_in ms

-- THE BARS OF A STORY
abbrev pub bars : ℕ → List Entry → List Bar
bars groups entries = bars_in (marks groups entries)
