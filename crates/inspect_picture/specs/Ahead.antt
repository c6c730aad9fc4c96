-- What a walk back from the end of a story knows of the entries ahead.
use Rattle.std.specs.Prelude.{◌≡◌, ℕ, nat_eq, nat_lt, true, false, List, Option, None, Some, if◌then◌else◌}
use Rattle.std.specs.HashMap.{get}
use Rattle.scan_story.specs.declared.entry.Entry.{Entry}
use Rattle.inspect_picture.specs.declared.ahead.Ahead.{Ahead}
use Rattle.inspect_picture.specs.declared.bar.Bar.{Bar}
use Rattle.inspect_picture.specs.declared.bar.Ended.TheVariants.{Evicted, Refilled}
use Rattle.inspect_picture.specs.declared.reading.Reading.{Reading}
use Rattle.inspect_picture.specs.Next.{next, ends, evicts, fails, fills, turns}

-- what is known of each frame, chunk, worker, query and piece is the number of the next of the entries that fills,
-- evicts,
-- turns, ends or fails it, where the first of them has number i
pub record IsAhead (a : Ahead) (i : ℕ) (es : List Entry) : Type 0 where
  pub filled : (f : ℕ) → get nat_eq a.fills f ≡ next (fills f) i es
  pub evicted : (c : ℕ) → get nat_eq a.evictions c ≡ next (evicts c) i es
  pub turned : (w : ℕ) → get nat_eq a.turns w ≡ next (turns w) i es
  pub ended : (q : ℕ) → get nat_eq a.ends q ≡ next (ends q) i es
  pub failed : (p : ℕ) → get nat_eq a.faults p ≡ next (fails p) i es

-- a stay that is cut by the sooner of a fill and an eviction, where they are ahead
abbrev pub cut_by : Bar → Option ℕ → Option ℕ → Bar
cut_by b None None = b
cut_by b (Some i) None = record b { last = i; ended = Refilled }
cut_by b None (Some j) = record b { last = j; ended = Evicted }
cut_by b (Some i) (Some j) =
    if nat_lt i j then record b { last = i; ended = Refilled } else record b { last = j; ended = Evicted }

-- a reading that is cut by the sooner of a fill and a fault, where they are ahead
abbrev pub read_by : Reading → Option ℕ → Option ℕ → Reading
read_by r None None = r
read_by r (Some i) None = record r { last = i; failed = false }
read_by r None (Some j) = record r { last = j; failed = true }
read_by r (Some i) (Some j) =
    if nat_lt i j then record r { last = i; failed = false } else record r { last = j; failed = true }
