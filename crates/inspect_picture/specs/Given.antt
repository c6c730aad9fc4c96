-- The deliveries of a story, by its entries and by its marks.
use Rattle.std.specs.Prelude.{ℕ, suc, List, [], ◌∷◌}
use Rattle.scan_story.specs.declared.entry.Entry.{Entry}
use Rattle.scan_story.specs.declared.entry.Entry.TheVariants.{Deliver}
use Rattle.inspect_picture.specs.declared.mark.Mark.{Mark}
use Rattle.inspect_picture.specs.declared.mark.Mark.TheVariants.{Given}

-- the number of an entry by which a chunk is delivered to a query, the query and the chunk
pub record Delivered : Type 0 where
  pub entry : ℕ
  pub query : ℕ
  pub chunk : ℕ

abbrev pub delivered : ℕ → ℕ → ℕ → Delivered
delivered i q c = record { entry = i; query = q; chunk = c }

-- those of the entries, from number i on
abbrev pub delivered_from : ℕ → List Entry → List Delivered
delivered_from i [] = []
delivered_from i (Deliver w q c ∷ es) = delivered i q c ∷ delivered_from (suc i) es
delivered_from i (_ ∷ es) = delivered_from (suc i) es

-- those of the marks
abbrev pub deliveries_in : List Mark → List Delivered
deliveries_in [] = []
deliveries_in (Given d ∷ ms) = delivered d.first d.query d.chunk ∷ deliveries_in ms
deliveries_in (_ ∷ ms) = deliveries_in ms
