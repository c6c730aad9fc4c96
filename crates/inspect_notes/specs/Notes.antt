-- The note of a statement.
use Rattle.std.specs.Prelude.{◌≡◌, ℕ, List, length}
use Rattle.filter_zones.specs.Possible.{needed}
use Rattle.filter_zones.specs.declared.zone.ChunkZones.{ChunkZones}
use Rattle.sql_text.specs.Grammar.{QueryTree}
use Rattle.sql_text.specs.Queries.{HasQuery}
use Rattle.sql_writing.specs.Writing.{query_text}
use Rattle.sql_bind.specs.declared.plan.Plan.{Plan}
use Rattle.inspect_notes.specs.declared.note.Note.{Note}
use Rattle.inspect_notes.specs.Obstacles.{obstacles_of}

-- some query is that of the text
abbrev pub IsQuery : List ℕ → Type 0
IsQuery bytes = (q : QueryTree) × HasQuery bytes q

-- THE NOTE of a text with this plan over chunks with these zones. A run with the plan asks for the same columns and
-- chunks
pub record IsNote (bytes : List ℕ) (p : Plan) (zones : List ChunkZones) (n : Note) : Type 0 where
  pub query : QueryTree
  pub read : HasQuery bytes query
  -- what is written reads as the same query
  pub again : HasQuery n.text query
  pub form : n.text ≡ query_text query
  -- each column that the plan names, once, in rising order
  pub columns : n.columns.items ≡ p.columns
  pub chunks : n.chunks ≡ length zones
  pub needed : n.needed ≡ length (needed p.cond zones)
  pub obstacles : n.obstacles.items ≡ obstacles_of p.cond zones
