-- The example of a diary: what its writers write.
use Rattle.std.specs.Prelude.{ℕ, zero, suc, ◌≡◌, List, [], ◌∷◌, ◌++◌}
use Rattle.atomic_table.specs.Seated.{TableId}
use Rattle.scan_story.specs.declared.entry.Entry.{Entry}
use Rattle.scan_story.specs.declared.entry.Entry.TheVariants.{Release}
use Rattle.scan_story.specs.Makers.{entries_by}
use Rattle.example_threads.specs.declared.diary.Writer.{Writer}
use Rattle.baton.specs.Passes.{PassView, IsFree, Went}

-- a worker's notes of the first n chunks
abbrev pub notes : ℕ → ℕ → List Entry
notes w zero = []
notes w (suc n) = notes w n ++ Release w 1 n ∷ []

module _ {S : Type 0} where
  -- its pass is of this baton, free and of its number, and it has written nothing
  abbrev pub IsReady : TableId → Writer S → Type 0
  IsReady id w = IsFree id w.pass × (w.pass.number ≡ w.number) × (w.pass.mine ≡ []) × (w.done ≡ 0)

  -- it wrote as many notes as it took turns, and no other entry
  abbrev pub HasWritten : Writer S → Writer S → Type 0
  HasWritten v w = (w.number ≡ v.number) × Went v.pass w.pass (notes v.number w.done)

  -- its pass is free again, and has just the notes
  abbrev pub IsDone : TableId → Writer S → Type 0
  IsDone id w = IsFree id w.pass × (w.pass.number ≡ w.number) × (w.pass.mine ≡ notes w.number w.done)

-- a free pass of the number, with so many notes
abbrev pub IsLeft : TableId → PassView → ℕ × ℕ → Type 0
IsLeft id p q = IsFree id p × (p.number ≡ q.0) × (p.mine ≡ notes q.0 q.1)

-- the diary has just so many notes of the worker, in their order
abbrev pub HasNotes : List Entry → ℕ × ℕ → Type 0
HasNotes story q = entries_by q.0 story ≡ notes q.0 q.1
