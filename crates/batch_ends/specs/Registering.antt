-- In which order a worker registers its scans.
use Rattle.std.specs.Prelude.{◌≡◌, ◌==◌, ℕ, List, [], ◌∷◌, filter, map}
use Rattle.scan_story.specs.declared.entry.Entry.{Entry}
use Rattle.scan_story.specs.declared.entry.Entry.TheVariants.{Register}
use Rattle.scan_story.specs.Makers.{entries_by}
use Rattle.batch_plan.specs.Scans.{Scan}

-- the queries of the Registers among entries, in their order
abbrev pub registered : List Entry → List ℕ
registered [] = []
registered (Register w q ∷ es) = q ∷ registered es
registered (_ ∷ es) = registered es

-- the scans of a worker by their numbers, in their order
abbrev pub numbers_on : ℕ → List Scan → List ℕ
numbers_on w ks = map (λ (k : Scan). k.number) (filter (λ (k : Scan). k.worker == w) ks)

-- IN THE ORDER OF ITS TASKS: the Registers of a worker are of its scans, each of them once, in their order
abbrev pub RegistersInOrder : List Entry → List Scan → ℕ → Type 0
RegistersInOrder story ks w = registered (entries_by w story) ≡ numbers_on w ks
