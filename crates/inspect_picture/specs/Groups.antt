-- How many pieces a chunk has, by what a story says.
use Rattle.std.specs.Prelude.{◌≡◌, ◌==◌, ◌/◌, ◌<◌, ◌≤◌, ◌&&◌, true, false, ℕ, Bool, List, [], ◌∷◌}
use Rattle.scan_story.specs.declared.entry.Entry.{Entry}
use Rattle.scan_story.specs.declared.entry.Entry.TheVariants.{Plan, Fill}

-- where a chunk has so many pieces, each piece that is read is one of the chunk that was last planned, first of this
-- one
abbrev pub fills_agree : ℕ → ℕ → List Entry → Bool
fills_agree groups c [] = true
fills_agree groups c (Plan w q d ∷ es) = fills_agree groups d es
fills_agree groups c (Fill w f p ∷ es) = p / groups == c && fills_agree groups c es
fills_agree groups c (_ ∷ es) = fills_agree groups c es

-- the least number by which they agree
pub record IsLeastGroups (entries : List Entry) (groups : ℕ) : Type 0 where
  pub some : (1 ≤ groups) × (groups ≤ 16)
  pub agree : fills_agree groups 0 entries ≡ true
  pub least : (g : ℕ) → 1 ≤ g → g < groups → fills_agree g 0 entries ≡ false
