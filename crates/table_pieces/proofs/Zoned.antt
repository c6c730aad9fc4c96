-- The zones of all chunks, from the zones of each.
use Rattle.std.proofs.Common.{◌≡◌, ◌≢◌, ◌∙◌, ◌-◌, ◌*◌, ◌<◌, ◌≤◌, ℕ, Bool, false, List, [], length, get_or, drop, arith, refl, sym, ap, subst, inl, inr}
use Rattle.std.specs.Prelude.{All, IfSome, None, Option, Some}
use Rattle.std.proofs.lemmas.Bool.{cases_Bool, false≢true, lt-ltb}
use Rattle.std.proofs.lemmas.List.Elements.{All-drop, All-from_get_or, All-take}
use Rattle.std.proofs.lemmas.List.FromFn.{get_or-map-range_with_len, length-map-range_with_len}
use Rattle.table_core.specs.Chunk.{chunk, chunk_count, chunk_end}
use Rattle.table_sets.specs.Sets.{has}
use Rattle.table_core.specs.declared.cell.Cell.{Cell}
use Rattle.table_sets.proofs.Members.{has-numbers}
use Rattle.piece_format.specs.Shape.{TableShape, chunks}
use Rattle.filter_zones.specs.Possible.{FitsZones, chunk_at, is_needed, needed}
use Rattle.filter_zones.specs.Truth.{FitsRow, truth_of}
use Rattle.filter_zones.specs.Zone.{CoversRow}
use Rattle.filter_zones.specs.declared.cond.Cond.{Cond}
use Rattle.filter_zones.specs.declared.truth.Truth.TheVariants.{True}
use Rattle.filter_zones.specs.declared.zone.ChunkZones.{ChunkZones}
use Rattle.filter_zones.proofs.Law.{none_outside}
use Rattle.table_pieces.specs.Zoning.{CoverChunks, HaveAllThatPass, NoMatchOutside, PassesOnly, chunk_zones, zones_in}
use Rattle.table_pieces.proofs.Passing.{passing_chunks}

pub all_in_chunk : {X : Type 0} (P : X → Type 0) (rows : List X) (per c : ℕ) → All P rows → All P (chunk rows per c)
all_in_chunk P rows per c all = All-take P (chunk_end (length rows) per c - c * per) (drop (c * per) rows) (All-drop P (c * per) rows all)

module _ (s : TableShape) (rows : List (List Cell)) where
  -- the zones at a place
  pub zones_at : (c : ℕ) → c < chunks s → chunk_at (chunk_zones s rows) c ≡ zones_in s rows c
  zones_at c low = get_or-map-range_with_len (zones_in s rows) 0 (chunks s) c c (record { zones = [] }) low (omega arith)

  pub count_zones : length (chunk_zones s rows) ≡ chunks s
  count_zones = length-map-range_with_len (zones_in s rows) 0 (chunks s)

  pub cover_all : ((c : ℕ) → c < chunks s → All (CoversRow (zones_in s rows c).zones) (chunk rows s.per c)) → CoverChunks s rows (chunk_zones s rows)
  cover_all each c low = subst (λ (z : ChunkZones). All (CoversRow z.zones) (chunk rows s.per c)) (sym (zones_at c low)) (each c low)

  module _ (cond : Cond) (all : All (FitsRow cond) rows) where
    pub fit_all : ((c : ℕ) → c < chunks s → All (FitsRow cond) (chunk rows s.per c) → FitsZones cond (zones_in s rows c).zones) → All (λ chunk. FitsZones cond chunk.zones) (chunk_zones s rows)
    fit_all each = All-from_get_or (λ chunk. FitsZones cond chunk.zones) (chunk_zones s rows) (record { zones = [] }) (λ c inside.
        let low : c < chunks s = omega (arith, inside, count_zones) in
        subst (λ (z : ChunkZones). FitsZones cond z.zones) (sym (zones_at c low)) (each c low (all_in_chunk (FitsRow cond) rows s.per c all)))

    pub no_match : All (λ chunk. FitsZones cond chunk.zones) (chunk_zones s rows) → CoverChunks s rows (chunk_zones s rows) → NoMatchOutside s rows cond (needed (Some cond) (chunk_zones s rows))
    no_match fits covers c low out i d inside met =
        let zones = chunk_zones s rows in
        let none = none_outside (Some cond) zones (needed (Some cond) zones) fits (has-numbers (λ k. is_needed (Some cond) (chunk_at zones k)) (length zones)) in
        none c (omega (arith, low, count_zones)) out (get_or (chunk rows s.per c) i d) (all_in_chunk (FitsRow cond) rows s.per c all i d inside) (covers c low i d inside) met

-- a row that doesn't meet the condition doesn't pass
fails : (passes : List Cell → Bool) (cond : Cond) (rows : List (List Cell)) → PassesOnly passes (Some cond) → All (λ row. truth_of cond row ≢ True) rows → All (λ row. passes row ≡ false) rows
fails passes cond rows only none i d low = elim (cases_Bool (passes (get_or rows i d))) [
  | inl passing ↦ absurd (none i d low (only (get_or rows i d) passing))
  | inr not ↦ not
]

-- the rows that pass are those of the needed chunks that pass
pub all_pass : (s : TableShape) (rows : List (List Cell)) (zones : List ChunkZones) (cond : Option Cond) (passes : List Cell → Bool) → 1 ≤ s.per → length rows ≡ s.rows → length zones ≡ chunks s
    → PassesOnly passes cond → IfSome cond (λ c. NoMatchOutside s rows c (needed cond zones)) → HaveAllThatPass s rows passes (needed cond zones)
all_pass s rows zones cond passes some count many only none =
    let member : ℕ → Bool = λ k. is_needed cond (chunk_at zones k) in
    let all : chunk_count (length rows) s.per ≡ length zones = ap (λ n. chunk_count n s.per) count ∙ sym many in
    rw all at (passing_chunks passes rows s.per member (λ k low not. out cond k (omega (arith, low, all)) not only none) some) where
      out : (cond : Option Cond) (k : ℕ) → k < length zones → is_needed cond (chunk_at zones k) ≡ false → PassesOnly passes cond → IfSome cond (λ c. NoMatchOutside s rows c (needed cond zones))
          → All (λ row. passes row ≡ false) (chunk rows s.per k)
      out None k low not only none = absurd (false≢true (sym not))
      out (Some c) k low not only none =
          let outside : has (needed (Some c) zones) k ≡ false = has-numbers (λ k. is_needed (Some c) (chunk_at zones k)) (length zones) k ∙ rw (lt-ltb k (length zones) low, not) refl in
          fails passes c (chunk rows s.per k) only (none k (omega (arith, low, many)) outside)
