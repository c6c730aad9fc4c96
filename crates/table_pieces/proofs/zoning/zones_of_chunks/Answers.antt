use Rattle.std.proofs.Common.{◌≡◌, ◌<◌, ◌∙◌, ◌++◌, ◌∷◌, [], ℕ, length, map, ap, arith, sym, subst}
use Rattle.std.specs.Prelude.{All, IfSome, None, Option, Some}
use Rattle.std.specs.List.{range_with_len}
use Rattle.std.proofs.lemmas.List.FromFn.{map-range_with_len_more}
use Rattle.table_core.specs.Chunk.{chunk}
use Rattle.piece_format.specs.Shape.{chunks}
use Rattle.filter_zones.specs.Possible.{FitsZones, needed}
use Rattle.filter_zones.specs.Truth.{FitsRow}
use Rattle.filter_zones.specs.Zone.{CoversRow}
use Rattle.filter_zones.specs.declared.cond.Cond.{Cond}
use Rattle.filter_zones.specs.declared.zone.ChunkZones.{ChunkZones}
use Rattle.table_pieces.specs.Zoning.{CoverChunks, HaveAllThatPass, NoMatchOutside, chunk_zones, zones_in}
use Rattle.table_pieces.proofs.Below.{one_more}
use Rattle.table_pieces.proofs.Zoned.{all_pass, count_zones, cover_all, fit_all, no_match}
use Rattle.table_pieces.proofs.zoning.zones_of_chunks.Goals as goal
use Rattle.table_pieces.proofs.zoning.zones_of_chunks.Goals.{After-loop-chunk}

pub loop-chunk-preserved : goal.loop-chunk-preserved
loop-chunk-preserved c =
    let s = c.args.shape.now in
    let rows = c.args.table.now.rows in
    let n = c.loop-chunk.chunk in
    let before = c.loop-chunk.invariant in
    let here = c.zones_of_chunk.ensures in
    record {
      zones = c.in_ok-push.ensures.items
          ∙ ap (λ zones. zones ++ c.zones_of_chunk.result ∷ []) before.zones
          ∙ ap (λ z. map (zones_in s rows) (range_with_len 0 n) ++ z ∷ []) here.zones
          ∙ sym (map-range_with_len_more (zones_in s rows) 0 n n (omega arith));
      covers = one_more (λ c. All (CoversRow (zones_in s rows c).zones) (chunk rows s.per c)) n before.covers (subst (λ (z : ChunkZones). All (CoversRow z.zones) (chunk rows s.per n)) here.zones here.covers);
      fits = one_more (λ c. (cond : Cond) → All (FitsRow cond) (chunk rows s.per c) → FitsZones cond (zones_in s rows c).zones) n before.fits
          (λ cond all. subst (λ (z : ChunkZones). FitsZones cond z.zones) here.zones (here.fits cond all));
    }

last : (c : After-loop-chunk) → c.loop-chunk.chunk ≡ chunks c.args.shape.now
last c = omega (arith, c.loop-chunk-test.false, c.loop-chunk.auto.chunk-end, c.chunks_of-chunk-end.ensures.chunks)

are_all : (c : After-loop-chunk) → c.loop-chunk.zones.items ≡ chunk_zones c.args.shape.now c.args.table.now.rows
are_all c = c.loop-chunk.invariant.zones ∙ ap (λ n. map (zones_in c.args.shape.now c.args.table.now.rows) (range_with_len 0 n)) (last c)

low : (c : After-loop-chunk) (k : ℕ) → k < chunks c.args.shape.now → k < c.loop-chunk.chunk
low c k below = omega (arith, below, last c)

covers : (c : After-loop-chunk) → CoverChunks c.args.shape.now c.args.table.now.rows (chunk_zones c.args.shape.now c.args.table.now.rows)
covers c = cover_all c.args.shape.now c.args.table.now.rows (λ k below. c.loop-chunk.invariant.covers k (low c k below))

fits : (c : After-loop-chunk) (cond : Cond) → All (FitsRow cond) c.args.table.now.rows → All (λ chunk. FitsZones cond chunk.zones) (chunk_zones c.args.shape.now c.args.table.now.rows)
fits c cond all = fit_all c.args.shape.now c.args.table.now.rows cond all (λ k below. c.loop-chunk.invariant.fits k (low c k below) cond)

pub returns-clause-zones : goal.returns-clause-zones
returns-clause-zones c = are_all c

pub returns-clause-count : goal.returns-clause-count
returns-clause-count c = ap length (are_all c) ∙ count_zones c.args.shape.now c.args.table.now.rows

pub returns-clause-covers : goal.returns-clause-covers
returns-clause-covers c = subst (CoverChunks c.args.shape.now c.args.table.now.rows) (sym (are_all c)) (covers c)

pub returns-clause-fits : goal.returns-clause-fits
returns-clause-fits c = λ cond all. subst (All (λ chunk. FitsZones cond chunk.zones)) (sym (are_all c)) (fits c cond all)

pub returns-clause-outside : goal.returns-clause-outside
returns-clause-outside c = λ cond all.
    let s = c.args.shape.now in
    let rows = c.args.table.now.rows in
    subst (λ zones. NoMatchOutside s rows cond (needed (Some cond) zones)) (sym (are_all c)) (no_match s rows cond all (fits c cond all) (covers c))

none : (c : After-loop-chunk) (cond : Option Cond) → IfSome cond (λ d. All (FitsRow d) c.args.table.now.rows)
    → IfSome cond (λ d. NoMatchOutside c.args.shape.now c.args.table.now.rows d (needed cond (chunk_zones c.args.shape.now c.args.table.now.rows)))
none c None all = tt
none c (Some d) all = no_match c.args.shape.now c.args.table.now.rows d all (fits c d all) (covers c)

pub returns-clause-passing : goal.returns-clause-passing
returns-clause-passing c = λ cond passes all only.
    let s = c.args.shape.now in
    let rows = c.args.table.now.rows in
    let passing = all_pass s rows (chunk_zones s rows) cond passes c.requires.shape.some_rows c.requires.table.rows.count (count_zones s rows) only (none c cond all) in
    subst (λ zones. HaveAllThatPass s rows passes (needed cond zones)) (sym (are_all c)) passing
