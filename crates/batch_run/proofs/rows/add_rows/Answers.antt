use Rattle.std.proofs.Common.{◌≡◌, ◌∙◌, ◌<◌, ◌≤◌, ◌+◌, ◌-◌, ◌*◌, ◌++◌, ℕ, List, Option, length, min, arith, ap, subst}
use Rattle.std.proofs.lemmas.Grind.{div_ceil_times}
use Rattle.scan_story.specs.Views.{past}
use Rattle.table_core.specs.Chunk.{chunk}
use Rattle.table_core.specs.declared.cell.Cell.{Cell}
use Rattle.piece_format.specs.Shape.{TableShape, rows_in}
use Rattle.row_blocks.specs.Blocks.{row_at}
use Rattle.row_blocks.proofs.Rows.{length-row}
use Rattle.top_rows.specs.Blocks.{numbered_rows}
use Rattle.query_meaning.specs.Rows.{Numbered}
use Rattle.query_gather.specs.Partial.{MayJoin, Stands, matching}
use Rattle.frame_rows.specs.declared.given.Given.{Given}
use Rattle.frame_rows.specs.Rows.{FitColumns, HasCellsOf}
use Rattle.cscan.specs.Scans.{IsOut}
use Rattle.frame_rows.specs.Tables.{HoldsTable}
use Rattle.batch_run.proofs.Gathering.{GatheredFirst, gathered_block, gathered_chunk}
use Rattle.batch_run.proofs.Reading.{chunk_long, read_agrees, read_fits}
use Rattle.batch_run.proofs.rows.add_rows.Goals as goal
use Rattle.batch_run.proofs.rows.add_rows.Goals.{Start}

-- the chunk that is out has so many rows
rows_out : (g : _) (c : Start g) → c.args.held.now.given.rows ≡ rows_in c.args.shape.now c.args.held.now.given.chunk
rows_out g c =
    let scan = c.args.scan.now in
    let out = subst (λ (o : Option Given). IsOut g.S.Origin.origin.setting scan.shape.now (past scan.station.now.pass.seen) scan.query o) c.requires.out c.requires.scan.given in
    out.rows ∙ ap (λ (z : TableShape). rows_in z c.args.held.now.given.chunk) c.requires.shape

-- the cells of each row of the block are such as the columns of the shape may have
pub add_block-requires-clause-cond : goal.add_block-requires-clause-cond
add_block-requires-clause-cond g c = λ i inside.
    let z = c.args.shape.now in
    let p = c.args.plan.now in
    let b = c.block.new.block in
    let is : c.loop-turn.scan.shape.now ≡ z = ap (λ s. s.shape.now) c.loop-turn.invariant.same ∙ c.requires.shape in
    let wide : b.width ≡ length z.kinds = subst (λ (t : TableShape). b.width ≡ length t.kinds) is c.block.ensures.width in
    c.requires.plan.cond (row_at b i)
    (read_fits z p.columns (row_at b i) (length-row b i ∙ wide) (subst (λ (t : TableShape). FitColumns t p.columns (row_at b i)) is (c.block.ensures.fits i inside)) (c.block.ensures.others i inside))

pub loop-turn-preserved : goal.loop-turn-preserved
loop-turn-preserved g c =
    let z = c.args.shape.now in
    let p = c.args.plan.now in
    let held = g.S.Origin.origin.held in
    let told = g.C.Content.pieces in
    let k = c.args.held.now.given.chunk in
    let rows : ℕ = c.args.held.now.given.rows in
    let turn : ℕ = c.loop-turn.turn in
    let start : ℕ = turn * 64 in
    let b = c.block.new.block in
    let old = c.loop-turn.partial in
    let new = c.add_block.new.self in
    let before = c.loop-turn.invariant in
    let is : c.loop-turn.scan.shape.now ≡ z = ap (λ s. s.shape.now) before.same ∙ c.requires.shape in
    let wide : b.width ≡ length z.kinds = subst (λ (t : TableShape). b.width ≡ length t.kinds) is c.block.ensures.width in
    let there = rows_out g (goal.at.loop-turn-preserved g c).Start in
    let some : 1 ≤ z.per = subst (λ (t : TableShape). 1 ≤ t.per) c.requires.shape c.requires.scan.fits.shape.some_rows in
    let turns = div_ceil_times rows 64 (omega arith) in
    let early : start < rows = omega (arith, c.loop-turn-test.true, c.loop-turn.auto.turn-end, c.div_ceil-turn-end.ensures, c.rows-rows.ensures, turns.1) in
    let count : b.count ≡ min 64 (rows - start) = omega (arith, c.block.ensures.count, c.min-count.ensures, c.rows-rows.ensures) in
    let at : min start rows ≡ start = omega (arith, early) in
    let next : start + b.count ≡ min ((turn + 1) * 64) rows = omega (arith, early, count) in
    let low : start + b.count ≤ rows_in z k = omega (arith, early, count, there) in
    let first : c.chunk.result * c.shape.inside.per ≡ k * z.per = ap (λ (n : ℕ). n * c.shape.inside.per) c.chunk.ensures ∙ ap (λ (t : TableShape). k * t.per) c.shape.view_is in
    let Adds : ℕ → Type 0 = λ n. (rows : List (Numbered Cell)) → Stands old rows → MayJoin old rows (numbered_rows (n + start) b) → Stands new (rows ++ matching p (numbered_rows (n + start) b)) in
    let fits = c.add_block.ensures.plan p before.fits in
    record {
      same = c.block.ensures.same ∙ before.same;
      fits = fits;
      few = omega (arith, before.few, c.add_block.ensures.count, at, next);
      gathered = λ cs fresh from.
          let firsts : GatheredFirst z p held told cs k start old = subst (λ (n : ℕ). GatheredFirst z p held told cs k n old) at (before.gathered cs fresh from) in
          subst (λ (n : ℕ). GatheredFirst z p held told cs k n new) next
          (gathered_block z p held told cs k start b
          (λ i inside. read_fits z p.columns (row_at b i) (length-row b i ∙ wide) (subst (λ (t : TableShape). FitColumns t p.columns (row_at b i)) is (c.block.ensures.fits i inside)) (c.block.ensures.others i inside))
          (λ i inside table shaped holds. read_agrees z table shaped k p.columns (start + i) (row_at b i) (length-row b i ∙ wide) (omega (arith, low, inside))
          (subst (λ (t : TableShape). HoldsTable held told t table → HasCellsOf (chunk table t.per k) (start + i) p.columns (row_at b i)) is (λ h. c.block.ensures.cells table h i inside) holds))
          old new some fresh low firsts fits c.add_block.ensures.count (subst Adds first c.in_ok-add_block.ensures.ok));
    }

pub returns-clause-gathered : goal.returns-clause-gathered
returns-clause-gathered g c = λ cs fresh from.
    let z = c.args.shape.now in
    let p = c.args.plan.now in
    let held = g.S.Origin.origin.held in
    let told = g.C.Content.pieces in
    let k = c.args.held.now.given.chunk in
    let rows : ℕ = c.args.held.now.given.rows in
    let turns = div_ceil_times rows 64 (omega arith) in
    let all : min (c.loop-turn.turn * 64) rows ≡ rows_in z k =
    omega (arith, c.loop-turn-test.false, c.loop-turn.auto.turn-end, c.div_ceil-turn-end.ensures, c.rows-rows.ensures, turns.0, rows_out g (goal.at.returns-clause-gathered g c).Start) in
    gathered_chunk z p held told cs k c.loop-turn.partial (λ table wide. omega (arith, chunk_long z table wide k))
    (subst (λ (n : ℕ). GatheredFirst z p held told cs k n c.loop-turn.partial) all (c.loop-turn.invariant.gathered cs fresh from))
