use Rattle.std.specs.Prelude.{All}
use Rattle.table_core.specs.Value.{IsCellOf}
use Rattle.table_core.proofs.Fitting.{cell_fits}
use Rattle.filter_zones.specs.Truth.{cell_at}
use Rattle.inspect_notes.proofs.Ends.{ends_are, ends_coded}
use Rattle.inspect_notes.proofs.Written.{reason_coded}
use Rattle.inspect_notes.proofs.profiling.profile_column.Goals as goal

pub returns-clause-profile : goal.returns-clause-profile
returns-clause-profile c =
    let dict = c.args.dict.now in
    let rows = c.args.table.now.rows in
    let cells : All (λ row. IsCellOf dict (cell_at row c.args.column)) rows = λ k d low. cell_fits c.args.kind dict _ (c.requires.fits k d low) in
    record {
      nulls = c.nulls_in-nulls.ensures.nulls;
      texts = c.texts_in.ensures;
      ends = ends_are dict c.args.column rows c.args.zone.has_null c.args.zone.range c.len-count.ensures.rises.rises cells c.requires.covers c.requires.zone.range;
      reason = c.reason_of.ensures;
    }

pub returns-clause-readable : goal.returns-clause-readable
returns-clause-readable c =
    let dict = c.args.dict.now in
    let rows = c.args.table.now.rows in
    let cells : All (λ row. IsCellOf dict (cell_at row c.args.column)) rows = λ k d low. cell_fits c.args.kind dict _ (c.requires.fits k d low) in
    record {
      ends = ends_coded dict c.args.column rows c.args.zone.range cells c.requires.zone.range;
      reason = reason_coded _ dict _ _ c.reason_of.ensures;
    }
