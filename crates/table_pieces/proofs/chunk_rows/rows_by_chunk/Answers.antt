use Rattle.table_pieces.proofs.Chunks.{chunks_join}
use Rattle.table_pieces.proofs.chunk_rows.rows_by_chunk.Goals as goal

pub returns-clause-joined : goal.returns-clause-joined
returns-clause-joined c = λ rows per some. chunks_join rows per some
