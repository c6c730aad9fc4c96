use Rattle.std.proofs.Common.{◌≡◌, ◌<◌, ℕ, length, slice_index}
use Rattle.piece_format.specs.Cells.{dict_len_at, kind_at}
use Rattle.piece_format.specs.Checking.{IsTop}
use Rattle.piece_format.proofs.checking.row_tops.Given as goal

abbrev pub invariant-loop-column : goal.invariant-loop-column
invariant-loop-column l = record {
  sixteen : length l.tops ≡ 16;
  are : (x : ℕ) → x < l.column → IsTop (kind_at l.shape x) (dict_len_at l.shape x) (slice_index l.tops x);
}
