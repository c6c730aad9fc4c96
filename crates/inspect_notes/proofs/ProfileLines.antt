-- The lines of the columns from a place on.
use Rattle.std.proofs.Common.{◌≡◌, ◌<◌, ◌+◌, ℕ, zero, suc, List, [], ◌∷◌, ◌++◌, length, get_or, drop, refl, arith}
use Rattle.csv_load.specs.Judged.{Fields}
use Rattle.table_core.specs.declared.schema.Column.{Column}
use Rattle.inspect_notes.specs.declared.profile.ColumnProfile.{ColumnProfile}
use Rattle.inspect_notes.specs.ProfileText.{column_line, column_lines}

pub lines_more : (n x : ℕ) (cs : List Column) (ds : List Fields) (ps : List ColumnProfile) (c : Column) (p : ColumnProfile) → x < length cs → length ds ≡ length cs → length ps ≡ length cs
    → column_lines n (drop x cs) (drop x ds) (drop x ps)
    ≡ column_line n (get_or cs x c) (get_or ds x []) (get_or ps x p) ++ column_lines (n + 1) (drop (suc x) cs) (drop (suc x) ds) (drop (suc x) ps)
lines_more n x [] ds ps c p low d e = absurd (omega arith)
lines_more n x (c₁ ∷ cs) [] ps c p low d e = absurd (omega arith)
lines_more n x (c₁ ∷ cs) (d₁ ∷ ds) [] c p low d e = absurd (omega arith)
lines_more n zero (c₁ ∷ cs) (d₁ ∷ ds) (p₁ ∷ ps) c p low d e = refl
lines_more n (suc x) (c₁ ∷ cs) (d₁ ∷ ds) (p₁ ∷ ps) c p low d e = lines_more n x cs ds ps c p (omega arith) (omega arith) (omega arith)
