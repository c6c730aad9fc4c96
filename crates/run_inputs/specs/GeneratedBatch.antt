-- The text of the generated batch.
use Rattle.std.specs.Prelude.{ℕ, List, ◌++◌, codes}

abbrev pub batch_text : List ℕ
batch_text =
    codes "SELECT COUNT(*) FROM t;\n"
    ++ codes "SELECT SUM(val), COUNT(val), MIN(val), MAX(val) FROM t;\n"
    ++ codes "SELECT grp, COUNT(*), SUM(val) FROM t GROUP BY grp;\n"
    ++ codes "SELECT COUNT(*) FROM t WHERE id < 1000;\n"
    ++ codes "SELECT tag, MAX(id) FROM t WHERE val >= 0 GROUP BY tag;\n"
    ++ codes "SELECT SUM(val) FROM t WHERE id >= 50000 AND id < 150000;\n"
    ++ codes "SELECT COUNT(*) FROM t WHERE NOT val > 500 OR tag IS NULL;\n"
    ++ codes "SELECT grp, tag, COUNT(*) FROM t WHERE val IS NOT NULL GROUP BY grp, tag;\n"
