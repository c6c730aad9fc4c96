use Prim.Native.Nat.{◌+◌, ◌*◌}
use Rattle.csv_load.proofs.side_by_side.+sides.Given as goal

abbrev pub decreases-type_side_by_side : goal.decreases-type_side_by_side
decreases-type_side_by_side g l = 2 * l.most_threads

abbrev pub decreases-front : goal.decreases-front
decreases-front g l = 2 * l.beside + 1

abbrev pub decreases-back : goal.decreases-back
decreases-back g l = 2 * l.here + 1
