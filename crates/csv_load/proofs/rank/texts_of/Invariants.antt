use Rattle.std.proofs.Common.{◌≡◌, take}
use Rattle.csv_load.specs.Ranks.{key_texts}
use Rattle.csv_load.proofs.rank.texts_of.Given as goal

abbrev pub invariant-loop-place : goal.invariant-loop-place
invariant-loop-place l = l.texts ≡ key_texts (take l.place l.order)
