-- What stands at a mark.
use Rattle.std.specs.Prelude.{◌++◌, ℕ, List, codes, decimal}
use Rattle.inspect_picture.specs.declared.bar.Ended.{Ended}
use Rattle.inspect_picture.specs.declared.bar.Ended.TheVariants.{Evicted, Refilled, Story}
use Rattle.inspect_picture.specs.declared.mark.Mark.{Mark}
use Rattle.inspect_picture.specs.declared.mark.Mark.TheVariants.{Alive, Load, Read, Stay, Given, Eviction, Fault}

abbrev pub ended_text : Ended → List ℕ
ended_text Evicted = codes "evicted"
ended_text Refilled = codes "refilled"
ended_text Story = codes "there at the end"

-- the entries of which a mark tells
abbrev pub span_text : ℕ → ℕ → List ℕ
span_text first last = codes ", entries " ++ (decimal first ++ (codes " to " ++ decimal last))

abbrev pub title_text : Mark → List ℕ
title_text (Alive l) =
    codes "query " ++ (decimal l.query ++ (codes " on worker " ++ (decimal l.worker ++ span_text l.first l.last)))
title_text (Load w q c i) = codes "load of chunk "
    ++ (decimal c ++ (codes " for query " ++ (decimal q ++ (codes ", entry " ++ decimal i))))
title_text (Read r) =
    codes "piece " ++
    (decimal r.piece ++ (codes " is read into frame " ++ (decimal r.frame ++ span_text r.first r.last)))
title_text (Stay b) =
    codes "piece " ++
    (decimal b.piece ++
    (codes " in frame " ++ (decimal b.frame ++ (span_text b.first b.last ++ (codes ", " ++ ended_text b.ended)))))
title_text (Given d) = codes "chunk "
    ++ (decimal d.chunk ++ (codes " for query " ++ (decimal d.query ++ span_text d.first d.last)))
title_text (Eviction c i) = codes "chunk " ++ (decimal c ++ (codes " evicted, entry " ++ decimal i))
title_text (Fault q p i) = codes "failed load of piece "
    ++ (decimal p ++ (codes " for query " ++ (decimal q ++ (codes ", entry " ++ decimal i))))
