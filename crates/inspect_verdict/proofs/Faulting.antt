-- Failed reads, by what the words of a run let them be.
use Rattle.std.proofs.Common.{◌≡◌, ◌<◌, ◌+◌, ℕ, Bool, List, length, take, get_or, sym, subst}
use Rattle.piece_format.specs.Shape.{TableShape}
use Rattle.scan_story.specs.Causes.{last_fault}
use Rattle.scan_story.specs.Views.{past}
use Rattle.scan_story.specs.declared.entry.Entry.{Entry}
use Rattle.scan_story.specs.declared.entry.Entry.TheVariants.{Register}
use Rattle.inspect_referee.proofs.Judged.{past_more}
use Rattle.inspect_verdict.specs.Words.{FaultFits, FaultsFit}

pub fits_more : (z : TableShape) (scratch : Bool) (es : List Entry) (i last : ℕ) → i < length es → last ≡ last_fault 0 (past (take i es)) → FaultFits z scratch last (get_or es i (Register 0 0)) → FaultsFit z scratch (past (take i es))
    → FaultsFit z scratch (past (take (i + 1) es))
fits_more z scratch es i last lt is fits before =
    let Fits = λ (n : ℕ). FaultFits z scratch n (get_or es i (Register 0 0)) in
    subst (FaultsFit z scratch) (sym (past_more es i lt)) (subst Fits is fits, before)
