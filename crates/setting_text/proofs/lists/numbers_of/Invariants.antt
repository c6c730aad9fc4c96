use Rattle.std.proofs.Common.{◌≡◌, ℕ, List, map, length}
use Rattle.std.specs.Prelude.{decimal}
use Rattle.setting_text.specs.Reading.{AreShort}
use Rattle.setting_text.proofs.Wording.{Left}
use Rattle.setting_text.proofs.lists.numbers_of.Given as goal

abbrev pub invariant-loop-rest : goal.invariant-loop-rest
invariant-loop-rest l = record {
  short : AreShort l.list;
  reads : (ns : List ℕ) → AreShort ns → map (λ w. w.now) l.words ≡ map decimal ns → Left l.list (map (λ w. w.now) l.rest) ns;
}

abbrev pub decreases-loop-rest : goal.decreases-loop-rest
decreases-loop-rest l = length l.rest
