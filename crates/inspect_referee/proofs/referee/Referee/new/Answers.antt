use Rattle.std.proofs.Common.{◌∙◌, List, map, refl, ap, arith}
use Rattle.chunk_interest.specs.declared.need.Need.{Need}
use Rattle.chunk_interest.specs.Fresh.{as_need}
use Rattle.inspect_referee.specs.Terms.{setting_of}
use Rattle.inspect_referee.proofs.Taking.{none_legal}
use Rattle.inspect_referee.proofs.referee.Referee.new.Goals as goal

pub returns-clause-reading : goal.returns-clause-reading
returns-clause-reading c =
    let t = c.args.terms.now in
    record {
      within = omega arith;
      short = omega arith;
      legal = none_legal c.args.choices (setting_of t);
      stands = c.in_ok-book.ensures (setting_of t) (record { needs = ap (λ (ns : List Need). map as_need ns) (c.in_ok-needs.ensures ∙ c.deref.ensures.value); chunks = refl; workers = refl; frames = refl; groups = refl });
      load = refl;
      workers = c.in_ok-holds.ensures.length;
      holds = λ w lt. c.in_ok-holds.ensures.none w;
      cursor = c.in_ok-cursor.ensures;
    }
