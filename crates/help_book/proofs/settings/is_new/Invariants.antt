use Rattle.std.proofs.Common.{◌≡◌, ◌==◌, drop}
use Rattle.std.specs.List.{list_any}
use Rattle.help_book.proofs.settings.is_new.Given as goal

abbrev pub invariant-loop-n : goal.invariant-loop-n
invariant-loop-n l = list_any (λ n. n.query == l.q) (drop l.n-index l.needs) ≡ list_any (λ n. n.query == l.q) l.needs
