use Rattle.std.proofs.Common.{◌≡◌, ◌==◌, find}
use Rattle.scan_story.specs.Setting.{need_of}
use Rattle.help_views.proofs.needs.need_of.Given as goal

abbrev pub invariant-loop-n : goal.invariant-loop-n
invariant-loop-n l = need_of l.s l.q ≡ find (λ n. n.query == l.q) l.n-iterator
