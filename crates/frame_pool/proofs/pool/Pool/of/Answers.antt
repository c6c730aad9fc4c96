use Rattle.std.proofs.Common.{arith, ◌≡◌, ℕ, ◌+◌, ◌*◌, sym, subst, List, [], replicate}
use Rattle.std.proofs.lemmas.Grind.{common_steps}
use Rattle.atomic_table.specs.Table.{opening}
use Rattle.frame_pool.specs.Frames.{Framed}
use Rattle.frame_pool.specs.Views.{blank}
use Rattle.frame_pool.proofs.Steps.{starts}
use Rattle.frame_pool.proofs.pool.Pool.of.Goals as goal

pub of_words-requires : goal.of_words-requires
of_words-requires g c =
    let z = c.args.shape in
    let items : c.as_slice.result.now ≡ replicate (z.frames + z.frames * z.words) 0 = grind (arith, common_steps) in
    subst (λ (ws : List ℕ). Framed g.C.Content.pieces z (opening ws [] (blank z))) (sym items) (starts g.C.Content.pieces z)
