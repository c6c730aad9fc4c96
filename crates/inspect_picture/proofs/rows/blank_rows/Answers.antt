use Rattle.std.proofs.Common.{◌≡◌, ◌∙◌, ◌+◌, ◌++◌, ◌∷◌, [], ap, length, length-append, rules}
use Rattle.inspect_picture.specs.Rows.{row_at}
use Rattle.inspect_picture.proofs.Rowed.{blank_more}
use Rattle.inspect_picture.proofs.rows.blank_rows.Goals as goal

pub loop-place-preserved : goal.loop-place-preserved
loop-place-preserved c =
    let more : c.push.new.self.items ≡ c.loop-place.rows.items ++ c.new.result ∷ [] = search rules in
    record {
      count = ap length more ∙ length-append c.loop-place.rows.items (c.new.result ∷ []) ∙ ap (λ n. n + 1) c.loop-place.invariant.count;
      blank = λ k. ap (λ rows. row_at rows k) more ∙ blank_more c.loop-place.rows.items c.new.result c.new.ensures.items c.loop-place.invariant.blank k;
    }
