use Rattle.std.proofs.Common.{arith}
use Rattle.setting_text.specs.Text.{need_words}
use Rattle.setting_text.proofs.Parts.{nth}
use Rattle.setting_text.proofs.Same.{need_some}
use Rattle.setting_text.proofs.lines.need_told.Goals as goal

pub returns-clause-reads : goal.returns-clause-reads
returns-clause-reads c = λ n fits is.
    let le = c.in-len8.len_at_least in
    let ws = c.args.words.now in
    need_some _ _ _ _ _ _ n (c.in-Some.ensures n.query n.worker fits.0 fits.1 (nth _ ws 1 _ (need_words n) (omega (arith, le)) is) (nth _ ws 3 _ (need_words n) (omega (arith, le)) is))
    c.in-Some-2.is (c.in_ok-chunks.ensures.reads n.chunks fits.2 (nth _ ws 5 _ (need_words n) (omega (arith, le)) is))
    c.in-Some-3.is (c.in_ok-columns.ensures.reads n.columns fits.3 (nth _ ws 7 _ (need_words n) (omega (arith, le)) is))
