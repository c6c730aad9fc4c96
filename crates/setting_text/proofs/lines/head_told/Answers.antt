use Rattle.std.proofs.Common.{arith}
use Rattle.setting_text.specs.Text.{head_words}
use Rattle.setting_text.proofs.Parts.{nth}
use Rattle.setting_text.proofs.Same.{head_some}
use Rattle.setting_text.proofs.lines.head_told.Goals as goal

pub returns : goal.returns
returns c = λ h fits is.
    let le = c.in-len10.len_at_least in
    let ws = c.args.words.now in
    head_some _ _ _ _ _ h (c.in-Some.ensures h fits (nth _ ws 1 _ (head_words h) (omega (arith, le)) is) (nth _ ws 3 _ (head_words h) (omega (arith, le)) is)
    (nth _ ws 5 _ (head_words h) (omega (arith, le)) is) (nth _ ws 7 _ (head_words h) (omega (arith, le)) is))
    (c.in-Some-policy_in.ensures h.policy (nth _ ws 9 _ (head_words h) (omega (arith, le)) is))
