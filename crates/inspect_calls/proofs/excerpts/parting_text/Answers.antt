use Rattle.inspect_calls.proofs.Cutting.{parting_is}
use Rattle.inspect_calls.proofs.excerpts.parting_text.Goals as goal

pub returns : goal.returns
returns c =
    parting_is c.args.words.items _ _ _ _ _ _ _ _ c.args.parting.now c.shown_from-at.result c.shown_from-at.ensures c.as_slice.ensures c.as_slice-2.ensures c.in_ok-push_number.ensures
    c.in_ok-extend_from_slice.ensures.items c.in_ok-push_line.ensures c.in_ok-extend_from_slice-2.ensures.items c.in_ok-push_line-2.ensures c.in_ok-extend_from_slice-3.ensures.items
