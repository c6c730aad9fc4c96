use Rattle.inspect_calls.proofs.Cutting.{shown_is}
use Rattle.inspect_calls.proofs.excerpts.push_line.Goals as goal

pub returns : goal.returns
returns c =
    shown_is _ _ _ _ _ _ _ _ _ _ _ _ _ _ c.words_of-has_end.ensures c.behind_at-rest.ensures c.front_of-front.ensures c.in_ok-extend_from_slice.ensures.items c.points_if.ensures
    c.in_ok-extend_from_slice-2.ensures.items c.in_ok-extend_from_slice-3.ensures.items c.points_if-2.ensures c.in_ok-extend_from_slice-4.ensures.items c.end_words.ensures
