-- A frame that may be claimed is used by nobody, and what may be pinned is ready.
use Rattle.std.proofs.Common.{◌≡◌, ◌<◌, ◌&&◌, ℕ, None, Some, nat_lt, sym, ◌∙◌}
use Rattle.scan_story.specs.declared.setting.Setting.{Setting}
use Rattle.scan_story.specs.Legal.{Legal}
use Rattle.scan_story.specs.Setting.{HasRoom, IsSetting, pieces_read}
use Rattle.scan_story.specs.Views.{History, is_framed, is_wholly_framed, needs_chunk, piece_in}
use Rattle.story_laws.specs.Every.{OfEveryLegal}
use Rattle.story_laws.proofs.Bools.{and_both, none_some}
use Rattle.story_laws.proofs.Grouped.{grouped}
use Rattle.story_laws.proofs.Holds.{holding}
use Rattle.story_laws.proofs.Laws.{held_pieces_stay, loads_are_proper}
use Rattle.story_laws.proofs.Lists.{all_has}
use Rattle.story_laws.proofs.Proper.{free_not_begun}
use Rattle.story_laws.proofs.Standing.{framed_where, free_empty}
use Rattle.story_laws.proofs.Undisturbing.{pieceless}
use Rattle.story_ends.specs.Frames.{DeliversFindReady, FilledAreUnused, FillsFindFree, HeldStayReady, IsBeingFilled, IsReadyIn, IsUnused}

-- a frame that is being filled is empty
pub empty : (s : Setting) (h : History) (f : ℕ) → IsSetting s → HasRoom s → Legal s h → IsBeingFilled s h f
    → piece_in s h f ≡ None
empty s h f m room legal x =
    (loads_are_proper s h m room legal x.load x.underway).begun.empty f x.piece x.begun x.not_filled

-- nobody uses an empty frame
unused : (s : Setting) (h : History) (f : ℕ) → IsSetting s → Legal s h → piece_in s h f ≡ None → IsUnused s h f
unused s h f m legal none w lt = pieceless s h w f (holding s h m (grouped s m) legal) none

pub filled_are_unused : OfEveryLegal FilledAreUnused
filled_are_unused s h m room legal f x = unused s h f m legal (empty s h f m room legal x)

pub fills_find_free : OfEveryLegal FillsFindFree
fills_find_free s h m room legal w f p may = record {
  unused = unused s h f m legal (free_empty s h f may.free);
  unfilled = λ x. free_not_begun s h f x.piece x.load may.free x.underway x.begun;
}

ready : (s : Setting) (h : History) (f p : ℕ) → IsSetting s → HasRoom s → Legal s h → f < s.frames
    → piece_in s h f ≡ Some p → IsReadyIn s h f p
ready s h f p m room legal lt is = record {
  frame = lt;
  stands = is;
  settled = λ x. none_some p (sym (empty s h f m room legal x) ∙ is);
}

pub delivers_find_ready : OfEveryLegal DeliversFindReady
delivers_find_ready s h m room legal w q c may p reads =
    let available = (and_both (nat_lt c s.chunks) (needs_chunk s h q c && is_wholly_framed s h q c) may.ready).1 in
    let whole = (and_both (needs_chunk s h q c) (is_wholly_framed s h q c) available).1 in
    let f = framed_where s h p (all_has (is_framed s h) (pieces_read s q c) p whole reads) in
    (f.0, ready s h f.0 p m room legal f.1 f.2)

pub held_stay_ready : OfEveryLegal HeldStayReady
held_stay_ready s h m room legal w q c later before e off f p reads lt is =
    ready s h f p m room legal lt
    (held_pieces_stay s h m room legal w q c later before e off f p is ((grouped s m).read q c p reads))
