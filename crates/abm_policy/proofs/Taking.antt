-- A chunk is delivered: the frames of its pieces.
use Rattle.std.proofs.Common.{◌≡◌, ◌<◌, ◌∷◌, ◌++◌, [], ℕ, zero, suc, Bool, true, List, None, Some, length, get_or, ◌∙◌, ap, arith}
use Rattle.std.specs.List.{list_all}
use Rattle.scan_story.specs.declared.setting.Setting.{Setting}
use Rattle.scan_story.specs.Setting.{pieces_read}
use Rattle.scan_story.specs.Views.{History, is_framed, is_wholly_framed}
use Rattle.story_laws.proofs.Bools.{and_both, not_both}
use Rattle.chunk_interest.specs.Frames.{IsPlace}
use Rattle.abm_policy.specs.Turns.{StandIn}

all_at : (t : ℕ → Bool) (ps : List ℕ) (i : ℕ) → list_all t ps ≡ true → i < length ps → t (get_or ps i 0) ≡ true
all_at t [] i e lt = absurd (omega (arith, lt))
all_at t (p ∷ ps) zero e lt = (and_both (t p) (list_all t ps) e).0
all_at t (p ∷ ps) (suc i) e lt = all_at t ps i (and_both (t p) (list_all t ps) e).1 (omega (arith, lt))

-- each piece of a chunk that is wholly in frames has a frame
pub has_place : (s : Setting) (h : History) (q c i p : ℕ) → is_wholly_framed s h q c ≡ true → i < length (pieces_read s q c) → p ≡ get_or (pieces_read s q c) i 0 → IsPlace s h p None → ⊥
has_place s h q c i p whole lt at none = not_both (is_framed s h p) (ap (is_framed s h) at ∙ all_at (is_framed s h) (pieces_read s q c) i whole lt) none

pub stand_more : (s : Setting) (h : History) (f p : ℕ) (bs : List (ℕ × ℕ)) → StandIn s h bs → IsPlace s h p (Some f) → StandIn s h (bs ++ (f, p) ∷ [])
stand_more s h f p [] stand place = (place.0, place.1, tt)
stand_more s h f p (b ∷ bs) stand place = (stand.0, stand.1, stand_more s h f p bs stand.2 place)
