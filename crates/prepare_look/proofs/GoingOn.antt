-- A walk that goes on by one byte.
use Rattle.std.proofs.Common.{◌≡◌, ◌+◌, ◌<◌, ◌≤◌, ℕ, true, false, List, length, get_or, Some, None}
use Rattle.std.specs.Prelude.{[], ◌∷◌, if◌then◌else◌}
use Rattle.prepare_look.proofs.Stepping.{begins-done, begins-on, open-done, open-on}
use Rattle.prepare_look.specs.Spots.{IsAfter, lines_left, mark_after, open_left}
use Rattle.prepare_look.specs.Walk.{begins, format_of, is_quoted, state_of}
use Rattle.prepare_look.specs.declared.place.Marks.{Marks}
use Rattle.prepare_look.specs.declared.spot.Spot.{Spot}

lines-step : (m : Marks) (text : List ℕ) (s next : Spot) → s.at < length text → next.at ≡ s.at + 1 → IsAfter m s (get_or text s.at 0) next
    → lines_left m text s ≡ (if begins (state_of s.place) (state_of next.place) then s.line ∷ lines_left m text next else lines_left m text next)
lines-step m text s next lt at is =
    begins-on (format_of m) (state_of s.place) (state_of next.place) s.behind_return next.behind_return s.line next.line text s.at next.at lt
    is.place is.behind_return is.line at

pub lines-begin : (m : Marks) (text : List ℕ) (s next : Spot) → s.at < length text → next.at ≡ s.at + 1 → IsAfter m s (get_or text s.at 0) next
    → begins (state_of s.place) (state_of next.place) ≡ true → lines_left m text s ≡ s.line ∷ lines_left m text next
lines-begin m text s next lt at is so = let h = lines-step m text s next lt at is in rw so at h

pub lines-go_on : (m : Marks) (text : List ℕ) (s next : Spot) → s.at < length text → next.at ≡ s.at + 1 → IsAfter m s (get_or text s.at 0) next
    → begins (state_of s.place) (state_of next.place) ≡ false → lines_left m text s ≡ lines_left m text next
lines-go_on m text s next lt at is not = let h = lines-step m text s next lt at is in rw not at h

pub lines-end : (m : Marks) (text : List ℕ) (s : Spot) → length text ≤ s.at → lines_left m text s ≡ []
lines-end m text s h = begins-done (format_of m) (state_of s.place) s.behind_return s.line text s.at h

pub open-go_on : (m : Marks) (text : List ℕ) (s next : Spot) (mark : ℕ) → s.at < length text → next.at ≡ s.at + 1 → IsAfter m s (get_or text s.at 0) next
    → open_left m text s mark ≡ open_left m text next (mark_after s next mark)
open-go_on m text s next mark lt at is =
    open-on (format_of m) (state_of s.place) (state_of next.place) s.behind_return next.behind_return s.line next.line mark text s.at next.at lt
    is.place is.behind_return is.line at

pub open-end : (m : Marks) (text : List ℕ) (s : Spot) (mark : ℕ) → length text ≤ s.at
    → open_left m text s mark ≡ (if is_quoted (state_of s.place) then Some mark else None)
open-end m text s mark h = open-done (format_of m) (state_of s.place) s.behind_return s.line mark text s.at h
