use Rattle.std.proofs.Common.{◌≡◌, ◌∷◌, ◌∙◌, List, Option, length, refl, ap, sym, subst, arith}
use Rattle.std.proofs.lemmas.List.{with_items_is}
use Rattle.std.specs.Vec.{with_items}
use Rattle.scan_story.specs.declared.view.Hold.{Hold}
use Rattle.interest_book.specs.Held.{AreHolds}
use Rattle.inspect_referee.specs.Seen.{setting, seen}
use Rattle.inspect_referee.proofs.Reading.{holder_within, may_note, next_of, read_on}
use Rattle.inspect_referee.proofs.referee.Referee.follow.Goals as goal

pub note_hold-requires : goal.note_hold-requires
note_hold-requires c =
    let r = c.args.self in
    holder_within r.book (next_of r) (length c.deref_mut.result.now) (ap (λ (hs : List (Option Hold)). length hs) c.deref_mut.ensures.value ∙ c.requires.reading.workers)
    (may_note r c.requires.reading c.requires.there c.requires.allowed)

pub returns-clause-reading : goal.returns-clause-reading
returns-clause-reading c =
    let r = c.args.self in
    let k = c.requires.reading in
    let items : (with_items r.holds c.note_hold.new.holds).items ≡ c.note_hold.new.holds = with_items_is r.holds c.note_hold.new.holds (omega arith) in
    let old : AreHolds (seen r) c.deref_mut.result.now = subst (AreHolds (seen r)) (sym c.deref_mut.ensures.value) k.holds in
    let len : length (with_items r.holds c.note_hold.new.holds).items ≡ length c.note_hold.new.holds = ap (λ (hs : List (Option Hold)). length hs) items in
    let was : length c.deref_mut.result.now ≡ length r.holds.items = ap (λ (hs : List (Option Hold)). length hs) c.deref_mut.ensures.value in
    let workers = k.workers in
    read_on r _ k refl refl refl refl c.requires.there c.requires.allowed c.requires.taken
    (c.note.ensures (setting r) (seen r) k.stands c.requires.allowed)
    (c.in_ok-load.ensures (setting r) (seen r) k.stands k.load)
    (omega (arith, len, was, workers))
    (subst (AreHolds (next_of r ∷ seen r)) (sym items) (c.note_hold.ensures (seen r) old))
    (c.in_ok-cursor.ensures (seen r) k.cursor)
