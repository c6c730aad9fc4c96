use Rattle.std.proofs.Common.{◌≡◌, ◌∙◌, ◌<◌, length, arith, rules, w64, get_or, ◌/◌}
use Rattle.std.proofs.lemmas.List.{get_or_default}
use Rattle.std.proofs.lemmas.Int.{to_z-of_z}
use Rattle.table_core.proofs.Nulls.{numbers-some, numbers-none, null-bits-none}
use Rattle.table_core.proofs.numbers.Numbers.push.Goals as goal

pub invariant_of-self-in-None : goal.invariant_of-self-in-None
invariant_of-self-in-None c =
    let place : c.len-place.result ≡ length c.self.inside.values.items = omega (arith, c.len-place.ensures, c.self.inside.values.ok.0) in
    let words = c.make_room.new.words.items in
    let there : c.len-place.result / 64 < length words = omega (arith, place, c.in_ok-make_room.ensures.room) in
    let word : c.index_mut.result.now ≡ get_or words (c.len-place.result / 64) 0 = c.index_mut.ensures.value ∙ get_or_default words (c.len-place.result / 64) c.index_mut.result.now 0 there in
    rw (c.in_ok-push-in-None.ensures.items, word, place)
    (null-bits-none c.self.inside.values.items c.self.inside.nulls.items c.make_room.new.words.items c.self.invariant c.in_ok-make_room.ensures.bits (omega (arith, place, c.in_ok-make_room.ensures.room)))

pub returns-in_ok-push-in-Some-clause-ok : goal.returns-in_ok-push-in-Some-clause-ok
returns-in_ok-push-in-Some-clause-ok c =
    rw (c.in_ok-push-in-Some.ensures.items, ← c.self.view_is, c.in-Some.is, to_z-of_z w64 c.in-Some.number (search rules))
    (numbers-some c.self.inside.values.items c.self.inside.nulls.items c.make_room.new.words.items c.in-Some.number c.self.invariant c.in_ok-make_room.ensures.bits)

pub returns-in_ok-push-in-None-clause-ok : goal.returns-in_ok-push-in-None-clause-ok
returns-in_ok-push-in-None-clause-ok c =
    let place : c.len-place.result ≡ length c.self.inside.values.items = omega (arith, c.len-place.ensures, c.self.inside.values.ok.0) in
    let words = c.make_room.new.words.items in
    let there : c.len-place.result / 64 < length words = omega (arith, place, c.in_ok-make_room.ensures.room) in
    let word : c.index_mut.result.now ≡ get_or words (c.len-place.result / 64) 0 = c.index_mut.ensures.value ∙ get_or_default words (c.len-place.result / 64) c.index_mut.result.now 0 there in
    rw (c.in_ok-push-in-None.ensures.items, word, place, ← c.self.view_is, c.in-None.is)
    (numbers-none c.self.inside.values.items c.self.inside.nulls.items c.make_room.new.words.items c.in_ok-make_room.ensures.bits (omega (arith, place, c.in_ok-make_room.ensures.room)))
