use Rattle.std.proofs.Common.{◌≡◌, ℕ, ◌<◌, [], ◌∷◌, List, arith, length, get_or, ap, ◌∙◌, sym, subst, Some, None}
use Rattle.frame_pool.specs.declared.view.Pin.{Pin}
use Rattle.frame_pool.specs.Views.{pinned}
use Rattle.frame_pool.specs.Frames.{Told}
use Rattle.frame_pool.specs.Steps.{IsWordOf}
use Rattle.example_threads.specs.Pairs.{IsPair}
use Rattle.frame_pool.proofs.Views.{some_same, pinned_here}
use Rattle.example_threads.proofs.pair.read.Goals as goal

pair : (told : Told) (f p x y : ℕ) (pins : List Pin) → pinned f pins ≡ Some p → IsWordOf told pins f 0 x → IsWordOf told pins f 1 y → IsPair told p (x, y)
pair None f p x y pins is here there = tt
pair (Some pieces) f p x y pins is here there = λ a b get.
    let one = here p is in let two = there p is in
    let ws : one.0 ≡ a ∷ b ∷ [] = some_same one.0 (a ∷ b ∷ []) (sym one.1 ∙ get) in
    let us : two.0 ≡ a ∷ b ∷ [] = some_same two.0 (a ∷ b ∷ []) (sym two.1 ∙ get) in
    let first : x ≡ a = subst (λ (l : List ℕ). 0 < length l → x ≡ get_or l 0 0) ws one.2 (omega arith) in
    let second : y ≡ b = subst (λ (l : List ℕ). 1 < length l → y ≡ get_or l 1 0) us two.2 (omega arith) in
    (λ i. (first i, second i))

pub returns-clause-words : goal.returns-clause-words
returns-clause-words g c =
    let f : ℕ = c.args.frame in let p : ℕ = c.args.piece in
    let is = ap (λ b. pinned f b.pins) c.pin.ensures ∙ pinned_here f p c.args.berth.now.pins in
    pair g.C.Content.pieces f p _ _ c.pin.new.berth.pins is c.word-first.ensures.word (subst (λ (b : _). IsWordOf g.C.Content.pieces b.pins f 1 c.word-second.result) c.word-first.ensures.same c.word-second.ensures.word)
