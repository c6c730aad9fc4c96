-- A step back over a list from its end.
use Rattle.std.proofs.Common.{◌≡◌, ◌<◌, ◌+◌, ◌-◌, ◌++◌, ℕ, suc, List, [], ◌∷◌, length, drop, refl, ◌∙◌, sym, ap, arith}
use Rattle.std.specs.Prelude.{Option, None, Some, reverse}
use Rattle.std.proofs.lemmas.List.{reverse-append}
use Rattle.scan_story.specs.declared.entry.Entry.{Entry}
use Rattle.inspect_picture.specs.declared.mark.Mark.{Mark}
use Rattle.inspect_picture.specs.Marks.{mark_of, mark_list, marks_from}

pub none_left : {A : Type 0} (es : List A) → drop (length es) es ≡ []
none_left [] = refl
none_left (e ∷ es) = none_left es

one_reversed : (o : Option Mark) → reverse (mark_list o) ≡ mark_list o
one_reversed None = refl
one_reversed (Some m) = refl

-- marks that were gathered from the end, and the mark of the entry before
pub marked_back : (groups p : ℕ) (e : Entry) (xs es : List Entry) (ms : List Mark) (m : Option Mark) → 0 < p → es ≡ e ∷ xs
    → reverse ms ≡ marks_from groups (p + 1) xs → m ≡ mark_of groups (p - 1 + 1) e xs
    → reverse (ms ++ mark_list m) ≡ marks_from groups (p - 1 + 1) es
marked_back groups p e xs es ms m some split before is =
    let k : p + 1 ≡ suc (p - 1 + 1) = omega (arith, some) in
    reverse-append ms (mark_list m)
    ∙ ap (λ t. t ++ reverse ms) (one_reversed m ∙ ap mark_list is)
    ∙ ap (λ t. mark_list (mark_of groups (p - 1 + 1) e xs) ++ t) (before ∙ ap (λ k. marks_from groups k xs) k)
    ∙ sym (ap (marks_from groups (p - 1 + 1)) split)
