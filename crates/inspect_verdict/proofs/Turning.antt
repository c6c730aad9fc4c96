-- How a worker's Registers go on.
use Rattle.std.proofs.Common.{◌≡◌, ◌∙◌, ◌<◌, ◌≤◌, ◌+◌, ◌==◌, ◌∷◌, [], ◌++◌, ℕ, List, append_assoc, length, take, get_or, refl, sym, ap}
use Rattle.std.proofs.lemmas.List.{take_all, take_more}
use Rattle.std.proofs.lemmas.List.Elements.{filter-append}
use Rattle.scan_story.specs.declared.entry.Entry.{Entry}
use Rattle.scan_story.specs.declared.entry.Entry.TheVariants.{Register, Plan, Evict, Fill, Filled, Failed, Deliver, Release, Stop, End}
use Rattle.scan_story.specs.Makers.{entries_by, maker_of}
use Rattle.batch_ends.specs.Registering.{registered}
use Rattle.inspect_verdict.specs.Words.{LeavesDue, registered_by}

pub registered-append : (xs ys : List Entry) → registered (xs ++ ys) ≡ registered xs ++ registered ys
registered-append [] ys = refl
registered-append (Register w q ∷ xs) ys = ap (λ (l : List ℕ). q ∷ l) (registered-append xs ys)
registered-append (Plan w q c ∷ xs) ys = registered-append xs ys
registered-append (Evict w c ∷ xs) ys = registered-append xs ys
registered-append (Fill w f p ∷ xs) ys = registered-append xs ys
registered-append (Filled w f p ∷ xs) ys = registered-append xs ys
registered-append (Failed w q p why ∷ xs) ys = registered-append xs ys
registered-append (Deliver w q c ∷ xs) ys = registered-append xs ys
registered-append (Release w q c ∷ xs) ys = registered-append xs ys
registered-append (Stop w q ∷ xs) ys = registered-append xs ys
registered-append (End w q ∷ xs) ys = registered-append xs ys

pub on_worker : (w : ℕ) (xs ys : List Entry) → registered (entries_by w (xs ++ ys)) ≡ registered (entries_by w xs) ++ registered (entries_by w ys)
on_worker w xs ys = ap registered (filter-append (λ (e : Entry). maker_of e == w) xs ys) ∙ registered-append (entries_by w xs) (entries_by w ys)

-- one entry more
pub more_left : (es : List Entry) (i w : ℕ) (due left rest : List ℕ) → i < length es → LeavesDue (take i es) w due left → left ≡ registered_by w (get_or es i (Register 0 0)) ++ rest
    → LeavesDue (take (i + 1) es) w due rest
more_left es i w due left rest lt so is =
    let e = get_or es i (Register 0 0) in
    let before = registered (entries_by w (take i es)) in
    so ∙ (ap (λ (l : List ℕ). before ++ l) is ∙ (sym (append_assoc before (registered_by w e) rest)
    ∙ ap (λ (l : List ℕ). l ++ rest) (sym (ap (λ (xs : List Entry). registered (entries_by w xs)) (take_more es i (Register 0 0) lt) ∙ on_worker w (take i es) (e ∷ [])))))

pub all_left : (es : List Entry) (i w : ℕ) (due left : List ℕ) → length es ≤ i → LeavesDue (take i es) w due left → LeavesDue es w due left
all_left es i w due left le so = so ∙ ap (λ (xs : List Entry). registered (entries_by w xs) ++ left) (take_all i es le)
