-- What the writers of a diary and their passes come to.
use Rattle.std.proofs.Common.{◌≡◌, ◌+◌, ℕ, List, [], ◌∷◌, ◌++◌, All, refl, sym, ap, ◌∙◌, add-one}
use Rattle.std.specs.List.{AllZip}
use Rattle.std.proofs.lemmas.List.Elements.{All-nil, All-cons, All-head, All-tail}
use Rattle.atomic_table.specs.Seated.{TableId}
use Rattle.scan_story.specs.declared.entry.Entry.{Entry}
use Rattle.scan_story.specs.declared.origin.Start.{Start}
use Rattle.scan_story.specs.Makers.{entries_by}
use Rattle.example_threads.specs.declared.diary.Writer.{Writer}
use Rattle.baton.specs.Passes.{PassView, AgreesWith, IsFree, new_pass, new_passes}
use Rattle.example_threads.specs.Diaries.{notes, IsReady, HasWritten, IsDone, IsLeft, HasNotes}

snoc_same : {A : Type 0} (xs ys : List A) (a b : A) → xs ++ a ∷ [] ≡ ys ++ b ∷ [] → (xs ≡ ys) × (a ≡ b)
snoc_same [] [] a b e = (refl, cc)
snoc_same [] (y ∷ []) a b e = absurd cc
snoc_same [] (y ∷ z ∷ ys) a b e = absurd cc
snoc_same (x ∷ []) [] a b e = absurd cc
snoc_same (x ∷ z ∷ xs) [] a b e = absurd cc
snoc_same (x ∷ xs) (y ∷ ys) a b e = let r = snoc_same xs ys a b cc in (cc (r.0), r.1)

-- the last of the new passes is that of the last number
pub pop_new : (id : TableId) (o : Start) (es : List Entry) (xs ys : List PassView) (x : PassView) (n m : ℕ) → xs ≡ new_passes id o es n → xs ≡ ys ++ x ∷ [] → n ≡ m + 1
    → (ys ≡ new_passes id o es m) × (x ≡ new_pass id m o es)
pop_new id o es xs ys x n m all is next =
    let whole : xs ≡ new_passes id o es m ++ new_pass id m o es ∷ [] = all ∙ ap (new_passes id o es) (next ∙ add-one m) in
    snoc_same ys (new_passes id o es m) x (new_pass id m o es) (sym is ∙ whole)

module _ {S : Type 0} where
  done_one : (id : TableId) (v w : Writer S) → IsReady id v → HasWritten v w → IsDone id w
  done_one id v w r d = (
    (d.1.baton ∙ r.0.0, d.1.free),
    d.1.number ∙ (r.1 ∙ sym d.0),
    d.1.mine ∙ (ap (λ (l : List Entry). l ++ notes v.number w.done) r.2 ∙ ap (λ n. notes n w.done) (sym d.0)),
  )

  pub done_all : (id : TableId) (xs ys : List (Writer S)) → All (IsReady id) xs → AllZip HasWritten xs ys → All (IsDone id) ys
  done_all id [] [] r z = All-nil (IsDone id)
  done_all id [] (y ∷ ys) r z = absurd z
  done_all id (x ∷ xs) [] r z = absurd z
  done_all id (x ∷ xs) (y ∷ ys) r z = All-cons (IsDone id) y ys (done_one id x y (All-head (IsReady id) x xs r) z.0) (done_all id xs ys (All-tail (IsReady id) x xs r) z.1)

pub left_free : (id : TableId) (ps : List PassView) (qs : List (ℕ × ℕ)) → AllZip (IsLeft id) ps qs → All (IsFree id) ps
left_free id [] [] z = All-nil (IsFree id)
left_free id [] (q ∷ qs) z = absurd z
left_free id (p ∷ ps) [] z = absurd z
left_free id (p ∷ ps) (q ∷ qs) z = All-cons (IsFree id) p ps z.0.0 (left_free id ps qs z.1)

pub left_notes : (id : TableId) (o : Start) (story : List Entry) (ps : List PassView) (qs : List (ℕ × ℕ)) → AllZip (IsLeft id) ps qs → All (AgreesWith o story) ps → All (HasNotes story) qs
left_notes id o story [] [] z a = All-nil (HasNotes story)
left_notes id o story [] (q ∷ qs) z a = absurd z
left_notes id o story (p ∷ ps) [] z a = absurd z
left_notes id o story (p ∷ ps) (q ∷ qs) z a =
    let own = All-head (AgreesWith o story) p ps a in
    All-cons (HasNotes story) q qs (ap (λ n. entries_by n story) (sym z.0.1) ∙ (own.mine ∙ z.0.2)) (left_notes id o story ps qs z.1 (All-tail (AgreesWith o story) p ps a))
