-- Results in the order of their jobs, from a list for each worker.
use Rattle.std.proofs.Common.{◌≡◌, ◌≢◌, ◌==◌, ◌<◌, ◌∷◌, [], ℕ, zero, suc, Bool, List, Result, map, set, get_or, length, if◌then◌else◌, arith, refl, sym, ap, ◌∙◌, subst, ⊎_elim}
use Rattle.std.proofs.lemmas.Bool.{cases_eq}
use Rattle.std.proofs.lemmas.List.{get_or-set_other, get_or-set_same, length-set}
use Rattle.scan_story.specs.declared.cause.Cause.{Cause}
use Rattle.scan_story.specs.declared.entry.Entry.{Entry}
use Rattle.scan_story.specs.declared.origin.Start.{Start}
use Rattle.story_laws.proofs.Bools.{equal_number, if_not, same_number}
use Rattle.frame_pool.specs.Frames.{Told}
use Rattle.piece_format.specs.Shape.{TableShape}
use Rattle.query_gather.specs.declared.partial.Partial.{Partial}
use Rattle.batch_ends.specs.declared.job.Job.{Job}
use Rattle.batch_ends.specs.Jobs.{jobs_on}
use Rattle.batch_ends.specs.Lists.{AreCounted, AreSorted, CameOfAll, CameOfJob, list_of}

pub map_at : {A B : Type 0} (f : A → B) (xs : List A) (i : ℕ) (d : A) (e : B) → i < length xs → get_or (map f xs) i e ≡ f (get_or xs i d)
map_at f [] i d e low = absurd (omega (arith, low))
map_at f (x ∷ xs) zero d e low = refl
map_at f (x ∷ xs) (suc i) d e low = map_at f xs i d e (omega (arith, low))

on_here : (j : Job) (js : List Job) → jobs_on j.worker (j ∷ js) ≡ j ∷ jobs_on j.worker js
on_here j js = ap (λ (b : Bool). if b then j ∷ jobs_on j.worker js else jobs_on j.worker js) (equal_number j.worker j.worker refl)

on_other : (w : ℕ) (j : Job) (js : List Job) → w ≢ j.worker → jobs_on w (j ∷ js) ≡ jobs_on w js
on_other w j js other =
    ap (λ (b : Bool). if b then j ∷ jobs_on w js else jobs_on w js) (if_not (j.worker == w) (λ t. other (sym (same_number j.worker w t))))

-- a worker whose next job it is has a result left
pub not_empty : (j : Job) (js : List Job) (lists : List (List (Result Partial Cause))) → j.worker < length lists → AreCounted (j ∷ js) lists → length (list_of lists j.worker) ≡ 0 → ⊥
not_empty j js lists low counted none =
    let long : suc (length (jobs_on j.worker js)) ≡ 0 = ap length (sym (on_here j js)) ∙ (counted j.worker low ∙ none) in
    omega (arith, long)

-- the first result of the list of the worker whose next job it is
module _ (j : Job) (js : List Job) (lists : List (List (Result Partial Cause))) (x : Result Partial Cause) (rest : List (Result Partial Cause)) (low : j.worker < length lists) (at : list_of lists j.worker ≡ x ∷ rest) where
  there : list_of (set lists j.worker rest) j.worker ≡ rest
  there = get_or-set_same lists j.worker rest [] low

  elsewhere : (w : ℕ) → w ≢ j.worker → list_of (set lists j.worker rest) w ≡ list_of lists w
  elsewhere w other = get_or-set_other lists j.worker w rest [] other

  pub counted_next : AreCounted (j ∷ js) lists → AreCounted js (set lists j.worker rest)
  counted_next counted w less =
      let inside : w < length lists = omega (arith, less, length-set lists j.worker rest) in
      ⊎_elim
      (λ (e : w ≡ j.worker).
      let long : suc (length (jobs_on j.worker js)) ≡ suc (length rest) = ap length (sym (on_here j js)) ∙ (counted j.worker low ∙ ap length at) in
      let here : length (jobs_on j.worker js) ≡ length (list_of (set lists j.worker rest) j.worker) = omega (arith, long, ap length there) in
      subst (λ (k : ℕ). length (jobs_on k js) ≡ length (list_of (set lists j.worker rest) k)) (sym e) here)
      (λ (n : w ≢ j.worker). ap length (sym (on_other w j js n)) ∙ (counted w inside ∙ ap length (sym (elsewhere w n))))
      (cases_eq w j.worker)

  module _ (o : Start) (told : Told) (z : TableShape) (story : List Entry) (sorted : AreSorted o told z story (j ∷ js) lists) where
    its : CameOfAll o told z story (j ∷ jobs_on j.worker js) (x ∷ rest)
    its = subst (λ (l : List (Result Partial Cause)). CameOfAll o told z story (j ∷ jobs_on j.worker js) l) at (subst (λ (l : List Job). CameOfAll o told z story l (list_of lists j.worker)) (on_here j js) (sorted j.worker low))

    pub came_next : CameOfJob o told z story j x
    came_next = its.0

    pub sorted_next : AreSorted o told z story js (set lists j.worker rest)
    sorted_next w less =
        let inside : w < length lists = omega (arith, less, length-set lists j.worker rest) in
        ⊎_elim
        (λ (e : w ≡ j.worker).
        subst (λ (k : ℕ). CameOfAll o told z story (jobs_on k js) (list_of (set lists j.worker rest) k)) (sym e)
        (subst (λ (l : List (Result Partial Cause)). CameOfAll o told z story (jobs_on j.worker js) l) (sym there) its.1))
        (λ (n : w ≢ j.worker).
        subst (λ (l : List (Result Partial Cause)). CameOfAll o told z story (jobs_on w js) l) (sym (elsewhere w n))
        (subst (λ (l : List Job). CameOfAll o told z story l (list_of lists w)) (on_other w j js n) (sorted w inside)))
        (cases_eq w j.worker)
