-- The answers to the tasks of a batch, by what came of its scans.
use Rattle.std.proofs.Common.{◌≡◌, ◌≤◌, ◌+◌, ◌++◌, ◌∷◌, ℕ, zero, suc, true, List, [], length, map, take, drop, arith, refl, ap, subst}
use Rattle.std.specs.Prelude.{All, None, Option}
use Rattle.std.specs.List.{AllByRecursion, AllZip}
use Rattle.std.proofs.lemmas.List.Elements.{All-from_recursion}
use Rattle.scan_story.specs.declared.setting.Setting.{Setting}
use Rattle.scan_story.specs.Setting.{IsNeed}
use Rattle.chunk_interest.specs.declared.need.Need.{Need}
use Rattle.chunk_interest.specs.Fresh.{as_need}
use Rattle.scan_story.specs.declared.entry.Entry.{Entry}
use Rattle.scan_story.specs.declared.origin.Start.{Start}
use Rattle.scan_story.specs.declared.cause.Cause.{Cause}
use Rattle.scan_story.specs.Causes.{cause_of}
use Rattle.scan_story.specs.Views.{is_ended, past}
use Rattle.frame_pool.specs.Frames.{Told}
use Rattle.filter_zones.specs.Possible.{needed}
use Rattle.filter_zones.specs.declared.zone.ChunkZones.{ChunkZones}
use Rattle.piece_format.specs.Shape.{TableShape}
use Rattle.sql_bind.specs.Reads.{ReadsItsColumns}
use Rattle.query_gather.specs.declared.answer.Answer.{Answer}
use Rattle.batch_plan.specs.declared.task.Task.{Task}
use Rattle.batch_plan.specs.Scans.{Scan, needs, scans_from, scans_from_part}
use Rattle.batch_ends.specs.Came.{CameOf, IsNeedOf}
use Rattle.batch_ends.specs.Answering.{AnswersSome, AreAllJoinable, Came, IsStoppedFor}
use Rattle.batch_ends.specs.Lost.{IsLostBy, stop_of}
use Rattle.batch_ends.specs.Taken.{TookNeed}
use Rattle.batch_run.proofs.Parts.{IsAnswerRead, is_read, joinable, same_cause}

-- ---- lists in two parts

zip_front : {A B : Type 0} (R : A → B → Type 0) (n : ℕ) (xs us : List A) (ys : List B) → length xs ≡ n → AllZip R (xs ++ us) ys → (n ≤ length ys) × AllZip R xs (take n ys) × AllZip R us (drop n ys)
zip_front R zero [] us ys long all = (omega arith, tt, all)
zip_front R (suc n) [] us ys long all = absurd (omega (arith, long))
zip_front R zero (x ∷ xs) us ys long all = absurd (omega (arith, long))
zip_front R (suc n) (x ∷ xs) us [] long all = absurd all
zip_front R (suc n) (x ∷ xs) us (y ∷ ys) long all = let rest = zip_front R n xs us ys (omega (arith, long)) all.1 in (omega (arith, rest.0), (all.0, rest.1), rest.2)

each_front : {A : Type 0} (P : A → Type 0) (xs us : List A) → AllByRecursion P (xs ++ us) → AllByRecursion P xs × AllByRecursion P us
each_front P [] us all = (tt, all)
each_front P (x ∷ xs) us all = let rest = each_front P xs us all.1 in ((all.0, rest.0), rest.1)

-- ---- scans and their needs

pub needs_of_scans : (zones : List ChunkZones) (parts : ℕ) (ks : List Scan) → AllZip IsNeedOf ks (needs zones parts ks)
needs_of_scans zones parts [] = tt
needs_of_scans zones parts (k ∷ ks) = (record { query = refl; worker = refl; columns = refl }, needs_of_scans zones parts ks)

parts_long : (workers parts : ℕ) (t : Task) (place part left : ℕ) → length (scans_from_part workers parts t place part left) ≡ left
parts_long workers parts t place part zero = refl
parts_long workers parts t place part (suc left) = ap suc (parts_long workers parts t (place + 1) (part + 1) left)

-- ---- the tasks one after another

module _ (o : Start) (told : Told) (z : TableShape) (zones : List ChunkZones) (workers parts : ℕ) (story : List Entry) (some : 1 ≤ z.per) (one_part : 1 ≤ parts) (few_zones : length zones ≤ 1024) where
  abbrev AllCame : ℕ → List Task → List Came → Type 0
  AllCame place tasks rs = AllZip (CameOf o told z story) (scans_from workers parts place tasks) rs

  abbrev AllTook : ℕ → List Task → Type 0
  AllTook place tasks = AllByRecursion (TookNeed zones parts story) (scans_from workers parts place tasks)

  pub all_joinable : z.rows ≤ 2097152 → (place : ℕ) (tasks : List Task) (rs : List Came) → AllCame place tasks rs → AllTook place tasks → AreAllJoinable parts (length tasks) rs
  all_joinable few place [] rs came took = tt
  all_joinable few place (t ∷ tasks) rs came took =
      let mine = scans_from_part workers parts t place 0 parts in
      let later = scans_from workers parts (place + parts) tasks in
      let split = zip_front (CameOf o told z story) parts mine later rs (parts_long workers parts t place 0 parts) came in
      let both = each_front (TookNeed zones parts story) mine later took in
      let Mine = λ (l : List Came). AllZip (CameOf o told z story) mine l in (
        split.0,
        λ all are. joinable o told z zones workers parts story t some one_part few_zones few place all (subst Mine are split.1) both.0,
        all_joinable few (place + parts) tasks (drop parts rs) split.2 both.1,
      )

  -- the answer to a task
  pub record IsTaskAnswered (t : Task) (a : Answer) : Type 0 where
    pub read : IsAnswerRead o.held told z (needed t.plan.cond zones) t.plan a
    pub lost : IsLostBy (past story) parts t.query (stop_of a)

  pub all_answered : ((q : ℕ) → is_ended (past story) q ≡ true → cause_of (past story) q ≡ None) → (place : ℕ) (tasks : List Task) (rs left : List Came) (answers : List Answer) → length answers ≡ length tasks
      → AllByRecursion (λ (t : Task). ReadsItsColumns (length z.kinds) t.plan) tasks → AllCame place tasks rs → AllTook place tasks → AnswersSome parts rs answers left → AllZip IsTaskAnswered tasks answers
  all_answered none place [] rs left [] long reads came took answered = tt
  all_answered none place [] rs left (a ∷ answers) long reads came took answered = absurd (omega (arith, long))
  all_answered none place (t ∷ tasks) rs left [] long reads came took answered = absurd (omega (arith, long))
  all_answered none place (t ∷ tasks) rs left (a ∷ answers) long reads came took answered =
      let mine = scans_from_part workers parts t place 0 parts in
      let later = scans_from workers parts (place + parts) tasks in
      let split = zip_front (CameOf o told z story) parts mine later rs (parts_long workers parts t place 0 parts) came in
      let both = each_front (TookNeed zones parts story) mine later took in
      let Lost = λ (c : Option Cause). IsStoppedFor c (stop_of a) in (
        record {
          read = is_read o told z zones workers parts story t some one_part few_zones reads.0 place (take parts rs) a split.1 both.0 answered.0;
          lost = subst Lost (same_cause o told z zones workers parts story t none place 0 parts (take parts rs) split.1) answered.0.lost;
        },
        all_answered none (place + parts) tasks (drop parts rs) left answers (omega (arith, long)) reads.1 split.2 both.1 answered.1,
      )
