-- A worker between two scans: which queries it may register, and what its next scan leaves.
use Rattle.std.proofs.Common.{◌≡◌, ◌==◌, ◌&&◌, ◌||◌, ◌++◌, ◌∷◌, [], ℕ, true, false, List, Some, Result, Ok, Err, refl, sym, ap, ◌∙◌, subst, ⊎_elim}
use Rattle.std.specs.List.{list_any}
use Rattle.std.proofs.lemmas.List.{append-nil}
use Rattle.scan_story.specs.declared.cause.Cause.{Cause}
use Rattle.scan_story.specs.declared.cause.Cause.TheVariants as causes
use Rattle.scan_story.specs.declared.entry.Entry.{Entry}
use Rattle.scan_story.specs.declared.entry.Entry.TheVariants.{Register, Stop}
use Rattle.scan_story.specs.declared.origin.Start.{Start}
use Rattle.scan_story.specs.Counting.{has}
use Rattle.scan_story.specs.Legal.{Legal}
use Rattle.scan_story.specs.MayFollow.{IsIdle, MayRegister}
use Rattle.scan_story.specs.Setting.{IsStart, worker_of}
use Rattle.scan_story.specs.Views.{is_active, is_ended, is_registered, is_stopped, past}
use Rattle.story_laws.specs.Queries.{chunks_delivered}
use Rattle.story_laws.proofs.Active.{active_parts}
use Rattle.story_laws.proofs.Bools.{either, if_not, not_both, same_number}
use Rattle.abm_policy.proofs.Meanwhile.{passing_of}
use Rattle.baton.specs.Passes.{PassView, Went}
use Rattle.baton.proofs.Turns.{went_on}
use Rattle.frame_pool.specs.Frames.{Told}
use Rattle.piece_format.specs.Shape.{TableShape}
use Rattle.query_gather.specs.declared.partial.Partial.{Partial}
use Rattle.cscan.specs.Answers.{AddsOne, IsStoppedBy}
use Rattle.cscan.specs.declared.station.Station.{Station}
use Rattle.cscan.specs.Scans.{IsOver}
use Rattle.cscan.specs.Stations.{Waits}
use Rattle.atomic_table.specs.Seated.{TableId}
use Rattle.frame_pool.specs.Berths.{PoolView}
use Rattle.sql_bind.specs.declared.plan.Plan.{Plan}
use Rattle.batch_ends.specs.Gathered.{Gathered}
use Rattle.batch_run.proofs.Delivered.{delivered_by}
use Rattle.batch_run.specs.declared.part.Unfinished.{Unfinished}
use Rattle.batch_run.specs.declared.part.Unfinished.TheVariants as unfinished
use Rattle.batch_ends.specs.Registering.{registered}
use Rattle.batch_run.specs.Parts.{CameTo, WentFor}
use Rattle.batch_ends.specs.Came.{CameFor}
use Rattle.story_laws.proofs.Delivering.{delivered_append}
use Rattle.cscan.specs.declared.scan.CScan.{CScan}
use Rattle.batch_ends.specs.declared.job.Job.{Job}
use Rattle.batch_ends.specs.Jobs.{numbers_of}
use Rattle.batch_ends.specs.Lists.{CameOfAll}
use Rattle.batch_run.specs.Workers.{Ran}
use Rattle.batch_run.proofs.Coming.{came_over, over_inactive}
use Rattle.batch_run.proofs.Registered.{delivered_none, registered-append, registered_by}

-- One scan

-- entries that deliver nothing
pub delivers_same : (k : ℕ) (p r : PassView) (added : List Entry) → Went p r added → chunks_delivered added k ≡ [] → chunks_delivered r.mine k ≡ chunks_delivered p.mine k
delivers_same k p r added went none =
    ap (λ (l : List Entry). chunks_delivered l k) went.mine ∙ (delivered_append k p.mine added ∙ (ap (λ (l : List ℕ). chunks_delivered p.mine k ++ l) none ∙ append-nil (chunks_delivered p.mine k)))

-- the scan was begun
pub ran_begun : (w q : ℕ) (p r : PassView) → Went p r (Register w q ∷ []) → Ran q p r
ran_begun w q p r went = record { added = Register w q ∷ []; went = went; registers = refl; others = λ k other. delivers_same k p r (Register w q ∷ []) went refl }

-- it went on
pub ran_on : (q : ℕ) (p m r : PassView) → Ran q p m → WentFor q m r → Ran q p r
ran_on q p m r first more = record {
  added = first.added ++ more.added;
  went = went_on p m r first.added more.added first.went more.went;
  registers = registered-append first.added more.added ∙ (ap (λ (l : List ℕ). l ++ registered more.added) first.registers ∙ ap (λ (l : List ℕ). q ∷ l) more.none_registered);
  others = λ k other. more.others k other ∙ first.others k other;
}

-- it was stopped
pub ran_stopped : (w q k : ℕ) (cause : Cause) (p m r : PassView) → k ≡ q → Ran q p m → IsStoppedBy w k m r cause → Ran q p r
ran_stopped w q k cause p m r same first stop = ran_on q p m r first (⊎_elim
    (λ (none : Went m r []). for [] none refl (λ i. refl))
    (λ (one : AddsOne (Stop w k) m r × (cause ≡ causes.Memory)). for (Stop w k ∷ []) one.0.went refl (λ i. refl))
    stop.1)
  where
    for : (added : List Entry) → Went m r added → registered added ≡ [] → ((i : ℕ) → chunks_delivered added i ≡ []) → WentFor q m r
    for added went none delivers = record { added = added; went = went; none_registered = none; others = λ i other. delivers_same i m r added went (delivers i) }

module _ {S C P D : Type 0} where
  -- a scan is over at one baton, pool and query, however they are named
  pub over_same : (o : Start) (i j : TableId) (a b : PoolView) (q k : ℕ) (s : Station S C P D) → i ≡ j → a ≡ b → q ≡ k → IsOver o i a q s → IsOver o j b k s
  over_same o i j a b q k s baton pool query over =
      subst (λ (x : TableId). IsOver o x b k s) baton (subst (λ (x : PoolView). IsOver o i x k s) pool (subst (λ (x : ℕ). IsOver o i a x s) query over))

-- nothing was delivered to a query of the worker before it is registered
pub none_yet : (o : Start) (id : TableId) (w q : ℕ) (p : PassView) → Waits id o w p → Legal o.setting (past p.seen) → worker_of o.setting q ≡ Some w → is_registered (past p.seen) q ≡ false
    → chunks_delivered p.mine q ≡ []
none_yet o id w q p waits legal on first =
    ap (λ (l : List Entry). chunks_delivered l q) (sym waits.4) ∙ (delivered_by o.setting w q on p.seen legal ∙ delivered_none o.setting q p.seen legal first)

-- what its worker took for a query is what the story delivered to it
pub came_by : (o : Start) (told : Told) (z : TableShape) (id : TableId) (w q : ℕ) (plan : Plan) (partial : Partial) (p : PassView) → Waits id o w p → Legal o.setting (past p.seen) → worker_of o.setting q ≡ Some w
    → is_ended (past p.seen) q ≡ true → Gathered z plan o.held told (chunks_delivered p.mine q) partial → CameFor o told z p.seen q plan (Ok partial)
came_by o told z id w q plan partial p waits legal on ended gathered = (
  ended,
  subst (λ (cs : List ℕ). Gathered z plan o.held told cs partial) (ap (λ (l : List Entry). chunks_delivered l q) (sym waits.4) ∙ delivered_by o.setting w q on p.seen legal) gathered,
)

module _ {S C P D T K : Type 0} (o : Start) (told : Told) (scan : CScan S C P D T K) (plan : Plan) where
  -- what came of a scan that took all its chunks
  pub scan_came : (z : TableShape) (q w : ℕ) (partial : Partial) → scan.query ≡ q → scan.shape.now ≡ z → scan.station.now.number ≡ w → worker_of o.setting q ≡ Some w
      → CameTo o told scan plan (Ok partial) → CameFor o told z scan.station.now.pass.seen q plan (Ok partial)
  scan_came z q w partial query shape number on came =
      let p = scan.station.now.pass in
      let on_it : worker_of o.setting scan.query ≡ Some scan.station.now.number = ap (worker_of o.setting) query ∙ (on ∙ ap Some (sym number)) in
      let here = came_by o told scan.shape.now scan.baton.now scan.station.now.number scan.query plan partial p came.0.seated.0 came.0.rests.legal on_it came.1 came.3 in
      subst (λ (k : ℕ). CameFor o told z p.seen k plan (Ok partial)) query (subst (λ (x : TableShape). CameFor o told x p.seen scan.query plan (Ok partial)) shape here)

  -- a scan that was stopped is over
  pub stopped_over : (u : Unfinished) (cause : Cause) → u ≡ unfinished.Stopped cause → CameTo o told scan plan (Err u) → IsOver o scan.baton.now scan.pool.now scan.query scan.station.now
  stopped_over u cause is came = (subst (λ (x : Unfinished). CameTo o told scan plan (Err x)) is came).0

-- Many scans

-- what came of jobs, and of the queries that their numbers are
came_of_one : (o : Start) (told : Told) (z : TableShape) (story : List Entry) (q : ℕ) (js : List Job) (rs : List (Result Partial Cause)) → CameOfAll o told z story js rs → has (numbers_of js) q ≡ true
    → (is_ended (past story) q || is_stopped (past story) q) ≡ true
came_of_one o told z story q [] rs came is = absurd cc
came_of_one o told z story q (j ∷ js) [] came is = absurd came
came_of_one o told z story q (j ∷ js) (r ∷ rs) came is =
    either (j.number == q) (has (numbers_of js) q) is
    (λ here. subst (λ (k : ℕ). (is_ended (past story) k || is_stopped (past story) k) ≡ true) (same_number j.number q here) (came_over o told z story j.number j.plan.now r came.0))
    (λ later. came_of_one o told z story q js rs came.1 later)

-- the worker rests after its scans: none of its queries is active
pub rests_alone : (o : Start) (told : Told) (z : TableShape) (id : TableId) (w : ℕ) (js : List Job) (rs : List (Result Partial Cause)) (p : PassView) → IsStart o → Waits id o w p → Legal o.setting (past p.seen)
    → registered p.mine ≡ numbers_of js → CameOfAll o told z p.seen js rs → list_any (λ n. n.worker == w && is_active (past p.seen) n.query) o.setting.needs ≡ false
rests_alone o told z id w js rs p start waits legal all came =
    if_not (list_any (λ n. n.worker == w && is_active (past p.seen) n.query) o.setting.needs) (λ t.
    let r = passing_of w (is_active (past p.seen)) o.setting.needs start.setting.distinct t in
    let parts = active_parts (is_registered (past p.seen) r.0) (is_stopped (past p.seen) r.0) (is_ended (past p.seen) r.0) r.2 in
    let among : has (numbers_of js) r.0 ≡ true =
    ap (λ (l : List ℕ). has l r.0) (sym all) ∙ (ap (λ (l : List Entry). has (registered l) r.0) (sym waits.4) ∙ (registered_by o.setting w r.0 r.1 p.seen legal ∙ parts.0)) in
    not_both (is_active (past p.seen) r.0) r.2 (over_inactive (past p.seen) r.0 (came_of_one o told z p.seen r.0 js rs came among)))

-- so it may register each query of its own that it hasn't
pub may_register : (o : Start) (told : Told) (z : TableShape) (id : TableId) (w q : ℕ) (js : List Job) (rs : List (Result Partial Cause)) (p : PassView) → IsStart o → Waits id o w p → Legal o.setting (past p.seen)
    → IsIdle o.setting (past p.seen) w → registered p.mine ≡ numbers_of js → CameOfAll o told z p.seen js rs → worker_of o.setting q ≡ Some w → has (numbers_of js) q ≡ false
    → MayRegister o.setting (past p.seen) w q
may_register o told z id w q js rs p start waits legal idle all came on new = record {
  first = sym (registered_by o.setting w q on p.seen legal) ∙ (ap (λ (l : List Entry). has (registered l) q) waits.4 ∙ (ap (λ (l : List ℕ). has l q) all ∙ new));
  on = on;
  alone = rests_alone o told z id w js rs p start waits legal all came;
  idle = idle;
}
