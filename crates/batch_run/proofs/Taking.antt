-- What a scan's calls add, as far as a part goes.
use Rattle.std.proofs.Common.{◌≡◌, ◌==◌, ◌≢◌, ◌∙◌, ◌++◌, ◌∷◌, [], ◌≤◌, ◌+◌, ℕ, true, false, List, Some, arith, refl, sym, ap, subst}
use Rattle.std.proofs.lemmas.List.{append-nil, reverse-append}
use Rattle.coop_outside.specs.Pieces.{Stored}
use Rattle.frame_pool.specs.Frames.{Told}
use Rattle.scan_story.specs.declared.cause.Cause.{Cause}
use Rattle.scan_story.specs.declared.entry.Entry.{Entry}
use Rattle.scan_story.specs.declared.entry.Entry.TheVariants.{Deliver, End, Evict, Failed, Fill, Filled, Plan, Register, Release, Stop}
use Rattle.scan_story.specs.declared.origin.Start.{Start}
use Rattle.scan_story.specs.declared.setting.Setting.{Setting}
use Rattle.scan_story.specs.Counting.{has}
use Rattle.scan_story.specs.Setting.{IsStart, worker_of}
use Rattle.scan_story.specs.Views.{is_ended, past}
use Rattle.story_laws.specs.Lists.{NoneTwice}
use Rattle.story_laws.specs.Queries.{chunks_delivered}
use Rattle.story_laws.proofs.Bools.{if_other, or_left, other_number, self_number}
use Rattle.baton.specs.Passes.{PassView, Went}
use Rattle.baton.proofs.Turns.{went_nowhere, went_on}
use Rattle.piece_format.specs.Shape.{TableShape, rows_in}
use Rattle.sql_bind.specs.declared.plan.Plan as plan
use Rattle.query_gather.specs.declared.partial.Partial.{Partial}
use Rattle.query_gather.specs.Partial.{row_count}
use Rattle.cscan.specs.declared.scan.CScan.{CScan}
use Rattle.cscan.specs.Answers.{AreOfLoads, Ends, FindsStopped, Releases, TakesChunk}
use Rattle.cscan.specs.Scans.{IsOver, IsSameScan, IsScan}
use Rattle.cscan.proofs.Stories.{loads_deliver_none}
use Rattle.story_laws.proofs.Delivering.{delivered_append}
use Rattle.batch_ends.specs.Gathered.{Gathered}
use Rattle.batch_ends.specs.Registering.{registered}
use Rattle.batch_run.specs.Parts.{AreAllOnce, WentFor}
use Rattle.batch_run.proofs.Delivered.{delivered_by, once_push, story_all, story_once}
use Rattle.batch_run.proofs.Gathering.{count_of}
use Rattle.batch_run.proofs.Numbers.{few_numbers, length_more}

-- For one query alone

registered_append : (xs ys : List Entry) → registered (xs ++ ys) ≡ registered xs ++ registered ys
registered_append [] ys = refl
registered_append (Register w q ∷ xs) ys = ap (λ (l : List ℕ). q ∷ l) (registered_append xs ys)
registered_append (Plan w q c ∷ xs) ys = registered_append xs ys
registered_append (Evict w c ∷ xs) ys = registered_append xs ys
registered_append (Fill w f p ∷ xs) ys = registered_append xs ys
registered_append (Filled w f p ∷ xs) ys = registered_append xs ys
registered_append (Failed w q p why ∷ xs) ys = registered_append xs ys
registered_append (Deliver w q c ∷ xs) ys = registered_append xs ys
registered_append (Release w q c ∷ xs) ys = registered_append xs ys
registered_append (Stop w q ∷ xs) ys = registered_append xs ys
registered_append (End w q ∷ xs) ys = registered_append xs ys

loads_register_none : (es : List Entry) → AreOfLoads es → registered es ≡ []
loads_register_none [] only = refl
loads_register_none (Plan w q c ∷ es) only = loads_register_none es only.1
loads_register_none (Evict w c ∷ es) only = loads_register_none es only.1
loads_register_none (Fill w f p ∷ es) only = loads_register_none es only.1
loads_register_none (Filled w f p ∷ es) only = loads_register_none es only.1
loads_register_none (Failed w q p why ∷ es) only = loads_register_none es only.1
loads_register_none (Register w q ∷ es) only = absurd (one only.0)
  where
    one : false ≡ true → ⊥
    one e = absurd cc
loads_register_none (Deliver w q c ∷ es) only = loads_register_none es only.1
loads_register_none (Release w q c ∷ es) only = loads_register_none es only.1
loads_register_none (Stop w q ∷ es) only = loads_register_none es only.1
loads_register_none (End w q ∷ es) only = loads_register_none es only.1

-- these entries register no query and deliver to this one alone
record Quiet (q : ℕ) (es : List Entry) : Type 0 where
  pub none_registered : registered es ≡ []
  pub others : (k : ℕ) → k ≢ q → chunks_delivered es k ≡ []

quiet_append : (q : ℕ) (xs ys : List Entry) → Quiet q xs → Quiet q ys → Quiet q (xs ++ ys)
quiet_append q xs ys a b = record {
  none_registered = registered_append xs ys ∙ (ap (λ (l : List ℕ). l ++ registered ys) a.none_registered ∙ b.none_registered);
  others = λ k other. delivered_append k xs ys ∙ (ap (λ (l : List ℕ). l ++ chunks_delivered ys k) (a.others k other) ∙ b.others k other);
}

quiet_loads : (q : ℕ) (es : List Entry) → AreOfLoads es → Quiet q es
quiet_loads q es only = record { none_registered = loads_register_none es only; others = λ k other. loads_deliver_none k es only }

went_more : (q : ℕ) (p r t : PassView) (more : List Entry) → WentFor q p r → Went r t more → Quiet q more → WentFor q p t
went_more q p r t more before went quiet = record {
  added = before.added ++ more;
  went = went_on p r t before.added more before.went went;
  none_registered = registered_append before.added more ∙ (ap (λ (l : List ℕ). l ++ registered more) before.none_registered ∙ quiet.none_registered);
  others = λ k other.
      ap (λ (l : List Entry). chunks_delivered l k) went.mine
      ∙ (delivered_append k r.mine more ∙ (ap (λ (l : List ℕ). chunks_delivered r.mine k ++ l) (quiet.others k other) ∙ (append-nil (chunks_delivered r.mine k) ∙ before.others k other)));
}

pub went_none : (q : ℕ) (p : PassView) → p.holding ≡ false → WentFor q p p
went_none q p free = record { added = []; went = went_nowhere p free; none_registered = refl; others = λ k other. refl }

-- Calls

module _ (s : Setting) (w q : ℕ) (p r t : PassView) (before : WentFor q p r) where
  went_taking : (c : ℕ) → TakesChunk s w q r t c → WentFor q p t
  went_taking c takes =
      went_more q p r t (takes.loads ++ Deliver w q c ∷ []) before takes.went
      (quiet_append q takes.loads (Deliver w q c ∷ []) (quiet_loads q takes.loads takes.only_loads) (record { none_registered = refl; others = λ k other. if_other (q == k) (c ∷ []) [] (other_number q k (λ e. other (sym e))) }))

  went_ending : Ends s w q r t → WentFor q p t
  went_ending ends =
      went_more q p r t (ends.loads ++ End w q ∷ []) before ends.went (quiet_append q ends.loads (End w q ∷ []) (quiet_loads q ends.loads ends.only_loads) (record { none_registered = refl; others = λ k other. refl }))

  pub went_stopped : (cause : Cause) → FindsStopped q r t cause → WentFor q p t
  went_stopped cause stops = went_more q p r t stops.loads before stops.went (quiet_loads q stops.loads stops.only_loads)

  went_releasing : (c : ℕ) → Releases w q r t c → WentFor q p t
  went_releasing c releases = went_more q p r t (Release w q c ∷ []) before releases.went (record { none_registered = refl; others = λ k other. refl })

-- a release delivers nothing
released_same : (w q c : ℕ) (r t : PassView) → Releases w q r t c → chunks_delivered t.mine q ≡ chunks_delivered r.mine q
released_same w q c r t releases = ap (λ (l : List Entry). chunks_delivered l q) releases.went.mine ∙ (delivered_append q r.mine (Release w q c ∷ []) ∙ append-nil (chunks_delivered r.mine q))

-- the story has the End
has_ended : (s : Setting) (w q : ℕ) (r t : PassView) → Ends s w q r t → is_ended (past t.seen) q ≡ true
has_ended s w q r t ends =
    ap (λ (l : List Entry). is_ended (past l) q) ends.seen
    ∙ (ap (λ (l : List Entry). is_ended l q) (reverse-append ends.before (End w q ∷ [])) ∙ or_left (q == q) (is_ended (past ends.before) q) (self_number q))

-- Scans

module _ {S C P D T K : Type 0} where
  pub same_on : (a b c : CScan S C P D T K) → IsSameScan a b → IsSameScan b c → IsSameScan a c
  same_on a b c first second = record {
    station = second.station ∙ first.station;
    number = second.number ∙ first.number;
    baton = second.baton ∙ first.baton;
    pool = second.pool ∙ first.pool;
    shape = second.shape ∙ first.shape;
    query = second.query ∙ first.query;
  }

  -- a chunk was taken and released: it is the next one that was delivered
  pub after_chunk : (s : Setting) (q c : ℕ) (first : PassView) (old taken held released : CScan S C P D T K) → old.query ≡ q → WentFor q first old.station.now.pass → IsSameScan old taken → held ≡ taken
      → TakesChunk s old.station.now.number old.query old.station.now.pass taken.station.now.pass c → Releases held.station.now.number held.query held.station.now.pass released.station.now.pass c
      → WentFor q first released.station.now.pass × (chunks_delivered released.station.now.pass.mine q ≡ chunks_delivered old.station.now.pass.mine q ++ c ∷ [])
  after_chunk s q c first old taken held released of before same is takes releases =
      let w = taken.station.now.number in
      let takes_it = subst (λ (k : ℕ). TakesChunk s old.station.now.number k old.station.now.pass taken.station.now.pass c) of takes in
      let by : Releases w taken.query taken.station.now.pass released.station.now.pass c =
      subst (λ (scan : CScan S C P D T K). Releases scan.station.now.number scan.query scan.station.now.pass released.station.now.pass c) is releases in
      let releases_it = subst (λ (k : ℕ). Releases w k taken.station.now.pass released.station.now.pass c) (same.query ∙ of) by in (
        went_releasing s w q first taken.station.now.pass released.station.now.pass (went_taking s old.station.now.number q first old.station.now.pass taken.station.now.pass before c takes_it) c releases_it,
        released_same w q c taken.station.now.pass released.station.now.pass releases_it ∙ takes_it.taken,
      )

  -- the query was ended: no chunk more was delivered
  pub after_end : (s : Setting) (q : ℕ) (first : PassView) (old new : CScan S C P D T K) → old.query ≡ q → WentFor q first old.station.now.pass → IsSameScan old new
      → Ends s old.station.now.number old.query old.station.now.pass new.station.now.pass
      → WentFor q first new.station.now.pass × (is_ended (past new.station.now.pass.seen) new.query ≡ true) × (chunks_delivered old.station.now.pass.mine q ≡ chunks_delivered new.station.now.pass.mine new.query)
  after_end s q first old new of before same ends =
      let w = old.station.now.number in
      let t = new.station.now.pass in
      let is : new.query ≡ q = same.query ∙ of in
      let ends_it = subst (λ (k : ℕ). Ends s w k old.station.now.pass t) of ends in (
        went_ending s w q first old.station.now.pass t before ends_it,
        ap (is_ended (past t.seen)) is ∙ has_ended s w q old.station.now.pass t ends_it,
        sym (ap (chunks_delivered t.mine) is ∙ ends_it.taken),
      )

-- Chunks that a scan took

module _ {S C P D T K : Type 0} (o : Start) (told : Told) where
  pub once_each : (scan : CScan S C P D T K) → IsScan o told scan → NoneTwice (chunks_delivered scan.station.now.pass.mine scan.query)
  once_each scan is =
      let w = scan.station.now.number in
      let q = scan.query in
      let seen = scan.station.now.pass.seen in
      let taken = sym (delivered_by o.setting w q is.at.runs.on seen is.legal) ∙ ap (λ (l : List Entry). chunks_delivered l q) is.seated.0.4 in
      subst NoneTwice taken (story_once o.setting q seen is.legal).once

  -- at its End a scan took each chunk of its need
  pub all_taken : (old new : CScan S C P D T K) → IsStart o → IsScan o told old → IsSameScan old new → IsOver o new.baton.now new.pool.now new.query new.station.now → is_ended (past new.station.now.pass.seen) new.query ≡ true
      → AreAllOnce o.setting new.query (chunks_delivered new.station.now.pass.mine new.query)
  all_taken old new start is same over ended =
      let w = new.station.now.number in
      let q = new.query in
      let seen = new.station.now.pass.seen in
      let on : worker_of o.setting q ≡ Some w = ap (worker_of o.setting) same.query ∙ (is.at.runs.on ∙ ap (λ (k : ℕ). Some k) (sym same.number)) in
      let taken = sym (delivered_by o.setting w q on seen over.rests.legal) ∙ ap (λ (l : List Entry). chunks_delivered l q) over.seated.0.4 in
      subst (AreAllOnce o.setting q) taken (story_all o.setting q seen over.rests.legal start.setting ended)

-- a chunk more has rows for which there is room
pub few_more : (z : TableShape) (p : plan.Plan) (held : Stored) (told : Told) (cs : List ℕ) (c : ℕ) (partial : Partial) → 1 ≤ z.per → z.rows ≤ 2097152 → NoneTwice cs → has cs c ≡ false → Gathered z p held told cs partial
    → row_count partial + rows_in z c ≤ 2097152
few_more z p held told cs c partial some few once fresh g = omega (arith, few, count_of z p held told cs partial g, length_more z cs c, few_numbers z some (cs ++ c ∷ []) (once_push cs c once fresh))
