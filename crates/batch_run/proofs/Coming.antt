-- What came of a scan stays what came of it as the story goes on, and its query is active no more.
use Rattle.std.proofs.Common.{◌≡◌, ◌==◌, ◌||◌, ◌++◌, ◌∷◌, [], ℕ, Bool, true, false, List, Option, None, Some, Result, Ok, Err, refl, sym, ap, ◌∙◌, subst}
use Rattle.std.specs.List.{list_any}
use Rattle.scan_story.specs.declared.cause.Cause.{Cause}
use Rattle.scan_story.specs.declared.cause.Cause.TheVariants as causes
use Rattle.scan_story.specs.declared.entry.Entry.{Entry}
use Rattle.scan_story.specs.declared.entry.Entry.TheVariants.{Deliver, End, Evict, Failed, Fill, Filled, Plan, Register, Release, Stop}
use Rattle.scan_story.specs.declared.origin.Start.{Start}
use Rattle.scan_story.specs.Causes.{cause_by, cause_of, or_else}
use Rattle.scan_story.specs.Legal.{Legal}
use Rattle.scan_story.specs.Makers.{StartsWith, entries_by}
use Rattle.scan_story.specs.Setting.{worker_of}
use Rattle.scan_story.specs.Views.{History, ends, is_active, is_ended, is_registered, is_stopped, past}
use Rattle.scan_story.proofs.Prefixes.{begin_legal, past_joined}
use Rattle.story_laws.specs.Queries.{chunks_delivered}
use Rattle.story_laws.proofs.Active.{active_parts}
use Rattle.story_laws.proofs.Bools.{if_not, none_some, not_both, or_left, or_off, or_right}
use Rattle.frame_pool.specs.Frames.{Told}
use Rattle.piece_format.specs.Shape.{TableShape}
use Rattle.sql_bind.specs.declared.plan.Plan.{Plan as Query}
use Rattle.query_gather.specs.declared.partial.Partial.{Partial}
use Rattle.batch_ends.specs.Gathered.{Gathered}
use Rattle.batch_run.proofs.Delivered.{delivered_by}
use Rattle.batch_ends.specs.Came.{CameFor}

-- As the history grows

any_later : (t : Entry → Bool) (new h : History) → list_any t h ≡ true → list_any t (new ++ h) ≡ true
any_later t [] h is = is
any_later t (e ∷ new) h is = or_right (t e) (list_any t (new ++ h)) (any_later t new h is)

or_else_some : (o : Option Cause) (b : Bool) (d c : Cause) → o ≡ Some c → or_else o b d ≡ Some c
or_else_some None b d c is = absurd (none_some c is)
or_else_some (Some x) b d c is = is

cause_later : (q : ℕ) (c : Cause) (new h : History) → cause_of h q ≡ Some c → cause_of (new ++ h) q ≡ Some c
cause_later q c [] h is = is
cause_later q c (Stop w r ∷ new) h is = or_else_some (cause_of (new ++ h) q) (r == q) causes.Memory c (cause_later q c new h is)
cause_later q c (Failed w r p why ∷ new) h is = or_else_some (cause_of (new ++ h) q) (r == q) (cause_by why p) c (cause_later q c new h is)
cause_later q c (Register w r ∷ new) h is = cause_later q c new h is
cause_later q c (Plan w r x ∷ new) h is = cause_later q c new h is
cause_later q c (Evict w x ∷ new) h is = cause_later q c new h is
cause_later q c (Fill w f p ∷ new) h is = cause_later q c new h is
cause_later q c (Filled w f p ∷ new) h is = cause_later q c new h is
cause_later q c (Deliver w r x ∷ new) h is = cause_later q c new h is
cause_later q c (Release w r x ∷ new) h is = cause_later q c new h is
cause_later q c (End w r ∷ new) h is = cause_later q c new h is

at_past : (P : History → Type 0) (old new : List Entry) (begins : StartsWith new old) → P (past begins.0 ++ past old) → P (past new)
at_past P old new begins p = subst P (sym (ap past begins.1 ∙ past_joined old begins.0)) p

-- Where its worker's entries deliver the same to its query

came_with : (o : Start) (told : Told) (z : TableShape) (q : ℕ) (plan : Query) (r : Result Partial Cause) (old new : List Entry) → StartsWith new old
    → chunks_delivered new q ≡ chunks_delivered old q → CameFor o told z old q plan r → CameFor o told z new q plan r
came_with o told z q plan (Ok partial) old new begins same came = (
  at_past (λ (h : History). is_ended h q ≡ true) old new begins (any_later (ends q) (past begins.0) (past old) came.0),
  subst (λ (cs : List ℕ). Gathered z plan o.held told cs partial) (sym same) came.1,
)
came_with o told z q plan (Err cause) old new begins same came =
    at_past (λ (h : History). cause_of h q ≡ Some cause) old new begins (cause_later q cause (past begins.0) (past old) came)

-- what came of a query of a worker stays so where the worker took no chunk more for it
pub came_later : (o : Start) (told : Told) (z : TableShape) (w q : ℕ) (plan : Query) (r : Result Partial Cause) (old new : List Entry) → worker_of o.setting q ≡ Some w → Legal o.setting (past new)
    → StartsWith new old → chunks_delivered (entries_by w new) q ≡ chunks_delivered (entries_by w old) q → CameFor o told z old q plan r → CameFor o told z new q plan r
came_later o told z w q plan r old new on legal begins same came =
    let before = begin_legal o.setting new old begins legal in
    came_with o told z q plan r old new begins (sym (delivered_by o.setting w q on new legal) ∙ (same ∙ delivered_by o.setting w q on old before)) came

-- The query is over

stops_or : (b old : Bool) (o : Option Cause) (d c : Cause) → (o ≡ Some c → old ≡ true) → or_else o b d ≡ Some c → (b || old) ≡ true
stops_or b old (Some x) d c before is = or_right b old (before is)
stops_or true old None d c before is = refl
stops_or false old None d c before is = absurd (none_some c is)

pub cause_stops : (q : ℕ) (c : Cause) (h : History) → cause_of h q ≡ Some c → is_stopped h q ≡ true
cause_stops q c [] is = absurd (none_some c is)
cause_stops q c (Stop w r ∷ h) is = stops_or (r == q) (is_stopped h q) (cause_of h q) causes.Memory c (cause_stops q c h) is
cause_stops q c (Failed w r p why ∷ h) is = stops_or (r == q) (is_stopped h q) (cause_of h q) (cause_by why p) c (cause_stops q c h) is
cause_stops q c (Register w r ∷ h) is = cause_stops q c h is
cause_stops q c (Plan w r x ∷ h) is = cause_stops q c h is
cause_stops q c (Evict w x ∷ h) is = cause_stops q c h is
cause_stops q c (Fill w f p ∷ h) is = cause_stops q c h is
cause_stops q c (Filled w f p ∷ h) is = cause_stops q c h is
cause_stops q c (Deliver w r x ∷ h) is = cause_stops q c h is
cause_stops q c (Release w r x ∷ h) is = cause_stops q c h is
cause_stops q c (End w r ∷ h) is = cause_stops q c h is

-- a query of which something came has ended or is stopped
pub came_over : (o : Start) (told : Told) (z : TableShape) (story : List Entry) (q : ℕ) (plan : Query) (r : Result Partial Cause) → CameFor o told z story q plan r
    → (is_ended (past story) q || is_stopped (past story) q) ≡ true
came_over o told z story q plan (Ok partial) came = or_left (is_ended (past story) q) (is_stopped (past story) q) came.0
came_over o told z story q plan (Err cause) came = or_right (is_ended (past story) q) (is_stopped (past story) q) (cause_stops q cause (past story) came)

-- and isn't active
pub over_inactive : (h : History) (q : ℕ) → (is_ended h q || is_stopped h q) ≡ true → is_active h q ≡ false
over_inactive h q over = if_not (is_active h q) (λ t.
    let parts = active_parts (is_registered h q) (is_stopped h q) (is_ended h q) t in
    not_both (is_ended h q || is_stopped h q) over (or_off (is_ended h q) (is_stopped h q) parts.2 parts.1))
