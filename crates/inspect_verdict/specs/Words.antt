-- What the words of a run ask of its story, beside the rules of all stories.
use Rattle.std.specs.Prelude.{◌≡◌, ◌≢◌, ◌==◌, ◌<◌, ◌≤◌, ◌^◌, ◌-◌, ◌++◌, true, false, ℕ, Bool, List, [], ◌∷◌}
use Rattle.std.specs.Prelude.{Option, None, Some, filter, map, not, take, length, get_or, if◌then◌else◌}
use Rattle.piece_format.specs.Shape.{TableShape, piece_at, pieces, words_in}
use Rattle.scan_story.specs.declared.entry.Entry.{Entry}
use Rattle.scan_story.specs.declared.entry.Entry.TheVariants.{Failed, Register}
use Rattle.scan_story.specs.declared.entry.Why.{Why}
use Rattle.scan_story.specs.declared.entry.Why.TheVariants.{Fault, Damage}
use Rattle.scan_story.specs.declared.setting.Need.{Need}
use Rattle.scan_story.specs.declared.setting.Setting.{Setting}
use Rattle.scan_story.specs.Causes.{Licensed, last_fault}
use Rattle.scan_story.specs.Makers.{entries_by}
use Rattle.scan_story.specs.Views.{History, past}
use Rattle.batch_ends.specs.Registering.{registered}
use Rattle.inspect_verdict.specs.declared.wording.Fitting.{Fitting}
use Rattle.inspect_verdict.specs.declared.wording.Fitting.TheVariants as fits
use Rattle.inspect_verdict.specs.declared.order.Turns.{Turns}
use Rattle.inspect_verdict.specs.declared.order.Turns.TheVariants as turns
use Rattle.inspect_verdict.specs.declared.unfit.Unfit.{Unfit}
use Rattle.inspect_verdict.specs.declared.unfit.Unfit.TheVariants as unfit

-- ---- the order of a worker's queries

-- the queries of a worker, in the order of the needs
abbrev pub due_among : List Need → ℕ → List ℕ
due_among needs w = map (λ (n : Need). n.query) (filter (λ (n : Need). n.worker == w) needs)

abbrev pub due_on : Setting → ℕ → List ℕ
due_on s w = due_among s.needs w

-- the worker's Registers among entries are of the first of these queries, in their order, and these are left
abbrev pub LeavesDue : List Entry → ℕ → List ℕ → List ℕ → Type 0
LeavesDue es w due left = due ≡ registered (entries_by w es) ++ left

-- the first of them, if any
abbrev pub next_of : List ℕ → Option ℕ
next_of [] = None
next_of (q ∷ left) = Some q

-- what an entry registers on a worker
abbrev pub registered_by : ℕ → Entry → List ℕ
registered_by w e = registered (entries_by w (e ∷ []))

-- it registers another query on the worker than the next of these
pub record RegistersOther (w : ℕ) (left : List ℕ) (e : Entry) : Type 0 where
  pub query : ℕ
  pub entry : e ≡ Register w query
  pub other : next_of left ≢ Some query

-- the entry at the place registers another query on the worker than the one that is due behind those before it
pub record IsBrokenAt (es : List Entry) (w : ℕ) (due : List ℕ) (place : ℕ) (next : Option ℕ) : Type 0 where
  pub there : place < length es
  pub left : List ℕ
  pub before : LeavesDue (take place es) w due left
  pub next_is : next ≡ next_of left
  pub breaks : RegistersOther w left (get_or es place (Register 0 0))

-- what is said of the order in which a worker registers its queries
abbrev pub AreTurns : List Entry → ℕ → List ℕ → Turns → Type 0
AreTurns es w due turns.All = LeavesDue es w due []
AreTurns es w due turns.Some = (left : List ℕ) × LeavesDue es w due left × (left ≢ [])
AreTurns es w due (turns.Broken place next) = IsBrokenAt es w due place next

-- ---- faults

-- where pieces are kept in memory no read fails and none is damaged; in a scratch file the counts of faults rise from
-- 0, as far as they can
abbrev pub IsLicensed : Bool → History → Type 0
IsLicensed scratch h = Licensed (not scratch) 0 (if scratch then 2 ^ 64 - 1 else 0) h

-- the word is one of a piece of the table
abbrev pub IsWord : TableShape → ℕ → ℕ → Type 0
IsWord z p word = (p < pieces z) × (word < words_in (piece_at z p))

-- a damaged word lies within its piece
abbrev pub IsWithin : TableShape → Entry → Type 0
IsWithin z (Failed w q p (Damage word)) = IsWord z p word
IsWithin z _ = Unit {0}

-- this may fail behind faults of which the last one left this count
abbrev pub MayFailSo : TableShape → Bool → ℕ → ℕ → Why → Type 0
MayFailSo z false last p why = ⊥
MayFailSo z true last p (Fault before after) = last ≤ before
MayFailSo z true last p (Damage word) = IsWord z p word

-- an entry is no failure, or one that may be
abbrev pub FaultFits : TableShape → Bool → ℕ → Entry → Type 0
FaultFits z scratch last (Failed w q p why) = MayFailSo z scratch last p why
FaultFits z scratch last _ = Unit {0}

-- so it is of each entry
abbrev pub FaultsFit : TableShape → Bool → History → Type 0
FaultsFit z scratch [] = Unit {0}
FaultsFit z scratch (e ∷ h) = FaultFits z scratch (last_fault 0 h) e × FaultsFit z scratch h

-- a fault doesn't fit behind faults of which the last one left this count, for this reason
abbrev pub IsFaultUnfit : TableShape → Bool → ℕ → ℕ → Why → Unfit → Type 0
IsFaultUnfit z false last p why unfit.InMemory = Unit {0}
IsFaultUnfit z true last p (Fault before after) (unfit.CountFell count) = (count ≡ last) × (before < last)
IsFaultUnfit z true last p (Damage word) unfit.NoSuchWord = IsWord z p word → ⊥
IsFaultUnfit z scratch last p why _ = ⊥

abbrev pub IsEntryUnfit : TableShape → Bool → ℕ → Entry → Unfit → Type 0
IsEntryUnfit z scratch last (Failed w q p why) reason = IsFaultUnfit z scratch last p why reason
IsEntryUnfit z scratch last _ reason = ⊥

-- the entry at the place is the first that fails so
pub record IsFaultAt (z : TableShape) (scratch : Bool) (es : List Entry) (place : ℕ) (reason : Unfit) : Type 0 where
  pub there : place < length es
  pub before : FaultsFit z scratch (past (take place es))
  pub unfit : IsEntryUnfit z scratch (last_fault 0 (past (take place es))) (get_or es place (Register 0 0)) reason

-- ---- what doesn't fit the words

-- the entry registers another query on some worker than the one that is due behind those before it
pub record IsOutOfOrder (s : Setting) (es : List Entry) (e : Entry) (due : Option ℕ) : Type 0 where
  pub worker : ℕ
  pub there : worker < s.workers
  pub left : List ℕ
  pub before : LeavesDue es worker (due_on s worker) left
  pub due_is : due ≡ next_of left
  pub other : RegistersOther worker left e

-- an entry doesn't fit behind these, for this reason
abbrev pub IsUnfit : Setting → TableShape → Bool → List Entry → Entry → Unfit → Type 0
IsUnfit s z scratch es e (unfit.OutOfOrder due) = IsOutOfOrder s es e due
IsUnfit s z scratch es e reason = IsEntryUnfit z scratch (last_fault 0 (past es)) e reason

-- of each of the first workers the Registers are in order, and some may be left
abbrev pub AreInOrder : Setting → List Entry → ℕ → Type 0
AreInOrder s es workers = (w : ℕ) → w < workers → (left : List ℕ) × LeavesDue es w (due_on s w) left

abbrev pub AreAllRegistered : Setting → List Entry → ℕ → Type 0
AreAllRegistered s es workers = (w : ℕ) → w < workers → LeavesDue es w (due_on s w) []

-- of some worker a query is left
pub record LeavesQuery (s : Setting) (es : List Entry) : Type 0 where
  pub worker : ℕ
  pub there : worker < s.workers
  pub left : List ℕ
  pub leaves : LeavesDue es worker (due_on s worker) left
  pub some : left ≢ []

-- the entry at the place is the first of those of the first workers that is out of order
pub record IsOrderBroken (s : Setting) (es : List Entry) (workers place : ℕ) (due : Option ℕ) : Type 0 where
  pub there : place < length es
  pub before : AreInOrder s (take place es) workers
  pub out : IsOutOfOrder s (take place es) (get_or es place (Register 0 0)) due

-- what is said of the order in which the first workers register their queries
abbrev pub IsOrder : Setting → List Entry → ℕ → Turns → Type 0
IsOrder s es workers turns.All = AreAllRegistered s es workers
IsOrder s es workers turns.Some = AreInOrder s es workers × LeavesQuery s es
IsOrder s es workers (turns.Broken place due) = IsOrderBroken s es workers place due

-- what is out of order stands within a story of this length
abbrev pub IsInside : Turns → ℕ → Type 0
IsInside (turns.Broken place due) n = place < n
IsInside _ n = Unit {0}

-- the entries before the first that is out of order
abbrev pub in_order : Turns → List Entry → List Entry
in_order (turns.Broken place due) es = take place es
in_order _ es = es

-- what is known with one worker more, of whom this is said over the entries that are in order
abbrev pub both_turns : Turns → Turns → Turns
both_turns one (turns.Broken place due) = turns.Broken place due
both_turns (turns.Broken place due) _ = turns.Broken place due
both_turns turns.All turns.All = turns.All
both_turns _ _ = turns.Some

-- the entry at the place is the first of a story that doesn't fit the words, for this reason
pub record IsFirstUnfit (s : Setting) (z : TableShape) (scratch : Bool) (es : List Entry) (place : ℕ) (reason : Unfit)
    : Type 0 where
  pub there : place < length es
  pub order : AreInOrder s (take place es) s.workers
  pub faults : FaultsFit z scratch (past (take place es))
  pub unfit : IsUnfit s z scratch (take place es) (get_or es place (Register 0 0)) reason

-- what is said where no read fails as it may not
abbrev pub fitting_by : Turns → Fitting
fitting_by turns.All = fits.All
fitting_by turns.Some = fits.Some
fitting_by (turns.Broken place due) = fits.Unfit place (unfit.OutOfOrder due)

-- what is said of a story beside the rules of all stories
abbrev pub IsFitting : Setting → TableShape → Bool → List Entry → Fitting → Type 0
IsFitting s z scratch es fits.All = AreAllRegistered s es s.workers × FaultsFit z scratch (past es)
IsFitting s z scratch es fits.Some = AreInOrder s es s.workers × FaultsFit z scratch (past es) × LeavesQuery s es
IsFitting s z scratch es (fits.Unfit place reason) = IsFirstUnfit s z scratch es place reason
