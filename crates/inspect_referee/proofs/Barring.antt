-- An entry that may follow keeps each rule; one that is refused for a reason may not come.
use Rattle.std.proofs.Common.{◌≡◌, ◌<◌, ◌≤◌, ◌+◌, ◌==◌, ◌&&◌, not, ℕ, Bool, true, false, List, Option, Some, is_none, nat_lt, nat_le, length, refl, sym, ◌∙◌, ap, arith, inl, inr}
use Rattle.std.proofs.lemmas.Bool.Decides.{nat_tests}
use Rattle.scan_story.specs.declared.entry.Entry.{Entry}
use Rattle.scan_story.specs.declared.entry.Entry.TheVariants.{Register, Plan, Evict, Fill, Filled, Failed, Deliver, Release, Stop, End}
use Rattle.scan_story.specs.declared.entry.Why.{Why}
use Rattle.scan_story.specs.declared.entry.Why.TheVariants.{Fault, Damage}
use Rattle.scan_story.specs.declared.view.Hold.{Hold}
use Rattle.scan_story.specs.declared.view.Load.{Load}
use Rattle.scan_story.specs.declared.setting.Setting.{Setting}
use Rattle.scan_story.specs.Counting.{has}
use Rattle.scan_story.specs.Setting.{worker_of}
use Rattle.scan_story.specs.Views.{History, held_by}
use Rattle.scan_story.specs.Loads.{underway, begins, begins_in, all_begun, is_load_by, free_frames}
use Rattle.scan_story.specs.Numbers.{needed}
use Rattle.scan_story.specs.MayFollow.{Allowed, IsReason as IsReasonOfFault}
use Rattle.scan_story.specs.Legal.{Chosen, cursor_at}
use Rattle.chunk_interest.proofs.Below.{is_the_number, equal_number, true_false}
use Rattle.inspect_referee.specs.declared.choices.Choices.{Choices}
use Rattle.inspect_referee.specs.declared.choices.Choices.TheVariants.{OfPolicy, Free}
use Rattle.inspect_referee.specs.declared.rank.Choice.{Choice}
use Rattle.inspect_referee.specs.declared.rank.Choice.TheVariants as choices
use Rattle.inspect_referee.specs.declared.rank.Rank.{Rank}
use Rattle.inspect_referee.specs.declared.rule.Rule.{Rule}
use Rattle.inspect_referee.specs.declared.rule.Rule.TheVariants.{First, OnWorker, Alone, HoldsNothing, LoadsNothing, IsWorker, NoneUnderway, Starved, Target, OwnLoad, NoneBegun, TooFew, Victim, Enough, IsFrame, Free, Missing, NotBegun, Begun, NotFilled, AllBegun, ForQuery, Reason, Active, Ready, Holds, NeedsNothing}
use Rattle.inspect_referee.specs.declared.ruling.Better.{Better}
use Rattle.inspect_referee.specs.declared.ruling.Reason as reasons
use Rattle.inspect_referee.specs.declared.ruling.Reason.TheVariants.{Broken, Outdone}
use Rattle.inspect_referee.specs.Choices.{IsTaken}
use Rattle.inspect_referee.specs.Ranks.{beats, rank_of}
use Rattle.inspect_referee.specs.Rules.{is_hold, is_reason, keeps, with_load}
use Rattle.inspect_referee.specs.Ruling.{IsBetter, IsOutdone, IsOutdoneBy, IsReasonBy}
use Rattle.inspect_referee.proofs.Choosing.{query_best, load_best, delivery_best, victim_best}

lt_true : (a b : ℕ) → a < b → nat_lt a b ≡ true
lt_true a b e = grind (arith, nat_tests)

le_true : (a b : ℕ) → a ≤ b → nat_le a b ≡ true
le_true a b e = grind (arith, nat_tests)

its_load : (o : Option Load) (l : Load) (w : ℕ) → o ≡ Some l → l.worker ≡ w → is_load_by w o ≡ true
its_load o l w is its = ap (is_load_by w) is ∙ equal_number l.worker w its

of_load : (o : Option Load) (l : Load) (p : Load → Bool) → o ≡ Some l → p l ≡ true → with_load o p ≡ true
of_load o l p is e = ap (λ (k : Option Load). with_load k p) is ∙ e

reason_true : (why : Why) → IsReasonOfFault why → is_reason why ≡ true
reason_true (Fault b a) k = grind (arith, nat_tests)
reason_true (Damage i) k = refl

both_true : (a b : Bool) → a ≡ true → b ≡ true → (a && b) ≡ true
both_true true b s e = e
both_true false b s e = absurd cc

hold_true : (q c : ℕ) (o : Option Hold) → o ≡ Some (record { query = q; chunk = c }) → is_hold q c o ≡ true
hold_true q c o e = ap (is_hold q c) e ∙ both_true (q == q) (c == c) (equal_number q q refl) (equal_number c c refl)

-- an entry that may follow keeps each rule of its kind, and each that isn't asked of it
kept : (s : Setting) (h : History) (e : Entry) (rule : Rule) → Allowed s h e → keeps s h e rule ≡ true
kept s h (Register w q) First k = ap not k.first
kept s h (Register w q) OnWorker k = is_the_number w (worker_of s q) k.on
kept s h (Register w q) Alone k = ap not k.alone
kept s h (Register w q) HoldsNothing k = ap (λ (o : Option Hold). is_none o) k.idle.holds_nothing
kept s h (Register w q) LoadsNothing k = ap not k.idle.loads_nothing
kept s h (Register w q) IsWorker k = refl
kept s h (Register w q) NoneUnderway k = refl
kept s h (Register w q) Starved k = refl
kept s h (Register w q) Target k = refl
kept s h (Register w q) OwnLoad k = refl
kept s h (Register w q) NoneBegun k = refl
kept s h (Register w q) TooFew k = refl
kept s h (Register w q) Victim k = refl
kept s h (Register w q) Enough k = refl
kept s h (Register w q) IsFrame k = refl
kept s h (Register w q) Free k = refl
kept s h (Register w q) Missing k = refl
kept s h (Register w q) NotBegun k = refl
kept s h (Register w q) Begun k = refl
kept s h (Register w q) NotFilled k = refl
kept s h (Register w q) AllBegun k = refl
kept s h (Register w q) ForQuery k = refl
kept s h (Register w q) Reason k = refl
kept s h (Register w q) Active k = refl
kept s h (Register w q) Ready k = refl
kept s h (Register w q) Holds k = refl
kept s h (Register w q) NeedsNothing k = refl
kept s h (Plan w q c) First k = refl
kept s h (Plan w q c) OnWorker k = refl
kept s h (Plan w q c) Alone k = refl
kept s h (Plan w q c) HoldsNothing k = ap (λ (o : Option Hold). is_none o) k.holds_nothing
kept s h (Plan w q c) LoadsNothing k = refl
kept s h (Plan w q c) IsWorker k = lt_true w s.workers k.worker
kept s h (Plan w q c) NoneUnderway k = ap (λ (o : Option Load). is_none o) k.none_underway
kept s h (Plan w q c) Starved k = k.starved
kept s h (Plan w q c) Target k = k.target
kept s h (Plan w q c) OwnLoad k = refl
kept s h (Plan w q c) NoneBegun k = refl
kept s h (Plan w q c) TooFew k = refl
kept s h (Plan w q c) Victim k = refl
kept s h (Plan w q c) Enough k = refl
kept s h (Plan w q c) IsFrame k = refl
kept s h (Plan w q c) Free k = refl
kept s h (Plan w q c) Missing k = refl
kept s h (Plan w q c) NotBegun k = refl
kept s h (Plan w q c) Begun k = refl
kept s h (Plan w q c) NotFilled k = refl
kept s h (Plan w q c) AllBegun k = refl
kept s h (Plan w q c) ForQuery k = refl
kept s h (Plan w q c) Reason k = refl
kept s h (Plan w q c) Active k = refl
kept s h (Plan w q c) Ready k = refl
kept s h (Plan w q c) Holds k = refl
kept s h (Plan w q c) NeedsNothing k = refl
kept s h (Evict w c) First k = refl
kept s h (Evict w c) OnWorker k = refl
kept s h (Evict w c) Alone k = refl
kept s h (Evict w c) HoldsNothing k = refl
kept s h (Evict w c) LoadsNothing k = refl
kept s h (Evict w c) IsWorker k = refl
kept s h (Evict w c) NoneUnderway k = refl
kept s h (Evict w c) Starved k = refl
kept s h (Evict w c) Target k = refl
kept s h (Evict w c) OwnLoad k = its_load (underway s h) k.load w k.is_load.underway k.is_load.by_worker
kept s h (Evict w c) NoneBegun k = of_load (underway s h) k.load (λ l. length l.begun == 0) k.is_load.underway (ap (λ (b : List (ℕ × ℕ)). length b == 0) k.none_begun)
kept s h (Evict w c) TooFew k = of_load (underway s h) k.load (λ l. nat_lt (free_frames s h) (length l.missing)) k.is_load.underway (lt_true (free_frames s h) (length k.load.missing) k.too_few)
kept s h (Evict w c) Victim k = k.victim
kept s h (Evict w c) Enough k = refl
kept s h (Evict w c) IsFrame k = refl
kept s h (Evict w c) Free k = refl
kept s h (Evict w c) Missing k = refl
kept s h (Evict w c) NotBegun k = refl
kept s h (Evict w c) Begun k = refl
kept s h (Evict w c) NotFilled k = refl
kept s h (Evict w c) AllBegun k = refl
kept s h (Evict w c) ForQuery k = refl
kept s h (Evict w c) Reason k = refl
kept s h (Evict w c) Active k = refl
kept s h (Evict w c) Ready k = refl
kept s h (Evict w c) Holds k = refl
kept s h (Evict w c) NeedsNothing k = refl
kept s h (Fill w f p) First k = refl
kept s h (Fill w f p) OnWorker k = refl
kept s h (Fill w f p) Alone k = refl
kept s h (Fill w f p) HoldsNothing k = refl
kept s h (Fill w f p) LoadsNothing k = refl
kept s h (Fill w f p) IsWorker k = refl
kept s h (Fill w f p) NoneUnderway k = refl
kept s h (Fill w f p) Starved k = refl
kept s h (Fill w f p) Target k = refl
kept s h (Fill w f p) OwnLoad k = its_load (underway s h) k.load w k.is_load.underway k.is_load.by_worker
kept s h (Fill w f p) NoneBegun k = refl
kept s h (Fill w f p) TooFew k = refl
kept s h (Fill w f p) Victim k = refl
kept s h (Fill w f p) Enough k = of_load (underway s h) k.load (λ l. nat_le (length l.missing) (free_frames s h + length l.begun)) k.is_load.underway (le_true (length k.load.missing) (free_frames s h + length k.load.begun) k.enough)
kept s h (Fill w f p) IsFrame k = lt_true f s.frames k.frame
kept s h (Fill w f p) Free k = k.free
kept s h (Fill w f p) Missing k = of_load (underway s h) k.load (λ l. has l.missing p) k.is_load.underway (k.piece)
kept s h (Fill w f p) NotBegun k = of_load (underway s h) k.load (λ l. not (begins l p)) k.is_load.underway (ap not k.not_begun)
kept s h (Fill w f p) Begun k = refl
kept s h (Fill w f p) NotFilled k = refl
kept s h (Fill w f p) AllBegun k = refl
kept s h (Fill w f p) ForQuery k = refl
kept s h (Fill w f p) Reason k = refl
kept s h (Fill w f p) Active k = refl
kept s h (Fill w f p) Ready k = refl
kept s h (Fill w f p) Holds k = refl
kept s h (Fill w f p) NeedsNothing k = refl
kept s h (Filled w f p) First k = refl
kept s h (Filled w f p) OnWorker k = refl
kept s h (Filled w f p) Alone k = refl
kept s h (Filled w f p) HoldsNothing k = refl
kept s h (Filled w f p) LoadsNothing k = refl
kept s h (Filled w f p) IsWorker k = refl
kept s h (Filled w f p) NoneUnderway k = refl
kept s h (Filled w f p) Starved k = refl
kept s h (Filled w f p) Target k = refl
kept s h (Filled w f p) OwnLoad k = its_load (underway s h) k.load w k.is_load.underway k.is_load.by_worker
kept s h (Filled w f p) NoneBegun k = refl
kept s h (Filled w f p) TooFew k = refl
kept s h (Filled w f p) Victim k = refl
kept s h (Filled w f p) Enough k = refl
kept s h (Filled w f p) IsFrame k = refl
kept s h (Filled w f p) Free k = refl
kept s h (Filled w f p) Missing k = refl
kept s h (Filled w f p) NotBegun k = refl
kept s h (Filled w f p) Begun k = of_load (underway s h) k.load (λ l. begins_in l f p) k.is_load.underway (k.begun)
kept s h (Filled w f p) NotFilled k = of_load (underway s h) k.load (λ l. not (has l.filled p)) k.is_load.underway (ap not k.not_filled)
kept s h (Filled w f p) AllBegun k = of_load (underway s h) k.load (λ l. all_begun l) k.is_load.underway (k.all_begun)
kept s h (Filled w f p) ForQuery k = refl
kept s h (Filled w f p) Reason k = refl
kept s h (Filled w f p) Active k = refl
kept s h (Filled w f p) Ready k = refl
kept s h (Filled w f p) Holds k = refl
kept s h (Filled w f p) NeedsNothing k = refl
kept s h (Failed w q p why) First k = refl
kept s h (Failed w q p why) OnWorker k = refl
kept s h (Failed w q p why) Alone k = refl
kept s h (Failed w q p why) HoldsNothing k = refl
kept s h (Failed w q p why) LoadsNothing k = refl
kept s h (Failed w q p why) IsWorker k = refl
kept s h (Failed w q p why) NoneUnderway k = refl
kept s h (Failed w q p why) Starved k = refl
kept s h (Failed w q p why) Target k = refl
kept s h (Failed w q p why) OwnLoad k = its_load (underway s h) k.load w k.is_load.underway k.is_load.by_worker
kept s h (Failed w q p why) NoneBegun k = refl
kept s h (Failed w q p why) TooFew k = refl
kept s h (Failed w q p why) Victim k = refl
kept s h (Failed w q p why) Enough k = refl
kept s h (Failed w q p why) IsFrame k = refl
kept s h (Failed w q p why) Free k = refl
kept s h (Failed w q p why) Missing k = refl
kept s h (Failed w q p why) NotBegun k = refl
kept s h (Failed w q p why) Begun k = of_load (underway s h) k.load (λ l. begins l p) k.is_load.underway (k.begun)
kept s h (Failed w q p why) NotFilled k = of_load (underway s h) k.load (λ l. not (has l.filled p)) k.is_load.underway (ap not k.not_filled)
kept s h (Failed w q p why) AllBegun k = of_load (underway s h) k.load (λ l. all_begun l) k.is_load.underway (k.all_begun)
kept s h (Failed w q p why) ForQuery k = of_load (underway s h) k.load (λ l. l.query == q) k.is_load.underway (equal_number k.load.query q k.for_query)
kept s h (Failed w q p why) Reason k = reason_true why k.reason
kept s h (Failed w q p why) Active k = refl
kept s h (Failed w q p why) Ready k = refl
kept s h (Failed w q p why) Holds k = refl
kept s h (Failed w q p why) NeedsNothing k = refl
kept s h (Deliver w q c) First k = refl
kept s h (Deliver w q c) OnWorker k = is_the_number w (worker_of s q) k.on.on
kept s h (Deliver w q c) Alone k = refl
kept s h (Deliver w q c) HoldsNothing k = ap (λ (o : Option Hold). is_none o) k.idle.holds_nothing
kept s h (Deliver w q c) LoadsNothing k = ap not k.idle.loads_nothing
kept s h (Deliver w q c) IsWorker k = refl
kept s h (Deliver w q c) NoneUnderway k = refl
kept s h (Deliver w q c) Starved k = refl
kept s h (Deliver w q c) Target k = refl
kept s h (Deliver w q c) OwnLoad k = refl
kept s h (Deliver w q c) NoneBegun k = refl
kept s h (Deliver w q c) TooFew k = refl
kept s h (Deliver w q c) Victim k = refl
kept s h (Deliver w q c) Enough k = refl
kept s h (Deliver w q c) IsFrame k = refl
kept s h (Deliver w q c) Free k = refl
kept s h (Deliver w q c) Missing k = refl
kept s h (Deliver w q c) NotBegun k = refl
kept s h (Deliver w q c) Begun k = refl
kept s h (Deliver w q c) NotFilled k = refl
kept s h (Deliver w q c) AllBegun k = refl
kept s h (Deliver w q c) ForQuery k = refl
kept s h (Deliver w q c) Reason k = refl
kept s h (Deliver w q c) Active k = k.on.active
kept s h (Deliver w q c) Ready k = k.ready
kept s h (Deliver w q c) Holds k = refl
kept s h (Deliver w q c) NeedsNothing k = refl
kept s h (Release w q c) First k = refl
kept s h (Release w q c) OnWorker k = refl
kept s h (Release w q c) Alone k = refl
kept s h (Release w q c) HoldsNothing k = refl
kept s h (Release w q c) LoadsNothing k = refl
kept s h (Release w q c) IsWorker k = refl
kept s h (Release w q c) NoneUnderway k = refl
kept s h (Release w q c) Starved k = refl
kept s h (Release w q c) Target k = refl
kept s h (Release w q c) OwnLoad k = refl
kept s h (Release w q c) NoneBegun k = refl
kept s h (Release w q c) TooFew k = refl
kept s h (Release w q c) Victim k = refl
kept s h (Release w q c) Enough k = refl
kept s h (Release w q c) IsFrame k = refl
kept s h (Release w q c) Free k = refl
kept s h (Release w q c) Missing k = refl
kept s h (Release w q c) NotBegun k = refl
kept s h (Release w q c) Begun k = refl
kept s h (Release w q c) NotFilled k = refl
kept s h (Release w q c) AllBegun k = refl
kept s h (Release w q c) ForQuery k = refl
kept s h (Release w q c) Reason k = refl
kept s h (Release w q c) Active k = refl
kept s h (Release w q c) Ready k = refl
kept s h (Release w q c) Holds k = hold_true q c (held_by h w) k
kept s h (Release w q c) NeedsNothing k = refl
kept s h (Stop w q) First k = refl
kept s h (Stop w q) OnWorker k = is_the_number w (worker_of s q) k.on.on
kept s h (Stop w q) Alone k = refl
kept s h (Stop w q) HoldsNothing k = ap (λ (o : Option Hold). is_none o) k.idle.holds_nothing
kept s h (Stop w q) LoadsNothing k = ap not k.idle.loads_nothing
kept s h (Stop w q) IsWorker k = refl
kept s h (Stop w q) NoneUnderway k = refl
kept s h (Stop w q) Starved k = refl
kept s h (Stop w q) Target k = refl
kept s h (Stop w q) OwnLoad k = refl
kept s h (Stop w q) NoneBegun k = refl
kept s h (Stop w q) TooFew k = refl
kept s h (Stop w q) Victim k = refl
kept s h (Stop w q) Enough k = refl
kept s h (Stop w q) IsFrame k = refl
kept s h (Stop w q) Free k = refl
kept s h (Stop w q) Missing k = refl
kept s h (Stop w q) NotBegun k = refl
kept s h (Stop w q) Begun k = refl
kept s h (Stop w q) NotFilled k = refl
kept s h (Stop w q) AllBegun k = refl
kept s h (Stop w q) ForQuery k = refl
kept s h (Stop w q) Reason k = refl
kept s h (Stop w q) Active k = k.on.active
kept s h (Stop w q) Ready k = refl
kept s h (Stop w q) Holds k = refl
kept s h (Stop w q) NeedsNothing k = refl
kept s h (End w q) First k = refl
kept s h (End w q) OnWorker k = is_the_number w (worker_of s q) k.on.on
kept s h (End w q) Alone k = refl
kept s h (End w q) HoldsNothing k = ap (λ (o : Option Hold). is_none o) k.idle.holds_nothing
kept s h (End w q) LoadsNothing k = ap not k.idle.loads_nothing
kept s h (End w q) IsWorker k = refl
kept s h (End w q) NoneUnderway k = refl
kept s h (End w q) Starved k = refl
kept s h (End w q) Target k = refl
kept s h (End w q) OwnLoad k = refl
kept s h (End w q) NoneBegun k = refl
kept s h (End w q) TooFew k = refl
kept s h (End w q) Victim k = refl
kept s h (End w q) Enough k = refl
kept s h (End w q) IsFrame k = refl
kept s h (End w q) Free k = refl
kept s h (End w q) Missing k = refl
kept s h (End w q) NotBegun k = refl
kept s h (End w q) Begun k = refl
kept s h (End w q) NotFilled k = refl
kept s h (End w q) AllBegun k = refl
kept s h (End w q) ForQuery k = refl
kept s h (End w q) Reason k = refl
kept s h (End w q) Active k = k.on.active
kept s h (End w q) Ready k = refl
kept s h (End w q) Holds k = refl
kept s h (End w q) NeedsNothing k = equal_number (needed s h q) 0 k.needs_nothing

beaten : (s : Setting) (h : History) (choice : Choice) (q x : ℕ) (b : Better) → IsBetter s h choice q x b → beats (rank_of s h choice q b.number) (rank_of s h choice q x) ≡ true
beaten s h choice q x b k =
    ap (λ (r : Rank). beats r (rank_of s h choice q x)) (sym k.rank) ∙ (ap (λ (r : Rank). beats b.rank r) (sym k.taken) ∙ k.better)

-- what is outdone is no choice of the policy
not_chosen : (s : Setting) (h : History) (e : Entry) (b : Better) → IsOutdone s h e b → Chosen s h e → ⊥
not_chosen s h (Plan w q c) b (inl k) chosen = true_false _ (beaten s h choices.Trigger q q b k) (query_best s.policy (cursor_at s h) s h q b.number chosen.0 k.candidate)
not_chosen s h (Plan w q c) b (inr k) chosen = true_false _ (beaten s h choices.Load q c b k) (load_best s.policy (cursor_at s h) s h q c b.number chosen.1 k.candidate)
not_chosen s h (Deliver w q c) b k chosen = true_false _ (beaten s h choices.Delivery q c b k) (delivery_best s.policy (cursor_at s h) s h q c b.number chosen k.candidate)
not_chosen s h (Evict w c) b k chosen = true_false _ (beaten s h choices.Victim 0 c b k) (victim_best s.policy (cursor_at s h) s h c b.number chosen k.candidate)
not_chosen s h (Register w q) b k chosen = absurd k
not_chosen s h (Fill w f p) b k chosen = absurd k
not_chosen s h (Filled w f p) b k chosen = absurd k
not_chosen s h (Failed w q p why) b k chosen = absurd k
not_chosen s h (Release w q c) b k chosen = absurd k
not_chosen s h (Stop w q) b k chosen = absurd k
not_chosen s h (End w q) b k chosen = absurd k

not_taken : (choices : Choices) (s : Setting) (h : History) (e : Entry) (b : Better) → IsOutdoneBy choices s h e b → IsTaken choices s h e → ⊥
not_taken OfPolicy s h e b k taken = not_chosen s h e b k taken
not_taken Free s h e b k taken = k

-- what is refused for a reason may not come
pub refused : (choices : Choices) (s : Setting) (h : History) (e : Entry) (reason : reasons.Reason) → IsReasonBy choices s h e reason → Allowed s h e → IsTaken choices s h e → ⊥
refused choices s h e (Broken rule) says may taken = true_false (keeps s h e rule) (kept s h e rule may) says
refused choices s h e (Outdone b) says may taken = not_taken choices s h e b says taken
