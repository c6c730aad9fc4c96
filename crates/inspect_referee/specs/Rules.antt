-- The rules of which entry may follow, one by one.
use Rattle.std.specs.Prelude.{◌==◌, ◌+◌, ◌&&◌, ◌||◌, not, true, false, ℕ, Bool}
use Rattle.std.specs.Prelude.{Option, None, Some, is_none, nat_lt, nat_le, length}
use Rattle.std.specs.List.{list_any}
use Rattle.scan_story.specs.declared.entry.Entry.{Entry}
use Rattle.scan_story.specs.declared.entry.Entry.TheVariants.{Register, Plan, Evict, Fill, Filled}
use Rattle.scan_story.specs.declared.entry.Entry.TheVariants.{Failed, Deliver, Release, Stop, End}
use Rattle.scan_story.specs.declared.entry.Why.{Why}
use Rattle.scan_story.specs.declared.entry.Why.TheVariants.{Fault, Damage}
use Rattle.scan_story.specs.declared.view.Hold.{Hold}
use Rattle.scan_story.specs.declared.view.Load.{Load}
use Rattle.scan_story.specs.declared.setting.Setting.{Setting}
use Rattle.scan_story.specs.Counting.{has, is_number}
use Rattle.scan_story.specs.Setting.{worker_of}
use Rattle.scan_story.specs.Views.{History, is_registered, is_active, held_by}
use Rattle.scan_story.specs.Loads.{underway, begins, begins_in, all_begun, is_load_by, is_free, free_frames}
use Rattle.scan_story.specs.Numbers.{needed, is_starved}
use Rattle.scan_story.specs.MayFollow.{is_target, is_ready, is_victim}
use Rattle.inspect_referee.specs.declared.rule.Rule.{Rule}
use Rattle.inspect_referee.specs.declared.rule.Rule.TheVariants.{First, OnWorker, Alone, HoldsNothing, LoadsNothing}
use Rattle.inspect_referee.specs.declared.rule.Rule.TheVariants.{IsWorker, NoneUnderway, Starved, Target, OwnLoad}
use Rattle.inspect_referee.specs.declared.rule.Rule.TheVariants.{NoneBegun, TooFew, Victim, Enough, IsFrame, Free}
use Rattle.inspect_referee.specs.declared.rule.Rule.TheVariants.{Missing, NotBegun, Begun, NotFilled, AllBegun}
use Rattle.inspect_referee.specs.declared.rule.Rule.TheVariants.{ForQuery, Reason, Active, Ready, Holds, NeedsNothing}

-- some query of the worker is active
abbrev pub has_active : Setting → History → ℕ → Bool
has_active s h w = list_any (λ n. n.worker == w && is_active h n.query) s.needs

-- a load is underway of which this is so
abbrev pub with_load : Option Load → (Load → Bool) → Bool
with_load None p = false
with_load (Some l) p = p l

-- what is held is the chunk, for the query
abbrev pub is_hold : ℕ → ℕ → Option Hold → Bool
is_hold q c None = false
is_hold q c (Some o) = o.query == q && o.chunk == c

-- the count of faults rose, or stands at its last value
abbrev pub is_reason : Why → Bool
is_reason (Fault before after) = nat_lt before after
    || (before == 18446744073709551615 && after == 18446744073709551615)
is_reason (Damage word) = true

-- the entry keeps the rule; a rule that isn't asked of its kind it keeps
abbrev pub keeps : Setting → History → Entry → Rule → Bool
keeps s h (Register w q) First = not (is_registered h q)
keeps s h (Register w q) OnWorker = is_number w (worker_of s q)
keeps s h (Register w q) Alone = not (has_active s h w)
keeps s h (Register w q) HoldsNothing = is_none (held_by h w)
keeps s h (Register w q) LoadsNothing = not (is_load_by w (underway s h))
keeps s h (Plan w q c) IsWorker = nat_lt w s.workers
keeps s h (Plan w q c) NoneUnderway = is_none (underway s h)
keeps s h (Plan w q c) HoldsNothing = is_none (held_by h w)
keeps s h (Plan w q c) Starved = is_starved s h q
keeps s h (Plan w q c) Target = is_target s h q c
keeps s h (Evict w c) OwnLoad = is_load_by w (underway s h)
keeps s h (Evict w c) NoneBegun = with_load (underway s h) (λ l. length l.begun == 0)
keeps s h (Evict w c) TooFew = with_load (underway s h) (λ l. nat_lt (free_frames s h) (length l.missing))
keeps s h (Evict w c) Victim = is_victim s h c
keeps s h (Fill w f p) OwnLoad = is_load_by w (underway s h)
keeps s h (Fill w f p) Enough = with_load (underway s h)
    (λ l. nat_le (length l.missing) (free_frames s h + length l.begun))
keeps s h (Fill w f p) IsFrame = nat_lt f s.frames
keeps s h (Fill w f p) Free = is_free s h f
keeps s h (Fill w f p) Missing = with_load (underway s h) (λ l. has l.missing p)
keeps s h (Fill w f p) NotBegun = with_load (underway s h) (λ l. not (begins l p))
keeps s h (Filled w f p) OwnLoad = is_load_by w (underway s h)
keeps s h (Filled w f p) Begun = with_load (underway s h) (λ l. begins_in l f p)
keeps s h (Filled w f p) NotFilled = with_load (underway s h) (λ l. not (has l.filled p))
keeps s h (Filled w f p) AllBegun = with_load (underway s h) all_begun
keeps s h (Failed w q p why) OwnLoad = is_load_by w (underway s h)
keeps s h (Failed w q p why) ForQuery = with_load (underway s h) (λ l. l.query == q)
keeps s h (Failed w q p why) Begun = with_load (underway s h) (λ l. begins l p)
keeps s h (Failed w q p why) NotFilled = with_load (underway s h) (λ l. not (has l.filled p))
keeps s h (Failed w q p why) AllBegun = with_load (underway s h) all_begun
keeps s h (Failed w q p why) Reason = is_reason why
keeps s h (Deliver w q c) Active = is_active h q
keeps s h (Deliver w q c) OnWorker = is_number w (worker_of s q)
keeps s h (Deliver w q c) HoldsNothing = is_none (held_by h w)
keeps s h (Deliver w q c) LoadsNothing = not (is_load_by w (underway s h))
keeps s h (Deliver w q c) Ready = is_ready s h q c
keeps s h (Release w q c) Holds = is_hold q c (held_by h w)
keeps s h (Stop w q) Active = is_active h q
keeps s h (Stop w q) OnWorker = is_number w (worker_of s q)
keeps s h (Stop w q) HoldsNothing = is_none (held_by h w)
keeps s h (Stop w q) LoadsNothing = not (is_load_by w (underway s h))
keeps s h (End w q) Active = is_active h q
keeps s h (End w q) OnWorker = is_number w (worker_of s q)
keeps s h (End w q) HoldsNothing = is_none (held_by h w)
keeps s h (End w q) LoadsNothing = not (is_load_by w (underway s h))
keeps s h (End w q) NeedsNothing = needed s h q == 0
keeps s h _ _ = true
