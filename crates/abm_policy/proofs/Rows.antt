-- Which row of the table of turns fits, and what is then known of the query.
use Rattle.std.proofs.Common.{◌≡◌, ◌<◌, ◌∷◌, ◌++◌, ◌&&◌, ◌==◌, [], ℕ, Bool, true, false, not, if◌then◌else◌, List, Option, None, Some, is_some, is_none, nat_lt, refl, sym, ◌∙◌, ap, subst, arith}
use Rattle.std.proofs.lemmas.Bool.Decides.{nat_tests}
use Rattle.scan_story.specs.declared.entry.Entry.{Entry}
use Rattle.scan_story.specs.declared.entry.Entry.TheVariants.{Deliver}
use Rattle.scan_story.specs.declared.setting.Setting.{Setting}
use Rattle.scan_story.specs.declared.view.Load.{Load}
use Rattle.scan_story.specs.Counting.{any_below}
use Rattle.scan_story.specs.Setting.{need_of}
use Rattle.scan_story.specs.Views.{History, past, is_registered, is_stopped, is_ended, is_active, needs_chunk, is_wholly_framed, is_available}
use Rattle.scan_story.specs.Loads.{underway}
use Rattle.scan_story.specs.Numbers.{needed, available, is_starved}
use Rattle.scan_story.specs.MayFollow.{is_target, is_ready, is_trigger}
use Rattle.story_laws.proofs.Active.{active_of}
use Rattle.story_laws.proofs.Bools.{and_both, both_and, below, is_below, not_both, if_not}
use Rattle.story_laws.proofs.Counts.{any_at, any_find, any_nowhere, any_counted, count_off}
use Rattle.abm_policy.specs.Loads.{AddsLoad}
use Rattle.abm_policy.specs.declared.ticket.Ticket.{Ticket}
use Rattle.abm_policy.specs.Turns.{Row, StoppedRow, FinishedRow, TakeRow, NotYetRow, LoadRow, RunsOn, row}
use Rattle.abm_policy.proofs.Choices.{is_known}
use Rattle.abm_policy.proofs.Quiet.{IsQuiet, quiet_load, runs_stay}
use Rattle.abm_policy.proofs.Stories.{past_push}

-- Rows, by their tests

abbrev by_tests : Bool → Bool → Bool → Bool → Row
by_tests stopped nothing some loading =
    if stopped then StoppedRow else (if nothing then FinishedRow else (if some then TakeRow else (if loading then NotYetRow else LoadRow)))

third : (a b c d : Bool) → a ≡ false → b ≡ false → c ≡ true → TakeRow ≡ by_tests a b c d
third false false true d ea eb ec = refl
third false false false d ea eb ec = absurd cc
third false true c d ea eb ec = absurd cc
third true b c d ea eb ec = absurd cc

fourth : (a b c d : Bool) → a ≡ false → b ≡ false → c ≡ false → d ≡ true → NotYetRow ≡ by_tests a b c d
fourth false false false true ea eb ec ed = refl
fourth false false false false ea eb ec ed = absurd cc
fourth false false true d ea eb ec ed = absurd cc
fourth false true c d ea eb ec ed = absurd cc
fourth true b c d ea eb ec ed = absurd cc

fifth : (a b c d : Bool) → a ≡ false → b ≡ false → c ≡ false → d ≡ false → LoadRow ≡ by_tests a b c d
fifth false false false false ea eb ec ed = refl
fifth false false false true ea eb ec ed = absurd cc
fifth false false true d ea eb ec ed = absurd cc
fifth false true c d ea eb ec ed = absurd cc
fifth true b c d ea eb ec ed = absurd cc

pub row_take : (s : Setting) (h : History) (q c : ℕ) → is_stopped h q ≡ false → (needed s h q == 0) ≡ false → is_ready s h q c ≡ true → TakeRow ≡ row s h q
row_take s h q c going needs ready =
    third (is_stopped h q) (needed s h q == 0) (any_below (is_ready s h q) s.chunks) (is_some (underway s h)) going needs
    (any_at (is_ready s h q) s.chunks c (below c s.chunks (and_both (nat_lt c s.chunks) (is_available s h q c) ready).0) ready)

pub row_not_yet : (s : Setting) (h : History) (q : ℕ) → is_stopped h q ≡ false → (needed s h q == 0) ≡ false → ((c : ℕ) → is_ready s h q c ≡ false) → is_some (underway s h) ≡ true → NotYetRow ≡ row s h q
row_not_yet s h q going needs none loading =
    fourth (is_stopped h q) (needed s h q == 0) (any_below (is_ready s h q) s.chunks) (is_some (underway s h)) going needs (any_nowhere (is_ready s h q) s.chunks (λ c lt. none c)) loading

pub row_load : (s : Setting) (h : History) (q : ℕ) → is_stopped h q ≡ false → (needed s h q == 0) ≡ false → ((c : ℕ) → is_ready s h q c ≡ false) → is_some (underway s h) ≡ false → LoadRow ≡ row s h q
row_load s h q going needs none idle =
    fifth (is_stopped h q) (needed s h q == 0) (any_below (is_ready s h q) s.chunks) (is_some (underway s h)) going needs (any_nowhere (is_ready s h q) s.chunks (λ c lt. none c)) idle

-- The rows' queries

pub runs_active : (s : Setting) (h : History) (q w : ℕ) → RunsOn s h q w → is_stopped h q ≡ false → is_active h q ≡ true
runs_active s h q w runs going = active_of (is_registered h q) (is_stopped h q) (is_ended h q) runs.registered going runs.not_ended

no_load : (o : Option Load) → is_some o ≡ false → is_none o ≡ true
no_load None e = refl
no_load (Some l) e = absurd cc

some_needed : (n : ℕ) → (n == 0) ≡ false → 0 < n
some_needed n e = grind (arith, nat_tests)

target : (a b c : Bool) → a ≡ true → b ≡ true → (a && (b && c)) ≡ false → (a && b && not c) ≡ true
target true true true ea eb e = absurd cc
target true true false ea eb e = refl
target true false c ea eb e = absurd cc
target false b c ea eb e = absurd cc

four : (a b c d : Bool) → a ≡ true → b ≡ true → c ≡ true → d ≡ true → (a && b && c && d) ≡ true
four a b c d ea eb ec ed = rw (ea, eb, ec, ed) refl

-- a query that needs something and has nothing available triggers a load, while none is underway
pub trigger_of : (s : Setting) (h : History) (q w : ℕ) → RunsOn s h q w → is_stopped h q ≡ false → (needed s h q == 0) ≡ false → ((c : ℕ) → is_ready s h q c ≡ false) → is_some (underway s h) ≡ false → is_trigger s h q ≡ true
trigger_of s h q w runs going needs none idle =
    let k = any_find (needs_chunk s h q) s.chunks (any_counted (needs_chunk s h q) s.chunks (some_needed (needed s h q) needs)) in
    let unavailable : (c : ℕ) → c < s.chunks → is_available s h q c ≡ false =
    λ c lt. if_not (is_available s h q c) (λ t. not_both (is_ready s h q c) (both_and (nat_lt c s.chunks) (is_available s h q c) (is_below c s.chunks lt) t) (none c)) in
    let nothing : available s h q ≡ 0 = count_off (is_available s h q) s.chunks (any_nowhere (is_available s h q) s.chunks unavailable) in
    let starved : is_starved s h q ≡ true = ap (λ b. b && nat_lt (available s h q) 2) (runs_active s h q w runs going) ∙ ap (λ n. nat_lt n 2) nothing in
    let here : any_below (is_target s h q) s.chunks ≡ true =
    any_at (is_target s h q) s.chunks k.0 k.1 (target (nat_lt k.0 s.chunks) (needs_chunk s h q k.0) (is_wholly_framed s h q k.0) (is_below k.0 s.chunks k.1) k.2 (none k.0)) in
    four (is_some (need_of s q)) (is_none (underway s h)) (is_starved s h q) (any_below (is_target s h q) s.chunks) (is_known s q w runs.on) (no_load (underway s h) idle) starved here

-- a chunk that is ready is wholly in frames, also once it is delivered
pub delivered_framed : (s : Setting) (old new : List Entry) (w q c : ℕ) → is_ready s (past old) q c ≡ true → new ≡ old ++ Deliver w q c ∷ [] → is_wholly_framed s (past new) q c ≡ true
delivered_framed s old new w q c ready added =
    let available = (and_both (nat_lt c s.chunks) (is_available s (past old) q c) ready).1 in
    let framed = (and_both (needs_chunk s (past old) q c) (is_wholly_framed s (past old) q c) available).1 in
    let F : History → Type 0 = λ h. is_wholly_framed s h q c ≡ true in
    subst F (sym (ap past added ∙ past_push old (Deliver w q c))) framed

-- a query runs on while a load begins
pub runs_through : (s : Setting) (old new : List Entry) (w q : ℕ) (t : Ticket) → AddsLoad s w t old new → RunsOn s (past old) q w → RunsOn s (past new) q w
runs_through s old new w q t load runs =
    let K : List Entry → Type 0 = λ es. IsQuiet (past old) (past es) in
    runs_stay s (past old) (past new) q w (subst K (sym load.added) (quiet_load w t.query t.chunk load.evicted t.slots old)).keeps runs
