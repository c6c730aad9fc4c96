-- What entries of a load leave as it was.
use Rattle.std.proofs.Common.{◌≡◌, ◌+◌, ◌∷◌, ◌++◌, ◌==◌, [], ℕ, Bool, true, false, List, Option, None, Some, if◌then◌else◌, refl, sym, ◌∙◌, ap, subst, append_assoc, inl, inr}
use Rattle.std.proofs.lemmas.List.{append-nil}
use Rattle.std.proofs.lemmas.Bool.{cases_Bool}
use Rattle.scan_story.specs.declared.entry.Why.{Why}
use Rattle.scan_story.specs.declared.entry.Entry.{Entry}
use Rattle.scan_story.specs.declared.entry.Entry.TheVariants.{Register, Plan, Evict, Fill, Filled, Failed, Deliver, Release, Stop, End}
use Rattle.scan_story.specs.declared.setting.Setting.{Setting}
use Rattle.scan_story.specs.declared.origin.Start.{Start}
use Rattle.scan_story.specs.declared.view.Load.{Load}
use Rattle.scan_story.specs.declared.view.Hold.{Hold}
use Rattle.scan_story.specs.Views.{History, past, is_registered, is_stopped, is_ended, is_active, held_by}
use Rattle.scan_story.specs.Loads.{underway, is_load_by}
use Rattle.scan_story.specs.MayFollow.{MayRegister}
use Rattle.scan_story.specs.Legal.{Legal}
use Rattle.scan_story.specs.Spent.{reads}
use Rattle.scan_story.specs.Causes.{Licensed, last_fault}
use Rattle.story_laws.proofs.Bools.{or_left, or_right, either, not_both, same_number, self_number, none_some, if_not}
use Rattle.story_laws.proofs.Active.{active_parts}
use Rattle.abm_policy.specs.Depots.{DepotView, Agrees}
use Rattle.abm_policy.specs.Loads.{evicts, fills, all_filled}
use Rattle.abm_policy.specs.Turns.{RunsOn, MayTurn}
use Rattle.abm_policy.proofs.Stories.{past_push}
use Rattle.abm_policy.proofs.Meanwhile.{begun_by, ended_by}

-- Queries and holds

-- which queries are registered and ended, and what workers hold, is as it was
pub record KeepsRuns (h k : History) : Type 0 where
  pub registered : (q : ℕ) → is_registered k q ≡ is_registered h q
  pub ended : (q : ℕ) → is_ended k q ≡ is_ended h q
  pub held : (w : ℕ) → held_by k w ≡ held_by h w

pub runs_stay : (s : Setting) (h k : History) (q w : ℕ) → KeepsRuns h k → RunsOn s h q w → RunsOn s k q w
runs_stay s h k q w keeps runs = record { on = runs.on; registered = keeps.registered q ∙ runs.registered; not_ended = keeps.ended q ∙ runs.not_ended }

keeps_both : (h k j : History) → KeepsRuns h k → KeepsRuns k j → KeepsRuns h j
keeps_both h k j a b = record { registered = λ q. b.registered q ∙ a.registered q; ended = λ q. b.ended q ∙ a.ended q; held = λ w. b.held w ∙ a.held w }

-- Reads and faults

-- nothing was read, and no fault recorded
pub record IsQuiet (h k : History) : Type 0 where
  pub keeps : KeepsRuns h k
  pub reads : reads k ≡ reads h
  pub last_fault : (from : ℕ) → last_fault from k ≡ last_fault from h
  pub licensed : (told : Bool) (from to : ℕ) → Licensed told from to h → Licensed told from to k

quiet_both : (h k j : History) → IsQuiet h k → IsQuiet k j → IsQuiet h j
quiet_both h k j a b = record {
  keeps = keeps_both h k j a.keeps b.keeps;
  reads = b.reads ∙ a.reads;
  last_fault = λ from. b.last_fault from ∙ a.last_fault from;
  licensed = λ told from to l. b.licensed told from to (a.licensed told from to l);
}

keeps_nothing : (h : History) → KeepsRuns h h
keeps_nothing h = record { registered = λ q. refl; ended = λ q. refl; held = λ w. refl }

-- one entry, and then a list of entries
keeps_more : (old es : List Entry) (e : Entry) → KeepsRuns (past old) (e ∷ past old) → ((os : List Entry) → KeepsRuns (past os) (past (os ++ es))) → KeepsRuns (past old) (past (old ++ e ∷ es))
keeps_more old es e one rest =
    let P : History → Type 0 = λ h. KeepsRuns (past old) h in
    subst P (ap past (append_assoc old (e ∷ []) es)) (keeps_both (past old) (past (old ++ e ∷ [])) (past ((old ++ e ∷ []) ++ es)) (subst P (sym (past_push old e)) one) (rest (old ++ e ∷ [])))

quiet_more : (old es : List Entry) (e : Entry) → IsQuiet (past old) (e ∷ past old) → ((os : List Entry) → IsQuiet (past os) (past (os ++ es))) → IsQuiet (past old) (past (old ++ e ∷ es))
quiet_more old es e one rest =
    let P : History → Type 0 = λ h. IsQuiet (past old) h in
    subst P (ap past (append_assoc old (e ∷ []) es)) (quiet_both (past old) (past (old ++ e ∷ [])) (past ((old ++ e ∷ []) ++ es)) (subst P (sym (past_push old e)) one) (rest (old ++ e ∷ [])))

quiet_nothing : (old : List Entry) → IsQuiet (past old) (past (old ++ []))
quiet_nothing old =
    let P : List Entry → Type 0 = λ es. IsQuiet (past old) (past es) in
    subst P (sym (append-nil old)) (record { keeps = keeps_nothing (past old); reads = refl; last_fault = λ from. refl; licensed = λ told from to l. l })

pub quiet_fills : (w : ℕ) (bs : List (ℕ × ℕ)) (old : List Entry) → IsQuiet (past old) (past (old ++ fills w bs))
quiet_fills w [] old = quiet_nothing old
quiet_fills w (b ∷ bs) old =
    quiet_more old (fills w bs) (Fill w b.0 b.1) (record { keeps = record { registered = λ q. refl; ended = λ q. refl; held = λ v. refl }; reads = refl; last_fault = λ from. refl; licensed = λ told from to l. l }) (quiet_fills w bs)

pub quiet_begun : (w : ℕ) (cs : List ℕ) (bs : List (ℕ × ℕ)) (old : List Entry) → IsQuiet (past old) (past (old ++ (evicts w cs ++ fills w bs)))
quiet_begun w [] bs old = quiet_fills w bs old
quiet_begun w (c ∷ cs) bs old =
    quiet_more old (evicts w cs ++ fills w bs) (Evict w c) (record { keeps = record { registered = λ q. refl; ended = λ q. refl; held = λ v. refl }; reads = refl; last_fault = λ from. refl; licensed = λ told from to l. l }) (quiet_begun w cs bs)

-- what a load begins with reads nothing
pub quiet_load : (w q c : ℕ) (cs : List ℕ) (bs : List (ℕ × ℕ)) (old : List Entry) → IsQuiet (past old) (past (old ++ Plan w q c ∷ (evicts w cs ++ fills w bs)))
quiet_load w q c cs bs old =
    quiet_more old (evicts w cs ++ fills w bs) (Plan w q c) (record { keeps = record { registered = λ r. refl; ended = λ r. refl; held = λ v. refl }; reads = refl; last_fault = λ from. refl; licensed = λ told from to l. l }) (quiet_begun w cs bs)

pub quiet_agrees : (o : Start) (h k : History) (d : DepotView) → IsQuiet h k → Agrees o h d → Agrees o k d
quiet_agrees o h k d quiet agrees = record {
  held = agrees.held;
  gets = agrees.gets ∙ ap (λ n. o.gets + n) (sym quiet.reads);
  licensed = quiet.licensed _ o.faults d.faults agrees.licensed;
}

pub keeps_filled : (w : ℕ) (bs : List (ℕ × ℕ)) (old : List Entry) → KeepsRuns (past old) (past (old ++ all_filled w bs))
keeps_filled w [] old = let P : List Entry → Type 0 = λ es. KeepsRuns (past old) (past es) in subst P (sym (append-nil old)) (keeps_nothing (past old))
keeps_filled w (b ∷ bs) old = keeps_more old (all_filled w bs) (Filled w b.0 b.1) (record { registered = λ q. refl; ended = λ q. refl; held = λ v. refl }) (keeps_filled w bs)

pub keeps_failed : (w q p : ℕ) (why : Why) (bs : List (ℕ × ℕ)) (old : List Entry) → KeepsRuns (past old) (past (old ++ (all_filled w bs ++ Failed w q p why ∷ [])))
keeps_failed w q p why bs old =
    let mid = old ++ all_filled w bs in
    let P : List Entry → Type 0 = λ es. KeepsRuns (past old) (past es) in
    let Q : History → Type 0 = λ h. KeepsRuns (past mid) h in
    subst P (append_assoc old (all_filled w bs) (Failed w q p why ∷ []))
    (keeps_both (past old) (past mid) (past (mid ++ Failed w q p why ∷ [])) (keeps_filled w bs old)
    (subst Q (sym (past_push mid (Failed w q p why))) (record { registered = λ r. refl; ended = λ r. refl; held = λ v. refl })))

-- Who holds a chunk loads nothing

-- the newest Deliver or Release by the worker is this one, or an earlier one is
taken_idle : (v w : ℕ) (x : Hold) (rest : Option Hold) (o : Hold) (L : Type 0) → (v ≡ w → L) → (rest ≡ Some o → L) → (if v == w then Some x else rest) ≡ Some o → L
taken_idle v w x rest o L here there e = elim (cases_Bool (v == w)) [
  | inl so ↦ here (same_number v w so)
  | inr not_so ↦ there (rw not_so at e)
]

released_idle : (v w : ℕ) (rest : Option Hold) (o : Hold) (L : Type 0) → (rest ≡ Some o → L) → (if v == w then None else rest) ≡ Some o → L
released_idle v w rest o L there e = elim (cases_Bool (v == w)) [
  | inl so ↦ absurd (none_some o (rw so at e))
  | inr not_so ↦ there (rw not_so at e)
]

pub holder_loads_nothing : (s : Setting) (h : History) (w : ℕ) (o : Hold) → Legal s h → held_by h w ≡ Some o → is_load_by w (underway s h) ≡ false
holder_loads_nothing s [] w o legal e = refl
holder_loads_nothing s (Register v q ∷ h) w o legal e = holder_loads_nothing s h w o legal.2 e
holder_loads_nothing s (Plan v q c ∷ h) w o legal e =
    if_not (v == w) (λ so. none_some o (sym (ap (held_by h) (sym (same_number v w so)) ∙ legal.0.holds_nothing) ∙ e))
holder_loads_nothing s (Evict v c ∷ h) w o legal e = holder_loads_nothing s h w o legal.2 e
holder_loads_nothing s (Fill v f p ∷ h) w o legal e = begun_by w f p (underway s h) (holder_loads_nothing s h w o legal.2 e)
holder_loads_nothing s (Filled v f p ∷ h) w o legal e = ended_by w p (underway s h) (holder_loads_nothing s h w o legal.2 e)
holder_loads_nothing s (Failed v q p why ∷ h) w o legal e = refl
holder_loads_nothing s (Deliver v q c ∷ h) w o legal e =
    taken_idle v w (record { query = q; chunk = c }) (held_by h w) o (is_load_by w (underway s h) ≡ false)
    (λ same. ap (λ x. is_load_by x (underway s h)) (sym same) ∙ legal.0.idle.loads_nothing) (λ rest. holder_loads_nothing s h w o legal.2 rest) e
holder_loads_nothing s (Release v q c ∷ h) w o legal e =
    released_idle v w (held_by h w) o (is_load_by w (underway s h) ≡ false) (λ rest. holder_loads_nothing s h w o legal.2 rest) e
holder_loads_nothing s (Stop v q ∷ h) w o legal e = holder_loads_nothing s h w o legal.2 e
holder_loads_nothing s (End v q ∷ h) w o legal e = holder_loads_nothing s h w o legal.2 e

-- so who loads holds nothing
pub loader_holds_nothing : (s : Setting) (h : History) (l : Load) → Legal s h → underway s h ≡ Some l → held_by h l.worker ≡ None
loader_holds_nothing s h l legal u = by (held_by h l.worker) refl
  where
    by : (o : Option Hold) → held_by h l.worker ≡ o → o ≡ None
    by None e = refl
    by (Some o) e =
        absurd (not_both (is_load_by l.worker (underway s h)) (ap (is_load_by l.worker) u ∙ self_number l.worker) (holder_loads_nothing s h l.worker o legal e))

registered_active : (h : History) (q : ℕ) → is_active h q ≡ true → is_registered h q ≡ true
registered_active h q e = (active_parts (is_registered h q) (is_stopped h q) (is_ended h q) e).0

-- a query that has ended was registered
pub ended_registered : (s : Setting) (h : History) (q : ℕ) → Legal s h → is_ended h q ≡ true → is_registered h q ≡ true
ended_registered s [] q legal e = e
ended_registered s (Register w r ∷ h) q legal e = or_right (r == q) (is_registered h q) (ended_registered s h q legal.2 e)
ended_registered s (Plan w r c ∷ h) q legal e = ended_registered s h q legal.2 e
ended_registered s (Evict w c ∷ h) q legal e = ended_registered s h q legal.2 e
ended_registered s (Fill w f p ∷ h) q legal e = ended_registered s h q legal.2 e
ended_registered s (Filled w f p ∷ h) q legal e = ended_registered s h q legal.2 e
ended_registered s (Failed w r p why ∷ h) q legal e = ended_registered s h q legal.2 e
ended_registered s (Deliver w r c ∷ h) q legal e = ended_registered s h q legal.2 e
ended_registered s (Release w r c ∷ h) q legal e = ended_registered s h q legal.2 e
ended_registered s (Stop w r ∷ h) q legal e = ended_registered s h q legal.2 e
ended_registered s (End w r ∷ h) q legal e =
    either (r == q) (is_ended h q) e (λ so. ap (is_registered h) (sym (same_number r q so)) ∙ (registered_active h r legal.0.on.active)) (λ before. ended_registered s h q legal.2 before)

-- Who may take the next turn

-- after its Register
pub registered_may : (s : Setting) (w q : ℕ) (old new : List Entry) → MayRegister s (past old) w q → new ≡ old ++ Register w q ∷ [] → Legal s (past new) → MayTurn s (past new) w q
registered_may s w q old new may added legal =
    let now : past new ≡ Register w q ∷ past old = ap past added ∙ past_push old (Register w q) in
    let P : History → Type 0 = λ h. Legal s h in
    let M : History → Type 0 = λ h. MayTurn s h w q in
    let before = (subst P now legal).2 in
    subst M (sym now) (record {
      runs = record {
        on = may.on;
        registered = or_left (q == q) (is_registered (past old) q) (self_number q);
        not_ended = if_not (is_ended (past old) q) (λ e. not_both (is_registered (past old) q) (ended_registered s (past old) q before e) may.first);
      };
      idle = record { holds_nothing = may.idle.holds_nothing; loads_nothing = may.idle.loads_nothing };
    })

-- after its Release
pub released_may : (s : Setting) (w q c : ℕ) (old new : List Entry) → held_by (past old) w ≡ Some (record { query = q; chunk = c }) → new ≡ old ++ Release w q c ∷ [] → Legal s (past new) → RunsOn s (past old) q w → MayTurn s (past new) w q
released_may s w q c old new held added legal runs =
    let now : past new ≡ Release w q c ∷ past old = ap past added ∙ past_push old (Release w q c) in
    let P : History → Type 0 = λ h. Legal s h in
    let M : History → Type 0 = λ h. MayTurn s h w q in
    let before = (subst P now legal).2 in
    let none : held_by (Release w q c ∷ past old) w ≡ None = ap (λ (b : Bool). if b then None else held_by (past old) w) (self_number w) in
    subst M (sym now) (record {
      runs = record { on = runs.on; registered = runs.registered; not_ended = runs.not_ended };
      idle = record { holds_nothing = none; loads_nothing = holder_loads_nothing s (past old) w (record { query = q; chunk = c }) before held };
    })

-- and after its load
pub loaded_may : (s : Setting) (h k : History) (l : Load) (q : ℕ) → Legal s h → underway s h ≡ Some l → KeepsRuns h k → underway s k ≡ None → RunsOn s h q l.worker → MayTurn s k l.worker q
loaded_may s h k l q legal was keeps closed runs = record {
  runs = runs_stay s h k q l.worker keeps runs;
  idle = record {
    holds_nothing = keeps.held l.worker ∙ loader_holds_nothing s h l legal was;
    loads_nothing = ap (is_load_by l.worker) closed;
  };
}
