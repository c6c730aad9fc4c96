-- What doesn't fit the words of a run: the first of it, and why no run tells it.
use Rattle.std.proofs.Common.{◌≡◌, ◌∙◌, ◌<◌, ◌≤◌, ◌+◌, ◌-◌, ◌^◌, ◌∷◌, [], ◌++◌, true, false, ℕ, Bool, List, Option, if◌then◌else◌, append-nil, append_assoc, inl, inr, length, take, drop, get_or, refl, sym, ap, subst, arith}
use Rattle.std.specs.List.{AllByRecursion}
use Rattle.std.proofs.lemmas.List.{append_cancel_left, reverse-append, take-append-drop, take_more}
use Rattle.piece_format.specs.Shape.{TableShape}
use Rattle.scan_story.specs.Causes.{Licensed, last_fault}
use Rattle.scan_story.specs.Legal.{Legal}
use Rattle.scan_story.specs.Makers.{entries_by}
use Rattle.scan_story.specs.MayFollow.{IsRise}
use Rattle.scan_story.specs.Views.{History, past}
use Rattle.scan_story.specs.declared.entry.Entry.{Entry}
use Rattle.scan_story.specs.declared.entry.Entry.TheVariants.{Register, Plan, Evict, Fill, Filled, Failed, Deliver, Release, Stop, End}
use Rattle.scan_story.specs.declared.entry.Why.{Why}
use Rattle.scan_story.specs.declared.entry.Why.TheVariants.{Fault, Damage}
use Rattle.scan_story.specs.declared.setting.Setting.{Setting}
use Rattle.story_laws.proofs.Bools.{self_number}
use Rattle.story_text.specs.Reading.{Fits}
use Rattle.batch_ends.specs.Registering.{registered}
use Rattle.inspect_verdict.specs.Words.{AreAllRegistered, AreInOrder, FaultFits, FaultsFit, IsEntryUnfit, IsFaultAt, IsFaultUnfit, IsFirstUnfit, IsFitting, IsLicensed, IsOrder, IsOutOfOrder, IsUnfit, IsWithin, LeavesQuery, MayFailSo, fitting_by, in_order, next_of}
use Rattle.inspect_verdict.specs.declared.order.Turns.{Turns}
use Rattle.inspect_verdict.specs.declared.order.Turns.TheVariants as turns
use Rattle.inspect_verdict.specs.declared.unfit.Unfit.{Unfit}
use Rattle.inspect_verdict.specs.declared.unfit.Unfit.TheVariants as unfit
use Rattle.inspect_referee.proofs.Judged.{past_more}
use Rattle.inspect_verdict.proofs.Ordering.{cut_order, in_both, inside, still}
use Rattle.inspect_verdict.proofs.Turning.{on_worker}

-- ---- the first

no_order : (z : TableShape) (scratch : Bool) (last : ℕ) (e : Entry) (due : Option ℕ) → IsEntryUnfit z scratch last e (unfit.OutOfOrder due) → ⊥
no_order z scratch last (Failed w q p (Fault before after)) due is = by_words scratch is
  where
    by_words : (b : Bool) → IsFaultUnfit z b last p (Fault before after) (unfit.OutOfOrder due) → ⊥
    by_words true is = is
    by_words false is = is
no_order z scratch last (Failed w q p (Damage word)) due is = by_words scratch is
  where
    by_words : (b : Bool) → IsFaultUnfit z b last p (Damage word) (unfit.OutOfOrder due) → ⊥
    by_words true is = is
    by_words false is = is
no_order z scratch last (Register w q) due is = is
no_order z scratch last (Plan w q c) due is = is
no_order z scratch last (Evict w c) due is = is
no_order z scratch last (Fill w f p) due is = is
no_order z scratch last (Filled w f p) due is = is
no_order z scratch last (Deliver w q c) due is = is
no_order z scratch last (Release w q c) due is = is
no_order z scratch last (Stop w q) due is = is
no_order z scratch last (End w q) due is = is

unfit_is : (s : Setting) (z : TableShape) (scratch : Bool) (es : List Entry) (e : Entry) (reason : Unfit) → IsEntryUnfit z scratch (last_fault 0 (past es)) e reason → IsUnfit s z scratch es e reason
unfit_is s z scratch es e (unfit.OutOfOrder due) is = absurd (no_order z scratch (last_fault 0 (past es)) e due is)
unfit_is s z scratch es e unfit.InMemory is = is
unfit_is s z scratch es e (unfit.CountFell last) is = is
unfit_is s z scratch es e unfit.NoSuchWord is = is

-- a fault among the entries whose order is kept is the first of all
pub fault_first : (s : Setting) (z : TableShape) (scratch : Bool) (es : List Entry) (t : Turns) (place : ℕ) (why : Unfit) → IsOrder s es s.workers t → IsFaultAt z scratch (in_order t es) place why → IsFirstUnfit s z scratch es place why
fault_first s z scratch es t place why order at =
    let k = in_both t es place (inside s es s.workers t order) at.there in
    let Order = λ (xs : List Entry). AreInOrder s xs s.workers in
    let Faults = λ (xs : List Entry). FaultsFit z scratch (past xs) in
    let Entries = λ (xs : List Entry). IsEntryUnfit z scratch (last_fault 0 (past xs)) (get_or es place (Register 0 0)) why in
    let At = λ (e : Entry). IsEntryUnfit z scratch (last_fault 0 (past (take place (in_order t es)))) e why in
    record {
      there = k.0;
      order = subst Order k.1 (cut_order s (in_order t es) s.workers place (still s es s.workers t order));
      faults = subst Faults k.1 at.before;
      unfit = unfit_is s z scratch (take place es) (get_or es place (Register 0 0)) why (subst Entries k.1 (subst At k.2 at.unfit));
    }

-- where no read fails as it may not
pub no_fault : (s : Setting) (z : TableShape) (scratch : Bool) (es : List Entry) (t : Turns) → IsOrder s es s.workers t → FaultsFit z scratch (past (in_order t es)) → IsFitting s z scratch es (fitting_by t)
no_fault s z scratch es turns.All order faults = (order, faults)
no_fault s z scratch es turns.Some order faults = (order.0, faults, order.1)
no_fault s z scratch es (turns.Broken place due) order faults = record { there = order.there; order = order.before; faults = faults; unfit = order.out }

-- ---- no run tells it

later : (es : List Entry) (n : ℕ) → past es ≡ past (drop n es) ++ past (take n es)
later es n = ap past (sym (take-append-drop n es)) ∙ reverse-append (take n es) (drop n es)

front_fits : (z : TableShape) (scratch : Bool) (newer h : History) → FaultsFit z scratch (newer ++ h) → FaultsFit z scratch h
front_fits z scratch [] h fits = fits
front_fits z scratch (e ∷ newer) h fits = front_fits z scratch newer h fits.1

pub faults_before : (z : TableShape) (scratch : Bool) (es : List Entry) (n : ℕ) → FaultsFit z scratch (past es) → FaultsFit z scratch (past (take n es))
faults_before z scratch es n fits = front_fits z scratch (past (drop n es)) (past (take n es)) (subst (FaultsFit z scratch) (later es n) fits)

never_fault : (z : TableShape) (scratch : Bool) (last : ℕ) (e : Entry) (why : Unfit) → IsEntryUnfit z scratch last e why → FaultFits z scratch last e → ⊥
never_fault z scratch last (Failed w q p why) reason is fits = by_why scratch why reason is fits
  where
    by_why : (b : Bool) (y : Why) (r : Unfit) → IsFaultUnfit z b last p y r → MayFailSo z b last p y → ⊥
    by_why false y r is fits = fits
    by_why true (Fault before after) (unfit.CountFell count) is fits = omega (arith, is.1, fits)
    by_why true (Fault before after) (unfit.OutOfOrder due) is fits = is
    by_why true (Fault before after) unfit.InMemory is fits = is
    by_why true (Fault before after) unfit.NoSuchWord is fits = is
    by_why true (Damage word) (unfit.CountFell count) is fits = is
    by_why true (Damage word) (unfit.OutOfOrder due) is fits = is
    by_why true (Damage word) unfit.InMemory is fits = is
    by_why true (Damage word) unfit.NoSuchWord is fits = is fits
never_fault z scratch last (Register w q) reason is fits = is
never_fault z scratch last (Plan w q c) reason is fits = is
never_fault z scratch last (Evict w c) reason is fits = is
never_fault z scratch last (Fill w f p) reason is fits = is
never_fault z scratch last (Filled w f p) reason is fits = is
never_fault z scratch last (Deliver w q c) reason is fits = is
never_fault z scratch last (Release w q c) reason is fits = is
never_fault z scratch last (Stop w q) reason is fits = is
never_fault z scratch last (End w q) reason is fits = is

registers_itself : (w q : ℕ) → registered (entries_by w (Register w q ∷ [])) ≡ q ∷ []
registers_itself w q = ap (λ (b : Bool). registered (if b then Register w q ∷ [] else [])) (self_number w)

-- a worker that registers all of its queries in their order registers the one that is due
never_out : (s : Setting) (es : List Entry) (place : ℕ) (due : Option ℕ) → place < length es → IsOutOfOrder s (take place es) (get_or es place (Register 0 0)) due → AreAllRegistered s es s.workers → ⊥
never_out s es place due lt out all =
    let w = out.worker in
    let on = λ (xs : List Entry). registered (entries_by w xs) in
    let rest = on (drop (place + 1) es) in
    let one : on (get_or es place (Register 0 0) ∷ []) ≡ out.other.query ∷ [] = ap (λ (e : Entry). on (e ∷ [])) out.other.entry ∙ registers_itself w out.other.query in
    let split : on es ≡ on (take place es) ++ (out.other.query ∷ rest) =
    ap on (sym (take-append-drop (place + 1) es)) ∙ (on_worker w (take (place + 1) es) (drop (place + 1) es)
    ∙ (ap (λ (l : List ℕ). l ++ rest) (ap on (take_more es place (Register 0 0) lt) ∙ (on_worker w (take place es) (get_or es place (Register 0 0) ∷ []) ∙ ap (λ (l : List ℕ). on (take place es) ++ l) one))
    ∙ append_assoc (on (take place es)) (out.other.query ∷ []) rest)) in
    let same : out.left ≡ out.other.query ∷ rest = append_cancel_left (on (take place es)) out.left (out.other.query ∷ rest) (sym out.before ∙ (all w out.there ∙ (append-nil (on es) ∙ split))) in
    out.other.other (ap next_of same)

pub never_unfit : (s : Setting) (z : TableShape) (scratch : Bool) (es : List Entry) (place : ℕ) (why : Unfit) → IsFirstUnfit s z scratch es place why → AreAllRegistered s es s.workers → FaultsFit z scratch (past es) → ⊥
never_unfit s z scratch es place why first all faults = by_reason why first.unfit
  where
    e : Entry
    e = get_or es place (Register 0 0)

    fits : FaultFits z scratch (last_fault 0 (past (take place es))) e
    fits = (subst (FaultsFit z scratch) (past_more es place first.there) (faults_before z scratch es (place + 1) faults)).0

    by_reason : (r : Unfit) → IsUnfit s z scratch (take place es) e r → ⊥
    by_reason (unfit.OutOfOrder due) is = never_out s es place due first.there is all
    by_reason unfit.InMemory is = never_fault z scratch (last_fault 0 (past (take place es))) e unfit.InMemory is fits
    by_reason (unfit.CountFell count) is = never_fault z scratch (last_fault 0 (past (take place es))) e (unfit.CountFell count) is fits
    by_reason unfit.NoSuchWord is = never_fault z scratch (last_fault 0 (past (take place es))) e unfit.NoSuchWord is fits

pub never_left : (s : Setting) (es : List Entry) → LeavesQuery s es → AreAllRegistered s es s.workers → ⊥
never_left s es left all = left.some (append_cancel_left (registered (entries_by left.worker es)) left.left [] (sym left.leaves ∙ all left.worker left.there))

-- ---- the licence

last_low : (told : Bool) (to : ℕ) (h : History) → Licensed told 0 to h → last_fault 0 h ≤ to
last_low told to [] is = is
last_low told to (Failed w q p (Fault before after) ∷ h) is = is.0
last_low told to (Failed w q p (Damage word) ∷ h) is = last_low told to h is.1
last_low told to (Register w q ∷ h) is = last_low told to h is
last_low told to (Plan w q c ∷ h) is = last_low told to h is
last_low told to (Evict w c ∷ h) is = last_low told to h is
last_low told to (Fill w f p ∷ h) is = last_low told to h is
last_low told to (Filled w f p ∷ h) is = last_low told to h is
last_low told to (Deliver w q c ∷ h) is = last_low told to h is
last_low told to (Release w q c ∷ h) is = last_low told to h is
last_low told to (Stop w q ∷ h) is = last_low told to h is
last_low told to (End w q ∷ h) is = last_low told to h is

-- what is licensed fails as it may
licensed_scratch : (z : TableShape) (to : ℕ) (h : History) → Licensed false 0 to h → AllByRecursion (IsWithin z) h → FaultsFit z true h
licensed_scratch z to [] is within = tt
licensed_scratch z to (Failed w q p (Fault before after) ∷ h) is within = (last_low false before h is.2, licensed_scratch z before h is.2 within.1)
licensed_scratch z to (Failed w q p (Damage word) ∷ h) is within = (within.0, licensed_scratch z to h is.1 within.1)
licensed_scratch z to (Register w q ∷ h) is within = (tt, licensed_scratch z to h is within.1)
licensed_scratch z to (Plan w q c ∷ h) is within = (tt, licensed_scratch z to h is within.1)
licensed_scratch z to (Evict w c ∷ h) is within = (tt, licensed_scratch z to h is within.1)
licensed_scratch z to (Fill w f p ∷ h) is within = (tt, licensed_scratch z to h is within.1)
licensed_scratch z to (Filled w f p ∷ h) is within = (tt, licensed_scratch z to h is within.1)
licensed_scratch z to (Deliver w q c ∷ h) is within = (tt, licensed_scratch z to h is within.1)
licensed_scratch z to (Release w q c ∷ h) is within = (tt, licensed_scratch z to h is within.1)
licensed_scratch z to (Stop w q ∷ h) is within = (tt, licensed_scratch z to h is within.1)
licensed_scratch z to (End w q ∷ h) is within = (tt, licensed_scratch z to h is within.1)

no_rise : (before after : ℕ) → after ≤ 0 → IsRise before after → ⊥
no_rise before after low (inl rise) = omega (arith, low, rise)
no_rise before after low (inr last) = omega (arith, low, last.1)

licensed_memory : (z : TableShape) (h : History) → Licensed true 0 0 h → FaultsFit z false h
licensed_memory z [] is = tt
licensed_memory z (Failed w q p (Fault before after) ∷ h) is = absurd (no_rise before after is.0 is.1)
licensed_memory z (Failed w q p (Damage word) ∷ h) is = let k = is.0 in absurd cc
licensed_memory z (Register w q ∷ h) is = (tt, licensed_memory z h is)
licensed_memory z (Plan w q c ∷ h) is = (tt, licensed_memory z h is)
licensed_memory z (Evict w c ∷ h) is = (tt, licensed_memory z h is)
licensed_memory z (Fill w f p ∷ h) is = (tt, licensed_memory z h is)
licensed_memory z (Filled w f p ∷ h) is = (tt, licensed_memory z h is)
licensed_memory z (Deliver w q c ∷ h) is = (tt, licensed_memory z h is)
licensed_memory z (Release w q c ∷ h) is = (tt, licensed_memory z h is)
licensed_memory z (Stop w q ∷ h) is = (tt, licensed_memory z h is)
licensed_memory z (End w q ∷ h) is = (tt, licensed_memory z h is)

pub licensed_fits : (z : TableShape) (scratch : Bool) (h : History) → IsLicensed scratch h → AllByRecursion (IsWithin z) h → FaultsFit z scratch h
licensed_fits z false h is within = licensed_memory z h is
licensed_fits z true h is within = licensed_scratch z (2 ^ 64 - 1) h is within

-- what fails as it may in a legal story is licensed, and lies within its piece

widen : (told : Bool) (from to more : ℕ) (h : History) → to ≤ more → Licensed told from to h → Licensed told from more h
widen told from to more [] le is = omega (arith, le, is)
widen told from to more (Failed w q p (Fault before after) ∷ h) le is = (omega (arith, le, is.0), is.1, is.2)
widen told from to more (Failed w q p (Damage word) ∷ h) le is = (is.0, widen told from to more h le is.1)
widen told from to more (Register w q ∷ h) le is = widen told from to more h le is
widen told from to more (Plan w q c ∷ h) le is = widen told from to more h le is
widen told from to more (Evict w c ∷ h) le is = widen told from to more h le is
widen told from to more (Fill w f p ∷ h) le is = widen told from to more h le is
widen told from to more (Filled w f p ∷ h) le is = widen told from to more h le is
widen told from to more (Deliver w q c ∷ h) le is = widen told from to more h le is
widen told from to more (Release w q c ∷ h) le is = widen told from to more h le is
widen told from to more (Stop w q ∷ h) le is = widen told from to more h le is
widen told from to more (End w q ∷ h) le is = widen told from to more h le is

fits_scratch : (s : Setting) (z : TableShape) (h : History) → Legal s h → FaultsFit z true h → Licensed false 0 (last_fault 0 h) h
fits_scratch s z [] legal fits = omega arith
fits_scratch s z (Failed w q p (Fault before after) ∷ h) legal fits =
    (omega arith, legal.0.reason, widen false 0 (last_fault 0 h) before h fits.0 (fits_scratch s z h legal.2 fits.1))
fits_scratch s z (Failed w q p (Damage word) ∷ h) legal fits = (refl, fits_scratch s z h legal.2 fits.1)
fits_scratch s z (Register w q ∷ h) legal fits = fits_scratch s z h legal.2 fits.1
fits_scratch s z (Plan w q c ∷ h) legal fits = fits_scratch s z h legal.2 fits.1
fits_scratch s z (Evict w c ∷ h) legal fits = fits_scratch s z h legal.2 fits.1
fits_scratch s z (Fill w f p ∷ h) legal fits = fits_scratch s z h legal.2 fits.1
fits_scratch s z (Filled w f p ∷ h) legal fits = fits_scratch s z h legal.2 fits.1
fits_scratch s z (Deliver w q c ∷ h) legal fits = fits_scratch s z h legal.2 fits.1
fits_scratch s z (Release w q c ∷ h) legal fits = fits_scratch s z h legal.2 fits.1
fits_scratch s z (Stop w q ∷ h) legal fits = fits_scratch s z h legal.2 fits.1
fits_scratch s z (End w q ∷ h) legal fits = fits_scratch s z h legal.2 fits.1

fits_memory : (z : TableShape) (h : History) → FaultsFit z false h → Licensed true 0 0 h
fits_memory z [] fits = omega arith
fits_memory z (Failed w q p why ∷ h) fits = absurd fits.0
fits_memory z (Register w q ∷ h) fits = fits_memory z h fits.1
fits_memory z (Plan w q c ∷ h) fits = fits_memory z h fits.1
fits_memory z (Evict w c ∷ h) fits = fits_memory z h fits.1
fits_memory z (Fill w f p ∷ h) fits = fits_memory z h fits.1
fits_memory z (Filled w f p ∷ h) fits = fits_memory z h fits.1
fits_memory z (Deliver w q c ∷ h) fits = fits_memory z h fits.1
fits_memory z (Release w q c ∷ h) fits = fits_memory z h fits.1
fits_memory z (Stop w q ∷ h) fits = fits_memory z h fits.1
fits_memory z (End w q ∷ h) fits = fits_memory z h fits.1

last_small : (h : History) → AllByRecursion Fits h → last_fault 0 h ≤ 2 ^ 64 - 1
last_small [] fit = omega arith
last_small (Failed w q p (Fault before after) ∷ h) fit = let k = fit.0 in omega (arith, k.3.1)
last_small (Failed w q p (Damage word) ∷ h) fit = last_small h fit.1
last_small (Register w q ∷ h) fit = last_small h fit.1
last_small (Plan w q c ∷ h) fit = last_small h fit.1
last_small (Evict w c ∷ h) fit = last_small h fit.1
last_small (Fill w f p ∷ h) fit = last_small h fit.1
last_small (Filled w f p ∷ h) fit = last_small h fit.1
last_small (Deliver w q c ∷ h) fit = last_small h fit.1
last_small (Release w q c ∷ h) fit = last_small h fit.1
last_small (Stop w q ∷ h) fit = last_small h fit.1
last_small (End w q ∷ h) fit = last_small h fit.1

pub fits_licensed : (s : Setting) (z : TableShape) (scratch : Bool) (h : History) → Legal s h → AllByRecursion Fits h → FaultsFit z scratch h → IsLicensed scratch h
fits_licensed s z false h legal fit fits = fits_memory z h fits
fits_licensed s z true h legal fit fits = widen false 0 (last_fault 0 h) (2 ^ 64 - 1) h (last_small h fit) (fits_scratch s z h legal fits)

pub fits_within : (z : TableShape) (scratch : Bool) (h : History) → FaultsFit z scratch h → AllByRecursion (IsWithin z) h
fits_within z scratch [] fits = tt
fits_within z true (Failed w q p (Damage word) ∷ h) fits = (fits.0, fits_within z true h fits.1)
fits_within z false (Failed w q p (Damage word) ∷ h) fits = absurd fits.0
fits_within z scratch (Failed w q p (Fault before after) ∷ h) fits = (tt, fits_within z scratch h fits.1)
fits_within z scratch (Register w q ∷ h) fits = (tt, fits_within z scratch h fits.1)
fits_within z scratch (Plan w q c ∷ h) fits = (tt, fits_within z scratch h fits.1)
fits_within z scratch (Evict w c ∷ h) fits = (tt, fits_within z scratch h fits.1)
fits_within z scratch (Fill w f p ∷ h) fits = (tt, fits_within z scratch h fits.1)
fits_within z scratch (Filled w f p ∷ h) fits = (tt, fits_within z scratch h fits.1)
fits_within z scratch (Deliver w q c ∷ h) fits = (tt, fits_within z scratch h fits.1)
fits_within z scratch (Release w q c ∷ h) fits = (tt, fits_within z scratch h fits.1)
fits_within z scratch (Stop w q ∷ h) fits = (tt, fits_within z scratch h fits.1)
fits_within z scratch (End w q ∷ h) fits = (tt, fits_within z scratch h fits.1)

-- ---- lists

all_joined : {A : Type 0} (P : A → Type 0) (xs ys : List A) → AllByRecursion P xs → AllByRecursion P ys → AllByRecursion P (xs ++ ys)
all_joined P [] ys a b = b
all_joined P (x ∷ xs) ys a b = (a.0, all_joined P xs ys a.1 b)

pub all_past : (P : Entry → Type 0) (es : List Entry) → AllByRecursion P es → AllByRecursion P (past es)
all_past P [] all = tt
all_past P (e ∷ es) all = subst (AllByRecursion P) (sym (reverse-append (e ∷ []) es)) (all_joined P (past es) (e ∷ []) (all_past P es all.1) (all.0, tt))
