-- Counts of faults that never fall, and the licence of a story.
use Rattle.std.proofs.Common.{◌≡◌, ◌∙◌, ◌<◌, ◌≤◌, ◌+◌, ◌-◌, ◌^◌, ◌∷◌, [], ◌++◌, ℕ, zero, suc, List, false, length, take, get_or, refl, sym, ap, subst, arith}
use Rattle.std.specs.List.{AllByRecursion}
use Rattle.std.proofs.lemmas.List.{reverse-append, take_all}
use Rattle.scan_story.specs.Causes.{Licensed, last_fault}
use Rattle.scan_story.specs.Views.{History, past}
use Rattle.scan_story.specs.declared.entry.Entry.{Entry}
use Rattle.scan_story.specs.declared.entry.Entry.TheVariants.{Deliver, End, Evict, Failed, Fill, Filled, Plan, Register, Release, Stop}
use Rattle.scan_story.specs.declared.entry.Why.TheVariants.{Fault, Damage}
use Rattle.scan_story.specs.declared.setting.Setting.{Setting}
use Rattle.story_text.specs.Reading.{Fits, FitsWhy}
use Rattle.chunk_interest.specs.Follows.{AllMayFollow}
use Rattle.inspect_referee.proofs.Judged.{past_more}
use Rattle.inspect_story.specs.Falling.{FallsBelow, IsLicensed, KeepsCount, NeverFalls}

pub last_more : (es : List Entry) (i last next : ℕ) → i < length es → next ≡ last_fault 0 (get_or es i (Register 0 0) ∷ past (take i es)) → next ≡ last_fault 0 (past (take (i + 1) es))
last_more es i last next lt is = is ∙ ap (last_fault 0) (sym (past_more es i lt))

pub never_more : (es : List Entry) (i last : ℕ) → i < length es → last ≡ last_fault 0 (past (take i es)) → KeepsCount last (get_or es i (Register 0 0)) → NeverFalls (past (take i es))
    → NeverFalls (past (take (i + 1) es))
never_more es i last lt is keeps before =
    let Keeps = λ (n : ℕ). KeepsCount n (get_or es i (Register 0 0)) in
    subst NeverFalls (sym (past_more es i lt)) (subst Keeps is keeps, before)

pub never_all : (es : List Entry) (i : ℕ) → length es ≤ i → NeverFalls (past (take i es)) → NeverFalls (past es)
never_all es i le never = subst (λ (xs : List Entry). NeverFalls (past xs)) (take_all i es le) never

-- Beginnings of stories

split_take : (es : List Entry) (i j : ℕ) → i ≤ j → (more : List Entry) × (take j es ≡ take i es ++ more)
split_take es zero j le = (take j es, refl)
split_take es (suc i) zero le = absurd (omega (arith, le))
split_take [] (suc i) (suc j) le = ([], refl)
split_take (e ∷ es) (suc i) (suc j) le = let p = split_take es i j (omega (arith, le)) in (p.0, ap (λ (l : List Entry). e ∷ l) p.1)

pub taken_on : (es : List Entry) (i j : ℕ) → i ≤ j → (later : History) × (past (take j es) ≡ later ++ past (take i es))
taken_on es i j le = let p = split_take es i j le in (past p.0, ap past p.1 ∙ reverse-append (take i es) p.0)

never_front : (later h : History) → NeverFalls (later ++ h) → NeverFalls h
never_front [] h never = never
never_front (e ∷ later) h never = never_front later h never.1

pub never_taken : (es : List Entry) (i j : ℕ) → i ≤ j → NeverFalls (past (take j es)) → NeverFalls (past (take i es))
never_taken es i j le never = let p = taken_on es i j le in never_front p.0 (past (take i es)) (subst NeverFalls p.1 never)

-- where no count falls, none does at a place
keeps_at : (es : List Entry) (i : ℕ) → i < length es → NeverFalls (past es) → KeepsCount (last_fault 0 (past (take i es))) (get_or es i (Register 0 0))
keeps_at es i lt never =
    let all : NeverFalls (past (take (length es) es)) = subst (λ (xs : List Entry). NeverFalls (past xs)) (sym (take_all (length es) es (omega arith))) never in
    let here : NeverFalls (get_or es i (Register 0 0) ∷ past (take i es)) = subst NeverFalls (past_more es i lt) (never_taken es (i + 1) (length es) (omega (arith, lt)) all) in
    here.0

no_fall : (last : ℕ) (e : Entry) → KeepsCount last e → FallsBelow last e → ⊥
no_fall last (Failed w q p (Fault b a)) keeps falls = absurd (omega (arith, keeps, falls))
no_fall last (Failed w q p (Damage i)) keeps falls = falls
no_fall last (Register w q) keeps falls = falls
no_fall last (Plan w q c) keeps falls = falls
no_fall last (Evict w c) keeps falls = falls
no_fall last (Fill w f p) keeps falls = falls
no_fall last (Filled w f p) keeps falls = falls
no_fall last (Deliver w q c) keeps falls = falls
no_fall last (Release w q c) keeps falls = falls
no_fall last (Stop w q) keeps falls = falls
no_fall last (End w q) keeps falls = falls

pub never_falls : (es : List Entry) (i last : ℕ) → i < length es → last ≡ last_fault 0 (past (take i es)) → FallsBelow last (get_or es i (Register 0 0)) → NeverFalls (past es) → ⊥
never_falls es i last lt is falls never =
    let e = get_or es i (Register 0 0) in
    no_fall last e (subst (λ (n : ℕ). KeepsCount n e) (sym is) (keeps_at es i lt never)) falls

-- The licence

-- the counts of entries that fit have 64 bits
last_fits : (h : History) → AllByRecursion Fits h → last_fault 0 h ≤ 2 ^ 64 - 1
last_fits [] fit = omega arith
last_fits (Failed w q p (Fault b a) ∷ h) fit =
    let e : Fits (Failed w q p (Fault b a)) = fit.0 in
    let y : FitsWhy (Fault b a) = e.3 in
    let lt = y.1 in omega (arith, lt)
last_fits (Failed w q p (Damage i) ∷ h) fit = last_fits h fit.1
last_fits (Register w q ∷ h) fit = last_fits h fit.1
last_fits (Plan w q c ∷ h) fit = last_fits h fit.1
last_fits (Evict w c ∷ h) fit = last_fits h fit.1
last_fits (Fill w f p ∷ h) fit = last_fits h fit.1
last_fits (Filled w f p ∷ h) fit = last_fits h fit.1
last_fits (Deliver w q c ∷ h) fit = last_fits h fit.1
last_fits (Release w q c ∷ h) fit = last_fits h fit.1
last_fits (Stop w q ∷ h) fit = last_fits h fit.1
last_fits (End w q ∷ h) fit = last_fits h fit.1

fit_append : (xs ys : List Entry) → AllByRecursion Fits xs → AllByRecursion Fits ys → AllByRecursion Fits (xs ++ ys)
fit_append [] ys fx fy = fy
fit_append (x ∷ xs) ys fx fy = (fx.0, fit_append xs ys fx.1 fy)

fit_past : (es : List Entry) → AllByRecursion Fits es → AllByRecursion Fits (past es)
fit_past [] fit = tt
fit_past (e ∷ es) fit = subst (AllByRecursion Fits) (sym (reverse-append (e ∷ []) es)) (fit_append (past es) (e ∷ []) (fit_past es fit.1) (fit.0, tt))

fit_taken : (es : List Entry) (i : ℕ) → AllByRecursion Fits es → AllByRecursion Fits (take i es)
fit_taken es zero fit = tt
fit_taken [] (suc i) fit = tt
fit_taken (e ∷ es) (suc i) fit = (fit.0, fit_taken es i fit.1)

licensed : (s : Setting) (h : History) (top : ℕ) → AllMayFollow s h → NeverFalls h → last_fault 0 h ≤ top → Licensed false 0 top h
licensed s [] top ok never le = le
licensed s (Failed w q p (Fault b a) ∷ h) top ok never le = (le, (let may = ok.0 in may.reason), licensed s h b ok.1 never.1 never.0)
licensed s (Failed w q p (Damage i) ∷ h) top ok never le = (refl, licensed s h top ok.1 never.1 le)
licensed s (Register w q ∷ h) top ok never le = licensed s h top ok.1 never.1 le
licensed s (Plan w q c ∷ h) top ok never le = licensed s h top ok.1 never.1 le
licensed s (Evict w c ∷ h) top ok never le = licensed s h top ok.1 never.1 le
licensed s (Fill w f p ∷ h) top ok never le = licensed s h top ok.1 never.1 le
licensed s (Filled w f p ∷ h) top ok never le = licensed s h top ok.1 never.1 le
licensed s (Deliver w q c ∷ h) top ok never le = licensed s h top ok.1 never.1 le
licensed s (Release w q c ∷ h) top ok never le = licensed s h top ok.1 never.1 le
licensed s (Stop w q ∷ h) top ok never le = licensed s h top ok.1 never.1 le
licensed s (End w q ∷ h) top ok never le = licensed s h top ok.1 never.1 le

pub is_licensed : (s : Setting) (es : List Entry) → AllByRecursion Fits es → AllMayFollow s (past es) → NeverFalls (past es) → IsLicensed (past es)
is_licensed s es fit ok never = licensed s (past es) (2 ^ 64 - 1) ok never (last_fits (past es) (fit_past es fit))

pub taken_licensed : (s : Setting) (es : List Entry) (i : ℕ) → AllByRecursion Fits es → AllMayFollow s (past (take i es)) → NeverFalls (past (take i es)) → IsLicensed (past (take i es))
taken_licensed s es i fit ok never = is_licensed s (take i es) (fit_taken es i fit) ok never

within : (h : History) (top : ℕ) → Licensed false 0 top h → NeverFalls h × (last_fault 0 h ≤ top)
within [] top k = (tt, k)
within (Failed w q p (Fault b a) ∷ h) top k = let r = within h b k.2 in ((r.1, r.0), k.0)
within (Failed w q p (Damage i) ∷ h) top k = let r = within h top k.1 in ((tt, r.0), r.1)
within (Register w q ∷ h) top k = let r = within h top k in ((tt, r.0), r.1)
within (Plan w q c ∷ h) top k = let r = within h top k in ((tt, r.0), r.1)
within (Evict w c ∷ h) top k = let r = within h top k in ((tt, r.0), r.1)
within (Fill w f p ∷ h) top k = let r = within h top k in ((tt, r.0), r.1)
within (Filled w f p ∷ h) top k = let r = within h top k in ((tt, r.0), r.1)
within (Deliver w q c ∷ h) top k = let r = within h top k in ((tt, r.0), r.1)
within (Release w q c ∷ h) top k = let r = within h top k in ((tt, r.0), r.1)
within (Stop w q ∷ h) top k = let r = within h top k in ((tt, r.0), r.1)
within (End w q ∷ h) top k = let r = within h top k in ((tt, r.0), r.1)

pub licensed_never : (h : History) → IsLicensed h → NeverFalls h
licensed_never h k = (within h (2 ^ 64 - 1) k).0
