-- From what a referee knows to what is said of the story.
use Rattle.std.proofs.Common.{◌≡◌, ◌↔◌, ◌<◌, ◌≤◌, ◌+◌, ◌∷◌, [], ◌++◌, ℕ, Bool, List, Some, IsTrue, length, take, drop, get_or, sym, ◌∙◌, ap, subst, arith}
use Rattle.std.proofs.lemmas.List.{reverse-append, take_more, take_all, take-append-drop, length-take-le, append_assoc}
use Rattle.scan_story.specs.declared.entry.Entry.{Entry}
use Rattle.scan_story.specs.declared.entry.Entry.TheVariants.{Register}
use Rattle.scan_story.specs.declared.setting.Setting.{Setting}
use Rattle.scan_story.specs.Views.{History, past}
use Rattle.scan_story.specs.Whole.{IsWhole}
use Rattle.inspect_referee.specs.declared.choices.Choices.{Choices}
use Rattle.inspect_referee.specs.declared.ruling.Reason.{Reason}
use Rattle.inspect_referee.specs.declared.referee.Referee.{Referee}
use Rattle.inspect_referee.specs.declared.terms.Terms.{Terms}
use Rattle.inspect_referee.specs.Choices.{LegalBy}
use Rattle.inspect_referee.specs.Ruling.{IsFirstIllegalBy, IsReasonBy, IsRefusedBy}
use Rattle.inspect_referee.specs.Seen.{IsReading, setting, seen}
use Rattle.inspect_referee.specs.Terms.{setting_of}
use Rattle.inspect_referee.proofs.Barring.{refused}
use Rattle.inspect_referee.proofs.Taking.{legal_last}

-- what is so of a referee's choices, terms and place is so of those that it was given
pub moved : (P : Choices → Terms → List Entry → ℕ → Type 0) (r : Referee) (choices : Choices) (t : Terms) (es : List Entry) (i : ℕ) → r.choices ≡ choices → r.terms.now ≡ t → r.entries.now ≡ es → r.place ≡ i
    → P r.choices r.terms.now r.entries.now r.place → P choices t es i
moved P r choices t es i taken terms entries place k =
    let zero : P choices r.terms.now r.entries.now r.place = subst (λ (c : Choices). P c r.terms.now r.entries.now r.place) taken k in
    let one : P choices t r.entries.now r.place = subst (λ (u : Terms). P choices u r.entries.now r.place) terms zero in
    let two : P choices t es r.place = subst (λ (xs : List Entry). P choices t xs r.place) entries one in
    subst (λ (n : ℕ). P choices t es n) place two

pub past_more : (es : List Entry) (i : ℕ) → i < length es → past (take (i + 1) es) ≡ get_or es i (Register 0 0) ∷ past (take i es)
past_more es i lt = ap past (take_more es i (Register 0 0) lt) ∙ reverse-append (take i es) (get_or es i (Register 0 0) ∷ [])

parts : (es : List Entry) (i : ℕ) → i < length es → es ≡ take i es ++ get_or es i (Register 0 0) ∷ drop (i + 1) es
parts es i lt =
    sym (take-append-drop (i + 1) es) ∙ (ap (λ (xs : List Entry). xs ++ drop (i + 1) es) (take_more es i (Register 0 0) lt)
    ∙ append_assoc (take i es) (get_or es i (Register 0 0) ∷ []) (drop (i + 1) es))

pub prefix : (choices : Choices) (s : Setting) (later h : History) → LegalBy choices s (later ++ h) → LegalBy choices s h
prefix choices s [] h legal = legal
prefix choices s (e ∷ later) h legal = prefix choices s later h (legal_last choices s (later ++ h) e legal).2

-- where a reason stands against an entry of the story

pub refused_at : (choices : Choices) (s : Setting) (es : List Entry) (i : ℕ) (reason : Reason) → i < length es → LegalBy choices s (past (take i es))
    → IsReasonBy choices s (past (take i es)) (get_or es i (Register 0 0)) reason → IsRefusedBy choices s es i reason
refused_at choices s es i reason lt legal says = record {
  before = take i es;
  entry = get_or es i (Register 0 0);
  after = drop (i + 1) es;
  parts = parts es i lt;
  at_place = length-take-le i es (omega (arith, lt));
  legal = legal;
  is_reason = says;
}

not_with : (choices : Choices) (s : Setting) (es : List Entry) (i : ℕ) (reason : Reason) → i < length es
    → IsReasonBy choices s (past (take i es)) (get_or es i (Register 0 0)) reason → LegalBy choices s (past (take (i + 1) es)) → ⊥
not_with choices s es i reason lt says bad =
    let e = get_or es i (Register 0 0) in
    let h = past (take i es) in
    let k : LegalBy choices s (e ∷ h) = subst (λ (j : History). LegalBy choices s j) (past_more es i lt) bad in
    let last = legal_last choices s h e k in
    refused choices s h e reason says last.0 last.1

pub first_at : (choices : Choices) (s : Setting) (es : List Entry) (i : ℕ) (reason : Reason) → i < length es → LegalBy choices s (past (take i es))
    → IsReasonBy choices s (past (take i es)) (get_or es i (Register 0 0)) reason → IsFirstIllegalBy choices s es (Some i)
first_at choices s es i reason lt legal says = (lt, legal, not_with choices s es i reason lt says)

pub never_legal : (choices : Choices) (s : Setting) (es : List Entry) (i : ℕ) (reason : Reason) → i < length es
    → IsReasonBy choices s (past (take i es)) (get_or es i (Register 0 0)) reason → LegalBy choices s (past es) → ⊥
never_legal choices s es i reason lt says legal =
    let split : past es ≡ past (drop (i + 1) es) ++ past (take (i + 1) es) = sym (ap past (take-append-drop (i + 1) es)) ∙ reverse-append (take (i + 1) es) (drop (i + 1) es) in
    not_with choices s es i reason lt says (prefix choices s (past (drop (i + 1) es)) (past (take (i + 1) es)) (subst (λ (h : History). LegalBy choices s h) split legal))

pub whole_story : (choices : Choices) (s : Setting) (es : List Entry) (i : ℕ) → length es ≤ i → LegalBy choices s (past (take i es)) → LegalBy choices s (past es)
whole_story choices s es i le k = subst (λ (xs : List Entry). LegalBy choices s (past xs)) (take_all i es le) k

-- what a referee says against the entry at its place, said of the story
pub against : (r : Referee) (choices : Choices) (t : Terms) (es : List Entry) (i : ℕ) (e : Entry) (reason : Reason) → r.choices ≡ choices → r.terms.now ≡ t → r.entries.now ≡ es → r.place ≡ i
    → IsReading r → IsReasonBy r.choices (setting r) (seen r) e reason → LegalBy choices (setting_of t) (past (take i es)) × IsReasonBy choices (setting_of t) (past (take i es)) e reason
against r choices t es i e reason taken terms entries place k says =
    let P : Choices → Terms → List Entry → ℕ → Type 0 = λ c u xs j. LegalBy c (setting_of u) (past (take j xs)) × IsReasonBy c (setting_of u) (past (take j xs)) e reason in
    moved P r choices t es i taken terms entries place (k.legal, says)

-- what is known of all entries is known of the story

pub legal_at_end : (r : Referee) (choices : Choices) (t : Terms) (es : List Entry) (i : ℕ) → r.choices ≡ choices → r.terms.now ≡ t → r.entries.now ≡ es → r.place ≡ i → IsReading r → length es ≤ i
    → LegalBy choices (setting_of t) (past es)
legal_at_end r choices t es i taken terms entries place k le =
    let P : Choices → Terms → List Entry → ℕ → Type 0 = λ c u xs j. LegalBy c (setting_of u) (past (take j xs)) in
    whole_story choices (setting_of t) es i le (moved P r choices t es i taken terms entries place k.legal)

pub whole_at_end : (b : Bool) (r : Referee) (choices : Choices) (t : Terms) (es : List Entry) (i : ℕ) → r.choices ≡ choices → r.terms.now ≡ t → r.entries.now ≡ es → r.place ≡ i
    → (IsTrue b ↔ IsWhole (setting r) (seen r)) → length es ≤ i → IsTrue b ↔ IsWhole (setting_of t) (past es)
whole_at_end b r choices t es i taken terms entries place k le =
    let P : Choices → Terms → List Entry → ℕ → Type 0 = λ c u xs j. IsTrue b ↔ IsWhole (setting_of u) (past (take j xs)) in
    subst (λ (xs : List Entry). IsTrue b ↔ IsWhole (setting_of t) (past xs)) (take_all i es le) (moved P r choices t es i taken terms entries place k)
