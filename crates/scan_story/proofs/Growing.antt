-- Whose entries a longer story has.
use Rattle.std.proofs.Common.{ℕ, ◌≡◌, ◌≢◌, ◌==◌, true, false, List, [], ◌∷◌, ◌++◌, refl, sym, ap, ◌∙◌, arith, append_assoc, subst}
use Rattle.std.proofs.lemmas.List.{append-nil, append_cancel_left}
use Rattle.std.proofs.lemmas.List.Elements.{filter-append}
use Rattle.std.proofs.lemmas.Bool.Decides.{nat_tests}
use Rattle.scan_story.specs.declared.entry.Entry.{Entry}
use Rattle.scan_story.specs.Makers.{maker_of, entries_by, StartsWith, AllBy, Adds}

pub starts_self : (es : List Entry) → StartsWith es es
starts_self es = ([], sym (append-nil es))

pub starts_more : (es begin new : List Entry) → StartsWith es begin → StartsWith (es ++ new) begin
starts_more es begin new p = (p.0 ++ new, ap (λ (l : List Entry). l ++ new) p.1 ∙ append_assoc begin p.0 new)

pub starts_trans : (a b c : List Entry) → StartsWith a b → StartsWith b c → StartsWith a c
starts_trans a b c p q = (q.0 ++ p.0, p.1 ∙ ap (λ (l : List Entry). l ++ p.0) q.1 ∙ append_assoc c q.0 p.0)

-- one's own entries are all kept
pub entries_own : (w : ℕ) (new : List Entry) → AllBy w new → entries_by w new ≡ new
entries_own w [] h = refl
entries_own w (e ∷ es) h =
    let here : (maker_of e == w) ≡ true = let p = h.0 in grind (arith, nat_tests) in
    rw here (ap (λ (l : List Entry). e ∷ l) (entries_own w es h.1))

-- another's entries are left out
pub entries_other : (w u : ℕ) (new : List Entry) → AllBy w new → u ≢ w → entries_by u new ≡ []
entries_other w u [] h n = refl
entries_other w u (e ∷ es) h n =
    let here : (maker_of e == u) ≡ false = let p = h.0 in grind (arith, nat_tests) in
    rw here (entries_other w u es h.1 n)

pub entries_added : (w : ℕ) (es new : List Entry) → AllBy w new → entries_by w (es ++ new) ≡ entries_by w es ++ new
entries_added w es new h = filter-append (λ e. maker_of e == w) es new ∙ ap (λ (l : List Entry). entries_by w es ++ l) (entries_own w new h)

pub entries_kept : (w u : ℕ) (es new : List Entry) → AllBy w new → u ≢ w → entries_by u (es ++ new) ≡ entries_by u es
entries_kept w u es new h n =
    filter-append (λ e. maker_of e == u) es new ∙ (ap (λ (l : List Entry). entries_by u es ++ l) (entries_other w u new h n) ∙ append-nil (entries_by u es))

-- what was added is the new part, and the worker's own entries grow by it
pub adds_mine : (w : ℕ) (before after mine new : List Entry) → Adds w before after → entries_by w before ≡ mine → after ≡ before ++ new → entries_by w after ≡ mine ++ new
adds_mine w before after mine new adds own is =
    let same : new ≡ adds.0 = append_cancel_left before new adds.0 (sym is ∙ adds.1) in
    let all : AllBy w new = subst (AllBy w) (sym same) adds.2 in
    ap (entries_by w) is ∙ (entries_added w before new all ∙ ap (λ (l : List Entry). l ++ new) own)
