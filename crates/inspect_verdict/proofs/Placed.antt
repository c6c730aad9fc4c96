-- At which line of an output an entry stands.
use Rattle.std.proofs.Common.{◌≡◌, ◌∙◌, ◌≤◌, ◌<◌, ◌+◌, ◌-◌, ◌∷◌, [], ◌++◌, ℕ, zero, suc, List, append_assoc, append-nil, length, take, drop, refl, sym, ap, subst, arith}
use Rattle.std.specs.List.{AllByRecursion}
use Rattle.std.proofs.lemmas.List.{length-take-le}
use Rattle.story_text.specs.Reading.{Fits, IsFirstBad}
use Rattle.story_text.specs.Text.{entry_text, story_text}
use Rattle.scan_story.specs.declared.entry.Entry.{Entry}
use Rattle.inspect_verdict.specs.Ends.{BeginsAtLine, EndsWith}
use Rattle.inspect_verdict.proofs.PartLines.{end_within, line_within, lines_down}
use Rattle.run_inputs.specs.declared.inputs.Inputs.{Inputs}
use Rattle.inspect_verdict.specs.Reading.{IsTrace}
use Rattle.inspect_verdict.specs.Verdict.{HasNoEntryAt}
use Rattle.inspect_verdict.proofs.VerdictLines.{entries_few}

pub no_entry_at : (i : Inputs) (out trace : List ℕ) (first n line : ℕ) → IsTrace i out trace → BeginsAtLine out trace first → IsFirstBad trace n → line ≡ first + n - 1 → HasNoEntryAt i out line
no_entry_at i out trace first n line whole at bad is =
    let From = λ (l : List ℕ). BeginsAtLine out l first in
    let Is = λ (l : List ℕ). IsTrace i out l in
    let down = lines_down out bad.entries bad.rest first bad.fit (subst From bad.joined at) in
    let same : first + length bad.entries ≡ line = omega (arith, is, bad.number) in
    record {
      entries = bad.entries;
      rest = bad.rest;
      fit = bad.fit;
      trace = subst Is bad.joined whole;
      bad = bad.bad;
      at_line = subst (λ (k : ℕ). BeginsAtLine out bad.rest k) same down;
    }

pub line_low : (out : List ℕ) (es : List Entry) (first place : ℕ) → BeginsAtLine out (story_text es) first → place < length es → first + place ≤ length out + length out + 1
line_low out es first place at low =
    let end : EndsWith out (story_text es) = record { before = at.before; joined = at.joined } in
    omega (arith, low, line_within out (story_text es) first at, end_within out (story_text es) end, entries_few es)

parted : (n : ℕ) (es : List Entry) → story_text es ≡ story_text (take n es) ++ story_text (drop n es)
parted zero es = refl
parted (suc n) [] = refl
parted (suc n) (e ∷ es) = ap (λ (l : List ℕ). (entry_text e ++ 10 ∷ []) ++ l) (parted n es) ∙ sym (append_assoc (entry_text e ++ 10 ∷ []) (story_text (take n es)) (story_text (drop n es)))

front_fits : (n : ℕ) (es : List Entry) → AllByRecursion Fits es → AllByRecursion Fits (take n es)
front_fits zero es fit = tt
front_fits (suc n) [] fit = tt
front_fits (suc n) (e ∷ es) fit = (fit.0, front_fits n es fit.1)

pub entry_at : (out : List ℕ) (es : List Entry) (first place : ℕ) → AllByRecursion Fits es → place < length es → BeginsAtLine out (story_text es) first → BeginsAtLine out (story_text (drop place es)) (first + place)
entry_at out es first place fit low at =
    let From = λ (l : List ℕ). BeginsAtLine out l first in
    let At = λ (k : ℕ). BeginsAtLine out (story_text (drop place es)) k in
    let down = lines_down out (take place es) (story_text (drop place es)) first (front_fits place es fit) (subst From (parted place es) at) in
    let same : first + length (take place es) ≡ first + place = ap (λ (k : ℕ). first + k) (length-take-le place es (omega (arith, low))) in
    subst At same down

pub end_low : (out : List ℕ) (es : List Entry) (first : ℕ) → BeginsAtLine out (story_text es) first → first + length es ≤ length out + length out + 1
end_low out es first at =
    let end : EndsWith out (story_text es) = record { before = at.before; joined = at.joined } in
    omega (arith, line_within out (story_text es) first at, end_within out (story_text es) end, entries_few es)

-- behind a story the text ends
pub end_at : (out : List ℕ) (es : List Entry) (first : ℕ) → AllByRecursion Fits es → BeginsAtLine out (story_text es) first → BeginsAtLine out [] (first + length es)
end_at out es first fit at = lines_down out es [] first fit (subst (λ (l : List ℕ). BeginsAtLine out l first) (sym (append-nil (story_text es))) at)
