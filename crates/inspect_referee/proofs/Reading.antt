-- A referee that reads one entry more.
use Rattle.std.proofs.Common.{◌≡◌, ◌<◌, ◌+◌, ◌-◌, ◌^◌, ◌∷◌, ℕ, List, length, take, get_or, sym, ◌∙◌, ap, subst, arith}
use Rattle.std.proofs.lemmas.List.{length-reverse, length-take-le}
use Rattle.scan_story.specs.declared.entry.Entry.{Entry}
use Rattle.scan_story.specs.declared.entry.Entry.TheVariants.{Register, Plan, Evict, Fill, Filled, Failed, Deliver, Release, Stop, End}
use Rattle.scan_story.specs.declared.setting.Setting.{Setting}
use Rattle.scan_story.specs.Views.{History, past}
use Rattle.scan_story.specs.Loads.{underway}
use Rattle.scan_story.specs.MayFollow.{Allowed}
use Rattle.scan_story.specs.Legal.{cursor_at}
use Rattle.interest_book.specs.declared.book.Book.{Book}
use Rattle.interest_book.specs.Held.{AreHolds}
use Rattle.interest_book.specs.Stands.{MayFollow, Stands}
use Rattle.interest_book.proofs.Inside.{deliver_inside, release_inside}
use Rattle.inspect_referee.specs.declared.choices.Choices.{Choices}
use Rattle.inspect_referee.specs.declared.referee.Referee.{Referee}
use Rattle.inspect_referee.specs.Choices.{IsTaken, LegalBy}
use Rattle.inspect_referee.specs.Seen.{IsReading, holds_within, seen, setting}
use Rattle.inspect_referee.specs.Terms.{setting_of}
use Rattle.inspect_referee.proofs.Judged.{past_more}
use Rattle.inspect_referee.proofs.Taking.{legal_next}

-- the entry that comes next
abbrev pub next_of : Referee → Entry
next_of r = get_or r.entries.now r.place (Register 0 0)

pub may_note : (r : Referee) → IsReading r → r.place < length r.entries.now → Allowed (setting r) (seen r) (next_of r) → MayFollow r.book (next_of r)
may_note r k lt may =
    let size : length (seen r) ≡ r.place = length-reverse (take r.place r.entries.now) ∙ length-take-le r.place r.entries.now k.within in
    let short = k.short in
    record {
      setting = setting r;
      history = seen r;
      stands = k.stands;
      allowed = may;
      short = subst (λ (n : ℕ). n < 2 ^ 63 - 1) (sym size) (omega (arith, lt, short));
    }

pub holder_within : (b : Book) (e : Entry) (n : ℕ) → n ≡ 32 → MayFollow b e → holds_within n e
holder_within b (Deliver w q c) n len may = subst (λ (k : ℕ). w < k) (sym len) (deliver_inside b w q c may).0
holder_within b (Release w q c) n len may = subst (λ (k : ℕ). w < k) (sym len) (release_inside b w q c may).0
holder_within b (Register w q) n len may = tt
holder_within b (Plan w q c) n len may = tt
holder_within b (Evict w c) n len may = tt
holder_within b (Fill w f p) n len may = tt
holder_within b (Filled w f p) n len may = tt
holder_within b (Failed w q p why) n len may = tt
holder_within b (Stop w q) n len may = tt
holder_within b (End w q) n len may = tt

carried : (P : Setting → History → Type 0) (s t : Setting) (h k : History) → s ≡ t → h ≡ k → P t k → P s h
carried P s t h k same also p = subst (λ (u : Setting). P u h) (sym same) (subst (λ (j : History). P t j) (sym also) p)

pub read_on : (r n : Referee) → IsReading r → n.choices ≡ r.choices → n.terms.now ≡ r.terms.now → n.entries.now ≡ r.entries.now → n.place ≡ r.place + 1 → r.place < length r.entries.now
    → Allowed (setting r) (seen r) (next_of r) → IsTaken r.choices (setting r) (seen r) (next_of r)
    → Stands n.book (setting r) (next_of r ∷ seen r) → n.load ≡ underway (setting r) (next_of r ∷ seen r) → length n.holds.items ≡ 32 → AreHolds (next_of r ∷ seen r) n.holds.items
    → n.cursor.items ≡ cursor_at (setting r) (next_of r ∷ seen r) → IsReading n
read_on r n k choices terms entries place lt may taken stands load workers holds cursor =
    let s : setting n ≡ setting r = ap setting_of terms in
    let size : length n.entries.now ≡ length r.entries.now = ap (λ (es : List Entry). length es) entries in
    let short = k.short in
    let one : seen n ≡ past (take n.place r.entries.now) = ap (λ (es : List Entry). past (take n.place es)) entries in
    let two : past (take n.place r.entries.now) ≡ past (take (r.place + 1) r.entries.now) = ap (λ (i : ℕ). past (take i r.entries.now)) place in
    let h : seen n ≡ next_of r ∷ seen r = one ∙ (two ∙ past_more r.entries.now r.place lt) in
    record {
      within = omega (arith, size, place, lt);
      short = omega (arith, size, short);
      legal = carried (λ t j. LegalBy n.choices t j) (setting n) (setting r) (seen n) (next_of r ∷ seen r) s h
          (subst (λ (c : Choices). LegalBy c (setting r) (next_of r ∷ seen r)) (sym choices) (legal_next r.choices (setting r) (seen r) (next_of r) may taken k.legal));
      stands = carried (λ t j. Stands n.book t j) (setting n) (setting r) (seen n) (next_of r ∷ seen r) s h stands;
      load = carried (λ t j. n.load ≡ underway t j) (setting n) (setting r) (seen n) (next_of r ∷ seen r) s h load;
      workers = workers;
      holds = subst (λ (j : History). AreHolds j n.holds.items) (sym h) holds;
      cursor = carried (λ t j. n.cursor.items ≡ cursor_at t j) (setting n) (setting r) (seen n) (next_of r ∷ seen r) s h cursor;
    }
