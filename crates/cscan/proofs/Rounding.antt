-- Rounds of a scan, one after another.
use Rattle.std.proofs.Common.{◌≡◌, ◌==◌, ◌++◌, ◌∷◌, [], ℕ, List, append_assoc, refl, sym, ap, ◌∙◌, subst}
use Rattle.std.proofs.lemmas.List.{append-nil}
use Rattle.scan_story.specs.declared.cause.Cause.{Cause}
use Rattle.scan_story.specs.declared.entry.Entry.{Entry}
use Rattle.scan_story.specs.declared.entry.Entry.TheVariants.{Deliver, End}
use Rattle.scan_story.specs.declared.setting.Setting.{Setting}
use Rattle.scan_story.specs.Counting.{has}
use Rattle.story_laws.specs.Queries.{chunks_delivered}
use Rattle.story_laws.proofs.Bools.{if_here, self_number}
use Rattle.story_laws.proofs.Delivering.{delivered_append}
use Rattle.baton.specs.Passes.{PassView, Went}
use Rattle.baton.proofs.Turns.{went_on}
use Rattle.cscan.specs.Answers.{AreOfLoads, Ends, FindsStopped, TakesChunk}
use Rattle.cscan.specs.Rounds.{GoesOn}
use Rattle.cscan.proofs.Stories.{loads_append, loads_deliver_none}

-- what was delivered, with these entries besides
delivered_more : (q : ℕ) (p r : PassView) (loads last : List Entry) → AreOfLoads loads → Went p r (loads ++ last) → chunks_delivered r.mine q ≡ chunks_delivered p.mine q ++ chunks_delivered last q
delivered_more q p r loads last only went =
    ap (λ (l : List Entry). chunks_delivered l q) went.mine
    ∙ (delivered_append q p.mine (loads ++ last)
    ∙ ap (λ (l : List ℕ). chunks_delivered p.mine q ++ l) (delivered_append q loads last ∙ ap (λ (l : List ℕ). l ++ chunks_delivered last q) (loads_deliver_none q loads only)))

pub delivered_chunk : (w q c : ℕ) (p r : PassView) (loads : List Entry) → AreOfLoads loads → Went p r (loads ++ Deliver w q c ∷ []) → chunks_delivered r.mine q ≡ chunks_delivered p.mine q ++ c ∷ []
delivered_chunk w q c p r loads only went =
    delivered_more q p r loads (Deliver w q c ∷ []) only went ∙ ap (λ (l : List ℕ). chunks_delivered p.mine q ++ l) (if_here (q == q) (c ∷ []) [] (self_number q))

pub delivered_nothing : (q : ℕ) (p r : PassView) (loads last : List Entry) → AreOfLoads loads → Went p r (loads ++ last) → chunks_delivered last q ≡ [] → chunks_delivered r.mine q ≡ chunks_delivered p.mine q
delivered_nothing q p r loads last only went none =
    delivered_more q p r loads last only went ∙ (ap (λ (l : List ℕ). chunks_delivered p.mine q ++ l) none ∙ append-nil (chunks_delivered p.mine q))

-- loads deliver nothing
loads_deliver : (q : ℕ) (p r : PassView) (loads : List Entry) → AreOfLoads loads → Went p r loads → chunks_delivered r.mine q ≡ chunks_delivered p.mine q
loads_deliver q p r loads only went = delivered_nothing q p r loads [] only (subst (Went p r) (sym (append-nil loads)) went) refl

-- entries of loads first
went_both : (p r t : PassView) (a b last : List Entry) → Went p r a → Went r t (b ++ last) → Went p t ((a ++ b) ++ last)
went_both p r t a b last first second = subst (Went p t) (sym (append_assoc a b last)) (went_on p r t a (b ++ last) first second)

pub go_on : (s : Setting) (w q : ℕ) (p r t : PassView) → GoesOn s w q p r → GoesOn s w q r t → GoesOn s w q p t
go_on s w q p r t a b = record {
  loads = a.loads ++ b.loads;
  only_loads = loads_append a.loads b.loads a.only_loads b.only_loads;
  went = went_on p r t a.loads b.loads a.went b.went;
  legal = b.legal;
  may = b.may;
}

pub then_takes : (s : Setting) (w q c : ℕ) (p r t : PassView) → GoesOn s w q p r → TakesChunk s w q r t c → TakesChunk s w q p t c
then_takes s w q c p r t a b =
    let only = loads_append a.loads b.loads a.only_loads b.only_loads in
    let went = went_both p r t a.loads b.loads (Deliver w q c ∷ []) a.went b.went in
    record {
      loads = a.loads ++ b.loads;
      only_loads = only;
      went = went;
      before = b.before;
      seen = b.seen;
      ready = b.ready;
      fresh = ap (λ (l : List ℕ). has l c) (sym (loads_deliver q p r a.loads a.only_loads a.went)) ∙ b.fresh;
      taken = delivered_chunk w q c p t (a.loads ++ b.loads) only went;
    }

pub then_ends : (s : Setting) (w q : ℕ) (p r t : PassView) → GoesOn s w q p r → Ends s w q r t → Ends s w q p t
then_ends s w q p r t a b =
    let only = loads_append a.loads b.loads a.only_loads b.only_loads in
    let went = went_both p r t a.loads b.loads (End w q ∷ []) a.went b.went in
    record {
      loads = a.loads ++ b.loads;
      only_loads = only;
      went = went;
      before = b.before;
      seen = b.seen;
      not_stopped = b.not_stopped;
      needs_nothing = b.needs_nothing;
      taken = delivered_nothing q p t (a.loads ++ b.loads) (End w q ∷ []) only went refl;
    }

pub then_stopped : (s : Setting) (w q : ℕ) (p r t : PassView) (cause : Cause) → GoesOn s w q p r → FindsStopped q r t cause → FindsStopped q p t cause
then_stopped s w q p r t cause a b =
    let loads = a.loads ++ b.loads in
    let only = loads_append a.loads b.loads a.only_loads b.only_loads in
    let went = went_on p r t a.loads b.loads a.went b.went in
    record { loads = loads; only_loads = only; went = went; first = b.first; taken = loads_deliver q p t loads only went }
