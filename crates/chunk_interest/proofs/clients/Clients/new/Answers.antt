use Rattle.std.proofs.Common.{◌≡◌, ◌∙◌, ℕ, List, [], length, false, ap, subst, sym, arith, inl, inr}
use Rattle.std.proofs.lemmas.Bool.{cases_lt}
use Rattle.std.proofs.lemmas.List.{with_items_is, get_or_past}
use Rattle.chunk_interest.specs.declared.client.Client.{Client}
use Rattle.chunk_interest.specs.Clients.{client_at, vacant, is_active_phase}
use Rattle.chunk_interest.specs.Fresh.{AreFresh}
use Rattle.chunk_interest.specs.Marked.{is_active, is_over, is_over_phase, AreMarks, BeginsMarks}
use Rattle.chunk_interest.proofs.Marking.{marks_begin}
use Rattle.chunk_interest.proofs.clients.Clients.new.Goals as goal

pub new-requires : goal.new-requires
new-requires c =
    let ks = c.take_needs.new.clients in
    let size : length ks ≡ 257 = c.take_needs.ensures.length ∙ (ap length c.deref_mut.ensures.value ∙ c.in_ok-list.ensures.length) in
    ap length (c.deref.ensures.value ∙ with_items_is c.in_ok-list.list ks (omega arith)) ∙ size

pub invariant_of-result : goal.invariant_of-result
invariant_of-result c =
    let ks = c.take_needs.new.clients in
    let size : length ks ≡ 257 = c.take_needs.ensures.length ∙ (ap length c.deref_mut.ensures.value ∙ c.in_ok-list.ensures.length) in
    let before : length c.deref_mut.result.now ≡ 257 = ap length c.deref_mut.ensures.value ∙ c.in_ok-list.ensures.length in
    let written = with_items_is c.in_ok-list.list ks (omega arith) in
    let none : (q : ℕ) → is_active (client_at ks q) ≡ false = λ q. elim (cases_lt q 257) [
      | inl lt ↦ ap is_active_phase (c.take_needs.ensures.each q (omega (arith, lt, before))).phase
      | inr le ↦ ap is_active (get_or_past ks q vacant (omega (arith, le, size)))
    ] in
    let goes : (q : ℕ) → is_over (client_at ks q) ≡ false = λ q. elim (cases_lt q 257) [
      | inl lt ↦ ap is_over_phase (c.take_needs.ensures.each q (omega (arith, lt, before))).phase
      | inr le ↦ ap is_over (get_or_past ks q vacant (omega (arith, le, size)))
    ] in
    let empty : (q : ℕ) → (client_at ks q).available ≡ [] = λ q. elim (cases_lt q 257) [
      | inl lt ↦ (c.take_needs.ensures.each q (omega (arith, lt, before))).available
      | inr le ↦ ap (λ (k : Client). k.available) (get_or_past ks q vacant (omega (arith, le, size)))
    ] in
    subst (λ (vs : List Client). AreMarks vs c.in_ok-marks.marks) (sym written)
    (marks_begin ks c.in_ok-marks.marks size none goes empty (subst (λ (vs : List Client). BeginsMarks vs c.in_ok-marks.marks) (c.deref.ensures.value ∙ written) c.in_ok-marks.ensures))

pub returns-clause-each : goal.returns-clause-each
returns-clause-each c =
    let ks = c.take_needs.new.clients in
    let before : length c.deref_mut.result.now ≡ 257 = ap length c.deref_mut.ensures.value ∙ c.in_ok-list.ensures.length in
    subst (λ (vs : List Client). AreFresh c.args.groups c.args.needs.now vs 257) (sym (with_items_is c.in_ok-list.list ks (omega arith)))
    (subst (λ (n : ℕ). AreFresh c.args.groups c.args.needs.now ks n) before c.take_needs.ensures.each)
