use Rattle.std.proofs.Common.{◌≡◌, ◌<◌, ◌∙◌, ℕ, List, length, false, ap, subst, sym, arith, inl, inr}
use Rattle.std.proofs.lemmas.Bool.{cases_Bool}
use Rattle.chunk_interest.specs.declared.client.Client.{Client}
use Rattle.chunk_interest.specs.Clients.{client_at}
use Rattle.chunk_interest.specs.Marked.{is_active, IsNear}
use Rattle.chunk_interest.proofs.Below.{true_false}
use Rattle.chunk_interest.proofs.Marking.{marks_follow, still_nobody}
use Rattle.chunk_interest.proofs.clients.Clients.put.Goals as goal

pub invariant_of-self : goal.invariant_of-self
invariant_of-self c =
    let ks = c.self.inside.list.items in
    let q = c.args.q in
    let there = subst (λ (vs : List Client). q < length vs) (sym c.self.view_is) c.requires.there in
    let near = subst (λ (vs : List Client). IsNear c.args.c (client_at vs q) c.args.new) (sym c.self.view_is) c.requires.near in
    let nobody : q ≡ 0 → is_active c.args.new ≡ false = λ at. elim c.requires.somebody [
      | inl some ↦ absurd (omega (arith, some, at))
      | inr stays ↦ elim (cases_Bool (is_active c.args.new)) [
        | inl so ↦
            (let active = ap (λ (vs : List Client). is_active (client_at vs q)) c.self.view_is ∙ stays so in
            absurd (true_false (is_active (client_at ks 0)) (ap (λ (n : ℕ). is_active (client_at ks n)) (sym at) ∙ active) c.self.invariant.nobody))
        | inr not ↦ not
      ]
    ] in
    marks_follow ks q c.args.c c.args.new c.self.inside.marks c.follow.new.marks there (still_nobody ks q c.args.new there c.self.invariant.nobody nobody) near c.follow.ensures c.self.invariant
