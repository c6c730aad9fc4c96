use Rattle.std.proofs.Common.{◌<◌, ◌∙◌, List, length, subst, sym}
use Rattle.std.proofs.lemmas.List.{get_or_default}
use Rattle.chunk_interest.specs.declared.client.Client.{Client}
use Rattle.chunk_interest.specs.Clients.{vacant}
use Rattle.chunk_interest.specs.Renewed.{IsRenewed}
use Rattle.chunk_interest.proofs.Marking.{marks_renewed}
use Rattle.chunk_interest.proofs.clients.Clients.renew_at.Goals as goal

pub invariant_of-self : goal.invariant_of-self
invariant_of-self c =
    let ks = c.self.inside.list.items in
    let old = c.index_mut-client.result.now in
    let new = c.renew.new.self in
    let b = c.args.buffer.now in
    let there = subst (λ (vs : List Client). c.args.q < length vs) (sym c.self.view_is) c.requires.there in
    let same = c.index_mut-client.ensures.value ∙ sym (get_or_default ks c.args.q vacant old there) in
    marks_renewed b.places.items b.groups c.args.q c.args.c ks new c.self.inside.marks c.follow.new.marks there
    (subst (λ (k : Client). IsRenewed b.places.items b.groups c.args.c k new) same c.renew.ensures.renewed) c.follow.ensures c.self.invariant
