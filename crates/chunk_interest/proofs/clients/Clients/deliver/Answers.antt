use Rattle.std.proofs.Common.{◌∙◌, ◌∷◌, subst, sym}
use Rattle.scan_story.specs.declared.entry.Entry.TheVariants.{Deliver}
use Rattle.chunk_interest.specs.Clients.{IsClient, AreClients}
use Rattle.chunk_interest.proofs.Following.{clients_set, spares_deliver}
use Rattle.chunk_interest.proofs.clients.Clients.deliver.Goals as goal

pub returns-clause-follows : goal.returns-clause-follows
returns-clause-follows c = λ s h w are.
    let ks = c.args.self.now in
    let q = c.args.q in
    let is = subst (IsClient s h q) (sym (c.copy-client.ensures ∙ c.of.ensures)) (are q c.requires.there) in
    subst (AreClients s (Deliver w q c.args.c ∷ h)) (sym c.put.ensures) (clients_set s (Deliver w q c.args.c) h ks q c.deliver.new.self c.requires.there (λ r ne. spares_deliver w q c.args.c r ne) are (c.deliver.ensures.follows s h w q is))
