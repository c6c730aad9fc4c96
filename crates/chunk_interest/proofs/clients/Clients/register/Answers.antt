use Rattle.std.proofs.Common.{◌∙◌, ◌∷◌, subst, sym}
use Rattle.scan_story.specs.declared.entry.Entry.TheVariants.{Register}
use Rattle.chunk_interest.specs.Clients.{IsClient, AreClients}
use Rattle.chunk_interest.proofs.Following.{clients_set, spares_register}
use Rattle.chunk_interest.proofs.clients.Clients.register.Goals as goal

pub returns-clause-follows : goal.returns-clause-follows
returns-clause-follows c = λ s h w len are.
    let ks = c.args.self.now in
    let q = c.args.q in
    let is = subst (IsClient s h q) (sym (c.copy-client.ensures ∙ c.of.ensures)) (are q c.requires.there) in
    subst (AreClients s (Register w q ∷ h)) (sym c.put.ensures) (clients_set s (Register w q) h ks q c.register.new.self c.requires.there (λ r ne. spares_register w q r ne) are (c.register.ensures.follows s h w q len is))
