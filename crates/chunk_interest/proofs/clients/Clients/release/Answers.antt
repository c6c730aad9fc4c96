use Rattle.std.proofs.Common.{◌∙◌, ◌∷◌, subst, sym}
use Rattle.scan_story.specs.declared.entry.Entry.TheVariants.{Release}
use Rattle.chunk_interest.specs.Clients.{IsClient, AreClients}
use Rattle.chunk_interest.proofs.Following.{clients_set, spares_release}
use Rattle.chunk_interest.proofs.clients.Clients.release.Goals as goal

pub returns-clause-follows : goal.returns-clause-follows
returns-clause-follows c = λ s h w d len are.
    let ks = c.args.self.now in
    let q = c.args.q in
    let is = subst (IsClient s h q) (sym (c.copy-client.ensures ∙ c.of.ensures)) (are q c.requires.there) in
    subst (AreClients s (Release w q d ∷ h)) (sym c.put.ensures) (clients_set s (Release w q d) h ks q c.release.new.self c.requires.there (λ r ne. spares_release w q d r ne) are (c.release.ensures.follows s h w q d len is))
