use Rattle.std.proofs.Common.{◌∙◌, ◌∷◌, subst, sym}
use Rattle.scan_story.specs.declared.entry.Entry.TheVariants.{End}
use Rattle.chunk_interest.specs.Clients.{IsClient, AreClients}
use Rattle.chunk_interest.proofs.Following.{clients_set, spares_end}
use Rattle.chunk_interest.proofs.clients.Clients.end.Goals as goal

pub returns-clause-follows : goal.returns-clause-follows
returns-clause-follows c = λ s h w going are.
    let ks = c.args.self.now in
    let q = c.args.q in
    let is = subst (IsClient s h q) (sym (c.copy-client.ensures ∙ c.of.ensures)) (are q c.requires.there) in
    subst (AreClients s (End w q ∷ h)) (sym c.put.ensures) (clients_set s (End w q) h ks q c.end.new.self c.requires.there (λ r ne. spares_end w q r ne) are (c.end.ensures.follows s h w q going is))
