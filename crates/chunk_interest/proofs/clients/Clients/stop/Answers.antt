use Rattle.std.proofs.Common.{◌∙◌, ◌∷◌, subst, sym}
use Rattle.scan_story.specs.declared.entry.Entry.TheVariants.{Stop, Failed}
use Rattle.chunk_interest.specs.Clients.{IsClient, AreClients}
use Rattle.chunk_interest.proofs.Following.{clients_set, spares_stop, spares_failed}
use Rattle.chunk_interest.proofs.clients.Clients.stop.Goals as goal

pub returns-clause-stop : goal.returns-clause-stop
returns-clause-stop c = λ s h w are.
    let ks = c.args.self.now in
    let q = c.args.q in
    let is = subst (IsClient s h q) (sym (c.copy-client.ensures ∙ c.of.ensures)) (are q c.requires.there) in
    subst (AreClients s (Stop w q ∷ h)) (sym c.put.ensures) (clients_set s (Stop w q) h ks q c.stop.new.self c.requires.there (λ r ne. spares_stop w q r ne) are (c.stop.ensures.stop s h w q is))

pub returns-clause-failed : goal.returns-clause-failed
returns-clause-failed c = λ s h w p why are.
    let ks = c.args.self.now in
    let q = c.args.q in
    let is = subst (IsClient s h q) (sym (c.copy-client.ensures ∙ c.of.ensures)) (are q c.requires.there) in
    subst (AreClients s (Failed w q p why ∷ h)) (sym c.put.ensures) (clients_set s (Failed w q p why) h ks q c.stop.new.self c.requires.there (λ r ne. spares_failed w q p r why ne) are (c.stop.ensures.failed s h w q p why is))
