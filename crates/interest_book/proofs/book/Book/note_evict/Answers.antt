use Rattle.std.proofs.Common.{◌∷◌, arith}
use Rattle.scan_story.specs.declared.entry.Entry.TheVariants.{Evict}
use Rattle.chunk_interest.specs.Clients.{AreClients, AreReady}
use Rattle.chunk_interest.proofs.Kept.{victim_inside}
use Rattle.chunk_interest.proofs.Following.{clients_on, spares_evict}
use Rattle.interest_book.proofs.Renewing.{all_renewed, all_renewed_ready, evict_leaves}
use Rattle.interest_book.proofs.book.Book.note_evict.Goals as goal

pub returns : goal.returns
returns c = λ s h w st may.
    let b = c.args.self.now in
    let d = c.args.chunk in
    let buffer = c.evict.ensures s h w st.setting st.followed may (victim_inside s h d may.victim) st.buffer in
    let size = c.renew.ensures.length in
    let new = c.evict.new.self in
    let renewed = c.renew.ensures.each in
    let clients : AreClients s (Evict w d ∷ h) c.renew.new.self = all_renewed s (Evict w d ∷ h) new.groups d new.places.items b.clients c.renew.new.self size renewed
    (clients_on s (Evict w d) h b.clients (spares_evict w d) st.clients) in
    let ready : AreReady s (Evict w d ∷ h) c.renew.new.self = all_renewed_ready s (Evict w d) h d new.groups new.frames new.places.items new.begun.items b.clients c.renew.new.self st.setting
    (evict_leaves s h w d) (spares_evict w d) (c.requires.chunk) buffer size renewed st.clients st.ready in
    record {
      setting = st.setting;
      followed = (may, st.followed);
      needs = st.needs;
      chunks = st.chunks;
      workers = st.workers;
      noted = omega (arith, st.noted);
      clients = clients;
      ready = ready;
      buffer = buffer;
      holds = st.holds;
      sharers = st.sharers;
      loading = st.loading;
    }
