use Rattle.std.proofs.Common.{◌≡◌, ◌/◌, ◌∷◌, arith, sym, ap, ◌∙◌, ℕ, is_none}
use Rattle.scan_story.specs.declared.entry.Entry.TheVariants.{Filled}
use Rattle.scan_story.specs.Loads.{underway}
use Rattle.chunk_interest.specs.Clients.{AreClients, AreReady}
use Rattle.interest_book.specs.Loading.{after_fill}
use Rattle.chunk_interest.proofs.Kept.{keeps}
use Rattle.chunk_interest.proofs.Following.{clients_on, spares_filled}
use Rattle.interest_book.proofs.Renewing.{all_renewed, all_renewed_ready, filled_leaves}
use Rattle.interest_book.proofs.KeptLoad.{fill_follows, none_mapped, over_is}
use Rattle.interest_book.proofs.book.Book.note_filled.Goals as goal

pub returns : goal.returns
returns c = λ s h w st may.
    let b = c.args.self.now in
    let f = c.args.frame in
    let p = c.args.piece in
    let k = keeps s h st.setting st.followed in
    let d = p / b.buffer.groups in
    let loading = c.after_fill-loading.ensures ∙ (ap after_fill st.loading ∙ fill_follows s h w f p may k) in
    let last : is_none (underway s (Filled w f p ∷ h)) ≡ c.is_none.result = sym (none_mapped (underway s (Filled w f p ∷ h))) ∙ (sym (ap is_none loading) ∙ over_is c.after_fill-loading.result c.is_none.result c.is_none.ensures) in
    let buffer = c.finish.ensures.follows s h w st.setting st.followed may last st.buffer in
    let size = c.renew.ensures.length in
    let new = c.finish.new.self in
    let renewed = c.renew.ensures.each in
    let clients : AreClients s (Filled w f p ∷ h) c.renew.new.self = all_renewed s (Filled w f p ∷ h) new.groups d new.places.items b.clients c.renew.new.self size renewed
    (clients_on s (Filled w f p) h b.clients (spares_filled w f p) st.clients) in
    let ready : AreReady s (Filled w f p ∷ h) c.renew.new.self = all_renewed_ready s (Filled w f p) h d new.groups new.frames new.places.items new.begun.items b.clients c.renew.new.self st.setting
    (filled_leaves s h w f p d may k (ap (λ (n : ℕ). p / n) (sym st.buffer.groups))) (spares_filled w f p) (c.requires.piece) buffer size renewed st.clients st.ready in
    record {
      setting = st.setting;
      followed = (may, st.followed);
      needs = st.needs;
      chunks = st.chunks;
      workers = st.workers;
      noted = omega (arith, st.noted);
      clients = clients;
      ready = ready;
      buffer = buffer;
      holds = st.holds;
      sharers = st.sharers;
      loading = loading;
    }
