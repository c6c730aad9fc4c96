use Rattle.std.proofs.Common.{arith, sym, ◌∙◌}
use Rattle.scan_story.specs.declared.entry.Entry.TheVariants.{Fill}
use Rattle.scan_story.specs.Loads.{underway}
use Rattle.chunk_interest.proofs.Kept.{fill_same}
use Rattle.chunk_interest.proofs.Following.{clients_on, all_ready_on, spares_fill}
use Rattle.interest_book.proofs.KeptLoad.{begin_leaves}
use Rattle.interest_book.proofs.book.Book.note_fill.Goals as goal

pub returns : goal.returns
returns c = λ s h w st may.
    let b = c.args.self.now in
    let f = c.args.frame in
    let p = c.args.piece in
    record {
      setting = st.setting;
      followed = (may, st.followed);
      needs = st.needs;
      chunks = st.chunks;
      workers = st.workers;
      noted = omega (arith, st.noted);
      clients = clients_on s (Fill w f p) h b.clients (spares_fill w f p) st.clients;
      ready = all_ready_on s (Fill w f p) h b.clients (spares_fill w f p) (fill_same s h w f p may) st.ready;
      buffer = c.begin.ensures s h w st.setting st.followed may st.buffer;
      holds = st.holds;
      sharers = st.sharers;
      loading = st.loading ∙ sym (begin_leaves f p (underway s h));
    }
