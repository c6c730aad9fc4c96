use Rattle.std.proofs.Common.{arith, refl}
use Rattle.scan_story.specs.declared.entry.Entry.TheVariants.{Stop}
use Rattle.chunk_interest.proofs.Buffering.{frames_on}
use Rattle.interest_book.proofs.book.Book.note_stop.Goals as goal

pub returns : goal.returns
returns c = λ s h w st may.
    let b = c.args.self.now in
    let q = c.args.query in
    record {
      setting = st.setting;
      followed = (may, st.followed);
      needs = st.needs;
      chunks = st.chunks;
      workers = st.workers;
      noted = omega (arith, st.noted);
      clients = c.stop.ensures.stop s h w st.clients;
      ready = c.stop.ensures.stop_ready s h w st.ready;
      buffer = frames_on s (Stop w q) h b.buffer.groups b.buffer.frames b.buffer.places.items b.buffer.begun.items (λ f. refl) refl st.buffer;
      holds = st.holds;
      sharers = st.sharers;
      loading = st.loading;
    }
