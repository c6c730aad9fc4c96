use Rattle.std.proofs.Common.{arith, refl}
use Rattle.scan_story.specs.declared.entry.Entry.TheVariants.{Register}
use Rattle.chunk_interest.proofs.Buffering.{frames_on}
use Rattle.interest_book.proofs.book.Book.note_register.Goals as goal

pub returns : goal.returns
returns c = λ s h w st may.
    let b = c.args.self.now in
    let q = c.args.query in
    record {
      setting = st.setting;
      followed = (may, st.followed);
      needs = st.needs;
      chunks = st.chunks;
      workers = st.workers;
      noted = omega (arith, st.noted);
      clients = c.register.ensures.follows s h w st.noted st.clients;
      ready = c.register.ensures.ready s h w st.ready;
      buffer = frames_on s (Register w q) h b.buffer.groups b.buffer.frames b.buffer.places.items b.buffer.begun.items (λ f. refl) refl st.buffer;
      holds = st.holds;
      sharers = st.sharers;
      loading = st.loading;
    }
