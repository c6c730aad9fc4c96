use Rattle.std.proofs.Common.{arith, refl}
use Rattle.scan_story.specs.declared.entry.Entry.TheVariants.{End}
use Rattle.chunk_interest.proofs.Kept.{active_going}
use Rattle.chunk_interest.proofs.Buffering.{frames_on}
use Rattle.interest_book.proofs.book.Book.note_end.Goals as goal

pub returns : goal.returns
returns c = λ s h w st may.
    let b = c.args.self.now in
    let q = c.args.query in
    record {
      setting = st.setting;
      followed = (may, st.followed);
      needs = st.needs;
      chunks = st.chunks;
      workers = st.workers;
      noted = omega (arith, st.noted);
      clients = c.end.ensures.follows s h w (active_going h q may.on.active) st.clients;
      ready = c.end.ensures.ready s h w st.ready;
      buffer = frames_on s (End w q) h b.buffer.groups b.buffer.frames b.buffer.places.items b.buffer.begun.items (λ f. refl) refl st.buffer;
      holds = st.holds;
      sharers = st.sharers;
      loading = st.loading;
    }
