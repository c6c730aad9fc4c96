use Rattle.std.proofs.Common.{arith, refl, None}
use Rattle.scan_story.specs.declared.entry.Entry.TheVariants.{Release}
use Rattle.chunk_interest.proofs.Buffering.{frames_on}
use Rattle.interest_book.proofs.Holding.{holds_set, released, released_other}
use Rattle.interest_book.proofs.book.Book.note_release.Goals as goal

pub returns : goal.returns
returns c = λ s h d st may.
    let b = c.args.self.now in
    let q = c.args.query in
    record {
      setting = st.setting;
      followed = (may, st.followed);
      needs = st.needs;
      chunks = st.chunks;
      workers = st.workers;
      noted = omega (arith, st.noted);
      clients = c.release.ensures.follows s h c.args.worker d st.noted st.clients;
      ready = c.release.ensures.ready s h c.args.worker d st.ready;
      buffer = frames_on s (Release c.args.worker q d) h b.buffer.groups b.buffer.frames b.buffer.places.items b.buffer.begun.items (λ f. refl) refl st.buffer;
      holds = holds_set (Release c.args.worker q d) h b.holds.items c.args.worker None (λ v ne. released_other h c.args.worker q d v ne) (released h c.args.worker q d) (omega (arith, c.requires.worker, b.parts.holds)) st.holds;
      sharers = st.sharers;
      loading = st.loading;
    }
