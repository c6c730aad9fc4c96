use Rattle.std.proofs.Common.{arith, refl, Some}
use Rattle.scan_story.specs.declared.entry.Entry.TheVariants.{Deliver}
use Rattle.chunk_interest.proofs.Buffering.{frames_on}
use Rattle.interest_book.proofs.Holding.{holds_set, delivered, delivered_other}
use Rattle.interest_book.proofs.book.Book.note_deliver.Goals as goal

pub returns : goal.returns
returns c = λ s h st may.
    let b = c.args.self.now in
    let q = c.args.query in
    record {
      setting = st.setting;
      followed = (may, st.followed);
      needs = st.needs;
      chunks = st.chunks;
      workers = st.workers;
      noted = omega (arith, st.noted);
      clients = c.deliver.ensures.follows s h c.args.worker st.clients;
      ready = c.deliver.ensures.ready s h c.args.worker st.ready;
      buffer = frames_on s (Deliver c.args.worker q c.args.chunk) h b.buffer.groups b.buffer.frames b.buffer.places.items b.buffer.begun.items (λ f. refl) refl st.buffer;
      holds = holds_set (Deliver c.args.worker q c.args.chunk) h b.holds.items c.args.worker (Some (record { query = q; chunk = c.args.chunk })) (λ v ne. delivered_other h c.args.worker q c.args.chunk v ne) (delivered h c.args.worker q c.args.chunk) (omega (arith, c.requires.worker, b.parts.holds)) st.holds;
      sharers = st.sharers;
      loading = st.loading;
    }
