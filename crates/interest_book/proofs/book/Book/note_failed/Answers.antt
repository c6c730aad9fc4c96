use Rattle.std.proofs.Common.{arith, refl}
use Rattle.interest_book.proofs.book.Book.note_failed.Goals as goal

pub returns : goal.returns
returns c = λ s h w p why st may.
    let b = c.args.self.now in
    let q = c.args.query in
    record {
      setting = st.setting;
      followed = (may, st.followed);
      needs = st.needs;
      chunks = st.chunks;
      workers = st.workers;
      noted = omega (arith, st.noted);
      clients = c.stop.ensures.failed s h w p why st.clients;
      ready = c.stop.ensures.failed_ready s h w p why st.ready;
      buffer = c.give_up.ensures s h w q p why st.buffer;
      holds = st.holds;
      sharers = st.sharers;
      loading = refl;
    }
