use Rattle.std.proofs.Common.{◌≡◌, ◌<◌, length, arith, subst, sym, ap, ◌∙◌, refl, ℕ, Some}
use Rattle.scan_story.specs.declared.entry.Entry.TheVariants.{Plan}
use Rattle.scan_story.specs.Loads.{missing_pieces}
use Rattle.scan_story.specs.Numbers.{missing_for}
use Rattle.scan_story.specs.Counting.{has}
use Rattle.scan_story.specs.Setting.{reads_group}
use Rattle.chunk_interest.specs.declared.client.Client.{Client}
use Rattle.interest_book.specs.declared.loading.Loading.{Loading}
use Rattle.chunk_interest.proofs.Following.{clients_on, all_ready_on, spares_plan}
use Rattle.chunk_interest.proofs.Buffering.{frames_plan}
use Rattle.chunk_interest.proofs.Counting.{missing_is}
use Rattle.chunk_interest.proofs.OpenPieces.{all_open}
use Rattle.interest_book.proofs.book.Book.note_plan.Goals as goal

abbrev kept_load : ℕ → ℕ → ℕ → ℕ → Loading
kept_load w q d n = record { worker = w; query = q; chunk = d; left = n }

pub returns : goal.returns
returns c = λ s h st may.
    let b = c.args.self.now in
    let w = c.args.worker in
    let q = c.args.query in
    let d = c.args.chunk in
    let inside : q < length b.clients = omega (arith, c.requires.query, b.parts.clients) in
    let reads : (g : ℕ) → has c.of.result.now.reads g ≡ reads_group s q g = subst (λ (k : Client). (g : ℕ) → has k.reads g ≡ reads_group s q g) (sym c.of.ensures) (st.clients q inside).reads in
    let left : c.missing_for-left.result ≡ missing_for s h q d = c.missing_for-left.ensures.number
    ∙ missing_is s h b.buffer.groups b.buffer.frames b.buffer.places.items b.buffer.begun.items q d c.of.result.now.reads st.setting st.buffer c.requires.chunk reads in
    record {
      setting = st.setting;
      followed = (may, st.followed);
      needs = st.needs;
      chunks = st.chunks;
      workers = st.workers;
      noted = omega (arith, st.noted);
      clients = clients_on s (Plan w q d) h b.clients (spares_plan w q d) st.clients;
      ready = all_ready_on s (Plan w q d) h b.clients (spares_plan w q d) (λ f. refl) st.ready;
      buffer = frames_plan s w q d h b.buffer.groups b.buffer.frames b.buffer.places.items b.buffer.begun.items may.none_underway st.buffer;
      holds = st.holds;
      sharers = st.sharers;
      loading = ap (λ (n : ℕ). Some (kept_load w q d n)) (left ∙ sym (all_open (missing_pieces s h q d)));
    }
