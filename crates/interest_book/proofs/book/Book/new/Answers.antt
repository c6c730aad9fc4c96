use Rattle.std.proofs.Common.{◌<◌, length, arith, subst, sym, ◌∙◌, refl, ℕ, List, All}
use Rattle.scan_story.specs.Setting.{need_of}
use Rattle.chunk_interest.specs.declared.need.Need.{Need}
use Rattle.chunk_interest.specs.Clients.{client_at}
use Rattle.interest_book.specs.Made.{made_for}
use Rattle.chunk_interest.specs.Fresh.{IsFresh, AreFresh}
use Rattle.interest_book.proofs.Making.{query_small, few_made, setting_of, fresh_as}
use Rattle.chunk_interest.proofs.Beginning.{fresh_client, fresh_ready, fresh_frames}
use Rattle.chunk_interest.proofs.Counting.{shares_is}
use Rattle.interest_book.proofs.book.Book.new.Goals as goal

pub new-requires : goal.new-requires
new-requires c = record {
  queries = subst (λ (ns : List Need). All (λ n. n.query < 257) ns) (sym c.deref.ensures.value)
      (λ k d lt. (let low = query_small (made_for c.args.needs.items c.args.chunks c.args.workers c.args.frames c.args.groups) c.args.needs.items k d c.requires.needs lt in omega (arith, low)));
}

pub invariant_of-result : goal.invariant_of-result
invariant_of-result c = record {
  short = omega arith;
  sharing = c.in_ok-sharers.ensures.size;
  parts = record {
    needs = few_made c.args.needs.items c.args.chunks c.args.workers c.args.frames c.args.groups c.requires;
    queries = λ k d lt. query_small (made_for c.args.needs.items c.args.chunks c.args.workers c.args.frames c.args.groups) c.args.needs.items k d c.requires.needs lt;
    clients = c.in_ok-clients.ensures.length;
    holds = c.in_ok-holds.ensures.length;
    chunks = c.requires.chunks;
    workers = c.requires.workers.1;
  };
}

pub returns : goal.returns
returns c = λ s is.
    let ok = setting_of s c.args.needs.items c.args.chunks c.args.workers c.args.frames c.args.groups is c.requires in
    let ks = c.in_ok-clients.clients in
    let fresh : AreFresh c.args.groups c.args.needs.items ks 257 = subst (λ (ns : List Need). AreFresh c.args.groups ns ks 257) c.deref.ensures.value c.in_ok-clients.ensures.each in
    let b = c.in_ok-buffer.ensures in
    let each : (q : ℕ) → q < length ks → IsFresh s.groups (need_of s q) (client_at ks q) = λ q lt. fresh_as s c.args.needs.items c.args.chunks c.args.workers c.args.frames c.args.groups ks q is (fresh q (omega (arith, lt, c.in_ok-clients.ensures.length))) in
    record {
      setting = ok;
      followed = tt;
      needs = is.needs;
      chunks = is.chunks;
      workers = is.workers;
      noted = refl;
      clients = λ q lt. fresh_client s q (client_at ks q) (each q lt);
      ready = λ q lt. fresh_ready s q (client_at ks q) ok (each q lt).available;
      buffer = fresh_frames s c.in_ok-buffer.buffer.groups c.in_ok-buffer.buffer.frames c.in_ok-buffer.buffer.places.items c.in_ok-buffer.buffer.begun.items (b.groups ∙ is.groups) (b.length ∙ is.frames) b.free b.places;
      holds = λ w lt. c.in_ok-holds.ensures.none w;
      sharers = λ q r lq lr.
          (let there : q < length ks = omega (arith, lq, c.in_ok-clients.ensures.length) in
          let also : r < length ks = omega (arith, lr, c.in_ok-clients.ensures.length) in
          c.in_ok-sharers.ensures.each q r (omega (arith, lq)) (omega (arith, lr))
          ∙ shares_is s q r c.args.groups (client_at ks q).reads (client_at ks r).reads ok is.groups (fresh_client s q (client_at ks q) (each q there)).reads (fresh_client s r (client_at ks r) (each r also)).reads);
      loading = refl;
    }
