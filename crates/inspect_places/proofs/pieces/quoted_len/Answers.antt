use Rattle.std.proofs.Common.{◌≡◌, ◌+◌, true, false, Some, drop, get_or, refl, ◌∙◌}
use Rattle.std.proofs.lemmas.List.{drop_more, drop_all}
use Rattle.sql_tokens.proofs.Quotes.{closes_last, at_close, at_inside, at_reopen, at_stop, at_last, behind, last_close}
use Rattle.inspect_places.proofs.pieces.quoted_len.Goals as goal
use Rattle.inspect_places.proofs.pieces.quoted_len.Goals.{then-is_open+then-b-quote, then-is_open+else-b-quote, else-is_open+then-b-quote-2}

pub returns-else-b-quote-2 : goal.returns-else-b-quote-2
returns-else-b-quote-2 c =
    let bs = c.args.bytes.now in let i = c.loop-i.i in
    let h : behind c.loop-i.best i (last_close c.args.quote false (drop i bs)) ≡ last_close c.args.quote true bs = rw c.if-is_open.false at c.loop-i.invariant.0 in
    closes_last _ bs c.loop-i.best (at_stop c.loop-i.best i _ (get_or bs i 0) (drop i bs) (drop (i + 1) bs) _ h (drop_more bs i 0 c.loop-i-test.true) c.if-b-quote-2.false (c.loop-i.invariant.1 c.if-is_open.false))

pub loop-i-preserved : goal.loop-i-preserved
loop-i-preserved c =
    let bs = c.args.bytes.now in let i = c.loop-i.i in let q = c.args.quote in
    let cut = drop_more bs i 0 c.loop-i-test.true in
    elim c.if-is_open.branch [
      | then-is_open+then-b-quote w ↦
          let o : c.if-is_open.is_open ≡ false = cc in
          let k : c.if-is_open.best ≡ Some (i + 1) = cc in
          let h : behind c.loop-i.best i (last_close q true (drop i bs)) ≡ last_close q true bs = rw w.if-is_open.true at c.loop-i.invariant.0 in
          rw o (at_close c.loop-i.best _ i q (get_or bs i 0) (drop i bs) (drop (i + 1) bs) _ h cut w.if-b-quote.true k, λ _. k)
      | then-is_open+else-b-quote w ↦
          let o : c.if-is_open.is_open ≡ true = cc in
          let k : c.if-is_open.best ≡ c.loop-i.best = cc in
          let h : behind c.loop-i.best i (last_close q true (drop i bs)) ≡ last_close q true bs = rw w.if-is_open.true at c.loop-i.invariant.0 in
          rw (o, k) (at_inside c.loop-i.best i q (get_or bs i 0) (drop i bs) (drop (i + 1) bs) _ h cut w.if-b-quote.false, λ e. cc)
      | else-is_open+then-b-quote-2 w ↦
          let o : c.if-is_open.is_open ≡ true = cc in
          let k : c.if-is_open.best ≡ c.loop-i.best = cc in
          let h : behind c.loop-i.best i (last_close q false (drop i bs)) ≡ last_close q true bs = rw w.if-is_open.false at c.loop-i.invariant.0 in
          rw (o, k) (at_reopen c.loop-i.best i q (get_or bs i 0) (drop i bs) (drop (i + 1) bs) _ h cut w.if-b-quote-2.true (c.loop-i.invariant.1 w.if-is_open.false), λ e. cc)
    ]

pub returns : goal.returns
returns c =
    let bs = c.args.bytes.now in
    let done = drop_all c.loop-i.i bs c.loop-i-test.false in
    closes_last _ bs _ (at_last c.loop-i.best c.loop-i.i _ c.loop-i.is_open (drop c.loop-i.i bs) _ c.loop-i.invariant.0 done (λ e. c.loop-i.invariant.1 e ∙ refl))
