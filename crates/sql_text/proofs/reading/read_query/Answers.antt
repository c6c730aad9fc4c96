use Rattle.std.proofs.Common.{◌≡◌, sym, ap, ◌∙◌, map}
use Rattle.sql_text.specs.Words.{meaning_in, tokens_of}
use Rattle.sql_text.proofs.ReadTexts.{stand_in, text_not_read}
use Rattle.sql_text.proofs.reading.read_query.Goals as goal

pub words_of-requires : goal.words_of-requires
words_of-requires c =
    let e : c.deref.result.now ≡ c.in_ok-tokens.tokens.items = cc (c.deref.ensures.value) in
    rw e (stand_in c.args.bytes.now c.in_ok-tokens.tokens.items c.in_ok-tokens.ensures.in_order)

pub returns-clause-refused : goal.returns-clause-refused
returns-clause-refused c =
    let e : c.deref.result.now ≡ c.in_ok-tokens.tokens.items = cc (c.deref.ensures.value) in
    let d : c.deref-2.result.now ≡ c.in_ok-words.words.items = cc (c.deref-2.ensures.value) in
    let p : map (meaning_in c.args.bytes.now) c.in_ok-tokens.tokens.items ≡ tokens_of c.deref-2.result.now = ap (map (meaning_in c.args.bytes.now)) (sym e) ∙ sym c.in_ok-words.ensures ∙ ap tokens_of (sym d) in
    text_not_read c.args.bytes.now (tokens_of c.deref-2.result.now) c.read_words.result (c.in_ok-tokens.tokens.items, c.in_ok-tokens.ensures.found, p) c.read_words.ensures.err
