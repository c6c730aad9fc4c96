-- A text is read as its tokens are.
use Rattle.std.proofs.Common.{◌≡◌, ◌≤◌, ℕ, true, false, List, [], ◌∷◌, length, map, Some, None, refl, sym, ap, ◌∙◌, subst, arith}
use Rattle.std.specs.Prelude.{Result, Ok, Err, IfOk, IfErr}
use Rattle.std.proofs.lemmas.Bool.{false≢true}
use Rattle.sql_tokens.specs.Tokens.{AreInOrder, IsLexRefusal}
use Rattle.sql_tokens.specs.declared.refusal.TextRefusal.{TextRefusal}
use Rattle.sql_tokens.specs.declared.refusal.TextRefusal.TheVariants as refusal
use Rattle.sql_tokens.specs.declared.token.Token as tokens
use Rattle.sql_tokens.proofs.TokenLists.{one_list}
use Rattle.sql_text.specs.declared.query.Query.{Query}
use Rattle.sql_text.specs.Grammar.{Token, QueryTree, Reads, nesting, has_too_many}
use Rattle.sql_text.specs.Words.{meaning_in, StandIn}
use Rattle.sql_text.specs.Reading.{Fails, query_at, query_of}
use Rattle.sql_text.specs.Queries.{HasWords, IsRead, AreRefused, HasQuery, IsRefused}
use Rattle.sql_text.proofs.ReadQueries.{same_some, query_found, query_read}
use Rattle.sql_text.proofs.Tokens.{no_some}

-- ---- tokens

none_read : (ts : List Token) → nesting ts ≤ 256 → query_at ts ≡ None → (q : QueryTree) → Reads ts q → ⊥
none_read ts h e q r = no_some q (sym e ∙ query_read ts q h r)

pub refused_by : (e : TextRefusal) (ts : List Token) → nesting ts ≤ 256 → Fails e (query_at ts) → AreRefused ts e
refused_by refusal.Syntax ts h f = (h, none_read ts h f)
refused_by refusal.TooNested ts h f = absurd f
refused_by refusal.TooManyItems ts h f = absurd f
refused_by refusal.Memory ts h f = tt

pub read_within : (ts : List Token) (p : QueryTree) (result : Result Query TextRefusal) → nesting ts ≤ 256 → query_at ts ≡ Some p → IfOk result (λ q. (query_of q ≡ p) × (has_too_many p ≡ false)) → IfOk result (λ q. IsRead ts (query_of q))
read_within ts p (Ok q) h e r =
    let q-is : p ≡ query_of q = sym r.0 in
    record { nested = h; reads = subst (λ t. Reads ts t) q-is (query_found ts p e); few = ap has_too_many r.0 ∙ r.1 }
read_within ts p (Err error) h e r = tt

too_many : (ts : List Token) (p : QueryTree) (error : TextRefusal) → nesting ts ≤ 256 → query_at ts ≡ Some p → error ≡ refusal.TooManyItems → has_too_many p ≡ true → AreRefused ts error
too_many ts p error h e k t = rw k (h, (p, query_found ts p e, t))

pub refused_within : (ts : List Token) (p : QueryTree) (result : Result Query TextRefusal) → nesting ts ≤ 256 → query_at ts ≡ Some p → IfErr result (λ e. (e ≡ refusal.TooManyItems) × (has_too_many p ≡ true)) → IfErr result (λ e. AreRefused ts e)
refused_within ts p (Ok q) h e r = tt
refused_within ts p (Err error) h e r = too_many ts p error h e r.0 r.1

-- ---- texts

order_ends : (at end : ℕ) (ts : List tokens.Token) → AreInOrder at end ts → at ≤ end
order_ends at end [] o = o
order_ends at end (t ∷ ts) o = omega (arith, o.0, o.1, order_ends t.span.to end ts o.2)

stand_at : (bytes : List ℕ) (at : ℕ) (ts : List tokens.Token) → AreInOrder at (length bytes) ts → StandIn bytes ts
stand_at bytes at [] o = tt
stand_at bytes at (t ∷ ts) o = (omega (arith, o.1), order_ends t.span.to (length bytes) ts o.2, stand_at bytes t.span.to ts o.2)

pub stand_in : (bytes : List ℕ) (ts : List tokens.Token) → AreInOrder 0 (length bytes) ts → StandIn bytes ts
stand_in bytes ts o = stand_at bytes 0 ts o

pub lex_refused : (bytes : List ℕ) (e : TextRefusal) → IsLexRefusal bytes e → IsRefused bytes e
lex_refused bytes refusal.Syntax r = λ ts h. absurd (r h.0 h.1)
lex_refused bytes refusal.TooNested r = absurd r
lex_refused bytes refusal.TooManyItems r = absurd r
lex_refused bytes refusal.Memory r = tt

pub memory_refused : (bytes : List ℕ) (e : TextRefusal) → e ≡ refusal.Memory → IsRefused bytes e
memory_refused bytes e k = rw k tt

one_reading : (bytes : List ℕ) (ts us : List Token) → HasWords bytes ts → HasWords bytes us → us ≡ ts
one_reading bytes ts us h k = sym k.2 ∙ ap (map (meaning_in bytes)) (one_list 0 bytes k.0 h.0 k.1 h.1) ∙ h.2

text_refused : (bytes : List ℕ) (ts : List Token) (e : TextRefusal) → HasWords bytes ts → AreRefused ts e → IsRefused bytes e
text_refused bytes ts refusal.Syntax h r = λ us k. subst (λ v. AreRefused v refusal.Syntax) (sym (one_reading bytes ts us h k)) r
text_refused bytes ts refusal.TooNested h r = (ts, h, r)
text_refused bytes ts refusal.TooManyItems h r = (ts, h, r)
text_refused bytes ts refusal.Memory h r = tt

pub text_read : (bytes : List ℕ) (ts : List Token) (result : Result Query TextRefusal) → HasWords bytes ts → IfOk result (λ q. IsRead ts (query_of q)) → IfOk result (λ q. HasQuery bytes (query_of q))
text_read bytes ts (Ok q) h r = (ts, h, r)
text_read bytes ts (Err e) h r = tt

pub text_not_read : (bytes : List ℕ) (ts : List Token) (result : Result Query TextRefusal) → HasWords bytes ts → IfErr result (λ e. AreRefused ts e) → IfErr result (λ e. IsRefused bytes e)
text_not_read bytes ts (Ok q) h r = tt
text_not_read bytes ts (Err e) h r = text_refused bytes ts e h r

-- ---- a text that is a query is read

one_tree : (ts : List Token) (p q : QueryTree) → nesting ts ≤ 256 → Reads ts p → Reads ts q → p ≡ q
one_tree ts p q n h k = same_some p q (sym (query_read ts p n h) ∙ query_read ts q n k)

pub one_query : (bytes : List ℕ) (p q : QueryTree) → HasQuery bytes p → HasQuery bytes q → p ≡ q
one_query bytes p q h k =
    let same = one_reading bytes h.0 k.0 h.1 k.1 in
    one_tree h.0 p q h.2.nested h.2.reads (subst (λ ts. Reads ts q) same k.2.reads)

pub memory_alone : (bytes : List ℕ) (q : QueryTree) (e : TextRefusal) → HasQuery bytes q → IsRefused bytes e → e ≡ refusal.Memory
memory_alone bytes q refusal.Syntax h r = absurd ((r h.0 h.1).1 q h.2.reads)
memory_alone bytes q refusal.TooNested h r =
    let same = one_reading bytes h.0 r.0 h.1 r.1 in absurd (omega (arith, h.2.nested, r.2, ap nesting same))
memory_alone bytes q refusal.TooManyItems h r =
    let same = one_reading bytes h.0 r.0 h.1 r.1 in
    let reads = subst (λ ts. Reads ts r.2.1.0) same r.2.1.1 in
    let e = one_tree h.0 q r.2.1.0 h.2.nested h.2.reads reads in
    absurd (false≢true (sym h.2.few ∙ ap has_too_many e ∙ r.2.1.2))
memory_alone bytes q refusal.Memory h r = refl
