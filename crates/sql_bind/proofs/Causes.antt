-- A text has one cause at most.
use Rattle.std.proofs.Common.{◌≡◌, ◌∙◌, ℕ, List, refl, sym, ap, arith, map}
use Rattle.std.specs.Prelude.{Option, Some, None}
use Rattle.table_core.specs.declared.schema.Column.{Column}
use Rattle.sql_tokens.specs.declared.refusal.TextRefusal.{TextRefusal}
use Rattle.sql_tokens.specs.declared.refusal.TextRefusal.TheVariants as text
use Rattle.sql_tokens.proofs.TokenLists.{one_list}
use Rattle.sql_text.specs.Grammar.{Token, nesting, QueryTree}
use Rattle.sql_text.specs.Words.{meaning_in}
use Rattle.sql_text.specs.Queries.{HasQuery, HasWords, IsRefused}
use Rattle.sql_text.proofs.ReadTexts.{one_query, memory_alone}
use Rattle.sql_bind.specs.declared.statement.StatementRefusal.{StatementRefusal}
use Rattle.sql_bind.specs.declared.statement.StatementRefusal.TheVariants as statement
use Rattle.sql_bind.specs.Refusals.{refusal_of}
use Rattle.sql_bind.specs.Statements.{TextCause}

one_reading : (bytes : List ℕ) (ts us : List Token) → HasWords bytes ts → HasWords bytes us → ts ≡ us
one_reading bytes ts us h k = sym h.2 ∙ ap (map (meaning_in bytes)) (one_list 0 bytes h.0 k.0 h.1 k.1) ∙ k.2

nested_or_not : (bytes : List ℕ) → IsRefused bytes text.TooNested → IsRefused bytes text.TooManyItems → ⊥
nested_or_not bytes h k = (let same = one_reading bytes h.0 k.0 h.1 k.1 in omega (arith, h.2, k.2.0, ap nesting same))

nested_or_no_query : (bytes : List ℕ) → IsRefused bytes text.Syntax → IsRefused bytes text.TooNested → ⊥
nested_or_no_query bytes h k = (let few = (h k.0 k.1).0 in omega (arith, few, k.2))

query_or_none : (bytes : List ℕ) → IsRefused bytes text.Syntax → IsRefused bytes text.TooManyItems → ⊥
query_or_none bytes h k = (h k.0 k.1).1 k.2.1.0 k.2.1.1

-- a text that is a query is refused for no cause
query_passes : (bytes : List ℕ) (columns : List Column) (q : QueryTree) → HasQuery bytes q → (e : TextRefusal) → TextCause bytes columns (Some (statement.Text e)) → ⊥
query_passes bytes columns q h text.Syntax c = (let no : text.Syntax ≡ text.Memory = memory_alone bytes q text.Syntax h c in cc)
query_passes bytes columns q h text.TooNested c = (let no : text.TooNested ≡ text.Memory = memory_alone bytes q text.TooNested h c in cc)
query_passes bytes columns q h text.TooManyItems c = (let no : text.TooManyItems ≡ text.Memory = memory_alone bytes q text.TooManyItems h c in cc)
query_passes bytes columns q h text.Memory c = c

one_text : (bytes : List ℕ) (columns : List Column) (d e : TextRefusal) → TextCause bytes columns (Some (statement.Text d)) → TextCause bytes columns (Some (statement.Text e)) → d ≡ e
one_text bytes columns text.Syntax text.Syntax c k = refl
one_text bytes columns text.Syntax text.TooNested c k = absurd (nested_or_no_query bytes c k)
one_text bytes columns text.Syntax text.TooManyItems c k = absurd (query_or_none bytes c k)
one_text bytes columns text.Syntax text.Memory c k = absurd k
one_text bytes columns text.TooNested text.Syntax c k = absurd (nested_or_no_query bytes k c)
one_text bytes columns text.TooNested text.TooNested c k = refl
one_text bytes columns text.TooNested text.TooManyItems c k = absurd (nested_or_not bytes c k)
one_text bytes columns text.TooNested text.Memory c k = absurd k
one_text bytes columns text.TooManyItems text.Syntax c k = absurd (query_or_none bytes k c)
one_text bytes columns text.TooManyItems text.TooNested c k = absurd (nested_or_not bytes k c)
one_text bytes columns text.TooManyItems text.TooManyItems c k = refl
one_text bytes columns text.TooManyItems text.Memory c k = absurd k
one_text bytes columns text.Memory e c k = absurd c

same_refusal : (bytes : List ℕ) (columns : List Column) (p q : QueryTree) → HasQuery bytes p → HasQuery bytes q → refusal_of columns p ≡ refusal_of columns q
same_refusal bytes columns p q h k = ap (refusal_of columns) (one_query bytes p q h k)

pub one_cause : (bytes : List ℕ) (columns : List Column) (a b : Option StatementRefusal) → TextCause bytes columns a → TextCause bytes columns b → a ≡ b
one_cause bytes columns None None c k = refl
one_cause bytes columns None (Some (statement.Text e)) c k = absurd (query_passes bytes columns c.0 c.1 e k)
one_cause bytes columns None (Some (statement.Query e)) c k =
    let no : None ≡ Some e = sym c.2 ∙ same_refusal bytes columns c.0 k.0 c.1 k.1 ∙ k.2 in absurd (cc)
one_cause bytes columns (Some (statement.Text d)) None c k = absurd (query_passes bytes columns k.0 k.1 d c)
one_cause bytes columns (Some (statement.Text d)) (Some (statement.Text e)) c k = ap (λ x. Some (statement.Text x)) (one_text bytes columns d e c k)
one_cause bytes columns (Some (statement.Text d)) (Some (statement.Query e)) c k = absurd (query_passes bytes columns k.0 k.1 d c)
one_cause bytes columns (Some (statement.Query d)) None c k =
    let no : None ≡ Some d = sym k.2 ∙ same_refusal bytes columns k.0 c.0 k.1 c.1 ∙ c.2 in absurd (cc)
one_cause bytes columns (Some (statement.Query d)) (Some (statement.Text e)) c k = absurd (query_passes bytes columns c.0 c.1 e k)
one_cause bytes columns (Some (statement.Query d)) (Some (statement.Query e)) c k =
    let same : Some d ≡ Some e = sym c.2 ∙ same_refusal bytes columns c.0 k.0 c.1 k.1 ∙ k.2 in
    let is : d ≡ e = cc in
    ap (λ x. Some (statement.Query x)) is
