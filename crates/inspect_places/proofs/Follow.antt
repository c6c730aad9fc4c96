-- What may follow in each state, by the grammar.
use Rattle.std.proofs.Common.{◌≡◌, ◌≤◌, ◌⊎◌, ℕ, zero, suc, Bool, true, false, List, [], ◌∷◌, ◌++◌, length, Option, Some, None}
use Rattle.sql_tokens.specs.declared.keyword.Keyword.{Keyword}
use Rattle.sql_tokens.specs.declared.keyword.Keyword.TheVariants as key
use Rattle.table_core.specs.declared.op.Op.{Op}
use Rattle.sql_text.specs.declared.word.Sign.TheVariants.{Open, Close, Star, Minus}
use Rattle.sql_text.specs.declared.query.QItem.{QItem}
use Rattle.sql_text.specs.declared.query.QItem.TheVariants as item
use Rattle.sql_text.specs.Grammar.{Token, Key, Symbol, Compares, Column, Number, Ors, OrTail, AndTail, Nots, OrderText, Listed, or_tail_tokens, and_tail_tokens, not_tokens, item_tokens, column_tokens, order_tokens, list_tokens, where_tokens, group_tokens, order_by_tokens}
use Rattle.inspect_places.specs.declared.state.State.{State}
use Rattle.inspect_places.specs.declared.state.State.TheVariants as state
use Rattle.inspect_places.specs.Steps.{first_room}

-- ---- limits

abbrev pub Fits : {A : Type 0} → Option ℕ → List A → Type 0
Fits None xs = Unit {0}
Fits (Some n) xs = length xs ≤ n

abbrev pub FitsSome : {A : Type 0} → Option ℕ → Option (Listed A) → Type 0
FitsSome room None = Unit {0}
FitsSome room (Some l) = Fits room l.1

abbrev pub Small : Bool → ℕ → Type 0
Small false n = Unit {0}
Small true n = n ≤ 4096

-- ---- behind the condition

abbrev pub limit_tokens : ℕ → List Token
limit_tokens n = Key key.Limit ∷ Number n ∷ []

abbrev pub EndsGroups : Bool → List Token → Type 0
EndsGroups limited ts = (k : Option (Listed (List ℕ))) × (group_tokens k ≡ ts) × FitsSome (first_room limited) k

abbrev pub EndsRows : Bool → Bool → List Token → Type 0
EndsRows limited plain ts = (o : Option (Listed OrderText)) × (n : ℕ) × (order_by_tokens o ++ limit_tokens n ≡ ts) × FitsSome (first_room limited) o × Small limited n × (plain ≡ true)

abbrev pub Ends : Bool → Bool → List Token → Type 0
Ends limited plain ts = EndsGroups limited ts ⊎ EndsRows limited plain ts

-- a list goes on
abbrev pub Keys : Option ℕ → List Token → Type 0
Keys room ts = (k : Listed (List ℕ)) × (list_tokens column_tokens k.0 k.1 ≡ ts) × Fits room k.1

abbrev pub Orders : Bool → Option ℕ → List Token → Type 0
Orders limited room ts = (o : Listed OrderText) × (n : ℕ) × (list_tokens order_tokens o.0 o.1 ++ limit_tokens n ≡ ts) × Fits room o.1 × Small limited n

-- ---- the condition

-- behind a test, in so many parentheses
abbrev pub TestEnds : Bool → Bool → ℕ → List Token → Type 0
TestEnds limited plain zero ts = (a : AndTail) × (o : OrTail) × (us : List Token) × (and_tail_tokens a ++ (or_tail_tokens o ++ us) ≡ ts) × Ends limited plain us
TestEnds limited plain (suc d) ts = (a : AndTail) × (o : OrTail) × (us : List Token) × (and_tail_tokens a ++ (or_tail_tokens o ++ (Symbol Close ∷ us)) ≡ ts) × TestEnds limited plain d us

abbrev pub Tests : Bool → Bool → ℕ → List Token → Type 0
Tests limited plain d ts = (x : Nots) × (us : List Token) × (not_tokens x ++ us ≡ ts) × TestEnds limited plain d us

abbrev pub TableEnds : Bool → Bool → List Token → Type 0
TableEnds limited plain ts = (w : Option Ors) × (us : List Token) × (where_tokens w ++ us ≡ ts) × Ends limited plain us

abbrev pub Tables : Bool → Bool → List Token → Type 0
Tables limited plain ts = (t : List ℕ) × (us : List Token) × (Column t ∷ us ≡ ts) × TableEnds limited plain us

-- ---- the items

-- whether all items are plain, so many before them or not
abbrev pub plain_with : QItem → Bool → Bool
plain_with (item.Plain c) p = p
plain_with _ p = false

abbrev pub plains : List QItem → Bool → Bool
plains [] p = p
plains (x ∷ xs) p = plains xs (plain_with x p)

abbrev pub Items : Bool → Bool → Option ℕ → List Token → Type 0
Items limited plain room ts = (x : Listed QItem) × (us : List Token) × (list_tokens item_tokens x.0 x.1 ++ (Key key.From ∷ us) ≡ ts) × Fits room x.1 × Tables limited (plains (x.0 ∷ x.1) plain) us

-- an item with a parenthesis
pub data Called : Type 0 where
  all : Called
  count : List ℕ → Called
  sum : List ℕ → Called
  min : List ℕ → Called
  max : List ℕ → Called

-- SUM, MIN or MAX
pub data Call : Type 0 where
  sums : Call
  mins : Call
  maxs : Call

abbrev pub call_key : Call → Keyword
call_key sums = key.Sum
call_key mins = key.Min
call_key maxs = key.Max

-- the tokens up to the closing parenthesis
abbrev pub called_tokens : Called → List Token
called_tokens all = Key key.Count ∷ Symbol Open ∷ Symbol Star ∷ []
called_tokens (count c) = Key key.Count ∷ Symbol Open ∷ Column c ∷ []
called_tokens (sum c) = Key key.Sum ∷ Symbol Open ∷ Column c ∷ []
called_tokens (min c) = Key key.Min ∷ Symbol Open ∷ Column c ∷ []
called_tokens (max c) = Key key.Max ∷ Symbol Open ∷ Column c ∷ []

abbrev pub Starts : Bool → List Token → Type 0
Starts limited ts = (us : List Token) × (Key key.Select ∷ us ≡ ts) × Items limited true (first_room limited) us

-- ---- each state: the tokens go on with what any tokens that lead to the state have begun

abbrev pub Follow : Bool → State → List Token → Type 0
Follow l state.Start ts = Starts l ts
Follow l (state.Item p r) ts = Items l p r ts
Follow l (state.Count r) ts = (p : Bool) → Items l p r (Key key.Count ∷ ts)
Follow l (state.CountOpen r) ts = (p : Bool) → Items l p r (Key key.Count ∷ Symbol Open ∷ ts)
Follow l (state.Call r) ts = (c : Call) (p : Bool) → Items l p r (Key (call_key c) ∷ ts)
Follow l (state.CallOpen r) ts = (c : Call) (p : Bool) → Items l p r (Key (call_key c) ∷ Symbol Open ∷ ts)
Follow l (state.CallEnd r) ts = (c : Called) (p : Bool) → Items l p r (called_tokens c ++ ts)
Follow l (state.ItemEnd q r) ts = (i : QItem) (p : Bool) → plain_with i p ≡ q → Items l p r (item_tokens i ++ ts)
Follow l (state.Table p) ts = Tables l p ts
Follow l (state.TableEnd p) ts = TableEnds l p ts
Follow l (state.Test p d) ts = Tests l p d ts
Follow l (state.TestName p d) ts = (c : List ℕ) → Tests l p d (Column c ∷ ts)
Follow l (state.Compared p d) ts = (c : List ℕ) (o : Op) → Tests l p d (Column c ∷ Compares o ∷ ts)
Follow l (state.Minus p d) ts = (c : List ℕ) (o : Op) → Tests l p d (Column c ∷ Compares o ∷ Symbol Minus ∷ ts)
Follow l (state.Is p d) ts = (c : List ℕ) → Tests l p d (Column c ∷ Key key.Is ∷ ts)
Follow l (state.IsNot p d) ts = (c : List ℕ) → Tests l p d (Column c ∷ Key key.Is ∷ Key key.Not ∷ ts)
Follow l (state.TestEnd p d) ts = TestEnds l p d ts
Follow l state.Group ts = EndsGroups l (Key key.Group ∷ ts)
Follow l (state.GroupKey r) ts = Keys r ts
Follow l (state.GroupKeyEnd r) ts = (c : List ℕ) → Keys r (Column c ∷ ts)
Follow l state.Order ts = EndsRows l true (Key key.Order ∷ ts)
Follow l (state.OrderKey r) ts = Orders l r ts
Follow l (state.OrderKeyEnd r) ts = (c : List ℕ) → Orders l r (Column c ∷ ts)
Follow l (state.DirectionEnd r) ts = (o : OrderText) → Orders l r (order_tokens o ++ ts)
Follow l state.Limit ts = (n : ℕ) × (Number n ∷ [] ≡ ts) × Small l n
Follow l state.LimitEnd ts = ts ≡ []
