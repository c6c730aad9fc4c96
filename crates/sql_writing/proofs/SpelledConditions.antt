-- What is written of a condition that was read spells the condition, and nests no deeper.
use Rattle.std.proofs.Common.{◌≡◌, ◌<◌, ◌≤◌, ℕ, zero, suc, ◌+◌, Bool, true, false, List, [], ◌∷◌, ◌++◌, length, codes, refl, sym, ap, ◌∙◌, subst, arith, append_assoc, append-nil, zero-add}
use Rattle.sql_tokens.specs.declared.keyword.Keyword.TheVariants as key
use Rattle.table_core.specs.Value.{unsigned_text}
use Rattle.table_core.specs.declared.op.Op.{Op}
use Rattle.sql_text.specs.declared.condition.Literal.{Literal}
use Rattle.sql_text.specs.declared.word.Sign.TheVariants.{Open, Close}
use Rattle.sql_writing.specs.declared.writing.Place.{Place}
use Rattle.sql_writing.specs.declared.writing.Place.TheVariants as place
use Rattle.sql_text.specs.Grammar.{Key, Symbol, Column, Number, Decimal, Tree, Compare, NullTest, Both, Either, Negated, LiteralText, number, minus_number, decimal, minus_decimal, text, Ors, ors, OrTail, no_or, more_or, Ands, ands, AndTail, no_and, more_and, Nots, not_not, in_parentheses, compare, is_null, is_not_null, literal_tokens, or_tokens, or_tail_tokens, and_tokens, and_tail_tokens, not_tokens, literal_value, or_tree, or_tail_tree, and_tree, and_tail_tree, not_tree, nesting}
use Rattle.sql_writing.specs.Writing.{name_text, op_text, literal_text, null_text, cond_text}
use Rattle.sql_text.proofs.ReadConditions.{nesting-append}
use Rattle.sql_writing.proofs.Spelling.{Spells, spaced}
use Rattle.sql_writing.proofs.SpelledTokens.{AreSound, sound_left, sound_right}
use Rattle.sql_writing.proofs.SpelledWords.{key_spells, open_spells, close_spells, op_spells, text_spells, name_spells, whole_counts, places_count, minus_spells}

-- ---- literals

-- the text of a literal, as tokens that mean it
abbrev Again : Literal → Type 0
Again v = (l : LiteralText) × (literal_value l ≡ v) × Spells (literal_text v) (literal_tokens l) × (nesting (literal_tokens l) ≡ 0)

literal_again : (l : LiteralText) → AreSound (literal_tokens l) → Again (literal_value l)
literal_again (number n h) s = (number n h, refl, (whole_counts n (omega arith)).spells, refl)
literal_again (minus_number zero h) s = (number 0 (omega arith), refl, (whole_counts 0 (omega arith)).spells, refl)
literal_again (minus_number (suc n) h) s = (minus_number (suc n) h, refl, minus_spells (unsigned_text 0 (suc n)) (Number (suc n)) (whole_counts (suc n) (omega arith)), refl)
literal_again (decimal n zero h k) s = absurd (omega (arith, s.0))
literal_again (decimal n (suc p) h k) s = (decimal n (suc p) h k, refl, (places_count n p (omega arith)).spells, refl)
literal_again (minus_decimal zero zero h k) s = absurd (omega (arith, s.1.0))
literal_again (minus_decimal (suc n) zero h k) s = absurd (omega (arith, s.1.0))
literal_again (minus_decimal zero (suc p) h k) s = (decimal 0 (suc p) (omega arith) k, refl, (places_count 0 p (omega arith)).spells, refl)
literal_again (minus_decimal (suc n) (suc p) h k) s = (minus_decimal (suc n) (suc p) h k, refl, minus_spells (unsigned_text (suc p) (suc n)) (Decimal (suc n) (suc p)) (places_count (suc n) p (omega arith)), refl)
literal_again (text t) s = (text t, refl, text_spells t, refl)

-- ---- a tree that was read

abbrev CanBeWritten : Tree → Type 0
CanBeWritten (Compare c o v) = (0 < length c) × Again v
CanBeWritten (NullTest c b) = 0 < length c
CanBeWritten (Both l r) = CanBeWritten l × CanBeWritten r
CanBeWritten (Either l r) = CanBeWritten l × CanBeWritten r
CanBeWritten (Negated t) = CanBeWritten t

mutual
  or_can : (o : Ors) → AreSound (or_tokens o) → CanBeWritten (or_tree o)
  or_can (ors a t) s = or_tail_can (and_tree a) t (and_can a (sound_left (and_tokens a) (or_tail_tokens t) s)) (sound_right (and_tokens a) (or_tail_tokens t) s)

  or_tail_can : (left : Tree) (t : OrTail) → CanBeWritten left → AreSound (or_tail_tokens t) → CanBeWritten (or_tail_tree left t)
  or_tail_can left no_or h s = h
  or_tail_can left (more_or a t) h s = or_tail_can (Either left (and_tree a)) t (h, and_can a (sound_left (and_tokens a) (or_tail_tokens t) s.1)) (sound_right (and_tokens a) (or_tail_tokens t) s.1)

  and_can : (a : Ands) → AreSound (and_tokens a) → CanBeWritten (and_tree a)
  and_can (ands a t) s = and_tail_can (not_tree a) t (not_can a (sound_left (not_tokens a) (and_tail_tokens t) s)) (sound_right (not_tokens a) (and_tail_tokens t) s)

  and_tail_can : (left : Tree) (t : AndTail) → CanBeWritten left → AreSound (and_tail_tokens t) → CanBeWritten (and_tail_tree left t)
  and_tail_can left no_and h s = h
  and_tail_can left (more_and a t) h s = and_tail_can (Both left (not_tree a)) t (h, not_can a (sound_left (not_tokens a) (and_tail_tokens t) s.1)) (sound_right (not_tokens a) (and_tail_tokens t) s.1)

  not_can : (a : Nots) → AreSound (not_tokens a) → CanBeWritten (not_tree a)
  not_can (not_not a) s = not_can a s.1
  not_can (in_parentheses o) s = or_can o (sound_left (or_tokens o) (Symbol Close ∷ []) s.1)
  not_can (compare c o v) s = (s.0, literal_again v s.1.1)
  not_can (is_null c) s = s.0
  not_can (is_not_null c) s = s.0

-- ---- how many tokens nest in what is written

abbrev open_or : Place → ℕ
open_or place.Or = 0
open_or place.And = 1
open_or place.Not = 1

abbrev open_and : Place → ℕ
open_and place.Or = 0
open_and place.And = 0
open_and place.Not = 1

abbrev null_cost : Bool → ℕ
null_cost false = 0
null_cost true = 1

abbrev cost : Place → Tree → ℕ
cost p (Compare c o v) = 0
cost p (NullTest c b) = null_cost b
cost p (Both l r) = open_and p + (cost place.And l + (1 + cost place.Not r))
cost p (Either l r) = open_or p + (cost place.Or l + (1 + cost place.And r))
cost p (Negated t) = 1 + cost place.Not t

free_most : (t : Tree) → cost place.Not t ≤ 1 + cost place.Or t
free_most (Compare c o v) = omega arith
free_most (NullTest c b) = omega arith
free_most (Both l r) = omega arith
free_most (Either l r) = omega arith
free_most (Negated t) = omega arith

or_least : (t : Tree) → cost place.Or t ≤ cost place.And t
or_least (Compare c o v) = omega arith
or_least (NullTest c b) = omega arith
or_least (Both l r) = omega arith
or_least (Either l r) = omega arith
or_least (Negated t) = omega arith

and_least : (t : Tree) → cost place.And t ≤ cost place.Not t
and_least (Compare c o v) = omega arith
and_least (NullTest c b) = omega arith
and_least (Both l r) = omega arith
and_least (Either l r) = omega arith
and_least (Negated t) = omega arith

mutual
  or_most : (o : Ors) → cost place.Or (or_tree o) ≤ nesting (or_tokens o)
  or_most (ors a t) =
      omega (arith, or_tail_most (and_tree a) t, or_least (and_tree a), and_most a, nesting-append (and_tokens a) (or_tail_tokens t))

  or_tail_most : (left : Tree) (t : OrTail) → cost place.Or (or_tail_tree left t) ≤ cost place.Or left + nesting (or_tail_tokens t)
  or_tail_most left no_or = omega arith
  or_tail_most left (more_or a t) =
      omega (arith, or_tail_most (Either left (and_tree a)) t, and_most a, nesting-append (and_tokens a) (or_tail_tokens t))

  and_most : (a : Ands) → cost place.And (and_tree a) ≤ nesting (and_tokens a)
  and_most (ands a t) =
      omega (arith, and_tail_most (not_tree a) t, and_least (not_tree a), not_most a, nesting-append (not_tokens a) (and_tail_tokens t))

  and_tail_most : (left : Tree) (t : AndTail) → cost place.And (and_tail_tree left t) ≤ cost place.And left + nesting (and_tail_tokens t)
  and_tail_most left no_and = omega arith
  and_tail_most left (more_and a t) =
      omega (arith, and_tail_most (Both left (not_tree a)) t, not_most a, nesting-append (not_tokens a) (and_tail_tokens t))

  not_most : (a : Nots) → cost place.Not (not_tree a) ≤ nesting (not_tokens a)
  not_most (not_not a) = omega (arith, not_most a)
  not_most (in_parentheses o) = omega (arith, or_most o, free_most (or_tree o), nesting-append (or_tokens o) (Symbol Close ∷ []))
  not_most (compare c o v) = omega arith
  not_most (is_null c) = omega arith
  not_most (is_not_null c) = omega arith

-- ---- what is written is in the grammar

-- one more AND or OR at the end
or_push : OrTail → Ands → OrTail
or_push no_or a = more_or a no_or
or_push (more_or b t) a = more_or b (or_push t a)

and_push : AndTail → Nots → AndTail
and_push no_and a = more_and a no_and
and_push (more_and b t) a = more_and b (and_push t a)

or_push-tokens : (t : OrTail) (a : Ands) → or_tail_tokens (or_push t a) ≡ or_tail_tokens t ++ (Key key.Or ∷ and_tokens a)
unfolding or_push
or_push-tokens no_or a = ap (λ w. Key key.Or ∷ w) (append-nil (and_tokens a))
or_push-tokens (more_or b t) a = ap (λ w. Key key.Or ∷ w) (ap (λ w. and_tokens b ++ w) (or_push-tokens t a) ∙ sym (append_assoc (and_tokens b) (or_tail_tokens t) (Key key.Or ∷ and_tokens a)))

or_push-tree : (t : OrTail) (a : Ands) (left : Tree) → or_tail_tree left (or_push t a) ≡ Either (or_tail_tree left t) (and_tree a)
unfolding or_push
or_push-tree no_or a left = refl
or_push-tree (more_or b t) a left = or_push-tree t a (Either left (and_tree b))

and_push-tokens : (t : AndTail) (a : Nots) → and_tail_tokens (and_push t a) ≡ and_tail_tokens t ++ (Key key.And ∷ not_tokens a)
unfolding and_push
and_push-tokens no_and a = ap (λ w. Key key.And ∷ w) (append-nil (not_tokens a))
and_push-tokens (more_and b t) a = ap (λ w. Key key.And ∷ w) (ap (λ w. not_tokens b ++ w) (and_push-tokens t a) ∙ sym (append_assoc (not_tokens b) (and_tail_tokens t) (Key key.And ∷ not_tokens a)))

and_push-tree : (t : AndTail) (a : Nots) (left : Tree) → and_tail_tree left (and_push t a) ≡ Both (and_tail_tree left t) (not_tree a)
unfolding and_push
and_push-tree no_and a left = refl
and_push-tree (more_and b t) a left = and_push-tree t a (Both left (not_tree b))

-- the text, at each level: the tokens that it spells, the tree that they are, and how many of them nest
abbrev IsOr : List ℕ → Tree → ℕ → Type 0
IsOr w t n = (o : Ors) × (or_tree o ≡ t) × Spells w (or_tokens o) × (nesting (or_tokens o) ≡ n)

abbrev IsAnd : List ℕ → Tree → ℕ → Type 0
IsAnd w t n = (o : Ands) × (and_tree o ≡ t) × Spells w (and_tokens o) × (nesting (and_tokens o) ≡ n)

abbrev IsNot : List ℕ → Tree → ℕ → Type 0
IsNot w t n = (o : Nots) × (not_tree o ≡ t) × Spells w (not_tokens o) × (nesting (not_tokens o) ≡ n)

or_from_and : (w : List ℕ) (t : Tree) (n : ℕ) → IsAnd w t n → IsOr w t n
or_from_and w t n a =
    let e = append-nil (and_tokens a.0) in (ors a.0 no_or, a.1, subst (Spells w) (sym e) a.2, ap nesting e ∙ a.3)

and_from_not : (w : List ℕ) (t : Tree) (n : ℕ) → IsNot w t n → IsAnd w t n
and_from_not w t n a =
    let e = append-nil (not_tokens a.0) in (ands a.0 no_and, a.1, subst (Spells w) (sym e) a.2, ap nesting e ∙ a.3)

or_from_not : (w : List ℕ) (t : Tree) (n : ℕ) → IsNot w t n → IsOr w t n
or_from_not w t n a = or_from_and w t n (and_from_not w t n a)

not_from_or : (w : List ℕ) (t : Tree) (n : ℕ) → IsOr w t n → IsNot (codes "( " ++ (w ++ codes " )")) t (1 + n)
not_from_or w t n o =
    (in_parentheses o.0, o.1, spaced (40 ∷ []) (w ++ 32 ∷ 41 ∷ []) (Symbol Open ∷ []) (or_tokens o.0 ++ Symbol Close ∷ []) open_spells (spaced w (41 ∷ []) (or_tokens o.0) (Symbol Close ∷ []) o.2 close_spells), omega (arith, nesting-append (or_tokens o.0) (Symbol Close ∷ []), o.3))

either_is : (w v : List ℕ) (l r : Tree) (m n : ℕ) → IsOr w l m → IsAnd v r n → IsOr (w ++ (codes " OR " ++ v)) (Either l r) (m + (1 + n))
either_is w v l r m n (ors b t, e, s, k) a =
    let tokens : or_tokens (ors b (or_push t a.0)) ≡ or_tokens (ors b t) ++ (Key key.Or ∷ and_tokens a.0) =
    ap (λ w. and_tokens b ++ w) (or_push-tokens t a.0) ∙ sym (append_assoc (and_tokens b) (or_tail_tokens t) (Key key.Or ∷ and_tokens a.0))
    in
    let spells = spaced w (codes "OR" ++ 32 ∷ v) (or_tokens (ors b t)) (Key key.Or ∷ and_tokens a.0) s (spaced (codes "OR") v (Key key.Or ∷ []) (and_tokens a.0) (key_spells key.Or) a.2) in
    (ors b (or_push t a.0), or_push-tree t a.0 (and_tree b) ∙ ap (λ l. Either l (and_tree a.0)) e ∙ ap (Either l) a.1, subst (Spells (w ++ (codes " OR " ++ v))) (sym tokens) spells, ap nesting tokens ∙ omega (arith, nesting-append (or_tokens (ors b t)) (Key key.Or ∷ and_tokens a.0), k, a.3))

both_is : (w v : List ℕ) (l r : Tree) (m n : ℕ) → IsAnd w l m → IsNot v r n → IsAnd (w ++ (codes " AND " ++ v)) (Both l r) (m + (1 + n))
both_is w v l r m n (ands b t, e, s, k) a =
    let tokens : and_tokens (ands b (and_push t a.0)) ≡ and_tokens (ands b t) ++ (Key key.And ∷ not_tokens a.0) =
    ap (λ w. not_tokens b ++ w) (and_push-tokens t a.0) ∙ sym (append_assoc (not_tokens b) (and_tail_tokens t) (Key key.And ∷ not_tokens a.0))
    in
    let spells = spaced w (codes "AND" ++ 32 ∷ v) (and_tokens (ands b t)) (Key key.And ∷ not_tokens a.0) s (spaced (codes "AND") v (Key key.And ∷ []) (not_tokens a.0) (key_spells key.And) a.2) in
    (ands b (and_push t a.0), and_push-tree t a.0 (not_tree b) ∙ ap (λ l. Both l (not_tree a.0)) e ∙ ap (Both l) a.1, subst (Spells (w ++ (codes " AND " ++ v))) (sym tokens) spells, ap nesting tokens ∙ omega (arith, nesting-append (and_tokens (ands b t)) (Key key.And ∷ not_tokens a.0), k, a.3))

not_is : (w : List ℕ) (t : Tree) (n : ℕ) → IsNot w t n → IsNot (codes "NOT " ++ w) (Negated t) (1 + n)
not_is w t n a =
    (not_not a.0, ap Negated a.1, spaced (codes "NOT") w (Key key.Not ∷ []) (not_tokens a.0) (key_spells key.Not) a.2, omega (arith, a.3))

compare_is : (c : List ℕ) (o : Op) (v : Literal) → 0 < length c → Again v → IsNot (name_text c ++ (op_text o ++ literal_text v)) (Compare c o v) 0
compare_is c o v h l =
    (compare c o l.0, ap (Compare c o) l.1, op_spells o (name_text c) (literal_text v) (Column c ∷ []) (literal_tokens l.0) (name_spells c h) l.2, omega (arith, l.3))

null_is : (c : List ℕ) (b : Bool) → 0 < length c → IsNot (name_text c ++ null_text b) (NullTest c b) (null_cost b)
null_is c false h =
    (is_null c, refl, spaced (name_text c) (codes "IS NULL") (Column c ∷ []) _ (name_spells c h) (spaced (codes "IS") (codes "NULL") (Key key.Is ∷ []) (Key key.Null ∷ []) (key_spells key.Is) (key_spells key.Null)), refl)
null_is c true h =
    let end = spaced (codes "NOT") (codes "NULL") (Key key.Not ∷ []) (Key key.Null ∷ []) (key_spells key.Not) (key_spells key.Null) in
    (is_not_null c, refl, spaced (name_text c) (codes "IS NOT NULL") (Column c ∷ []) _ (name_spells c h) (spaced (codes "IS") (codes "NOT NULL") (Key key.Is ∷ []) _ (key_spells key.Is) end), refl)

free_or : (w : List ℕ) (t : Tree) (n : ℕ) → IsOr w t n → IsOr (w ++ []) t (0 + n)
free_or w t n o = subst (IsOr (w ++ []) t) (sym (zero-add n)) (subst (λ v. IsOr v t n) (sym (append-nil w)) o)

free_and : (w : List ℕ) (t : Tree) (n : ℕ) → IsAnd w t n → IsAnd (w ++ []) t (0 + n)
free_and w t n a = subst (IsAnd (w ++ []) t) (sym (zero-add n)) (subst (λ v. IsAnd v t n) (sym (append-nil w)) a)

mutual
  or_again : (t : Tree) → CanBeWritten t → IsOr (cond_text place.Or t) t (cost place.Or t)
  or_again (Compare c o v) h = or_from_not _ _ _ (compare_is c o v h.0 h.1)
  or_again (NullTest c b) h = or_from_not _ _ _ (null_is c b h)
  or_again (Negated t) h = or_from_not _ _ _ (not_is _ t _ (not_again t h))
  or_again (Either l r) h = free_or _ _ _ (either_is _ _ l r _ _ (or_again l h.0) (and_again r h.1))
  or_again (Both l r) h = or_from_and _ _ _ (free_and _ _ _ (both_is _ _ l r _ _ (and_again l h.0) (not_again r h.1)))

  and_again : (t : Tree) → CanBeWritten t → IsAnd (cond_text place.And t) t (cost place.And t)
  and_again (Compare c o v) h = and_from_not _ _ _ (compare_is c o v h.0 h.1)
  and_again (NullTest c b) h = and_from_not _ _ _ (null_is c b h)
  and_again (Negated t) h = and_from_not _ _ _ (not_is _ t _ (not_again t h))
  and_again (Either l r) h = and_from_not _ _ _ (not_from_or _ _ _ (either_is _ _ l r _ _ (or_again l h.0) (and_again r h.1)))
  and_again (Both l r) h = free_and _ _ _ (both_is _ _ l r _ _ (and_again l h.0) (not_again r h.1))

  not_again : (t : Tree) → CanBeWritten t → IsNot (cond_text place.Not t) t (cost place.Not t)
  not_again (Compare c o v) h = compare_is c o v h.0 h.1
  not_again (NullTest c b) h = null_is c b h
  not_again (Negated t) h = not_is _ t _ (not_again t h)
  not_again (Either l r) h = not_from_or _ _ _ (either_is _ _ l r _ _ (or_again l h.0) (and_again r h.1))
  not_again (Both l r) h = not_from_or _ _ _ (or_from_and _ _ _ (both_is _ _ l r _ _ (and_again l h.0) (not_again r h.1)))

-- a condition that was read, as it is written
pub cond_again : (o : Ors) → AreSound (or_tokens o) → (p : Ors) × (or_tree p ≡ or_tree o) × Spells (cond_text place.Or (or_tree o)) (or_tokens p) × (nesting (or_tokens p) ≤ nesting (or_tokens o))
cond_again o s = let a = or_again (or_tree o) (or_can o s) in (a.0, a.1, a.2, omega (arith, a.3, or_most o))
