-- One step of each rule.
use Rattle.std.proofs.Common.{◌≡◌, ◌-◌, ℕ, zero, suc, List, Option, Some, None, refl, arith}
use Rattle.sql_text.specs.Grammar.{Token, Tree, Both, Either, Negated}
use Rattle.sql_tokens.specs.declared.keyword.Keyword.TheVariants as key
use Rattle.sql_tokens.specs.declared.refusal.TextRefusal.{TextRefusal}
use Rattle.sql_tokens.specs.declared.refusal.TextRefusal.TheVariants as refusal
use Rattle.sql_text.specs.declared.word.Sign.TheVariants.{Open}
use Rattle.sql_text.specs.Reading.{Fails, ◌>>=◌, choose, or_at, or_tail_at, and_at, and_tail_at, not_at, after_key, after_sign, column_at, leaf_at, close_at}

pub or_at-zero : (d : ℕ) (ts : List Token) → d ≡ 0 → or_at d ts ≡ None
unfolding or_at
or_at-zero d ts e = rw e refl

pub or_tail_at-zero : (d : ℕ) (left : Tree) (ts : List Token) → d ≡ 0 → or_tail_at d left ts ≡ None
unfolding or_at
or_tail_at-zero d left ts e = rw e refl

pub and_at-zero : (d : ℕ) (ts : List Token) → d ≡ 0 → and_at d ts ≡ None
unfolding or_at
and_at-zero d ts e = rw e refl

pub and_tail_at-zero : (d : ℕ) (left : Tree) (ts : List Token) → d ≡ 0 → and_tail_at d left ts ≡ None
unfolding or_at
and_tail_at-zero d left ts e = rw e refl

pub not_at-zero : (d : ℕ) (ts : List Token) → d ≡ 0 → not_at d ts ≡ None
unfolding or_at
not_at-zero d ts e = rw e refl

pub or_at-more : (d : ℕ) (ts : List Token) → (d ≡ 0 → ⊥) → or_at d ts ≡ (and_at (d - 1) ts >>= λ a. or_tail_at (d - 1) a.0 a.1)
unfolding or_at
or_at-more zero ts h = absurd (h refl)
or_at-more (suc n) ts h = let e : suc n - 1 ≡ n = omega arith in rw e refl

pub or_tail_at-more : (d : ℕ) (left : Tree) (ts : List Token) → (d ≡ 0 → ⊥) → or_tail_at d left ts ≡ choose (after_key key.Or ts) (Some (left, ts)) (λ us. and_at (d - 1) us >>= λ a. or_tail_at (d - 1) (Either left a.0) a.1)
unfolding or_at
or_tail_at-more zero left ts h = absurd (h refl)
or_tail_at-more (suc n) left ts h = let e : suc n - 1 ≡ n = omega arith in rw e refl

pub and_at-more : (d : ℕ) (ts : List Token) → (d ≡ 0 → ⊥) → and_at d ts ≡ (not_at (d - 1) ts >>= λ a. and_tail_at (d - 1) a.0 a.1)
unfolding or_at
and_at-more zero ts h = absurd (h refl)
and_at-more (suc n) ts h = let e : suc n - 1 ≡ n = omega arith in rw e refl

pub and_tail_at-more : (d : ℕ) (left : Tree) (ts : List Token) → (d ≡ 0 → ⊥) → and_tail_at d left ts ≡ choose (after_key key.And ts) (Some (left, ts)) (λ us. not_at (d - 1) us >>= λ a. and_tail_at (d - 1) (Both left a.0) a.1)
unfolding or_at
and_tail_at-more zero left ts h = absurd (h refl)
and_tail_at-more (suc n) left ts h = let e : suc n - 1 ≡ n = omega arith in rw e refl

pub not_at-more : (d : ℕ) (ts : List Token) → (d ≡ 0 → ⊥) → not_at d ts ≡ choose (after_key key.Not ts) (choose (after_sign Open ts) (choose (column_at ts) None (λ c. leaf_at c.0 c.1)) (λ us. or_at (d - 1) us >>= λ a. close_at a.0 a.1)) (λ us. not_at (d - 1) us >>= λ a. Some (Negated a.0, a.1))
unfolding or_at
not_at-more zero ts h = absurd (h refl)
not_at-more (suc n) ts h = let e : suc n - 1 ≡ n = omega arith in rw e refl

-- a failure goes on
pub fails_on : {A B : Type 0} (e : TextRefusal) (read : Option A) (f : A → Option B) → Fails e read → Fails e (read >>= f)
fails_on refusal.Syntax read f h = rw h refl
fails_on refusal.TooNested read f h = h
fails_on refusal.TooManyItems read f h = h
fails_on refusal.Memory read f h = tt
