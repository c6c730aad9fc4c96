-- Laws of chosen rows.
use Rattle.std.proofs.Common.{◌≡◌, ◌∙◌, ◌<◌, ◌≤◌, ◌+◌, ◌==◌, ◌++◌, ◌∷◌, ℕ, suc, Bool, if◌then◌else◌, List, [], length, get_or, map, ap, refl, arith, inl, inr}
use Rattle.std.specs.Int.{bit_at}
use Rattle.std.specs.List.{filter}
use Rattle.std.proofs.lemmas.Bool.{cases_Bool}
use Rattle.row_blocks.specs.Chosen.{chosen_from}

-- a word without bits from n on chooses nothing
pub chosen-none : {T : Type 0} (n word : ℕ) (rows : List T) → ((i : ℕ) → n ≤ i → i < n + length rows → bit_at word i ≡ 0) → chosen_from n word rows ≡ []
chosen-none n word [] clear = refl
chosen-none n word (r ∷ rs) clear =
    ap (λ b. if b == 1 then r ∷ chosen_from (n + 1) word rs else chosen_from (n + 1) word rs) (clear n (omega arith) (omega arith))
    ∙ chosen-none (n + 1) word rs (λ i from to. clear i (omega (arith, from)) (omega (arith, to)))

-- words that agree from n on choose the same
pub chosen-same : {T : Type 0} (n a b : ℕ) (rows : List T) → ((i : ℕ) → n ≤ i → i < n + length rows → bit_at a i ≡ bit_at b i) → chosen_from n a rows ≡ chosen_from n b rows
chosen-same n a b [] same = refl
chosen-same n a b (r ∷ rs) same =
    let rest = chosen-same (n + 1) a b rs (λ i from to. same i (omega (arith, from)) (omega (arith, to))) in
    ap (λ bit. if bit == 1 then r ∷ chosen_from (n + 1) a rs else chosen_from (n + 1) a rs) (same n (omega arith) (omega arith))
    ∙ ap (λ more. if bit_at b n == 1 then r ∷ more else more) rest

-- no more rows are chosen than there are
pub length-chosen : {T : Type 0} (n word : ℕ) (rows : List T) → length (chosen_from n word rows) ≤ length rows
length-chosen n word [] = omega arith
length-chosen n word (r ∷ rs) = elim (cases_Bool (bit_at word n == 1)) [
  | inl t ↦ rw t (omega (arith, length-chosen (n + 1) word rs))
  | inr f ↦ rw f (omega (arith, length-chosen (n + 1) word rs))
]

-- rows behind others are chosen behind them
pub chosen-append : {T : Type 0} (n word : ℕ) (rows more : List T) → chosen_from n word (rows ++ more) ≡ chosen_from n word rows ++ chosen_from (n + length rows) word more
chosen-append n word [] more = ap (λ m. chosen_from m word more) (omega arith)
chosen-append n word (r ∷ rs) more =
    let rest = chosen-append (n + 1) word rs more ∙ ap (λ m. chosen_from (n + 1) word rs ++ chosen_from m word more) (omega arith) in
    elim (cases_Bool (bit_at word n == 1)) [ inl t ↦ rw t (ap (λ zs. r ∷ zs) rest) | inr f ↦ rw f rest ]

-- bits that say which rows pass choose these
pub chosen-filter : {T : Type 0} (p : T → Bool) (n word : ℕ) (rows : List T) (d : T) → ((i : ℕ) → i < length rows → (bit_at word (n + i) == 1) ≡ p (get_or rows i d)) → chosen_from n word rows ≡ filter p rows
chosen-filter p n word [] d bits = refl
chosen-filter p n word (r ∷ rs) d bits =
    let first : n ≡ n + 0 = omega arith in
    let here : (bit_at word n == 1) ≡ p r = ap (λ m. bit_at word m == 1) first ∙ bits 0 (omega arith) in
    let rest = chosen-filter p (n + 1) word rs d (λ i low. let next : n + 1 + i ≡ n + suc i = omega arith in ap (λ m. bit_at word m == 1) next ∙ bits (suc i) (omega (arith, low))) in
    elim (cases_Bool (p r)) [ inl t ↦ rw (here ∙ t, t) (ap (λ zs. r ∷ zs) rest) | inr f ↦ rw (here ∙ f, f) rest ]

-- chosen rows, each changed by itself
pub chosen-map : {T U : Type 0} (f : T → U) (n word : ℕ) (rows : List T) → chosen_from n word (map f rows) ≡ map f (chosen_from n word rows)
chosen-map f n word [] = refl
chosen-map f n word (r ∷ rs) = elim (cases_Bool (bit_at word n == 1)) [
  | inl t ↦ rw t (ap (λ zs. f r ∷ zs) (chosen-map f (n + 1) word rs))
  | inr e ↦ rw e (chosen-map f (n + 1) word rs)
]
