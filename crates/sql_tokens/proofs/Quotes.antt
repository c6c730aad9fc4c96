-- Where a quote closes last.
use Rattle.std.proofs.Common.{◌≡◌, ◌<◌, ◌≤◌, ℕ, zero, suc, ◌+◌, Bool, true, false, List, [], ◌∷◌, length, take, Option, Some, None, refl, sym, ap, ◌∙◌, subst, arith, inl, inr}
use Rattle.std.specs.Prelude.{not, ◌==◌, if◌then◌else◌}
use Rattle.std.proofs.Math.Seq.{take-nil}
use Rattle.std.proofs.lemmas.Bool.{cases_Bool, eq-eqb, ne_eqb}
use Rattle.sql_tokens.specs.Pieces.{closes, ClosesLast}

-- The longest close, from a place on.
abbrev pub later : Option ℕ → Option ℕ
later None = None
later (Some n) = Some (suc n)

abbrev pub or_here : Option ℕ → Option ℕ
or_here None = Some 0
or_here (Some n) = Some (suc n)

abbrev pub last_close : ℕ → Bool → List ℕ → Option ℕ
last_close quote true [] = None
last_close quote false [] = Some 0
last_close quote true (b ∷ bs) = later (last_close quote (not (b == quote)) bs)
last_close quote false (b ∷ bs) = if b == quote then or_here (last_close quote true bs) else Some 0

abbrev pub behind : Option ℕ → ℕ → Option ℕ → Option ℕ
behind best i None = best
behind best i (Some n) = Some (i + n)

later_is : (quote b : ℕ) (bs : List ℕ) (o : Option ℕ) → ClosesLast quote (not (b == quote)) bs o → ClosesLast quote true (b ∷ bs) (later o)
later_is quote b bs None h = go where
  go : (m : ℕ) → m ≤ length (b ∷ bs) → closes quote true (take m (b ∷ bs)) ≡ false
  go zero k = refl
  go (suc m) k = h m (omega arith)
later_is quote b bs (Some n) h = (omega (arith, h.0), h.1, go) where
  go : (m : ℕ) → suc n < m → m ≤ length (b ∷ bs) → closes quote true (take m (b ∷ bs)) ≡ false
  go zero j k = refl
  go (suc m) j k = h.2 m (omega arith) (omega arith)

or_here_is : (quote b : ℕ) (bs : List ℕ) (o : Option ℕ) → (b == quote) ≡ true → ClosesLast quote true bs o → ClosesLast quote false (b ∷ bs) (or_here o)
or_here_is quote b bs None e h = (omega arith, refl, go) where
  go : (m : ℕ) → 0 < m → m ≤ length (b ∷ bs) → closes quote false (take m (b ∷ bs)) ≡ false
  go zero j k = absurd (omega arith)
  go (suc m) j k = rw e (h m (omega arith))
or_here_is quote b bs (Some n) e h = (omega (arith, h.0), rw e h.1, go) where
  go : (m : ℕ) → suc n < m → m ≤ length (b ∷ bs) → closes quote false (take m (b ∷ bs)) ≡ false
  go zero j k = absurd (omega arith)
  go (suc m) j k = rw e (h.2 m (omega arith) (omega arith))

stops : (quote b : ℕ) (bs : List ℕ) → (b == quote) ≡ false → ClosesLast quote false (b ∷ bs) (Some 0)
stops quote b bs e = (omega arith, refl, go) where
  go : (m : ℕ) → 0 < m → m ≤ length (b ∷ bs) → closes quote false (take m (b ∷ bs)) ≡ false
  go zero j k = absurd (omega arith)
  go (suc m) j k = rw e refl

-- where a quote closes last
pub last_close_is : (quote : ℕ) (is_open : Bool) (bs : List ℕ) → ClosesLast quote is_open bs (last_close quote is_open bs)
last_close_is quote true [] = λ m h. rw take-nil refl
last_close_is quote false [] = (omega arith, refl, λ m h k. absurd (omega arith))
last_close_is quote true (b ∷ bs) = later_is quote b bs (last_close quote (not (b == quote)) bs) (last_close_is quote (not (b == quote)) bs)
last_close_is quote false (b ∷ bs) =
    elim (cases_Bool (b == quote)) [ inl e ↦ rw e (or_here_is quote b bs (last_close quote true bs) e (last_close_is quote true bs)) | inr e ↦ rw e (stops quote b bs e) ]

closed : (quote : ℕ) (bs : List ℕ) → (n : ℕ) × (last_close quote false bs ≡ Some n)
closed quote [] = (0, refl)
closed quote (b ∷ bs) = elim (cases_Bool (b == quote)) [ inl e ↦ rw e (here (last_close quote true bs)) | inr e ↦ rw e (0, refl) ] where
  here : (o : Option ℕ) → (n : ℕ) × (or_here o ≡ Some n)
  here None = (0, refl)
  here (Some n) = (suc n, refl)

some_more : (i n : ℕ) → Some (i + suc n) ≡ Some (i + 1 + n)
some_more i n = let e : i + suc n ≡ i + 1 + n = omega arith in ap Some e

behind_later : (best : Option ℕ) (i : ℕ) (o : Option ℕ) → behind best i (later o) ≡ behind best (i + 1) o
behind_later best i None = refl
behind_later best i (Some n) = some_more i n

behind_or_here : (i : ℕ) (o : Option ℕ) → behind (Some i) i (or_here o) ≡ behind (Some i) (i + 1) o
behind_or_here i None = let e : i + 0 ≡ i = omega arith in ap Some e
behind_or_here i (Some n) = some_more i n

-- what the loop over a quote keeps, at each kind of byte
pub at_close : (best best' : Option ℕ) (i quote b : ℕ) (bs rest : List ℕ) (all : Option ℕ) → behind best i (last_close quote true bs) ≡ all → bs ≡ b ∷ rest → b ≡ quote → best' ≡ Some (i + 1) → behind best' (i + 1) (last_close quote false rest) ≡ all
at_close best best' i quote b bs rest all h e q k =
    let c = closed quote rest in
    let t : (b == quote) ≡ true = eq-eqb b quote q in
    let step : last_close quote true (b ∷ rest) ≡ later (last_close quote false rest) = rw t refl in
    ap (λ o. behind best' (i + 1) o) c.1 ∙ sym (some_more i c.0) ∙ sym (ap (λ o. behind best i (later o)) c.1) ∙ sym (ap (behind best i) step) ∙ sym (ap (λ s. behind best i (last_close quote true s)) e) ∙ h

pub at_inside : (best : Option ℕ) (i quote b : ℕ) (bs rest : List ℕ) (all : Option ℕ) → behind best i (last_close quote true bs) ≡ all → bs ≡ b ∷ rest → (b ≡ quote → ⊥) → behind best (i + 1) (last_close quote true rest) ≡ all
at_inside best i quote b bs rest all h e q =
    let t : (b == quote) ≡ false = ne_eqb b quote q in
    let step : last_close quote true (b ∷ rest) ≡ later (last_close quote true rest) = rw t refl in
    sym (behind_later best i (last_close quote true rest)) ∙ sym (ap (behind best i) step) ∙ sym (ap (λ s. behind best i (last_close quote true s)) e) ∙ h

pub at_reopen : (best : Option ℕ) (i quote b : ℕ) (bs rest : List ℕ) (all : Option ℕ) → behind best i (last_close quote false bs) ≡ all → bs ≡ b ∷ rest → b ≡ quote → best ≡ Some i → behind best (i + 1) (last_close quote true rest) ≡ all
at_reopen best i quote b bs rest all h e q k =
    let t : (b == quote) ≡ true = eq-eqb b quote q in
    let step : last_close quote false (b ∷ rest) ≡ or_here (last_close quote true rest) = rw t refl in
    ap (λ o. behind o (i + 1) (last_close quote true rest)) k ∙ sym (behind_or_here i (last_close quote true rest)) ∙ sym (ap (λ o. behind o i (or_here (last_close quote true rest))) k) ∙ sym (ap (behind best i) step) ∙ sym (ap (λ s. behind best i (last_close quote false s)) e) ∙ h

pub at_stop : (best : Option ℕ) (i quote b : ℕ) (bs rest : List ℕ) (all : Option ℕ) → behind best i (last_close quote false bs) ≡ all → bs ≡ b ∷ rest → (b ≡ quote → ⊥) → best ≡ Some i → all ≡ best
at_stop best i quote b bs rest all h e q k =
    let t : (b == quote) ≡ false = ne_eqb b quote q in
    let step : last_close quote false (b ∷ rest) ≡ Some 0 = rw t refl in
    let z : i + 0 ≡ i = omega arith in
    sym h ∙ ap (λ s. behind best i (last_close quote false s)) e ∙ ap (behind best i) step ∙ ap Some z ∙ sym k

pub at_last : (best : Option ℕ) (i quote : ℕ) (is_open : Bool) (bs : List ℕ) (all : Option ℕ) → behind best i (last_close quote is_open bs) ≡ all → bs ≡ [] → (is_open ≡ false → best ≡ Some i) → all ≡ best
at_last best i quote true bs all h e k = sym h ∙ ap (λ s. behind best i (last_close quote true s)) e
at_last best i quote false bs all h e k =
    let z : i + 0 ≡ i = omega arith in
    sym h ∙ ap (λ s. behind best i (last_close quote false s)) e ∙ ap Some z ∙ sym (k refl)

pub closes_last : (quote : ℕ) (bs : List ℕ) (o : Option ℕ) → last_close quote true bs ≡ o → ClosesLast quote true bs o
closes_last quote bs o e = subst (λ o. ClosesLast quote true bs o) e (last_close_is quote true bs)
