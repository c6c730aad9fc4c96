-- Numbers and decimals: the longest is the digits, and a point and digits behind them.
use Rattle.std.proofs.Common.{◌≡◌, ◌<◌, ◌≤◌, ℕ, zero, suc, ◌+◌, ◌-◌, Bool, true, false, List, [], ◌∷◌, length, take, drop, get_or, Some, None, refl, sym, ap, ◌∙◌, subst, arith, inl, inr}
use Rattle.std.specs.Prelude.{◌==◌, ◌||◌}
use Rattle.std.proofs.Math.Seq.{take-nil}
use Rattle.std.proofs.lemmas.List.{take_rest, length-drop}
use Rattle.std.specs.List.{prefix_len, list_all}
use Rattle.std.proofs.lemmas.Bool.{cases_Bool}
use Rattle.std.proofs.lemmas.Bool.Decides.{nat_tests}
use Rattle.sql_tokens.specs.Classes.{is_in}
use Rattle.sql_tokens.specs.declared.class.Class.TheVariants as class
use Rattle.sql_tokens.specs.declared.piece.Piece.TheVariants.{Lexeme}
use Rattle.sql_tokens.specs.declared.token.TokenKind.TheVariants as kind
use Rattle.sql_tokens.specs.Pieces.{is_digits, is_fraction, is_decimal, number_of, Longest, fraction_len}
use Rattle.sql_tokens.proofs.Runs.{prefix_len_le, prefix_len_pos, run_true, run_false}

abbrev digit : ℕ → Bool
digit = is_in class.Digit

no_point : (b : ℕ) → digit b ≡ true → (b == 46) ≡ false
no_point b e = grind (arith, nat_tests)

or_false : (a : Bool) → (a || false) ≡ a
or_false true = refl
or_false false = refl

-- a front that begins with a digit is no fraction
no_fraction : (bs : List ℕ) (m : ℕ) → 0 < prefix_len digit bs → is_fraction (take m bs) ≡ false
no_fraction [] m h = rw take-nil refl
no_fraction (b ∷ bs) zero h = refl
no_fraction (b ∷ bs) (suc m) h = elim (cases_Bool (digit b)) [
  | inl e ↦ rw (no_point b e) refl
  | inr e ↦ let h' = rw e at h in absurd (omega arith)
]

-- a front that begins with no digit is no decimal
no_decimal : (bs : List ℕ) (m : ℕ) → prefix_len digit bs ≡ 0 → is_decimal (take m bs) ≡ false
no_decimal [] m h = rw take-nil refl
no_decimal (b ∷ bs) zero h = refl
no_decimal (b ∷ bs) (suc m) h = elim (cases_Bool (digit b)) [
  | inl e ↦ let h' = rw e at h in absurd (omega arith)
  | inr e ↦ rw e refl
]

-- Behind its digits a decimal is a fraction.
decimal_rest : (bs : List ℕ) (k : ℕ) → 0 < prefix_len digit bs → is_decimal (take (prefix_len digit bs + k) bs) ≡ is_fraction (take k (drop (prefix_len digit bs) bs))
decimal_rest [] k h = absurd (omega arith)
decimal_rest (b ∷ bs) k h = elim (cases_Bool (digit b)) [
  | inr e ↦ let h' = rw e at h in absurd (omega arith)
  | inl e ↦
      let z : 1 + prefix_len digit bs + k ≡ suc (prefix_len digit bs + k) = omega arith in
      let o : 1 + prefix_len digit bs ≡ suc (prefix_len digit bs) = omega arith in
      rw (e, z, e, o) (by_more (prefix_len digit bs) refl (decimal_rest bs k))
] where
  by_more : (p : ℕ) → prefix_len digit bs ≡ p → (0 < prefix_len digit bs → is_decimal (take (prefix_len digit bs + k) bs) ≡ is_fraction (take k (drop (prefix_len digit bs) bs))) → (is_fraction (take (prefix_len digit bs + k) bs) || is_decimal (take (prefix_len digit bs + k) bs)) ≡ is_fraction (take k (drop (prefix_len digit bs) bs))
  by_more zero e ih = let z : 0 + k ≡ k = omega arith in rw (e, z, no_decimal bs k e) (or_false (is_fraction (take k bs)))
  by_more (suc p) e ih =
      let some : 0 < prefix_len digit bs = omega arith in
      rw (no_fraction bs (prefix_len digit bs + k) some) (ih some)

digits_take : (bs : List ℕ) (m : ℕ) → 0 < m → 0 < length bs → is_digits (take m bs) ≡ list_all digit (take m bs)
digits_take [] m h k = absurd (omega arith)
digits_take (b ∷ bs) zero h k = absurd (omega arith)
digits_take (b ∷ bs) (suc m) h k = refl

-- ---- fractions

none_behind : (bs : List ℕ) (m : ℕ) → prefix_len digit bs ≡ 0 → is_digits (take m bs) ≡ false
none_behind [] m h = rw take-nil refl
none_behind (b ∷ bs) zero h = refl
none_behind (b ∷ bs) (suc m) h = elim (cases_Bool (digit b)) [
  | inl e ↦ let h' = rw e at h in absurd (omega arith)
  | inr e ↦ rw e refl
]

fraction_none : (cs : List ℕ) (k : ℕ) → fraction_len cs ≡ 0 → is_fraction (take k cs) ≡ false
fraction_none [] k h = rw take-nil refl
fraction_none (c ∷ cs) zero h = refl
fraction_none (c ∷ cs) (suc k) h = elim (cases_Bool (c == 46)) [
  | inl e ↦ let h' = rw e at h in rw e (none_behind cs k h')
  | inr e ↦ rw e refl
]

fraction_within : (cs : List ℕ) → 0 < fraction_len cs → 1 + fraction_len cs ≤ length cs
fraction_within [] h = absurd (omega arith)
fraction_within (c ∷ cs) h = elim (cases_Bool (c == 46)) [
  | inl e ↦ rw e (omega (arith, prefix_len_le digit cs))
  | inr e ↦ let h' = rw e at h in absurd (omega arith)
]

some_length : (p : ℕ → Bool) (bs : List ℕ) → 0 < prefix_len p bs → 0 < length bs
some_length p bs h = omega (arith, prefix_len_le p bs)

fraction_is : (cs : List ℕ) → 0 < fraction_len cs → is_fraction (take (suc (fraction_len cs)) cs) ≡ true
fraction_is [] h = absurd (omega arith)
fraction_is (c ∷ cs) h = elim (cases_Bool (c == 46)) [
  | inl e ↦
      let h' : 0 < prefix_len digit cs = rw e at h in
      rw e (digits_take cs (prefix_len digit cs) h' (some_length digit cs h') ∙ run_true digit cs)
  | inr e ↦ let h' = rw e at h in absurd (omega arith)
]

fraction_longer : (cs : List ℕ) (k : ℕ) → 0 < fraction_len cs → 1 + fraction_len cs < k → k ≤ length cs → is_fraction (take k cs) ≡ false
fraction_longer [] k h j l = absurd (omega arith)
fraction_longer (c ∷ cs) zero h j l = absurd (omega arith)
fraction_longer (c ∷ cs) (suc k) h j l = elim (cases_Bool (c == 46)) [
  | inl e ↦
      let h' : 0 < prefix_len digit cs = rw e at h in
      let j' : 1 + prefix_len digit cs < suc k = rw e at j in
      rw e (digits_take cs k (omega arith) (some_length digit cs h') ∙ run_false digit cs k (omega arith) (omega arith))
  | inr e ↦ let h' = rw e at h in absurd (omega arith)
]

-- ---- the longest number

number_none : (w : List ℕ) → is_digits w ≡ false → is_decimal w ≡ false → number_of w ≡ None
number_none w e f = rw (e, f) refl

module _ (bs : List ℕ) (some : 0 < length bs) (first : digit (get_or bs 0 0) ≡ true) where
  pos : 0 < prefix_len digit bs
  pos = prefix_len_pos digit bs some first

  more_digits : (m : ℕ) → prefix_len digit bs < m → m ≤ length bs → is_digits (take m bs) ≡ false
  more_digits m j l = digits_take bs m (omega arith) some ∙ run_false digit bs m j l

  decimal_at : (m k : ℕ) → m ≡ prefix_len digit bs + k → is_decimal (take m bs) ≡ is_fraction (take k (drop (prefix_len digit bs) bs))
  decimal_at m k e = ap (λ m. is_decimal (take m bs)) e ∙ decimal_rest bs k pos

  pub number_longest : fraction_len (drop (prefix_len digit bs) bs) ≡ 0 → Longest number_of bs (Some (Lexeme kind.Number, prefix_len digit bs))
  number_longest e =
      let d : is_digits (take (prefix_len digit bs) bs) ≡ true = digits_take bs (prefix_len digit bs) pos some ∙ run_true digit bs in
      (pos, prefix_len_le digit bs, rw d refl, longer)
    where
      longer : (m : ℕ) → prefix_len digit bs < m → m ≤ length bs → number_of (take m bs) ≡ None
      longer m j l = number_none (take m bs) (more_digits m j l) (decimal_at m (m - prefix_len digit bs) (omega arith) ∙ fraction_none (drop (prefix_len digit bs) bs) (m - prefix_len digit bs) e)

  pub decimal_longest : 0 < fraction_len (drop (prefix_len digit bs) bs) → Longest number_of bs (Some (Lexeme kind.Decimal, prefix_len digit bs + 1 + fraction_len (drop (prefix_len digit bs) bs)))
  decimal_longest h = (omega arith, within, at, longer) where
    within : prefix_len digit bs + 1 + fraction_len (drop (prefix_len digit bs) bs) ≤ length bs
    within = omega (arith, fraction_within (drop (prefix_len digit bs) bs) h, length-drop (prefix_len digit bs) bs, prefix_len_le digit bs)

    at : number_of (take (prefix_len digit bs + 1 + fraction_len (drop (prefix_len digit bs) bs)) bs) ≡ Some (Lexeme kind.Decimal)
    at =
        let f = more_digits (prefix_len digit bs + 1 + fraction_len (drop (prefix_len digit bs) bs)) (omega arith) within in
        let d = decimal_at (prefix_len digit bs + 1 + fraction_len (drop (prefix_len digit bs) bs)) (suc (fraction_len (drop (prefix_len digit bs) bs))) (omega arith) ∙ fraction_is (drop (prefix_len digit bs) bs) h in
        rw (f, d) refl

    longer : (m : ℕ) → prefix_len digit bs + 1 + fraction_len (drop (prefix_len digit bs) bs) < m → m ≤ length bs → number_of (take m bs) ≡ None
    longer m j l =
        number_none (take m bs) (more_digits m (omega arith) l) (decimal_at m (m - prefix_len digit bs) (omega arith) ∙ fraction_longer (drop (prefix_len digit bs) bs) (m - prefix_len digit bs) h (omega arith) (omega (arith, length-drop (prefix_len digit bs) bs)))

-- ---- as the code finds it

module _ (bs : List ℕ) (some : 0 < length bs) (first : digit (get_or bs 0 0) ≡ true) (n f : ℕ) (whole : n ≡ prefix_len digit bs) (places : f ≡ fraction_len (take (length bs - n) (drop n bs))) where
  behind : f ≡ fraction_len (drop (prefix_len digit bs) bs)
  behind = places ∙ ap fraction_len (take_rest bs n) ∙ ap (λ n. fraction_len (drop n bs)) whole

  pub number_found : f ≡ 0 → Longest number_of bs (Some (Lexeme kind.Number, n))
  number_found e =
      subst (λ n. Longest number_of bs (Some (Lexeme kind.Number, n))) (sym whole) (number_longest bs some first (sym behind ∙ e))

  pub decimal_found : (f ≡ 0 → ⊥) → Longest number_of bs (Some (Lexeme kind.Decimal, n + 1 + f))
  decimal_found e =
      let h : 0 < fraction_len (drop (prefix_len digit bs) bs) = omega (arith, behind, e) in
      let z : prefix_len digit bs + 1 + fraction_len (drop (prefix_len digit bs) bs) ≡ n + 1 + f = omega (arith, behind, whole) in
      subst (λ n. Longest number_of bs (Some (Lexeme kind.Decimal, n))) z (decimal_longest bs some first h)
